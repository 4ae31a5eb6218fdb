-- A key against the prefix, and the end of its entry: one law for each exit of the code. Assumes nothing.
use Prim.Native.Nat.{ℕ, zero, suc, ◌+◌, ◌-◌, ◌<◌, ◌≤◌}
use native.Mathlib.Omega.{arith}
use mathlib.Core.Path.{◌≡◌, refl, sym, ap, ◌∙◌}
use mathlib.Core.List.{List, [], ◌∷◌, ◌++◌}
use mathlib.Core.Bool.{Bool, true, false}
use mathlib.Core.Option.{Option, some}
use Rattle.std.specs.Prelude.{Some, None}
use Rattle.std.specs.List.{starts_with}
use lib.ListN.{length, take, drop, get_or, length-append, length-drop, take-append-drop, get_or-append}
use lib.Seq.{take-take, take-length, take-add, take_all}
use lib.Dec.{eqb}
use borrow.Author.Tests.{eq-eqb, ne_eqb}
use Rattle.layout.specs.Number.{le}
use Rattle.layout.specs.Place.{leaf_extent, leaf_key}
use Rattle.model.specs.Edition.{Value, text_of}
use Rattle.model.specs.Body.{LeafAt}
use Rattle.model.proofs.StringLaws.{eqb_cases, clash}
use Rattle.listing.specs.Listing.{begins, upto, entry_for}
use Rattle.listing.specs.Bound.{tail_up, tail_for}
use Rattle.listing.proofs.BoundLaws.{upto_twice}
use Rattle.keys.proofs.KeyLaws.{text_part}
use Rattle.names.specs.declared.entry.Cut.{Cut}
use Rattle.names.specs.Entry.{Free, Stops, CutAt, OfKey}

-- ---- does the key begin with the prefix?

-- what a slice's own test says
pub starts_is : (p k : List ℕ) → starts_with eqb k p ≡ begins p k
starts_is [] k = refl
starts_is (x ∷ p) [] = refl
starts_is (x ∷ p) (y ∷ k) = eqb_cases x y (λ t q. rw t (starts_is p k)) (λ t n. rw t refl)

pub begins_self : (p : List ℕ) → begins p p ≡ true
begins_self [] = refl
begins_self (x ∷ p) = rw (eq-eqb x x refl) (begins_self p)

-- ---- where its entry ends

-- no byte is the delimiter, or one is and none before it
text_free : (d : ℕ) (w : List ℕ) → Free w d (length w) → (upto (some d) w ≡ w) × (tail_up (some d) w ≡ 1)
text_free d [] h = (refl, refl)
text_free d (x ∷ w) h =
    let on = text_free d w (λ i l. h (suc i) (omega arith)) in
    let m = ne_eqb x d (h 0 (omega arith)) in
    (rw m (ap (λ (y : List ℕ). x ∷ y) on.0), rw m on.1)

text_stops : (d n : ℕ) (w : List ℕ) → n < length w → get_or w n 0 ≡ d → ((i : ℕ) → i < n → get_or w i 0 ≡ d → ⊥) → (upto (some d) w ≡ take (suc n) w) × (tail_up (some d) w ≡ 256)
text_stops d n [] l e h = absurd (omega arith)
text_stops d zero (x ∷ w) l e h = let m = eq-eqb x d e in (rw m, rw m)
text_stops d (suc n) (x ∷ w) l e h =
    let on = text_stops d n w (omega arith) e (λ i l. h (suc i) (omega arith)) in
    let m = ne_eqb x d (h 0 (omega arith)) in
    (rw m (ap (λ (y : List ℕ). x ∷ y) on.0), rw m on.1)

-- what a call cuts out behind a place
rest_is : (k : List ℕ) (from : ℕ) → take (length k - from) (drop from k) ≡ drop from k
rest_is k from = take_all (length k - from) (drop from k) (simp length-drop (omega arith))

module _ (k : List ℕ) (from d : ℕ) where
  pub cut_free : from ≤ length k → Free (take (length k - from) (drop from k)) d (length (take (length k - from) (drop from k))) → CutAt k from (some d) (record { long = length k; tail = 1 })
  cut_free h F =
      let T = text_free d (drop from k) (rw (rest_is k from) at F) in
      record { low = h; high = omega arith; text = take-length k ∙ sym (rw T.0 (take-append-drop from k)); tail = sym T.1 }

  pub cut_stops : (n : ℕ) → Stops (take (length k - from) (drop from k)) d n → CutAt k from (some d) (record { long = from + n + 1; tail = 256 })
  cut_stops n C =
      let S : Stops (drop from k) d n = rw (rest_is k from) at C in
      let i : n < length k - from = simp length-drop at S.inside in
      let T = text_stops d n (drop from k) S.inside S.is S.free in
      let m : from + n + 1 ≡ from + suc n = omega arith in
      record { low = omega arith; high = omega arith; text = rw m (take-add from (suc n) k ∙ ap (λ (y : List ℕ). take from k ++ y) (sym T.0)); tail = sym T.1 }

-- ---- the entry of a key that begins with the prefix

entry_is : (d : Option ℕ) (p k : List ℕ) → begins p k ≡ true → (take (length p) k ++ upto d (drop (length p) k) ≡ entry_for d p k) × (tail_up d (drop (length p) k) ≡ tail_for d p k)
entry_is d [] k b = (refl, refl)
entry_is d (x ∷ p) [] b = clash (cc)
entry_is d (x ∷ p) (y ∷ k) b = eqb_cases x y
    (λ t q. let on = entry_is d p k (rw t at b) in (ap (λ (w : List ℕ). y ∷ w) on.0, on.1))
    (λ t n. clash (let z = rw t at b in cc))

pub entry_cut : (d : Option ℕ) (p k : List ℕ) {c : Cut} → begins p k ≡ true → CutAt k (length p) d c → (take c.long k ≡ entry_for d p k) × (c.tail ≡ tail_for d p k)
entry_cut d p k b C = let e = entry_is d p k b in (C.text ∙ e.0, C.tail ∙ e.1)

-- an entry is its own, with its own bound
pub entry_twice : (d : Option ℕ) (p k : List ℕ) → begins p k ≡ true
    → (begins p (entry_for d p k) ≡ true) × (entry_for d p (entry_for d p k) ≡ entry_for d p k) × (tail_for d p (entry_for d p k) ≡ tail_for d p k)
entry_twice d [] k b = (refl, (upto_twice d k).0, (upto_twice d k).1)
entry_twice d (x ∷ p) [] b = clash (cc)
entry_twice d (x ∷ p) (y ∷ k) b = eqb_cases x y
    (λ t q. let on = entry_twice d p k (rw t at b) in (rw t on.0, ap (λ (w : List ℕ). y ∷ w) on.1, on.2))
    (λ t n. clash (let z = rw t at b in cc))

-- ---- of a Leaf's key

of_key_some : (f p : List ℕ) (d : Option ℕ) (k : List ℕ) (at n : ℕ) {c : Cut} → take n (drop at f) ≡ k → length k ≡ n → at + n ≤ length f → begins p k ≡ true → CutAt k (length p) d c
    → OfKey f p d k (Some (record { at = at; long = c.long; tail = c.tail }))
of_key_some f p d k at n {c} e l h b C =
    let w = C.high in
    let z = entry_cut d p k b C in
    record {
      is = record {
        matches = b;
        inside = omega arith;
        text = sym (take-take c.long n (drop at f) (omega arith)) ∙ ap (take c.long) e ∙ z.0;
        tail = z.1;
      };
    }

-- the key that a Leaf's body says
leaf_key_lem : {f k : List ℕ} {v : Value} {o e : ℕ} (at n m : ℕ) → LeafAt f o e k v → at ≡ le 4 f (o + leaf_extent) → n ≡ le 2 f (o + leaf_key) → m ≡ n → (take m (drop at f) ≡ k) × (length k ≡ m) × (at + m ≤ length f)
leaf_key_lem {f} {k} {v} {o} {e} at n m A ea en em =
    let r = A.room in
    let a : at ≡ e = ea ∙ A.extent in
    let l : m ≡ length k = em ∙ en ∙ A.key_length in
    (rw (a, l) (text_part f e k (omega arith) (λ i h. A.text i (omega (arith, length-append k (text_of v))) ∙ get_or-append k (text_of v) 0 i h)), sym l, omega arith)

-- the part that is its key begins with the prefix, or not
module _ (f p : List ℕ) (d : Option ℕ) (at n m o : ℕ) (ea : at ≡ le 4 f (o + leaf_extent)) (en : n ≡ le 2 f (o + leaf_key)) (em : m ≡ n) {b : Bool} (eb : b ≡ starts_with eqb (take m (drop at f)) p) where
  begun : b ≡ begins p (take m (drop at f))
  begun = eb ∙ starts_is p (take m (drop at f))

  pub leaf_none : b ≡ false → (e : ℕ) (k : List ℕ) (v : Value) → LeafAt f o e k v → OfKey f p d k None
  leaf_none t e k v A =
      let L = leaf_key_lem at n m A ea en em in
      record { is = sym (rw L.0 at begun) ∙ t }

  pub leaf_some : {c : Cut} → b ≡ true → CutAt (take m (drop at f)) (length p) d c → (e : ℕ) (k : List ℕ) (v : Value) → LeafAt f o e k v → OfKey f p d k (Some (record { at = at; long = c.long; tail = c.tail }))
  leaf_some {c} t C e k v A =
      let L = leaf_key_lem at n m A ea en em in
      of_key_some f p d k at m L.0 L.1 L.2 (sym (rw L.0 at begun) ∙ t) (rw L.0 at C)
