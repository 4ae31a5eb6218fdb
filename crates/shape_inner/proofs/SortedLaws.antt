-- Node4 and Node16: the bytes as a loop reads them, and the body as a relation. Assumes nothing.
use Prim.Native.Nat.{ℕ, zero, suc, ◌+◌, ◌-◌, ◌*◌, ◌<◌, ◌≤◌}
use mathlib.Core.Path.{◌≡◌, refl, sym, ap, ◌∙◌}
use mathlib.Core.List.{List}
use mathlib.Core.Logic.{⊎_elim}
use native.Mathlib.Omega.{arith}
use native.Mathlib.Numerals.{add-one}
use lib.ListN.{length, get_or, get_or-eq_default}
use lib.Seq.{ext_get_or}
use Rattle.layout.specs.Number.{byte_at, le, Bytes}
use Rattle.layout.specs.Place.{node_count, node_zero}
use Rattle.layout.proofs.NumberLaws.{lt_or_le, le_lt}
use Rattle.model.specs.Body.{Asc, SortedAt}
use Rattle.shape_inner.specs.Inner.{sorted_kids, SortedHere}

-- ---- the bytes ascend, one after the other

-- the children from place i on, their bytes at least `low`, ascend exactly if all do
pub record Left (f : List ℕ) (at cap n i low : ℕ) : Type 0 where
  pub up : Asc low (sorted_kids f (at + i) (at + cap + 4 * i) (n - i)) → Asc 0 (sorted_kids f at (at + cap) n)
  pub down : Asc 0 (sorted_kids f at (at + cap) n) → Asc low (sorted_kids f (at + i) (at + cap + 4 * i) (n - i))

-- the first of some children, and those behind it
pub asc_first : (f : List ℕ) (b c n m low : ℕ) → n ≡ m + 1 → Asc low (sorted_kids f b c n) → low ≤ byte_at f b
unfolding sorted_kids Asc
asc_first f b c n m low e a = (rw (e, add-one m) at a).0

asc_behind : (f : List ℕ) (b c n m low : ℕ) → n ≡ m + 1 → Asc low (sorted_kids f b c n) → Asc (byte_at f b + 1) (sorted_kids f (b + 1) (c + 4) m)
unfolding sorted_kids Asc
asc_behind f b c n m low e a = rw (add-one (byte_at f b)) (rw (e, add-one m) at a).3

asc_before : (f : List ℕ) (b c n m low : ℕ) → Bytes f → n ≡ m + 1 → low ≤ byte_at f b → Asc (byte_at f b + 1) (sorted_kids f (b + 1) (c + 4) m) → Asc low (sorted_kids f b c n)
unfolding sorted_kids Asc
asc_before f b c n m low B e l a = rw (e, add-one m) (l, B b, le_lt 4 f c B, rw (add-one (byte_at f b)) at a)

pub asc_none : (f : List ℕ) (b c low : ℕ) → Asc low (sorted_kids f b c 0)
unfolding sorted_kids Asc
asc_none f b c low = tt

module _ (f : List ℕ) (at cap n : ℕ) where
  pub left_more : (i low : ℕ) → Bytes f → i < n → low ≤ byte_at f (at + i) → Left f at cap n i low → Left f at cap n (i + 1) (byte_at f (at + i) + 1)
  left_more i low B l h L =
      let p : at + (i + 1) ≡ at + i + 1 = omega arith in
      let q : at + cap + 4 * (i + 1) ≡ at + cap + 4 * i + 4 = omega arith in
      let b = at + i in
      let c = at + cap + 4 * i in
      let e : n - i ≡ n - (i + 1) + 1 = omega arith in
      record {
        up = λ a. L.up (asc_before f b c (n - i) (n - (i + 1)) low B e h (rw (p, q) at a));
        down = λ a. rw (p, q) (asc_behind f b c (n - i) (n - (i + 1)) low e (L.down a));
      }

  -- a byte that is too low
  pub left_low : (i low : ℕ) → i < n → Left f at cap n i low → byte_at f (at + i) < low → Asc 0 (sorted_kids f at (at + cap) n) → ⊥
  left_low i low l L h a = omega (arith, asc_first f (at + i) (at + cap + 4 * i) (n - i) (n - (i + 1)) low (omega arith) (L.down a))

  pub left_end : (i low : ℕ) → i ≡ n → Left f at cap n i low → Asc 0 (sorted_kids f at (at + cap) n)
  left_end i low e L =
      let z : n - i ≡ 0 = omega arith in
      L.up (rw z (asc_none f (at + i) (at + cap + 4 * i) low))

-- ---- the list that the places give

pub sorted_long : (f : List ℕ) (b c n : ℕ) → length (sorted_kids f b c n) ≡ n
unfolding sorted_kids
sorted_long f b c zero = refl
sorted_long f b c (suc n) = ap suc (sorted_long f (b + 1) (c + 4) n)

sorted_in : (f : List ℕ) (b c n i : ℕ) → i < n → get_or (sorted_kids f b c n) i (0, 0) ≡ (byte_at f (b + i), le 4 f (c + 4 * i))
unfolding sorted_kids
sorted_in f b c zero i l = absurd (omega arith)
sorted_in f b c (suc n) zero l =
    let p : b + 0 ≡ b = omega arith in
    let q : c + 4 * 0 ≡ c = omega arith in
    rw (p, q) refl
sorted_in f b c (suc n) (suc i) l =
    let p : b + suc i ≡ b + 1 + i = omega arith in
    let q : c + 4 * suc i ≡ c + 4 + 4 * i = omega arith in
    rw (p, q) (sorted_in f (b + 1) (c + 4) n i (omega arith))

pair_is : (x : ℕ × ℕ) (a b : ℕ) → a ≡ x.0 → b ≡ x.1 → x ≡ (a, b)
pair_is x a b p q = rw (p, q) refl

module _ (f : List ℕ) (o cap bytes n : ℕ) where
  -- it is the only one that the body holds
  pub sorted_only : (ks : List (ℕ × ℕ)) → SortedAt f o cap bytes ks → n ≡ length ks → ks ≡ sorted_kids f (o + bytes) (o + bytes + cap) n
  sorted_only ks S e =
      ext_get_or (0, 0) ks (sorted_kids f (o + bytes) (o + bytes + cap) n) (sym e ∙ sym (sorted_long f (o + bytes) (o + bytes + cap) n))
      (λ i l.
      let c : i < cap = omega (arith, S.few) in
      pair_is (get_or ks i (0, 0)) (byte_at f (o + bytes + i)) (le 4 f (o + bytes + cap + 4 * i)) (S.bytes_are i c) (S.children i c)
      ∙ sym (sorted_in f (o + bytes) (o + bytes + cap) n i (omega arith)))

  pub sorted_here : (ks : List (ℕ × ℕ)) → SortedAt f o cap bytes ks → n ≡ length ks → SortedHere f (o + bytes) cap n
  sorted_here ks S e =
      let past : (i : ℕ) → n ≤ i → get_or ks i (0, 0) ≡ (0, 0) = λ i l. get_or-eq_default ks (0, 0) (omega arith) in
      record {
        rising = rw (sorted_only ks S e) at S.asc;
        unused = record {
          bytes = λ i x y. S.bytes_are i y ∙ ap (λ (k : ℕ × ℕ). k.0) (past i x);
          children = λ i x y. S.children i y ∙ ap (λ (k : ℕ × ℕ). k.1) (past i x);
        };
      }

  pub here_sorted : o + bytes + 5 * cap ≤ length f → 2 ≤ bytes → n ≤ cap → n ≡ le 2 f (o + node_count)
      → ((i : ℕ) → node_zero ≤ i → i < bytes → byte_at f (o + i) ≡ 0) → SortedHere f (o + bytes) cap n
      → SortedAt f o cap bytes (sorted_kids f (o + bytes) (o + bytes + cap) n)
  here_sorted room head few count zeros H =
      let ks = sorted_kids f (o + bytes) (o + bytes + cap) n in
      let long = sorted_long f (o + bytes) (o + bytes + cap) n in
      let used : (i : ℕ) → i < n → (byte_at f (o + bytes + i), le 4 f (o + bytes + cap + 4 * i)) ≡ get_or ks i (0, 0)
      = λ i l. sym (sorted_in f (o + bytes) (o + bytes + cap) n i l) in
      let past : (i : ℕ) → n ≤ i → (0, 0) ≡ get_or ks i (0, 0) = λ i l. sym (get_or-eq_default ks (0, 0) (omega arith)) in
      record {
        room = room;
        head = head;
        few = omega arith;
        count = omega arith;
        zeros = zeros;
        bytes_are = λ i c.
            ⊎_elim (λ l. ap (λ (k : ℕ × ℕ). k.0) (used i l)) (λ l. H.unused.bytes i l c ∙ ap (λ (k : ℕ × ℕ). k.0) (past i l)) (lt_or_le i n);
        children = λ i c.
            ⊎_elim (λ l. ap (λ (k : ℕ × ℕ). k.1) (used i l)) (λ l. H.unused.children i l c ∙ ap (λ (k : ℕ × ℕ). k.1) (past i l)) (lt_or_le i n);
        asc = H.rising;
      }
