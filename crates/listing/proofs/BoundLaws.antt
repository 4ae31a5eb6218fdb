-- An entry sorts after the start key exactly if its key is at or above the start key's bound; every key that begins with the prefix is at or above the
-- prefix, and behind one at or above it that does not, none begins with it. What the walked strings of keys tell of a bound in each edition. Assumes
-- nothing.
use Prim.Native.Nat.{ℕ, zero, suc, ◌<◌}
use native.Mathlib.Omega.{arith}
use mathlib.Core.Path.{◌≡◌, refl, ap, sym, ◌∙◌}
use mathlib.Core.List.{List, [], ◌∷◌, ◌++◌}
use mathlib.Core.Bool.{Bool, true, false}
use mathlib.Core.Option.{Option, none, some}
use lib.Dec.{ltb, leb, eqb}
use borrow.Author.Tests.{lt-ltb, le-ltb, le-leb, eq-eqb, ne_eqb}
use Rattle.model.specs.Strings.{pick, before, All, Byte}
use Rattle.model.specs.Edition.{edition2, edition_of}
use Rattle.model.proofs.StringLaws.{bool_cases, eqb_cases, ltb_cases, leb_cases, clash}
use Rattle.model.proofs.Edition1.{Positive, key_passes}
use Rattle.model.proofs.Edition2.{of_two, of_other}
use Rattle.listing.specs.Listing.{begins, upto, entry_for}
use Rattle.listing.specs.Seek.{weigh, reach, Guides}
use Rattle.listing.specs.Bound.{tail_up, tail_for, bound_of}
use Rattle.listing.proofs.SeekLaws.{weigh_append}

-- ---- keys and bounds

not_leb : (m n : ℕ) → n < m → leb m n ≡ false
not_leb m n h = leb_cases m n (λ t o. absurd (omega arith)) (λ t o. t)

none_before : (s : List ℕ) → before s [] ≡ false
none_before [] = refl
none_before (z ∷ s) = refl

-- byte against byte: what stands behind decides only where they are equal
key_step : (x y : ℕ) (s e g l : List ℕ) (t : ℕ) → (x ≡ y → before s e ≡ reach g t l) → before (x ∷ s) (y ∷ e) ≡ reach (x ∷ g) t (y ∷ l)
key_step x y s e g l t on = ltb_cases x y
    (λ u o. rw u)
    (λ u o. eqb_cases x y (λ v q. rw (u, v) (on q)) (λ v n. rw (u, v)))

-- past all that begins with a text
key_passed : (l : List ℕ) → All Byte l → reach [] 256 l ≡ false
key_passed [] b = refl
key_passed (y ∷ l) b = not_leb 256 y b.0

upto_key : (d : Option ℕ) (s l : List ℕ) → All Byte l → before s (upto d l) ≡ reach (upto d s) (tail_up d s) l
upto_key none [] [] c = refl
upto_key none [] (y ∷ l) c = refl
upto_key none (x ∷ s) [] c = refl
upto_key none (x ∷ s) (y ∷ l) c = key_step x y s l s l 1 (λ q. upto_key none s l c.1)
upto_key (some k) [] [] c = refl
upto_key (some k) [] (y ∷ l) c = bool_cases (eqb y k) (λ t. rw t) (λ t. rw t)
upto_key (some k) (x ∷ s) [] c = bool_cases (eqb x k) (λ t. rw t) (λ t. rw t)
upto_key (some k) (x ∷ s) (y ∷ l) c =
    let on = upto_key (some k) s l c.1 in
    eqb_cases x k
    (λ t u. rw t (eqb_cases y k
    (λ v w. rw v (key_step x y s [] [] l 256 (λ q. none_before s ∙ sym (key_passed l c.1))))
    (λ v w. rw v (key_step x y s (upto (some k) l) [] l 256 (λ q. absurd (w (sym q ∙ u)))))))
    (λ t u. rw t (eqb_cases y k
    (λ v w. rw v (key_step x y s [] (upto (some k) s) l (tail_up (some k) s) (λ q. absurd (u (q ∙ w)))))
    (λ v w. rw v (key_step x y s (upto (some k) l) (upto (some k) s) l (tail_up (some k) s) (λ q. on)))))

-- "an entry is listed only if it sorts after the start key": of keys that begin with the prefix, and a start key (or an entry) that does
pub entry_key : (d : Option ℕ) (p s l : List ℕ) → begins p s ≡ true → begins p l ≡ true → All Byte l → before s (entry_for d p l) ≡ reach (entry_for d p s) (tail_for d p s) l
entry_key d [] s l f g c = upto_key d s l c
entry_key d (z ∷ p) [] l f g c = clash (cc)
entry_key d (z ∷ p) (x ∷ s) [] f g c = clash (cc)
entry_key d (z ∷ p) (x ∷ s) (y ∷ l) f g c = eqb_cases z x
    (λ t q. eqb_cases z y
    (λ u r. key_step x y s (entry_for d p l) (entry_for d p s) l (tail_for d p s) (λ _. entry_key d p s l (rw t at f) (rw u at g) c.1))
    (λ u n. clash (let w = rw u at g in cc)))
    (λ t n. clash (let w = rw t at f in cc))

-- from the prefix on: every key that begins with it
pub prefix_key : (p l : List ℕ) → begins p l ≡ true → reach p 0 l ≡ true
prefix_key [] [] f = refl
prefix_key [] (y ∷ l) f = le-leb 0 y (omega arith)
prefix_key (z ∷ p) [] f = clash (cc)
prefix_key (z ∷ p) (y ∷ l) f = eqb_cases z y
    (λ t q. rw (le-ltb z y (omega arith), t) (prefix_key p l (rw t at f)))
    (λ t n. clash (let w = rw t at f in cc))

-- what is at or above the bound of a text that begins with the prefix, and does not begin with it itself, stands behind all that do
pub past_text : (p g : List ℕ) (t : ℕ) (k l : List ℕ) → begins p g ≡ true → reach g t k ≡ true → begins p k ≡ false → before k l ≡ true → begins p l ≡ false
past_text [] g t k l b r n o = clash (cc)
past_text (z ∷ p) [] t k l b r n o = clash (cc)
past_text (z ∷ p) (x ∷ g) t [] l b r n o = clash (cc)
past_text (z ∷ p) (x ∷ g) t (y ∷ k) [] b r n o = clash (cc)
past_text (z ∷ p) (x ∷ g) t (y ∷ k) (w ∷ l) b r n o = eqb_cases z x
    (λ e q. ltb_cases x y
    (λ u m. ltb_cases y w
    (λ v h. rw (ne_eqb z w (λ s. omega arith)))
    (λ v h. eqb_cases y w
    (λ a i. rw (ne_eqb z w (λ s. omega arith)))
    (λ a s. clash (let c = rw (v, a) at o in cc))))
    (λ u m. eqb_cases x y
    (λ v s. ltb_cases y w
    (λ a h. rw (ne_eqb z w (λ j. omega arith)))
    (λ a h. eqb_cases y w
    (λ c i. rw (eq-eqb z w (omega arith)) (past_text p g t k l (rw e at b) (rw (u, v) at r) (rw (eq-eqb z y (omega arith)) at n) (rw (a, c) at o)))
    (λ c i. clash (let j = rw (a, c) at o in cc))))
    (λ v s. clash (let c = rw (u, v) at r in cc))))
    (λ e q. clash (let c = rw e at b in cc))

-- ---- walked strings and bounds

two_or_none : (b : Bool) → leb 1 (pick b 2 0) ≡ b
two_or_none true = refl
two_or_none false = refl

none_least : (t : ℕ) → leb t 0 ≡ eqb t 0
none_least t = eqb_cases t 0 (λ e q. le-leb t 0 (omega arith) ∙ sym e) (λ e n. not_leb t 0 (omega arith) ∙ sym e)

-- in edition 2 the walked string of a key tells where it stands
spelt_bound : (g : List ℕ) (t : ℕ) (k : List ℕ) → leb 1 (weigh (bound_of edition2 g t) t (edition2.walked k)) ≡ reach g t k
spelt_bound [] t [] = eqb_cases t 1 (λ e q. rw e (two_or_none (leb t 0) ∙ none_least t)) (λ e n. rw e (two_or_none (leb t 0) ∙ none_least t))
spelt_bound [] t (zero ∷ k) = eqb_cases t 1 (λ e q. rw (e, le-leb t 255 (omega arith))) (λ e n. rw e (two_or_none (leb t 0)))
spelt_bound [] t (suc y ∷ k) = eqb_cases t 1 (λ e q. rw (e, lt-ltb 0 (suc y) (omega arith))) (λ e n. rw e (two_or_none (leb t (suc y))))
spelt_bound (zero ∷ g) t [] = refl
spelt_bound (suc x ∷ g) t [] = rw (le-ltb (suc x) 0 (omega arith), ne_eqb (suc x) 0 (λ q. omega arith))
spelt_bound (zero ∷ g) t (zero ∷ k) = spelt_bound g t k
spelt_bound (zero ∷ g) t (suc y ∷ k) = rw (lt-ltb 0 (suc y) (omega arith))
spelt_bound (suc x ∷ g) t (zero ∷ k) = rw (le-ltb (suc x) 0 (omega arith), ne_eqb (suc x) 0 (λ q. omega arith))
spelt_bound (suc x ∷ g) t (suc y ∷ k) = let on = spelt_bound g t k in bool_cases (ltb (suc x) (suc y))
    (λ e. rw e)
    (λ e. bool_cases (eqb (suc x) (suc y)) (λ f. rw (e, f) on) (λ f. rw (e, f)))

-- in edition 1, if it decides: a text that holds a byte 0 may end with it in the end of a key
plain_above : (g : List ℕ) (t : ℕ) (k : List ℕ) → All Positive k → weigh g t (k ++ 0 ∷ []) ≡ 2 → reach g t k ≡ true
plain_above [] t [] a w = bool_cases (leb t 0) (λ e. sym (none_least t) ∙ e) (λ e. let z : ◌≡◌ {A = ℕ} 0 2 = rw e at w in absurd (omega arith))
plain_above [] t (y ∷ k) a w = bool_cases (leb t y)
    (λ e. bool_cases (eqb t 1) (λ u. rw u) (λ u. rw u e))
    (λ e. let z : ◌≡◌ {A = ℕ} 0 2 = rw e at w in absurd (omega arith))
plain_above (x ∷ g) t [] a w = let n = le-ltb x 0 (omega arith) in bool_cases (eqb x 0)
    (λ e. let z : ◌≡◌ {A = ℕ} 1 2 = rw (n, e) at w in absurd (omega arith))
    (λ e. let z : ◌≡◌ {A = ℕ} 0 2 = rw (n, e) at w in absurd (omega arith))
plain_above (x ∷ g) t (y ∷ k) a w = bool_cases (ltb x y)
    (λ e. rw e)
    (λ e. bool_cases (eqb x y)
    (λ u. rw (e, u) (plain_above g t k a.1 (rw (e, u) at w)))
    (λ u. let z : ◌≡◌ {A = ℕ} 0 2 = rw (e, u) at w in absurd (omega arith)))

plain_below : (g : List ℕ) (t : ℕ) (k : List ℕ) → All Positive k → weigh g t (k ++ 0 ∷ []) ≡ 0 → reach g t k ≡ false
plain_below [] t [] a w = bool_cases (leb t 0) (λ e. let z : ◌≡◌ {A = ℕ} 2 0 = rw e at w in absurd (omega arith)) (λ e. sym (none_least t) ∙ e)
plain_below [] t (y ∷ k) a w = leb_cases t y
    (λ e o. let z : ◌≡◌ {A = ℕ} 2 0 = rw e at w in absurd (omega arith))
    (λ e o. let h = a.0 in rw (ne_eqb t 1 (λ q. omega arith)) e)
plain_below (x ∷ g) t [] a w = refl
plain_below (x ∷ g) t (y ∷ k) a w = bool_cases (ltb x y)
    (λ e. let z : ◌≡◌ {A = ℕ} 2 0 = rw e at w in absurd (omega arith))
    (λ e. bool_cases (eqb x y)
    (λ u. rw (e, u) (plain_below g t k a.1 (rw (e, u) at w)))
    (λ u. rw (e, u)))

-- a path that has decided decides for what goes on from it
decided : (w : List ℕ) (t : ℕ) (path r x : List ℕ) (n : ℕ) → (n ≡ 1 → ⊥) → x ≡ path ++ r → weigh w t path ≡ n → weigh w t x ≡ n
decided w t path r x n o e u = rw (e, weigh_append w t path r, u, ne_eqb n 1 o)

guides_other : (n : ℕ) (g : List ℕ) (t : ℕ) → (n ≡ 2 → ⊥) → Guides (edition_of n) g t (bound_of (edition_of n) g t)
guides_other n g t e =
    rw (of_other n e) (record {
      above = λ path k f u. plain_above g t k (key_passes k f.2).chars (decided g t path f.0 (k ++ 0 ∷ []) 2 (λ z. omega arith) f.1 u);
      below = λ path k f u. plain_below g t k (key_passes k f.2).chars (decided g t path f.0 (k ++ 0 ∷ []) 0 (λ z. omega arith) f.1 u);
    })

guides2 : (g : List ℕ) (t : ℕ) → Guides edition2 g t (bound_of edition2 g t)
guides2 g t = record {
  above = λ path k f u. sym (spelt_bound g t k) ∙ ap (leb 1) (decided (bound_of edition2 g t) t path f.0 (edition2.walked k) 2 (λ z. omega arith) f.1 u);
  below = λ path k f u. sym (spelt_bound g t k) ∙ ap (leb 1) (decided (bound_of edition2 g t) t path f.0 (edition2.walked k) 0 (λ z. omega arith) f.1 u);
}

pub guides_of : (n : ℕ) (g : List ℕ) (t : ℕ) → Guides (edition_of n) g t (bound_of (edition_of n) g t)
guides_of n g t = eqb_cases n 2 (λ u e. rw (of_two n e) (guides2 g t)) (λ u e. guides_other n g t e)

-- ---- an entry again

-- an entry's own entry and bound are those of its key, so that the start key may be treated as the last entry of the page before
pub upto_twice : (d : Option ℕ) (s : List ℕ) → (upto d (upto d s) ≡ upto d s) × (tail_up d (upto d s) ≡ tail_up d s)
upto_twice none s = (refl, refl)
upto_twice (some k) [] = (refl, refl)
upto_twice (some k) (x ∷ s) = let on = upto_twice (some k) s in bool_cases (eqb x k)
    (λ t. rw t (rw t (refl, refl)))
    (λ t. rw t (rw t (ap (λ (z : List ℕ). x ∷ z) on.0, on.1)))
