-- Edition 1 is lawful, and what its keys are: 1 to 112 bytes, none of them 0. In a well-formed tree of edition 1 no Prefix holds a
-- byte 0 and no path to an inner node has more than 112 bytes. Assumes nothing.
use Prim.Native.Nat.{ℕ, zero, suc, ◌<◌, ◌≤◌, zero-le}
use native.Mathlib.Omega.{arith}
use mathlib.Core.Path.{◌≡◌, refl, sym, ◌∙◌}
use mathlib.Core.List.{List, [], ◌∷◌, ◌++◌, head-eq_of_cons-eq, tail-eq_of_cons-eq}
use mathlib.Core.Bool.{true, false}
use mathlib.Core.Logic.{◌⊎◌, inl, inr}
use lib.ListN.{length, get_or, length-append}
use lib.Dec.{lit<, lit≤, ltb, eqb}
use borrow.Author.Tests.{lt-ltb, le-ltb, eq-eqb, ne_eqb}
use Rattle.model.specs.Strings.{before, has_zero, All, Byte}
use Rattle.model.specs.Edition.{edition1, Lawful}
use Rattle.model.specs.Tree.{Art, Kids}
use Rattle.model.specs.Tree.Art.{prefix, node}
use Rattle.model.proofs.StringLaws.{bool_cases, eqb_cases, ltb_cases, clash, nil_split, all_append, all_right}
use Rattle.model.proofs.Well.{Well}
use Rattle.model.proofs.WellLaws.{Inside, node_inside, prefix_inside}

abbrev pub Positive : ℕ → Type 0
Positive x = 0 < x

-- ---- no byte 0

pub zero_free : (k : List ℕ) → has_zero k ≡ false → All Positive k
zero_free [] e = tt
zero_free (x ∷ k) e = eqb_cases x 0
    (λ t q. clash (let z = rw t at e in cc))
    (λ t n. (omega arith, zero_free k (rw t at e)))

pub free_zero : (k : List ℕ) → All Positive k → has_zero k ≡ false
free_zero [] h = refl
free_zero (x ∷ k) h = rw (ne_eqb x 0 (omega arith)) (free_zero k h.1)

-- by its places
pub positive_at : (k : List ℕ) → All Positive k → (i : ℕ) → i < length k → get_or k i 0 ≡ 0 → ⊥
positive_at [] h i l q = omega arith
positive_at (x ∷ k) h zero l q = let p = h.0 in omega arith
positive_at (x ∷ k) h (suc i) l q = positive_at k h.1 i (omega arith) q

pub at_positive : (k : List ℕ) → ((i : ℕ) → i < length k → get_or k i 0 ≡ 0 → ⊥) → All Positive k
at_positive [] h = tt
at_positive (x ∷ k) h = let p = h 0 (omega arith) in (omega arith, at_positive k (λ i l. h (suc i) (omega arith)))

-- ---- the keys that edition 1 takes

pub record Key1 (k : List ℕ) : Type 0 where
  pub some : 1 ≤ length k
  pub short : length k ≤ 112
  pub chars : All Positive k

pub key_passes : (k : List ℕ) → edition1.key_fault k ≡ 0 → Key1 k
key_passes k e = eqb_cases (length k) 0
    (λ t q. clash (let z = rw t at e in let y : ◌≡◌ {A = ℕ} 0 1 = omega arith in cc))
    (λ t n. ltb_cases 112 (length k)
    (λ u o. clash (let z = rw (t, u) at e in let y : ◌≡◌ {A = ℕ} 0 1 = omega arith in cc))
    (λ u o. bool_cases (has_zero k)
    (λ w. clash (let z = rw (t, u, w) at e in let y : ◌≡◌ {A = ℕ} 0 1 = omega arith in cc))
    (λ w. record { some = omega arith; short = o; chars = zero_free k w })))

pub key_taken : (k : List ℕ) → Key1 k → edition1.key_fault k ≡ 0
key_taken k h = let o = h.some in let q = h.short in
    rw (ne_eqb (length k) 0 (omega arith), le-ltb 112 (length k) q, free_zero k h.chars)

-- a key is taken, or refused with 3 or 4
pub key_number1 : (k : List ℕ) → (edition1.key_fault k ≡ 0) ⊎ ((edition1.key_fault k ≡ 3) ⊎ (edition1.key_fault k ≡ 4))
key_number1 k = bool_cases (eqb (length k) 0)
    (λ t. inr (inl (rw t)))
    (λ t. bool_cases (ltb 112 (length k)) (λ u. inr (inl (rw (t, u)))) (λ u. bool_cases (has_zero k) (λ w. inr (inr (rw (t, u, w)))) (λ w. inl (rw (t, u, w)))))

-- ---- edition 1 is lawful

-- past a key's end the walked string has a byte 0, and so has the list that is read there
pub walked_at : (k : List ℕ) (i : ℕ) → get_or (edition1.walked k) i 0 ≡ get_or k i 0
walked_at [] zero = refl
walked_at [] (suc i) = refl
walked_at (b ∷ k) zero = refl
walked_at (b ∷ k) (suc i) = walked_at k i

-- what stands before a byte of a walked string is of the key
pub before_byte : (k w : List ℕ) (c : ℕ) (t : List ℕ) → All Positive k → edition1.walked k ≡ w ++ c ∷ t → All Positive w × (length w ≤ length k)
before_byte k [] c t h e = (tt, zero-le)
before_byte [] (x ∷ w) c t h e = nil_split w c t (tail-eq_of_cons-eq e)
before_byte (y ∷ k) (x ∷ w) c t h e =
    let on = before_byte k w c t h.1 (tail-eq_of_cons-eq e) in
    ((rw (← (head-eq_of_cons-eq e)) h.0, on.0), omega arith)

apart1 : (k l t : List ℕ) → All Positive k → All Positive l → edition1.walked l ≡ edition1.walked k ++ t → k ≡ l
apart1 [] [] t h g e = refl
apart1 [] (y ∷ l) t h g e = absurd (omega (arith, head-eq_of_cons-eq e))
apart1 (x ∷ k) [] t h g e = absurd (omega (arith, head-eq_of_cons-eq e))
apart1 (x ∷ k) (y ∷ l) t h g e =
    let on = apart1 k l t h.1 g.1 (tail-eq_of_cons-eq e) in let here = head-eq_of_cons-eq e in cc

order1 : (w x y : List ℕ) (b : ℕ) (s : List ℕ) (c : ℕ) (t : List ℕ) → edition1.walked x ≡ w ++ b ∷ s → edition1.walked y ≡ w ++ c ∷ t → b < c → before x y ≡ true
order1 [] [] [] b s c t e f l = absurd (omega (arith, head-eq_of_cons-eq e, head-eq_of_cons-eq f))
order1 [] [] (y ∷ ys) b s c t e f l = refl
order1 [] (x ∷ xs) [] b s c t e f l = absurd (omega (arith, head-eq_of_cons-eq f))
order1 [] (x ∷ xs) (y ∷ ys) b s c t e f l = rw (lt-ltb x y (omega (arith, head-eq_of_cons-eq e, head-eq_of_cons-eq f)))
order1 (z ∷ w) [] y b s c t e f l = nil_split w b s (tail-eq_of_cons-eq e)
order1 (z ∷ w) (x ∷ xs) [] b s c t e f l = nil_split w c t (tail-eq_of_cons-eq f)
order1 (z ∷ w) (x ∷ xs) (y ∷ ys) b s c t e f l =
    let q : x ≡ y = head-eq_of_cons-eq e ∙ sym (head-eq_of_cons-eq f) in
    rw (le-ltb x y (omega arith), eq-eqb x y q) (order1 w xs ys b s c t (tail-eq_of_cons-eq e) (tail-eq_of_cons-eq f) l)

pub lawful1 : Lawful edition1
lawful1 = record {
  bytes = λ k h. all_append Byte k (0 ∷ []) h.bytes (lit< tt, tt);
  short = λ k h. (let o = (key_passes k h.passes).short in omega (arith, length-append k (0 ∷ [])));
  apart = λ k l t h g e. apart1 k l t (key_passes k h.passes).chars (key_passes l g.passes).chars e;
  order = λ w x y b s c t h g e f l. order1 w x y b s c t e f l;
  fields = record { number = lit< tt; keys = λ k h. (let o = (key_passes k h.passes).short in omega arith); words = lit≤ tt; stamps = lit≤ tt };
}

-- ---- paths and Prefixes

pub record Path1 (path : List ℕ) : Type 0 where
  pub chars : All Positive path
  pub short : length path ≤ 112

pub inside1 : (path : List ℕ) → Inside edition1 path → Path1 path
inside1 path h =
    let k = key_passes h.key h.legal.passes in
    let o = before_byte h.key path h.byte h.rest k.chars h.word in let q = k.short in
    record { chars = o.0; short = omega arith }

-- the path to an inner node
pub node_path1 : (kind : ℕ) (ks : Kids) (path : List ℕ) → Well edition1 (node kind ks) path → Path1 path
node_path1 kind ks path h = inside1 path (node_inside lawful1 kind ks path h)

-- the bytes of a Prefix
pub prefix1 : (p : List ℕ) (a : Art) (path : List ℕ) → Well edition1 (prefix p a) path → has_zero p ≡ false
prefix1 p a path h = free_zero p (all_right Positive path p (inside1 (path ++ p) (prefix_inside lawful1 p a path h)).chars)
