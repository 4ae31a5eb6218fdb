-- Edition 2 is lawful: keys of 1 to 255 bytes of any kind; in the walked string a byte 0 of the key becomes 0, 255, and the end is 0, 0.
-- What holds of the edition of every number. Assumes nothing.
use Prim.Native.Nat.{ℕ, zero, suc, ◌+◌, ◌*◌, ◌<◌, ◌≤◌}
use native.Mathlib.Omega.{arith}
use mathlib.Core.Path.{◌≡◌, refl, sym, ◌∙◌}
use mathlib.Core.List.{List, [], ◌∷◌, ◌++◌, head-eq_of_cons-eq, tail-eq_of_cons-eq}
use mathlib.Core.Bool.{Bool, true, false}
use mathlib.Core.Logic.{◌⊎◌, inl, inr}
use lib.ListN.{length}
use lib.Dec.{lit<, lit≤, ltb, eqb}
use borrow.Author.Tests.{lt-ltb, le-ltb, eq-eqb, ne_eqb}
use Rattle.model.specs.Strings.{pick, before, All, Byte}
use Rattle.model.specs.Edition.{Edition, escaped, edition1, edition2, edition_of, Lawful}
use Rattle.model.proofs.Edition1.{Positive, key_passes, key_taken, key_number1, lawful1}
use Rattle.model.proofs.StringLaws.{bool_cases, eqb_cases, ltb_cases, clash, nil_split}

-- ---- the keys that edition 2 takes

pub record Key2 (k : List ℕ) : Type 0 where
  pub some : 1 ≤ length k
  pub short : length k ≤ 255

pub key_passes2 : (k : List ℕ) → edition2.key_fault k ≡ 0 → Key2 k
key_passes2 k e = eqb_cases (length k) 0
    (λ t q. clash (let z = rw t at e in let y : ◌≡◌ {A = ℕ} 0 1 = omega arith in cc))
    (λ t n. ltb_cases 255 (length k)
    (λ u o. clash (let z = rw (t, u) at e in let y : ◌≡◌ {A = ℕ} 0 1 = omega arith in cc))
    (λ u o. record { some = omega arith; short = o }))

pub key_taken2 : (k : List ℕ) → Key2 k → edition2.key_fault k ≡ 0
key_taken2 k h = let o = h.some in let q = h.short in
    rw (ne_eqb (length k) 0 (omega arith), le-ltb 255 (length k) q)

pub key_number2 : (k : List ℕ) → (edition2.key_fault k ≡ 0) ⊎ ((edition2.key_fault k ≡ 3) ⊎ (edition2.key_fault k ≡ 4))
key_number2 k = bool_cases (eqb (length k) 0) (λ t. inr (inl (rw t))) (λ t. bool_cases (ltb 255 (length k)) (λ u. inr (inl (rw (t, u)))) (λ u. inl (rw (t, u))))

-- ---- its walked strings

escaped_bytes : (k : List ℕ) → All Byte k → All Byte (escaped k)
escaped_bytes [] h = (lit< tt, (lit< tt, tt))
escaped_bytes (zero ∷ k) h = (lit< tt, (lit< tt, escaped_bytes k h.1))
escaped_bytes (suc b ∷ k) h = (h.0, escaped_bytes k h.1)

-- at most two bytes for each of the key's, and two
pub escaped_length : (k : List ℕ) → length (escaped k) ≤ 2 * length k + 2
escaped_length [] = omega arith
escaped_length (zero ∷ k) = let on = escaped_length k in omega arith
escaped_length (suc b ∷ k) = let on = escaped_length k in omega arith

-- "So no walked string is the beginning of another."
apart2 : (k l t : List ℕ) → escaped l ≡ escaped k ++ t → k ≡ l
apart2 [] [] t e = refl
apart2 [] (zero ∷ l) t e = absurd (omega (arith, head-eq_of_cons-eq (tail-eq_of_cons-eq e)))
apart2 [] (suc c ∷ l) t e = absurd (omega (arith, head-eq_of_cons-eq e))
apart2 (zero ∷ k) [] t e = absurd (omega (arith, head-eq_of_cons-eq (tail-eq_of_cons-eq e)))
apart2 (suc b ∷ k) [] t e = absurd (omega (arith, head-eq_of_cons-eq e))
apart2 (zero ∷ k) (zero ∷ l) t e = let on = apart2 k l t (tail-eq_of_cons-eq (tail-eq_of_cons-eq e)) in cc
apart2 (zero ∷ k) (suc c ∷ l) t e = absurd (omega (arith, head-eq_of_cons-eq e))
apart2 (suc b ∷ k) (zero ∷ l) t e = absurd (omega (arith, head-eq_of_cons-eq e))
apart2 (suc b ∷ k) (suc c ∷ l) t e =
    let on = apart2 k l t (tail-eq_of_cons-eq e) in let here = head-eq_of_cons-eq e in cc

-- the order of the bytes at which two walked strings part is the order of the keys; w may end within an escape
order2 : (w x y : List ℕ) (b : ℕ) (s : List ℕ) (c : ℕ) (t : List ℕ) → escaped x ≡ w ++ b ∷ s → escaped y ≡ w ++ c ∷ t → b < c → before x y ≡ true
order2 [] [] [] b s c t e f l = absurd (omega (arith, head-eq_of_cons-eq e, head-eq_of_cons-eq f))
order2 [] [] (y ∷ ys) b s c t e f l = refl
order2 [] (zero ∷ xs) [] b s c t e f l = absurd (omega (arith, head-eq_of_cons-eq e, head-eq_of_cons-eq f))
order2 [] (suc x ∷ xs) [] b s c t e f l = absurd (omega (arith, head-eq_of_cons-eq f))
order2 [] (zero ∷ xs) (zero ∷ ys) b s c t e f l = absurd (omega (arith, head-eq_of_cons-eq e, head-eq_of_cons-eq f))
order2 [] (zero ∷ xs) (suc y ∷ ys) b s c t e f l = rw (lt-ltb 0 (suc y) (omega arith))
order2 [] (suc x ∷ xs) (zero ∷ ys) b s c t e f l = absurd (omega (arith, head-eq_of_cons-eq f))
order2 [] (suc x ∷ xs) (suc y ∷ ys) b s c t e f l = rw (lt-ltb (suc x) (suc y) (omega (arith, head-eq_of_cons-eq e, head-eq_of_cons-eq f)))
order2 (z ∷ []) [] [] b s c t e f l = absurd (omega (arith, head-eq_of_cons-eq (tail-eq_of_cons-eq e), head-eq_of_cons-eq (tail-eq_of_cons-eq f)))
order2 (z ∷ []) [] (y ∷ ys) b s c t e f l = refl
order2 (z ∷ []) (zero ∷ xs) [] b s c t e f l = absurd (omega (arith, head-eq_of_cons-eq (tail-eq_of_cons-eq e), head-eq_of_cons-eq (tail-eq_of_cons-eq f)))
order2 (z ∷ []) (suc x ∷ xs) [] b s c t e f l = absurd (omega (arith, head-eq_of_cons-eq e, head-eq_of_cons-eq f))
order2 (z ∷ []) (zero ∷ xs) (zero ∷ ys) b s c t e f l = absurd (omega (arith, head-eq_of_cons-eq (tail-eq_of_cons-eq e), head-eq_of_cons-eq (tail-eq_of_cons-eq f)))
order2 (z ∷ []) (zero ∷ xs) (suc y ∷ ys) b s c t e f l = absurd (omega (arith, head-eq_of_cons-eq e, head-eq_of_cons-eq f))
order2 (z ∷ []) (suc x ∷ xs) (zero ∷ ys) b s c t e f l = absurd (omega (arith, head-eq_of_cons-eq e, head-eq_of_cons-eq f))
order2 (z ∷ z' ∷ w) [] y b s c t e f l = nil_split w b s (tail-eq_of_cons-eq (tail-eq_of_cons-eq e))
order2 (z ∷ z' ∷ w) (x ∷ xs) [] b s c t e f l = nil_split w c t (tail-eq_of_cons-eq (tail-eq_of_cons-eq f))
order2 (z ∷ z' ∷ w) (zero ∷ xs) (zero ∷ ys) b s c t e f l =
    order2 w xs ys b s c t (tail-eq_of_cons-eq (tail-eq_of_cons-eq e)) (tail-eq_of_cons-eq (tail-eq_of_cons-eq f)) l
order2 (z ∷ z' ∷ w) (zero ∷ xs) (suc y ∷ ys) b s c t e f l = absurd (omega (arith, head-eq_of_cons-eq e, head-eq_of_cons-eq f))
order2 (z ∷ z' ∷ w) (suc x ∷ xs) (zero ∷ ys) b s c t e f l = absurd (omega (arith, head-eq_of_cons-eq e, head-eq_of_cons-eq f))
order2 (z ∷ w) (suc x ∷ xs) (suc y ∷ ys) b s c t e f l =
    let q : suc x ≡ suc y = head-eq_of_cons-eq e ∙ sym (head-eq_of_cons-eq f) in
    rw (le-ltb (suc x) (suc y) (omega arith), eq-eqb (suc x) (suc y) q) (order2 w xs ys b s c t (tail-eq_of_cons-eq e) (tail-eq_of_cons-eq f) l)

pub lawful2 : Lawful edition2
lawful2 = record {
  bytes = λ k h. escaped_bytes k h.bytes;
  short = λ k h. (let o = (key_passes2 k h.passes).short in omega (arith, escaped_length k));
  apart = λ k l t h g e. apart2 k l t e;
  order = λ w x y b s c t h g e f l. order2 w x y b s c t e f l;
  fields = record { number = lit< tt; keys = λ k h. (let o = (key_passes2 k h.passes).short in omega arith); words = lit≤ tt; stamps = lit≤ tt };
}

-- ---- the edition of any number

either : (P : Edition → Type 0) (t : Bool) → P edition2 → P edition1 → P (pick t edition2 edition1)
either P true h g = h
either P false h g = g

pub lawful_of : (n : ℕ) → Lawful (edition_of n)
unfolding edition_of
lawful_of n = either Lawful (eqb n 2) lawful2 lawful1

-- 1 and 2 name the two
pub edition_one : edition_of 1 ≡ edition1
unfolding edition_of
edition_one = refl

pub of_two : (n : ℕ) → n ≡ 2 → edition_of n ≡ edition2
unfolding edition_of
of_two n e = rw (eq-eqb n 2 e) refl

pub of_other : (n : ℕ) → (n ≡ 2 → ⊥) → edition_of n ≡ edition1
unfolding edition_of
of_other n e = rw (ne_eqb n 2 e) refl

-- ---- the keys of every edition

-- they are taken, or refused with 3 or 4
pub key_number : (n : ℕ) (k : List ℕ) → ((edition_of n).key_fault k ≡ 0) ⊎ (((edition_of n).key_fault k ≡ 3) ⊎ ((edition_of n).key_fault k ≡ 4))
key_number n k = eqb_cases n 2 (λ t q. rw (of_two n q) (key_number2 k)) (λ t q. rw (of_other n q) (key_number1 k))

-- a legal one has 1 to 255 bytes
pub key_sized : (n : ℕ) (k : List ℕ) → (edition_of n).key_fault k ≡ 0 → Key2 k
key_sized n k e = eqb_cases n 2
    (λ t q. key_passes2 k (rw (of_two n q) at e))
    (λ t q. let K = key_passes k (rw (of_other n q) at e) in let h = K.short in record { some = K.some; short = omega arith })

-- what has bytes of a legal one alone, at least one and no more of them, is legal
pub key_part : (n : ℕ) (k l : List ℕ) → (edition_of n).key_fault k ≡ 0 → 1 ≤ length l → length l ≤ length k → (All Positive k → All Positive l) → (edition_of n).key_fault l ≡ 0
key_part n k l e a b c = eqb_cases n 2
    (λ t q. let K = key_passes2 k (rw (of_two n q) at e) in let h = K.short in rw (of_two n q) (key_taken2 l (record { some = a; short = omega arith })))
    (λ t q. let K = key_passes k (rw (of_other n q) at e) in let h = K.short in rw (of_other n q) (key_taken l (record { some = a; short = omega arith; chars = c K.chars })))
