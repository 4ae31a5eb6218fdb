-- Strings on one way: what two of them share at their start, and when one begins another. Assumes nothing.
use Prim.Native.Nat.{ℕ, zero, suc, ◌+◌, ◌≤◌}
use mathlib.Core.Path.{◌≡◌, refl, sym, ap, ◌∙◌}
use mathlib.Core.List.{List, [], ◌∷◌, ◌++◌, head-eq_of_cons-eq, tail-eq_of_cons-eq}
use native.Mathlib.Omega.{arith}
use lib.ListN.{length, take}
use lib.Seq.{take-take}
use borrow.Author.Tests.{eq-eqb, ne_eqb}
use Rattle.model.specs.Strings.{shared}
use Rattle.model.specs.Frame.{Begins}
use Rattle.model.proofs.StringLaws.{eqb_cases}

-- ---- what two strings share

pub shared_self : (x : List ℕ) → shared x x ≡ length x
shared_self [] = refl
shared_self (a ∷ x) = rw (eq-eqb a a refl) (ap suc (shared_self x))

pub shared_after : (w x y : List ℕ) → shared (w ++ x) (w ++ y) ≡ length w + shared x y
shared_after [] x y = omega arith
shared_after (a ∷ w) x y = rw (eq-eqb a a refl) (omega (arith, shared_after w x y))

pub shared_right : (x y : List ℕ) → shared x y ≤ length y
shared_right [] y = omega arith
shared_right (a ∷ x) [] = omega arith
shared_right (a ∷ x) (b ∷ y) = eqb_cases a b (λ t e. rw t (omega (arith, shared_right x y))) (λ t e. rw t (omega arith))

pub shared_turn : (x y : List ℕ) → shared x y ≡ shared y x
shared_turn [] [] = refl
shared_turn [] (b ∷ y) = refl
shared_turn (a ∷ x) [] = refl
shared_turn (a ∷ x) (b ∷ y) = eqb_cases a b (λ t e. rw (t, eq-eqb b a (sym e)) (ap suc (shared_turn x y))) (λ t e. rw (t, ne_eqb b a (λ z. e (sym z))) refl)

-- they are one that far
pub shared_take : (n : ℕ) (x y : List ℕ) → n ≤ shared x y → take n x ≡ take n y
shared_take zero x y h = refl
shared_take (suc n) [] y h = absurd (omega arith)
shared_take (suc n) (a ∷ x) [] h = absurd (omega arith)
shared_take (suc n) (a ∷ x) (b ∷ y) h = eqb_cases a b
    (λ t e. let g : suc n ≤ suc (shared x y) = rw t at h in let on = shared_take n x y (omega arith) in cc)
    (λ t e. let g : suc n ≤ 0 = rw t at h in absurd (omega arith))

-- and no farther
pub shared_least : (n : ℕ) (x y : List ℕ) → n ≤ length x → n ≤ length y → take n x ≡ take n y → n ≤ shared x y
shared_least zero x y h g e = omega arith
shared_least (suc n) [] y h g e = absurd (omega arith)
shared_least (suc n) (a ∷ x) [] h g e = absurd (omega arith)
shared_least (suc n) (a ∷ x) (b ∷ y) h g e = rw (eq-eqb a b (head-eq_of_cons-eq e)) (omega (arith, shared_least n x y (omega arith) (omega arith) (tail-eq_of_cons-eq e)))

-- ---- beginnings of one string

pub begins_of : (w a b : List ℕ) → take (length a) w ≡ a → take (length b) w ≡ b → length a ≤ length b → Begins b a
begins_of w a b ea eb l = ap (take (length a)) (sym eb) ∙ take-take (length a) (length b) w l ∙ ea
