-- The numbers of refusals: none is 0, and each fits a byte; and what is handed on by `?` keeps its own. Assumes nothing.
use Prim.Native.Nat.{ℕ, ◌<◌}
use mathlib.Core.Path.{◌≡◌, refl, ap}
use mathlib.Core.Bool.{true, false}
use native.Mathlib.Omega.{arith}
use lib.Dec.{lit<}
use Rattle.std.specs.Prelude.{Result, Ok, Err}
use Rattle.std.specs.Result.{IsErrAnd, is_err}
use Rattle.answers.specs.declared.Refusal.{Refusal}
use Rattle.answers.specs.declared.Refusal.TheVariants as refusal
use Rattle.answers.specs.Number.{refusal_number, number_of, done_number}

pub never_zero : (r : Refusal) → refusal_number r ≡ 0 → ⊥
never_zero refusal.Length e = omega arith
never_zero refusal.Frame e = omega arith
never_zero refusal.KeyLength e = omega arith
never_zero refusal.KeyZero e = omega arith
never_zero refusal.ValueLength e = omega arith
never_zero refusal.Output e = omega arith
never_zero refusal.Room e = omega arith
never_zero refusal.Buffer e = omega arith
never_zero refusal.Batch e = omega arith

pub in_byte : (r : Refusal) → refusal_number r < 256
in_byte refusal.Length = lit< tt
in_byte refusal.Frame = lit< tt
in_byte refusal.KeyLength = lit< tt
in_byte refusal.KeyZero = lit< tt
in_byte refusal.ValueLength = lit< tt
in_byte refusal.Output = lit< tt
in_byte refusal.Room = lit< tt
in_byte refusal.Buffer = lit< tt
in_byte refusal.Batch = lit< tt

-- ---- the exit of a `?`, whose `.ensures.1` this takes

module _ {A : Type 0} (x : Refusal) where
  pub handed_on : (number : A → ℕ) (r : Result A Refusal) → IsErrAnd r (λ y. y ≡ x) → number_of number r ≡ refusal_number x
  handed_on number (Ok a) h = absurd h
  handed_on number (Err y) h = ap refusal_number h

  pub done_on : (r : Result A Refusal) → IsErrAnd r (λ y. y ≡ x) → done_number r ≡ refusal_number x
  done_on (Ok a) h = absurd h
  done_on (Err y) h = ap refusal_number h

-- ---- the test for a refusal

pub refused : {A : Type 0} (r : Result A Refusal) → true ≡ is_err r → done_number r ≡ 0 → ⊥
refused (Ok x) t e = absurd (cc)
refused (Err r) t e = never_zero r e

pub passed : {A : Type 0} (r : Result A Refusal) → false ≡ is_err r → done_number r ≡ 0
passed (Ok x) t = refl
passed (Err r) t = absurd (cc)
