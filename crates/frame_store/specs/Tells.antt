-- Numbers told in a lent slice: they are written where there is room for just as many, and else nothing is.
use Rattle.std.specs.Prelude.{ℕ, ◌≡◌, List, length}

pub record Tells (o vs o' : List ℕ) : Type 0 where
  pub written : length o ≡ length vs → o' ≡ vs
  pub other : (length o ≡ length vs → ⊥) → o' ≡ o
