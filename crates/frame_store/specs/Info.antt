-- What the exported info promises: the number, and the fourteen numbers of an answer where there is room for just fourteen.
use Rattle.std.specs.Prelude.{ℕ, ◌≡◌, List, length}
use Rattle.model.specs.Edition.{Edition}
use Rattle.demands.specs.Words.{Refusal, NotRefused}
use Rattle.store.specs.Info.{InfoPromise}

pub record Informed (E : Edition) (f o : List ℕ) (n : ℕ) (o' : List ℕ) : Type 0 where
  pub told : List ℕ
  pub promise : InfoPromise E f n told
  pub fourteen : length o ≡ 14 → NotRefused n → o' ≡ told
  pub other : (length o ≡ 14 → ⊥) → o' ≡ o
  -- "a refused call changes no byte of any lent buffer"
  pub refused : Refusal n → o' ≡ o
