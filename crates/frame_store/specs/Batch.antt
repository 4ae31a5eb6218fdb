-- What the exported batch promises: one number, whose lowest byte is the number given, and what is above it the place of the first refused change.
use Rattle.std.specs.Prelude.{ℕ, ◌/◌, ◌%◌, List}
use Rattle.model.specs.Edition.{Edition}
use Rattle.batch.specs.Batch.{BatchPromise}

abbrev pub Batched : Edition → (f g b lent : List ℕ) → ℕ → (f' g' lent' : List ℕ) → Type 0
Batched E f g b lent r f' g' lent' = BatchPromise E f g b lent (r % 256) (r / 256) f' g' lent'
