-- The field that names a body, after it has been given another slot.
use Rattle.std.specs.Prelude.{ℕ, ◌≡◌, List}
use Rattle.layout.specs.Number.{put}
use Rattle.layout.specs.Place.{at_root}

-- the field at `at` names slot n: two bytes at the root slot field, four elsewhere
abbrev pub Relinked : List ℕ → List ℕ → ℕ → ℕ → Type 0
Relinked f g at n = (at ≡ at_root → g ≡ put 2 f at_root n) × ((at ≡ at_root → ⊥) → g ≡ put 4 f at n)
