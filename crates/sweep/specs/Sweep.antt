-- What the sweep decides: bytes of which the map has no mark are zero.
use Rattle.std.specs.Prelude.{ℕ, ◌+◌, ◌*◌, ◌/◌, ◌%◌, ◌<◌, ◌≤◌, ◌≡◌, List, length}
use Rattle.layout.specs.Number.{byte_at}
use Rattle.pieces.specs.Range.{Blank}
use Rattle.claims.specs.Units.{digit, bit}

-- k is the lowest digit of w that is 1
pub record Lowest (w k : ℕ) : Type 0 where
  pub one : digit w k ≡ 1
  pub below : (j : ℕ) → j < k → digit w j ≡ 0

-- v has the digits of w but the lowest
pub record Dropped (w v : ℕ) : Type 0 where
  pub at : (k : ℕ) → Lowest w k → digit v k ≡ 0
  pub other : (k j : ℕ) → Lowest w k → (j ≡ k → ⊥) → digit v j ≡ digit w j

-- digit j of w stands for the eight bytes from `from` + 8 j on: where it is 1, they lie in f
pub record Inside (f : List ℕ) (w from : ℕ) : Type 0 where
  pub fits : (j : ℕ) → digit w j ≡ 1 → from + 8 * j + 8 ≤ length f

-- where it is 1, they are zero
pub record Zeros (f : List ℕ) (w from : ℕ) : Type 0 where
  pub zero : (j : ℕ) → digit w j ≡ 1 → Blank f (from + 8 * j) (from + 8 * j + 8)

-- of the n units from `at` on, those that their word w does not mark are zero
pub record Bare (f : List ℕ) (w at n : ℕ) : Type 0 where
  pub zero : (u : ℕ) → at ≤ u → u < at + n → digit w (u % 64) ≡ 0 → Blank f (8 * u) (8 * u + 8)

-- every byte from d up to b whose unit the map m does not mark is zero, and every one from b on
pub record Swept (f m : List ℕ) (d b : ℕ) : Type 0 where
  pub bare : (a : ℕ) → d ≤ a → a < b → bit m (a / 8) ≡ 0 → byte_at f a ≡ 0
  pub tail : (a : ℕ) → b ≤ a → a < length f → byte_at f a ≡ 0
