-- A byte sought among some bytes at a place.
use Rattle.std.specs.Prelude.{ℕ, zero, suc, ◌+◌, ◌*◌, ◌/◌, ◌%◌, ◌<◌, ◌≤◌, ◌≡◌, List, eqb}
use Rattle.layout.specs.Number.{byte_at}
use Rattle.model.specs.Strings.{pick}

-- of the w lowest bytes of x, the highest bit of each that is b
unfoldable pub marked : ℕ → ℕ → ℕ → ℕ
marked zero x b = 0
marked (suc w) x b = pick (eqb (x % 256) b) 128 0 + 256 * marked w (x / 256) b

-- of the n bytes from `at`, the first that is b stands at k; where k is n, none is
pub record First (f : List ℕ) (at n b k : ℕ) : Type 0 where
  pub within : k ≤ n
  pub before : (j : ℕ) → j < k → byte_at f (at + j) ≡ b → ⊥
  pub here : k < n → byte_at f (at + k) ≡ b
