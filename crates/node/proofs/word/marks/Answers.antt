-- Every byte is reckoned by itself. Assumes nothing.
use Prim.Native.Nat.{ℕ, ◌*◌}
use mathlib.Core.Path.{◌≡◌, ◌∙◌, ap}
use native.Mathlib.Omega.{arith}
use lib.Bits.{bit_xor, and_le_r}
use borrow.Author.Rules.{rules}
use Rattle.node.proofs.WordLaws.{whole, spread, whole_marked}
use Rattle.node.proofs.word.marks.Goals as goal

-- a byte in each of the eight places
spread_eight : (b : ℕ) → 72340172838076673 * b ≡ spread 8 b
spread_eight b = omega arith

pub overflow_add-carried : goal.overflow_add-carried
overflow_add-carried c = omega (arith, and_le_r (bit_xor c.args.x (72340172838076673 * c.from.result)) 9187201950435737471)

pub returns : goal.returns
returns c =
    let a = c.args in rw c.from.ensures (ap (λ (n : ℕ). whole n 9187201950435737471 9259542123273814144 a.x) (spread_eight a.b) ∙ whole_marked 8 a.x a.b (search rules) (search rules))
