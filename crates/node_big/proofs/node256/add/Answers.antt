-- The child's field is written, and the count is one more. Assumes nothing.
use Prim.Native.Nat.{ℕ, ◌+◌}
use native.Mathlib.Omega.{arith}
use mathlib.Core.Path.{ap}
use Rattle.node_big.proofs.Laws256.{insert256}
use Rattle.node_big.proofs.node256.add.Goals as goal

pub returns : goal.returns
returns c =
    let W = c.write.ensures in (W.only, λ ks N z. insert256 ks N (omega arith) W (ap (λ (m : ℕ). m + 1) c.count-n.ensures.0) z c.requires.1 c.requires.2)
