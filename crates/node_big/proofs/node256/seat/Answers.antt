-- The child's field says it. Assumes nothing.
use native.Mathlib.Omega.{arith}
use Rattle.node_big.proofs.Laws256.{seat256_in, seat256_out}
use Rattle.node_big.proofs.node256.seat.Goals as goal

pub returns-in-0 : goal.returns-in-0
returns-in-0 c = let e = rw c.from.ensures at c.child.ensures.0 in (λ ks N. seat256_out c.args.b ks N (omega arith) e c.in-0.is, omega arith)

pub returns-in_default : goal.returns-in_default
returns-in_default c = let e = rw c.from.ensures at c.child.ensures.0 in (λ ks N. seat256_in c.args.b ks N (omega arith) e (omega (arith, c.in_default)), omega arith)
