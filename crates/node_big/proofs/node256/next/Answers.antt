-- No child passed is a slot. Assumes nothing.
use native.Mathlib.Omega.{arith}
use Rattle.node_big.proofs.Laws256.{next256_in, next256_out}
use Rattle.node_big.proofs.node256.next.Goals as goal

pub returns-then-slot-ne0 : goal.returns-then-slot-ne0
returns-then-slot-ne0 c =
    let l = c.loop-byte in λ ks N.
    let e = next256_in ks N (omega arith) (omega arith) l.invariant c.child-slot.ensures.0 (omega arith) in
    (omega arith, e.0, e.1)

pub returns : goal.returns
returns c = λ ks N. next256_out ks N (λ d u v. c.loop-byte.invariant d (omega arith) v)
