-- No entry passed names a place. Assumes nothing.
use native.Mathlib.Omega.{arith}
use Rattle.node_big.proofs.Laws48.{next48_in, next48_out, place48}
use Rattle.node_big.proofs.node48.next.Goals as goal

pub child-slot-requires : goal.child-slot-requires
child-slot-requires c =
    let q = place48 c.loop-byte.byte c.requires.0.kids c.requires.0.node (omega arith) c.entry-p.ensures.0 in
    (omega arith, omega arith)

pub returns-then-p-ne0 : goal.returns-then-p-ne0
returns-then-p-ne0 c =
    let l = c.loop-byte in λ ks N.
    let e = next48_in ks N (omega arith) (omega arith) l.invariant c.entry-p.ensures.0 (omega arith) c.child-slot.ensures.0 in
    (omega arith, e.0, e.1)

pub returns : goal.returns
returns c = λ ks N. next48_out ks N (λ d u v. c.loop-byte.invariant d (omega arith) v)
