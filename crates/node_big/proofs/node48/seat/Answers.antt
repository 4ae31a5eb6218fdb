-- The entry of the byte says whether there is a child, and where. Assumes nothing.
use native.Mathlib.Omega.{arith}
use Rattle.node_big.proofs.Laws48.{seat48_in, seat48_out, place48}
use Rattle.node_big.proofs.node48.seat.Goals as goal

pub returns-then-p-eq0 : goal.returns-then-p-eq0
returns-then-p-eq0 c =
    let r = rw c.from.ensures at c.entry-p.ensures.0 in (λ ks N. seat48_out c.args.b ks N (omega arith) r c.if-p-eq0.true, omega arith)

pub child-requires : goal.child-requires
child-requires c =
    let q = place48 c.args.b c.requires.kids c.requires.node (omega arith) (rw c.from.ensures at c.entry-p.ensures.0) in
    omega arith

pub returns : goal.returns
returns c =
    let r = rw c.from.ensures at c.entry-p.ensures.0 in (λ ks N. seat48_in c.args.b ks N (omega arith) r c.if-p-eq0.false c.child.ensures.0, omega arith)
