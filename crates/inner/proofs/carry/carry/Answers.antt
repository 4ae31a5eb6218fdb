-- The first children stand at their new place, the count still to be written. Assumes nothing.
use Rattle.moves.proofs.MoveLaws.{only_none}
use Rattle.inner.proofs.InnerLaws.{inner_count, inner_room}
use Rattle.inner.proofs.CarryLaws.{part_none, part_all, turn_visit, turn_append, turn, size_8}
use native.Mathlib.Omega.{arith}
use Rattle.inner.proofs.carry.carry.Goals as goal

pub count-n-requires : goal.count-n-requires
count-n-requires c = let P = c.requires in omega (arith, inner_room P.kids P.node, size_8 _ P.node.range)

pub loop-i-init : goal.loop-i-init
loop-i-init c = (omega arith, only_none _ _ _, λ ks N. part_none c.requires ks)

pub child_at-k-requires : goal.child_at-k-requires
child_at-k-requires c = let l = c.loop-i in turn_visit c.requires l.invariant.1 l.invariant.2 c.count-n.ensures.0 c.loop-i-test.true l.invariant.0

pub overflow_cast-k : goal.overflow_cast-k
overflow_cast-k c = omega (arith, c.child_at-k.ensures.0)

pub append-requires : goal.append-requires
append-requires c = let l = c.loop-i in turn_append c.requires l.invariant.1 l.invariant.2 c.count-n.ensures.0 c.loop-i-test.true

pub loop-i-preserved : goal.loop-i-preserved
loop-i-preserved c =
    let l = c.loop-i in let K = c.child_at-k.ensures in let T = turn c.requires l.invariant.1 l.invariant.2 c.count-n.ensures.0 c.loop-i-test.true K c.append.ensures in
    (omega (arith, K.0), T.0, T.1)

pub set_count-requires : goal.set_count-requires
set_count-requires c =
    let C = c.requires in let l = c.loop-i in omega (arith, C.room, l.invariant.1.size, size_8 _ C.range)

pub returns : goal.returns
returns c =
    let l = c.loop-i in let n = c.count-n.ensures.0 in let t = c.loop-i-test.false in part_all l.invariant.1 l.invariant.2 c.requires.range (λ ks N. omega (arith, inner_count ks N)) (omega arith) c.set_count.ensures
