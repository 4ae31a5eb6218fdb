-- `long` opens a Prefix at each turn, until another kind stands there. Assumes nothing.
use native.Mathlib.Omega.{arith}
use Rattle.plan.proofs.RunLaws.{run_start, run_end, run_step, run_slot, run_place, run_more}
use Rattle.plan.proofs.run.long.Goals as goal

pub loop-place-init : goal.loop-place-init
loop-place-init c = (omega arith, run_start _ _)

pub prefix_at-requires : goal.prefix_at-requires
prefix_at-requires c = run_slot c.loop-place.invariant.1 c.requires

pub returns : goal.returns
returns c =
    (run_end c.loop-place.invariant.1 c.in_default.ensures, c.loop-place.invariant.0)

pub length-n-requires : goal.length-n-requires
length-n-requires c =
    run_place c.loop-place.invariant.1 c.requires c.in-Some.ensures.0 c.in-Some.ensures.1

pub overflow_add-n : goal.overflow_add-n
overflow_add-n c =
    omega (arith, run_more c.loop-place.invariant.1 c.requires c.in-Some.ensures.0 c.in-Some.ensures.1 c.length-n.ensures.0)

pub child-s-requires : goal.child-s-requires
child-s-requires c =
    run_place c.loop-place.invariant.1 c.requires c.in-Some.ensures.0 c.in-Some.ensures.1

pub loop-place-smaller : goal.loop-place-smaller
loop-place-smaller c =
    omega (arith, run_more c.loop-place.invariant.1 c.requires c.in-Some.ensures.0 c.in-Some.ensures.1 c.length-n.ensures.0)

pub loop-place-preserved : goal.loop-place-preserved
loop-place-preserved c =
    let more = run_more c.loop-place.invariant.1 c.requires c.in-Some.ensures.0 c.in-Some.ensures.1 c.length-n.ensures.0 in
    (more.1, run_step c.loop-place.invariant.1 c.in-Some.ensures.0 c.in-Some.ensures.1 c.length-n.ensures.0 c.child-s.ensures.0)
