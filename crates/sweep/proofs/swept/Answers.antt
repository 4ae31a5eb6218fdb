-- The invariant: the units before `at` are swept. Assumes nothing.
use Rattle.pieces.proofs.DecideLaws.{denied, refuted, passed}
use Rattle.sweep.proofs.SweepLaws.{sweep_more, sweep_bad}
use Rattle.sweep.proofs.swept.Goals as goal

pub returns-then-not-run : goal.returns-then-not-run
returns-then-not-run c =
    denied (sweep_bad c.loop-left.invariant c.within-n.ensures (refuted c.run.ensures c.if-not-run.true-raw))

pub loop-left-preserved : goal.loop-left-preserved
loop-left-preserved c =
    sweep_more c.loop-left.invariant c.within-n.ensures (passed c.run.ensures c.if-not-run.false-raw)
