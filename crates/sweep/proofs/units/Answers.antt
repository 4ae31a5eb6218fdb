-- The invariant: the units that are no longer left are joined. Assumes nothing.
use native.Mathlib.Omega.{arith}
use Rattle.sweep.proofs.SweepLaws.{going_on, going_end}
use Rattle.sweep.proofs.units.Goals as goal

pub loop-left-preserved : goal.loop-left-preserved
loop-left-preserved c =
    going_on c.loop-left.invariant c.lowest.ensures.0 c.but_lowest-left.ensures.0 c.eight-joined.ensures

pub returns : goal.returns
returns c = going_end c.loop-left.invariant (omega arith)
