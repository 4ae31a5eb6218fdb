-- The invariant: the units that are no longer left are joined. Assumes nothing.
use Rattle.sweep.proofs.SweepLaws.{Going}
use Rattle.sweep.proofs.units.Given as goal

abbrev pub invariant-loop-left : goal.invariant-loop-left
invariant-loop-left l = Going l.f l.bits l.from l.joined l.left

abbrev pub decreases-loop-left : goal.decreases-loop-left
decreases-loop-left l = l.left
