-- The invariant: the units before `at` are swept. Assumes nothing.
use Rattle.sweep.proofs.SweepLaws.{Sweeping}
use Rattle.sweep.proofs.swept.Given as goal

abbrev pub invariant-loop-left : goal.invariant-loop-left
invariant-loop-left l = Sweeping l.f l.map l.d l.b l.at l.left

abbrev pub decreases-loop-left : goal.decreases-loop-left
decreases-loop-left l = l.left
