-- `unused` decides that the places from n on are zero. Assumes nothing.
use Rattle.shape_inner.specs.Inner.{Unused}
use Rattle.shape_inner.proofs.unused.Given as goal

abbrev pub invariant-loop-i : goal.invariant-loop-i
invariant-loop-i l = Unused l.f l.at l.cap l.n l.i
