-- `way`: the invariant is the way so far, the measure what is left of the bytes that a path can have. Assumes nothing.
use Prim.Native.Nat.{◌-◌}
use Rattle.editions.specs.Rules.{rules_of}
use Rattle.descent.specs.Spot.{Underway}
use Rattle.descent.proofs.walk.way.Given as goal

abbrev pub invariant-loop-s : goal.invariant-loop-s
invariant-loop-s l = Underway (rules_of l.edition) l.f l.key l.s

abbrev pub decreases-loop-s : goal.decreases-loop-s
decreases-loop-s l = (rules_of l.edition).longest - l.s.depth
