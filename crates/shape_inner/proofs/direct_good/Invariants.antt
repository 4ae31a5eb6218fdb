-- `direct_good` decides how many children a Node256 has. Assumes nothing.
use Prim.Native.Nat.{◌≤◌}
use Rattle.shape_inner.specs.Inner.{child256}
use Rattle.shape_inner.proofs.KidsLaws.{Counted}
use Rattle.shape_inner.proofs.direct_good.Given as goal

abbrev pub invariant-loop-b : goal.invariant-loop-b
invariant-loop-b l = (l.used ≤ l.b) × Counted (child256 l.f l.o) l.b l.used
