-- The lists of the kinds below k are read; then the three numbers are those of the state. Assumes nothing.
use mathlib.Core.Path.{◌≡◌}
use lib.ListN.{length}
use Rattle.room.proofs.LeftLaws.{Counted}
use Rattle.room.proofs.left.room_for.Given as goal

abbrev pub invariant-loop-k : goal.invariant-loop-k
invariant-loop-k l = (length l.free ≡ 9) × Counted l.f l.needs.bodies l.free l.k
