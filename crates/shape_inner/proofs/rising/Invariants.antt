-- `rising` decides that the bytes ascend: those that are left do, from `low` on, exactly if all do. Assumes nothing.
use Prim.Native.Nat.{◌≤◌}
use Rattle.shape_inner.proofs.SortedLaws.{Left}
use Rattle.shape_inner.proofs.rising.Given as goal

abbrev pub invariant-loop-i : goal.invariant-loop-i
invariant-loop-i l = (l.low ≤ 256) × Left l.f l.at l.cap l.n l.i l.low
