-- `long` opens a Prefix at each turn, until another kind stands there. Assumes nothing.
use Prim.Native.Nat.{◌-◌, ◌<◌}
use Rattle.plan.specs.Run.{Sinks}
use Rattle.plan.proofs.run.long.Given as goal

abbrev pub invariant-loop-place : goal.invariant-loop-place
invariant-loop-place l = (l.n < 65536) × Sinks l.f l.slot l.n l.s

abbrev pub decreases-loop-place : goal.decreases-loop-place
decreases-loop-place l = 65536 - l.n
