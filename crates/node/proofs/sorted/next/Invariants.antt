-- Every byte passed is below `from`. Assumes nothing.
use Rattle.layout.specs.Number.{byte_at}
use Prim.Native.Nat.{ℕ, ◌+◌, ◌<◌}
use Rattle.node.proofs.sorted.next.Given as goal

abbrev pub invariant-loop-i : goal.invariant-loop-i
invariant-loop-i g l = (k : ℕ) → k < l.i → byte_at l.f (l.o + g.K.Ascending.BYTES + k) < l.from
