-- No byte passed is above b. Assumes nothing.
use Rattle.layout.specs.Number.{byte_at}
use Prim.Native.Nat.{ℕ, ◌+◌, ◌<◌, ◌≤◌}
use Rattle.node.proofs.sorted.rank.Given as goal

abbrev pub invariant-loop-i : goal.invariant-loop-i
invariant-loop-i l = (k : ℕ) → k < l.i → byte_at l.f (l.at + k) ≤ l.b
