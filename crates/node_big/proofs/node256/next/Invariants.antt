-- No child passed is a slot. Assumes nothing.
use mathlib.Core.Path.{◌≡◌}
use Rattle.layout.specs.Number.{le}
use Rattle.layout.specs.Place.{node256_children}
use Prim.Native.Nat.{ℕ, ◌+◌, ◌*◌, ◌<◌, ◌≤◌}
use Rattle.node_big.proofs.node256.next.Given as goal

abbrev pub invariant-loop-byte : goal.invariant-loop-byte
invariant-loop-byte l = (d : ℕ) → d < l.byte → l.from ≤ d → le 4 l.f (l.o + node256_children + 4 * d) ≡ 0
