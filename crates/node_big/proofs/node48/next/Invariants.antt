-- No entry passed names a place. Assumes nothing.
use mathlib.Core.Path.{◌≡◌}
use Rattle.layout.specs.Number.{byte_at}
use Rattle.layout.specs.Place.{node48_index}
use Prim.Native.Nat.{ℕ, ◌+◌, ◌<◌, ◌≤◌}
use Rattle.node_big.proofs.node48.next.Given as goal

abbrev pub invariant-loop-byte : goal.invariant-loop-byte
invariant-loop-byte l = (d : ℕ) → d < l.byte → l.from ≤ d → byte_at l.f (l.o + node48_index + d) ≡ 0
