-- `write_row`: from the last piece on, each body names what stands below it. Assumes nothing.
use Prim.Native.Nat.{◌+◌, ◌*◌, ◌<◌, ◌≤◌}
use mathlib.Core.Path.{◌≡◌}
use lib.ListN.{length}
use Rattle.chain.specs.Row.{RowWritten}
use Rattle.chain.proofs.write_row.Given as goal

abbrev pub invariant-loop-i : goal.invariant-loop-i
invariant-loop-i l =
    (l.i * 112 < l.to + 112) × (l.to ≤ l.i * 112) × (l.to ≤ length l.bytes) × (l.to < length l.bytes → l.to ≡ l.i * 112) × (l.below < 4294967296) × (length l.f ≡ length l.initial.f) × RowWritten l.initial.f l.f l.row l.bytes l.child l.i l.to l.below
