-- `take_row` takes a body a turn, and the row names it. Assumes nothing.
use Prim.Native.Nat.{◌-◌, ◌≤◌}
use mathlib.Core.Path.{◌≡◌}
use lib.ListN.{length}
use Rattle.chain.specs.Row.{RowTaken}
use Rattle.chain.proofs.take_row.Given as goal

abbrev pub invariant-loop-i : goal.invariant-loop-i
invariant-loop-i l =
    (l.have ≤ l.i) × (l.i - l.have ≤ l.need - l.have) × (length l.f ≡ length l.initial.f) × (length l.row ≡ length l.initial.row) × RowTaken l.initial.f l.f l.initial.row l.row l.have (l.need - l.have) (l.i - l.have)
