-- `free_row` frees the last body of the row at each turn. Assumes nothing.
use Prim.Native.Nat.{◌≤◌}
use mathlib.Core.Path.{◌≡◌}
use lib.ListN.{length}
use Rattle.chain.specs.Row.{RowFreed}
use Rattle.chain.proofs.free_row.Given as goal

abbrev pub invariant-loop-i : goal.invariant-loop-i
invariant-loop-i l = (l.keep ≤ l.i) × (l.i ≤ l.have) × (length l.f ≡ length l.initial.f) × RowFreed l.initial.f l.f l.row l.have l.i
