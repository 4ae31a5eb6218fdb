-- `read_row` opens a Prefix at each turn, until another kind stands there. Assumes nothing.
use Prim.Native.Nat.{◌-◌, ◌≤◌}
use mathlib.Core.Path.{◌≡◌}
use lib.ListN.{length}
use Rattle.chain.specs.Row.{RowRead}
use Rattle.chain.proofs.read_row.Given as goal

abbrev pub invariant-loop-place : goal.invariant-loop-place
invariant-loop-place l =
    (l.n ≤ length l.initial.bytes) × (length l.bytes ≡ length l.initial.bytes) × (length l.row ≡ length l.initial.row) × RowRead l.f l.initial.row l.row l.initial.bytes l.bytes l.slot l.have l.long l.count l.n l.s

abbrev pub decreases-loop-place : goal.decreases-loop-place
decreases-loop-place l = length l.initial.bytes - l.n
