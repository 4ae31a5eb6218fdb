-- `unmarked` decides that the children at places without a mark are zero. Assumes nothing.
use Prim.Native.Nat.{ℕ, ◌+◌, ◌*◌, ◌<◌}
use mathlib.Core.Path.{◌≡◌}
use lib.ListN.{get_or}
use Rattle.layout.specs.Number.{le}
use Rattle.layout.specs.Place.{node48_children}
use Rattle.shape_inner.proofs.unmarked.Given as goal

abbrev pub invariant-loop-p : goal.invariant-loop-p
invariant-loop-p l = (q : ℕ) → q < l.p → get_or l.seen (q + 1) 0 ≡ 0 → le 4 l.f (l.o + node48_children + 4 * q) ≡ 0
