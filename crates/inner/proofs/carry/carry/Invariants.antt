-- The first children stand at their new place, the count still to be written. Assumes nothing.
use mathlib.Core.List.{List}
use Rattle.layout.specs.Kind.{number_of, body_size}
use Rattle.model.specs.Body.{InnerAt}
use Rattle.moves.specs.Moved.{Only}
use Rattle.inner.proofs.CarryLaws.{Part}
use Prim.Native.Nat.{ℕ, ◌+◌, ◌≤◌}
use Rattle.inner.proofs.carry.carry.Given as goal

abbrev pub invariant-loop-i : goal.invariant-loop-i
invariant-loop-i l =
    (l.at ≤ 256) × Only l.initial.f l.f l.to (l.to + body_size (number_of l.kind2))
    × ((ks : List (ℕ × ℕ)) → InnerAt l.initial.f l.from (number_of l.kind) ks → Part l.f l.to (number_of l.kind2) l.i l.at ks)
