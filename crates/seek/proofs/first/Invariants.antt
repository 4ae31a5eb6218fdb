-- The first Leaf is that of the tree where the walk stands. Assumes nothing.
use Prim.Native.Nat.{◌-◌}
use Rattle.model.specs.Edition.{Edition}
use Rattle.seek.specs.Sub.{Sub, Down}
use Rattle.seek.proofs.first.Given as goal

abbrev pub invariant-loop-s : goal.invariant-loop-s
invariant-loop-s l =
    (E : Edition) → Sub E l.f l.slot l.depth → Down E l.f l.slot l.s l.d

abbrev pub decreases-loop-s : goal.decreases-loop-s
decreases-loop-s l =
    512 - l.d
