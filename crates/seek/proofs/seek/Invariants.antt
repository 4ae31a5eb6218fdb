-- The seek's invariant: the whole gives what this tree gives, or else the spare. Assumes nothing.
use Prim.Native.Nat.{◌-◌}
use Rattle.model.specs.Edition.{Edition}
use Rattle.seek.specs.Seek.{Guided, Seeking}
use Rattle.seek.proofs.seek.Given as goal

abbrev pub invariant-loop-n : goal.invariant-loop-n
invariant-loop-n l = (E : Edition) → Guided E l.f l.text l.word l.tail l.root → Seeking E l.f l.text l.word l.tail l.root l.s l.d l.spare

abbrev pub decreases-loop-n : goal.decreases-loop-n
decreases-loop-n l = 512 - l.d
