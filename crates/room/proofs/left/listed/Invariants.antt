-- Nothing is asked for; or going along the list, for every heap that the frame has. Assumes nothing.
use Rattle.layout.specs.Kind.{number_of}
use Rattle.model.specs.Frame.{View, Heap}
use Rattle.room.proofs.LeftLaws.{Along}
use Rattle.room.proofs.left.listed.Given as goal

abbrev pub invariant-loop-n : goal.invariant-loop-n
invariant-loop-n l = (h : View) → Heap l.f h → Along l.f h (number_of l.fn.kind) l.s l.n
