-- `indexed_good` decides the body of a Node48; the loop's invariant is `Marked`, with IndexedLaws at each exit. Assumes nothing.
use Rattle.shape_inner.proofs.IndexedLaws.{Marked}
use Rattle.shape_inner.proofs.indexed_good.Given as goal

abbrev pub invariant-loop-b : goal.invariant-loop-b
invariant-loop-b l = Marked l.f l.o l.b l.seen l.twice l.used
