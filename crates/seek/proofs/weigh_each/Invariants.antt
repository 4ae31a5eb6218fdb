-- What is left weighs what the whole weighs. Assumes nothing.
use Rattle.seek.proofs.WeighLaws.{Weighed}
use Rattle.seek.proofs.weigh_each.Given as goal

abbrev pub invariant-loop-i : goal.invariant-loop-i
invariant-loop-i l = Weighed l.f l.at l.n l.text l.d l.tail l.i
