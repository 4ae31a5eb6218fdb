-- `trial`: the changes so far were made and none refused; the first that is ends it. Assumes nothing.
use mathlib.Core.Path.{◌≡◌}
use lib.ListN.{length}
use Rattle.editions.specs.Rules.{rules_of}
use Rattle.batch.specs.Batch.{Unrefused}
use Rattle.batch.specs.Run.{Far}
use Rattle.batch.proofs.run.trial.Given as goal

abbrev pub invariant-loop-i : goal.invariant-loop-i
invariant-loop-i l = (length l.f ≡ length l.initial.f) × ((F : Far (rules_of l.edition) l.initial.f l.b l.i l.f) × Unrefused F.numbers)
