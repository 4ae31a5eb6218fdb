-- `carry_out`: the changes so far were made, and their answers told. Assumes nothing.
use mathlib.Core.Path.{◌≡◌}
use lib.ListN.{length}
use Rattle.editions.specs.Rules.{rules_of}
use Rattle.batch.specs.Batch.{told}
use Rattle.batch.specs.Run.{Far}
use Rattle.batch.proofs.run.carry_out.Given as goal

abbrev pub invariant-loop-i : goal.invariant-loop-i
invariant-loop-i l = (length l.f ≡ length l.initial.f) × (length l.answers ≡ length l.initial.answers) × ((F : Far (rules_of l.edition) l.initial.f l.b l.i l.f) × (l.answers ≡ told F.numbers l.initial.answers))
