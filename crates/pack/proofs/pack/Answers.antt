-- The rule in force is the edition's own. Assumes nothing.
use Rattle.pack.proofs.PackLaws.{packed_now}
use Rattle.pack.proofs.pack.Goals as goal

pub returns : goal.returns
returns g c = rw c.edition.ensures at (packed_now _ c.by_rule.ensures)
