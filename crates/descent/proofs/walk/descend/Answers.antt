-- `descend`: the edition by its name. Assumes nothing.
use Rattle.descent.proofs.walk.descend.Goals as goal

pub returns : goal.returns
returns g c = rw c.edition.ensures at c.way.ensures
