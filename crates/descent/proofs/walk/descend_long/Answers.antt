-- `descend_long`: the walked string, written out. Assumes nothing.
use Rattle.descent.proofs.walk.descend_long.Goals as goal

pub returns : goal.returns
returns g c = rw c.edition-edition.ensures at c.way.ensures
