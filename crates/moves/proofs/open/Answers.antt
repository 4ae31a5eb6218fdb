-- Moved up, then the new number. Assumes nothing.
use Rattle.moves.proofs.MoveLaws.{opened}
use Rattle.moves.proofs.open.Goals as goal

pub returns-clause-opened : goal.returns-clause-opened
returns-clause-opened g c = (opened g.row.W _ _ c.slide.ensures c.write.ensures c.requires.order c.requires.room c.requires.fits).0

pub returns-clause-number : goal.returns-clause-number
returns-clause-number g c = (opened g.row.W _ _ c.slide.ensures c.write.ensures c.requires.order c.requires.room c.requires.fits).1
