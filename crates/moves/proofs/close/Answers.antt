-- Moved down, then zero. Assumes nothing.
use Rattle.moves.proofs.MoveLaws.{closed}
use Rattle.moves.proofs.close.Goals as goal

pub returns-clause-closed : goal.returns-clause-closed
returns-clause-closed g c = (closed g.row.W _ c.slide.ensures c.write.ensures c.requires.order c.requires.room).0

pub returns-clause-zero : goal.returns-clause-zero
returns-clause-zero g c = (closed g.row.W _ c.slide.ensures c.write.ensures c.requires.order c.requires.room).1
