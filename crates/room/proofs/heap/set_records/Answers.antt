-- `set_records` sets R. Assumes nothing.
use Rattle.room.proofs.CodeLaws.{records_law}
use Rattle.room.proofs.heap.set_records.Goals as goal

pub returns : goal.returns
returns c h P = records_law P _ c.requires.1 c.set_records.ensures
