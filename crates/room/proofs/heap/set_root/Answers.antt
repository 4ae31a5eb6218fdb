-- `set_root` sets the root slot. Assumes nothing.
use Rattle.room.proofs.CodeLaws.{root_law}
use Rattle.room.proofs.heap.set_root.Goals as goal

pub returns : goal.returns
returns c h P = root_law P _ c.requires.1 c.set_root.ensures
