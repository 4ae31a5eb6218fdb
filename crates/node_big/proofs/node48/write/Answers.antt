-- Entry, child and count written. Assumes nothing.
use native.Mathlib.Omega.{arith}
use Rattle.moves.proofs.MoveLaws.{only_none}
use Rattle.node_big.proofs.Laws48.{wrote48}
use Rattle.node_big.proofs.node48.write.Goals as goal

pub returns : goal.returns
returns c = wrote48 _ _ _ _ _ _ (omega arith) (omega arith) (omega arith) (omega arith) (omega arith) (omega arith) (only_none _ _ _) (rw c.from.ensures at c.set_entry.ensures) c.set_child.ensures c.set_count.ensures
