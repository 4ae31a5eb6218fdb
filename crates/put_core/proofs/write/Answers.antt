-- `write`: edition 2 reads the walked string, written out; edition 1 the key itself. Assumes nothing.
use native.Mathlib.Omega.{arith}
use Rattle.descent.proofs.EditionLaws.{second_fits}
use Rattle.put_core.proofs.write.Goals as goal

pub spell-n-requires : goal.spell-n-requires
spell-n-requires g c = (second_fits _ (rw c.in-Second.ensures c.requires.legal), omega arith)
