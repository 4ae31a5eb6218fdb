-- `spot_of`: edition 2 reads the walked string, written out; edition 1 the key itself. Assumes nothing.
use native.Mathlib.Omega.{arith}
use Rattle.model.proofs.Edition2.{escaped_length}
use Rattle.descent.proofs.walk.spot_of.Goals as goal

pub spell-n-requires : goal.spell-n-requires
spell-n-requires c = (omega (arith, escaped_length c.args.key.now, c.if-key-le-SHORT_KEY.true), omega arith)
