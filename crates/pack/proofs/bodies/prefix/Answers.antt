-- One law for each end (BodiesLaws). Assumes nothing.
use mathlib.Core.Path.{refl}
use Rattle.pack.proofs.BodiesLaws.{prefix_lent, prefix_laid}
use Rattle.pack.proofs.bodies.prefix.Goals as goal

pub copy-requires : goal.copy-requires
copy-requires c = prefix_lent c.requires (rw c.number.ensures.value at c.write.ensures)

pub returns : goal.returns
returns c =
    prefix_laid c.requires (rw c.number.ensures.value at c.write.ensures) c.copy.ensures refl refl
