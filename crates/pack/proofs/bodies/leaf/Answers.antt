-- One law for each end (BodiesLaws). Assumes nothing.
use mathlib.Core.Path.{refl}
use native.Mathlib.Omega.{arith}
use Rattle.pack.proofs.BodiesLaws.{leaf_lent, leaf_end, leaf_laid}
use Rattle.pack.proofs.bodies.leaf.Goals as goal

pub copy-used-requires : goal.copy-used-requires
copy-used-requires c = leaf_lent c.requires (rw c.number.ensures.value at c.write.ensures)

pub overflow_add-result-2 : goal.overflow_add-result-2
overflow_add-result-2 c =
    omega (arith, leaf_end c.requires (rw c.number.ensures.value at c.write.ensures) c.copy-used.ensures)

pub returns : goal.returns
returns c =
    leaf_laid c.requires (rw c.number.ensures.value at c.write.ensures) c.copy-used.ensures refl refl
