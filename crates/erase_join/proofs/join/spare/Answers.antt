-- The room of the Prefix above. Assumes nothing.
use native.Mathlib.Omega.{arith}
use Rattle.erase_join.proofs.join.spare.Goals as goal

pub length-requires : goal.length-requires
length-requires c =
    (c.requires c.if-above-eq0.false).0

pub overflow_sub-result : goal.overflow_sub-result
overflow_sub-result c =
    omega (arith, c.length.ensures.0, (c.requires c.if-above-eq0.false).1)
