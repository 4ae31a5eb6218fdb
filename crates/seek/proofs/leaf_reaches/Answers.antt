-- The key's bytes decide, or where it ends. Assumes nothing.
use native.Mathlib.Omega.{arith}
use Rattle.seek.proofs.LeafLaws.{leaf_above, leaf_below, leaf_less, leaf_same}
use Rattle.seek.proofs.leaf_reaches.Goals as goal

pub returns-in-Greater : goal.returns-in-Greater
returns-in-Greater c = λ e k v A. leaf_above A _ _ _ _ c.behind.ensures c.extent-from.ensures.0 c.key_length-n.ensures.0 c.in-Greater.ensures

pub returns-in-Less : goal.returns-in-Less
returns-in-Less c = λ e k v A. leaf_below A _ _ _ _ c.behind.ensures c.extent-from.ensures.0 c.key_length-n.ensures.0 c.in-Less.ensures

pub returns-then-text-n : goal.returns-then-text-n
returns-then-text-n c = λ e k v A. leaf_same A _ _ _ _ c.behind.ensures c.extent-from.ensures.0 c.key_length-n.ensures.0 c.in-Equal.ensures (omega arith)

pub returns-else-text-n : goal.returns-else-text-n
returns-else-text-n c = λ e k v A. leaf_less A _ _ _ _ c.behind.ensures c.extent-from.ensures.0 c.key_length-n.ensures.0 c.in-Equal.ensures (omega arith)
