-- `recording` adds a Leaf and the extent. Assumes nothing.
use mathlib.Core.List.{◌∷◌}
use Rattle.plan.proofs.put.recording.Goals as goal

pub returns : goal.returns
returns c = λ takes A. c.with_extent.ensures (1 ∷ takes) 0 (c.with-leaf.ensures takes 0 A)
