-- `relink` writes the root slot field or a child. Assumes nothing.
use native.Mathlib.Omega.{arith}
use Rattle.room.proofs.link.relink.Goals as goal

pub returns-then-at-eq-AT_ROOT : goal.returns-then-at-eq-AT_ROOT
returns-then-at-eq-AT_ROOT c = (λ z. c.set_root.ensures, λ z. absurd (z (omega arith)))

pub returns : goal.returns
returns c = (λ z. absurd (omega arith), λ z. c.set_child.ensures)
