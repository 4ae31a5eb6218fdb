-- One law for each answer (RootLaws). Assumes nothing.
use mathlib.Core.Path.{sym, ◌∙◌}
use native.Mathlib.Omega.{arith}
use Rattle.audit.proofs.WalkLaws.{slot_at}
use Rattle.audit.proofs.RootLaws.{root_slot_lem, root_empty, root_tree}
use Rattle.audit.proofs.whole.root.Goals as goal

pub returns-then-s-lt1 : goal.returns-then-s-lt1
returns-then-s-lt1 c = root_slot_lem (λ a z. omega (arith, c.if-s-lt1.true))

pub returns-then-bounds-s : goal.returns-then-bounds-s
returns-then-bounds-s c = root_slot_lem (λ a z. omega (arith, c.if-bounds-s.true))

pub returns-then-e-number : goal.returns-then-e-number
returns-then-e-number c =
    let e = c.read-e.ensures in root_empty (omega (arith, c.if-s-lt1.false)) (omega (arith, c.if-bounds-s.false)) e.0 e.1 (c.if-e-number.true ∙ c.number.ensures.value) c.empty.ensures

pub returns-then-e-number-2 : goal.returns-then-e-number-2
returns-then-e-number-2 c =
    let e = c.read-e.ensures in root_tree e.0 (λ q. c.if-e-number.false (q ∙ sym c.number.ensures.value)) (slot_at e.0 e.1 (omega (arith, c.if-s-lt1.false)) (omega (arith, c.if-bounds-s.false)) (c.if-e-number-2.true ∙ c.number-2.ensures.value) c.lone.ensures)

pub returns : goal.returns
returns c = root_tree c.read-e.ensures.0 (λ q. c.if-e-number.false (q ∙ sym c.number.ensures.value)) c.along.ensures
