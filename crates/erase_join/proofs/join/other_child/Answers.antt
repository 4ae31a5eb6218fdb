-- The first child, or the second where the first is at the byte. Assumes nothing.
use mathlib.Core.Path.{◌∙◌, sym}
use Rattle.erase_join.proofs.PairLaws.{visit_first, visit_second, is_first, is_second}
use Rattle.erase_join.proofs.join.other_child.Goals as goal

pub child_at-first-requires : goal.child_at-first-requires
child_at-first-requires c = visit_first c.requires

pub child_at-requires : goal.child_at-requires
child_at-requires c =
    visit_second c.requires c.child_at-first.ensures

pub returns-then-first-from : goal.returns-then-first-from
returns-then-first-from c =
    is_second c.requires c.child_at-first.ensures (c.if-first-from.true ∙ c.from.ensures) c.child_at.ensures

pub returns : goal.returns
returns c =
    is_first c.requires c.child_at-first.ensures (λ z. c.if-first-from.false (z ∙ sym c.from.ensures))
