-- `at_node` ends at the inner node or goes to the child of the byte. Assumes nothing.
use mathlib.Core.Path.{sym, ◌∙◌}
use Rattle.model.specs.Frame.{pairs}
use Rattle.keys.proofs.WordLaws.{spells_at}
use Rattle.descent.proofs.StepLaws.{node_missing, node_below}
use Rattle.descent.proofs.walk.at_node.Goals as goal

pub returns-in-None : goal.returns-in-None
returns-in-None c = λ E k A.
    let b = c.at-b in let g = c.seat-seat.ensures (pairs A.kids) A.at.inner in
    rw c.ended.ensures
    (node_missing E c.args.kind A b.result (b.ensures ∙ spells_at A.sought.spells c.args.s.depth) (sym (rw c.in-None.is at g.0)))

pub returns-in-Some : goal.returns-in-Some
returns-in-Some c = λ E k A.
    let b = c.at-b in let h = c.seat-seat in let g = h.ensures (pairs A.kids) A.at.inner in
    rw c.below_node.ensures
    (node_below E c.args.kind A b.result (b.ensures ∙ spells_at A.sought.spells c.args.s.depth) c.in-Some.child h.result.link (sym (rw c.in-Some.is at g.0)) g.1)
