-- `at_prefix` ends at the Prefix or goes to its child: the part of the frame that is matched is its bytes. Assumes nothing.
use mathlib.Core.Path.{◌∙◌}
use Rattle.descent.proofs.SeatLaws.{prefix_part, prefix_shares}
use Rattle.descent.proofs.StepLaws.{prefix_parted, prefix_below}
use Rattle.descent.proofs.walk.at_prefix.Goals as goal

pub returns-then-q-n : goal.returns-then-q-n
returns-then-q-n c = λ E k A.
    let n = c.length-n in let q = c.matched-q in let p = c.bytes.ensures ∙ prefix_part E A n.result n.ensures.0 in
    rw c.ended.ensures
    (prefix_parted E A q.result n.result ((rw p at q.ensures) ∙ prefix_shares E A) (n.ensures.0 ∙ A.at.long) c.if-q-n.true)

pub returns : goal.returns
returns c = λ E k A.
    let n = c.length-n in let q = c.matched-q in let h = c.child-child in let p = c.bytes.ensures ∙ prefix_part E A n.result n.ensures.0 in
    rw c.below_prefix.ensures
    (prefix_below E A q.result n.result ((rw p at q.ensures) ∙ prefix_shares E A) (n.ensures.0 ∙ A.at.long) h.result c.if-q-n.false (h.ensures.0 ∙ A.at.child))
