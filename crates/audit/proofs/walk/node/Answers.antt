-- One law for each answer (WalkLaws). Assumes nothing.
use native.Mathlib.Omega.{arith}
use Rattle.pieces.proofs.DecideLaws.{refuted, passed}
use Rattle.audit.proofs.WalkLaws.{few, node_other, node_body, node_refused, node_told, node_deep, node_bad}
use Rattle.audit.proofs.walk.node.Goals as goal

pub returns-then-entry-number : goal.returns-then-entry-number
returns-then-entry-number c =
    let n = c.requires.other in node_other (λ L. few L.some n.0 n.1 L.crossing (omega (arith, c.if-entry-number.true, c.number.ensures.value)))

pub returns-then-entry-number-2 : goal.returns-then-entry-number-2
returns-then-entry-number-2 c = node_other (λ L. omega (arith, L.last, c.if-entry-number-2.true, c.number-2.ensures.value))

pub returns-in_err-r : goal.returns-in_err-r
returns-in_err-r c = rw c.from_residual.ensures (node_body (rw c.kind-kind.ensures at c.body.ensures) c.in_err-r.was)

pub returns-then-limit-depth : goal.returns-then-limit-depth
returns-then-limit-depth c =
    node_refused (omega arith) (omega arith) ((rw c.kind-kind.ensures at c.body.ensures).holds _ c.in_ok-r.was) (λ Ed L w path s l E. node_deep (omega arith) L w (λ a. omega (arith, c.type_inv.f a)) E l c.if-limit-depth.true)

pub returns-then-not-inner_good : goal.returns-then-not-inner_good
returns-then-not-inner_good c =
    node_refused (omega arith) (omega arith) ((rw c.kind-kind.ensures at c.body.ensures).holds _ c.in_ok-r.was) (λ Ed L w path s l E. node_bad (omega arith) (refuted (rw c.kind-kind.ensures at c.inner_good.ensures) c.if-not-inner_good.true-raw))

pub returns : goal.returns
returns c =
    node_told (omega arith) (omega arith) ((rw c.kind-kind.ensures at c.body.ensures).holds _ c.in_ok-r.was) (omega arith) (passed (rw c.kind-kind.ensures at c.inner_good.ensures) c.if-not-inner_good.false-raw)
