-- One law for each answer (WalkLaws). Assumes nothing.
use native.Mathlib.Omega.{arith}
use Rattle.pieces.proofs.DecideLaws.{refuted, passed}
use Rattle.audit.proofs.WalkLaws.{path_length, kept_same, kept_far, path_on, entry_made, prefix_body, prefix_refused, prefix_told, prefix_bad, prefix_long, prefix_child_lem}
use Rattle.audit.proofs.walk.past_prefix.Goals as goal

pub returns-in_err-sums : goal.returns-in_err-sums
returns-in_err-sums c =
    let p = c.requires in rw c.from_residual.ensures (kept_same, prefix_body (entry_made p.kind p.place.0) c.body.ensures c.in_err-sums.was)

pub returns-then-not-prefix_good : goal.returns-then-not-prefix_good
returns-then-not-prefix_good c =
    let p = c.requires in
    (kept_same, prefix_refused (entry_made p.kind p.place.0) (c.body.ensures.holds _ c.in_ok-sums.was) p.slot.0 p.slot.1 (λ Ed L w. prefix_bad (refuted c.prefix_good.ensures c.if-not-prefix_good.true-raw)))

pub returns-then-path-depth : goal.returns-then-path-depth
returns-then-path-depth c =
    let p = c.requires in
    (kept_same, prefix_refused (entry_made p.kind p.place.0) (c.body.ensures.holds _ c.in_ok-sums.was) p.slot.0 p.slot.1 (λ Ed L w. prefix_long L w (λ a. omega (arith, c.type_inv.f a)) (path_length c.args.path.now c.args.depth p.path.1) c.length-n.ensures.0 c.if-path-depth.true))

pub returns-then-not-below_slot : goal.returns-then-not-below_slot
returns-then-not-below_slot c =
    let p = c.requires in
    (kept_same, prefix_refused (entry_made p.kind p.place.0) (c.body.ensures.holds _ c.in_ok-sums.was) p.slot.0 p.slot.1 (λ Ed L w. prefix_child_lem (refuted c.below_slot.ensures c.if-not-below_slot.true-raw) c.child-slot.ensures.0 c.length-n.ensures.0))

pub returns : goal.returns
returns c =
    let p = c.requires in let P = passed c.prefix_good.ensures c.if-not-prefix_good.false-raw in
    let I = passed c.below_slot.ensures c.if-not-below_slot.false-raw in
    let e = c.read.ensures in
    let X = c.extend.ensures in
    (kept_far p.path.1 kept_same X, prefix_told P (c.body.ensures.holds _ c.in_ok-sums.was) (entry_made p.kind p.place.0) p.slot.0 p.slot.1 I c.child-slot.ensures.0 c.length-n.ensures.0 e.0 e.1 e.3 (omega arith) (omega (arith, c.if-path-depth.false, c.extend.auto)) (path_on P c.length-n.ensures.0 X))
