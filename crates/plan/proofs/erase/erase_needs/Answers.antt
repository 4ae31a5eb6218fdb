-- `erase_needs` gives the takes of the erase, by what is left of the Leaf's node. Assumes nothing.
use Prim.Native.Nat.{ℕ, ◌+◌}
use mathlib.Core.Path.{sym, ap, ◌∙◌}
use mathlib.Core.List.{[]}
use Rattle.plan.proofs.KidLaws.{down_none, down_some}
use Rattle.plan.proofs.EraseLaws.{node_room, node_inner, plan_keeps, plan_falls, pair_from}
use Rattle.plan.proofs.erase.erase_needs.Goals as goal

pub count-requires : goal.count-requires
count-requires c = node_room c.requires.holds

pub returns-then-count-shrink_mark : goal.returns-then-count-shrink_mark
returns-then-count-shrink_mark c =
    let m = c.count in let u = c.shrink_mark.ensures.value in λ E P. plan_keeps P m.result m.ensures.1 (λ z. c.if-count-shrink_mark.true (z ∙ ap (λ (i : ℕ). i + 1) (sym u))) c.none-none.ensures

pub returns-in-Some : goal.returns-in-Some
returns-in-Some c =
    let m = c.count in let u = c.shrink_mark.ensures.value in λ E P. plan_falls P m.result m.ensures.1 _ (c.if-count-shrink_mark.false ∙ ap (λ (i : ℕ). i + 1) u) (down_some _ _ c.in-Some.ensures) c.in-Some.ensures
    (c.with.ensures [] 0 c.none-none.ensures)

pub joining-requires : goal.joining-requires
joining-requires c =
    let m = c.count in let u = c.shrink_mark.ensures.value in let z = c.requires in let r = node_inner z.holds in
    record { edition = z.edition; holds = pair_from z.holds m.result m.ensures.1 (c.if-count-shrink_mark.false ∙ ap (λ (i : ℕ). i + 1) u) (down_none _ r.0 r.1 c.in-None.ensures) }

pub returns-in-None : goal.returns-in-None
returns-in-None c =
    let m = c.count in let u = c.shrink_mark.ensures.value in
    λ E P. c.joining.ensures E (pair_from P m.result m.ensures.1 (c.if-count-shrink_mark.false ∙ ap (λ (i : ℕ). i + 1) u) (let r = node_inner P in down_none _ r.0 r.1 c.in-None.ensures))
