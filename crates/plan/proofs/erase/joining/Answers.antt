-- `joining` needs a Prefix where no Prefix above has room, and neither has the last of the run that is left. Assumes nothing.
use mathlib.Core.Path.{refl, sym, ◌∙◌}
use mathlib.Core.List.{[]}
use native.Mathlib.Omega.{arith}
use Rattle.layout.specs.declared.kind.Kind.TheVariants as kind
use Rattle.erase_join.proofs.KindTests.{kind_is, kind_is_not}
use Rattle.plan.proofs.EraseLaws.{plan_above, plan_under, couple, other_entry, plan_leaf, plan_run, plan_room, plan_more}
use Rattle.plan.proofs.erase.joining.Goals as goal

pub spare-requires : goal.spare-requires
spare-requires c = plan_above c.requires.holds

pub returns-then-spare-ne0 : goal.returns-then-spare-ne0
returns-then-spare-ne0 c =
    λ E P. plan_under P c.spare.ensures c.if-spare-ne0.true c.none-none.ensures

pub other_child-other-requires : goal.other_child-other-requires
other_child-other-requires c =
    couple c.requires.holds

pub read-entry-requires : goal.read-entry-requires
read-entry-requires c =
    let o = c.other_child-other in let C = other_entry c.requires.holds o.result.byte o.result.slot o.ensures.1 in (C.some, C.entry)

pub kind-requires : goal.kind-requires
kind-requires c =
    let o = c.other_child-other in let C = other_entry c.requires.holds o.result.byte o.result.slot o.ensures.1 in let e = c.read-entry.ensures.0 in record { low = omega (arith, C.least); high = omega (arith, C.most) }

pub returns-then-eq : goal.returns-then-eq
returns-then-eq c =
    let o = c.other_child-other in λ E P. plan_leaf P o.result.byte o.result.slot o.ensures.1 c.spare.ensures c.read-entry.ensures.0 (kind_is _ kind.Leaf c.eq.ensures c.if-eq.true c.kind.ensures refl) c.none-none.ensures

pub long-requires : goal.long-requires
long-requires c =
    let o = c.other_child-other in plan_run c.requires.holds o.result.byte o.result.slot o.ensures.1 c.spare.ensures c.read-entry.ensures.0 (omega (arith, c.if-spare-ne0.false)) (kind_is_not _ kind.Leaf c.eq.ensures c.if-eq.false c.kind.ensures refl)

pub left_of-requires : goal.left_of-requires
left_of-requires c = c.long.ensures.1

pub returns-then-left_of-ne0 : goal.returns-then-left_of-ne0
returns-then-left_of-ne0 c =
    let o = c.other_child-other in λ E P. plan_room P o.result.byte o.result.slot o.ensures.1 c.spare.ensures c.read-entry.ensures.0 c.if-spare-ne0.false (kind_is_not _ kind.Leaf c.eq.ensures c.if-eq.false c.kind.ensures refl) c.long.ensures.0 (λ z. c.if-left_of-ne0.true (c.left_of.ensures ∙ z)) c.none-none.ensures

pub returns : goal.returns
returns c =
    let o = c.other_child-other in λ E P. plan_more P o.result.byte o.result.slot o.ensures.1 c.spare.ensures c.read-entry.ensures.0 c.if-spare-ne0.false (kind_is_not _ kind.Leaf c.eq.ensures c.if-eq.false c.kind.ensures refl) c.long.ensures.0 (sym c.left_of.ensures ∙ c.if-left_of-ne0.false)
    (c.with.ensures [] 0 c.none-none.ensures)
