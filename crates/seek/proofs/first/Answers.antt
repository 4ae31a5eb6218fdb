-- The first Leaf is that of the tree where the walk stands. Assumes nothing.
use mathlib.Core.Path.{sym, ap, ◌∙◌}
use native.Mathlib.Omega.{arith}
use Rattle.layout.specs.Kind.{number_of}
use Rattle.model.specs.Frame.{Lay}
use Rattle.model.proofs.UniqueLaws.{tree_unique}
use Rattle.inside.proofs.InsideLaws.{not_leaf, not_prefix}
use Rattle.listing.specs.Seek.{leaves, first_leaf}
use Rattle.seek.proofs.DownLaws.{sub_slot, sub_kind, down_leaf, prefix_room, prefix_below, down_to, node_visit, node_below}
use Rattle.seek.proofs.first.Goals as goal

pub loop-s-init : goal.loop-s-init
loop-s-init c = λ E S. record { sub = S; same = λ path l T q. ap (λ (x : Lay). first_leaf (leaves x)) (tree_unique E _ path S.path l S.lay T S.tree (q ∙ sym S.slot_is)) }

pub read-e-requires : goal.read-e-requires
read-e-requires c = let P = c.requires in let D = c.loop-s.invariant P.edition P.holds in let S = D.sub in sub_slot S

pub kind-requires-clause-low : goal.kind-requires-clause-low
kind-requires-clause-low c = let P = c.requires in let D = c.loop-s.invariant P.edition P.holds in let S = D.sub in omega (arith, sub_kind S, c.read-e.ensures.0)

pub kind-requires-clause-high : goal.kind-requires-clause-high
kind-requires-clause-high c = let P = c.requires in let D = c.loop-s.invariant P.edition P.holds in let S = D.sub in omega (arith, sub_kind S, c.read-e.ensures.0)

pub returns-in-Leaf : goal.returns-in-Leaf
returns-in-Leaf c = λ E S. down_leaf (c.loop-s.invariant E S) (sym (c.in-Leaf.ensures ∙ c.read-e.ensures.0)) (sym c.read-e.ensures.1)

pub child-s-requires : goal.child-s-requires
child-s-requires c = let P = c.requires in let D = c.loop-s.invariant P.edition P.holds in let S = D.sub in prefix_room _ _ S.path c.loop-s.s _ S.lay S.tree S.slot_is (sym (c.in-Prefix.ensures ∙ c.read-e.ensures.0)) (sym c.read-e.ensures.1)

pub length-d-requires : goal.length-d-requires
length-d-requires c = let P = c.requires in let D = c.loop-s.invariant P.edition P.holds in let S = D.sub in prefix_room _ _ S.path c.loop-s.s _ S.lay S.tree S.slot_is (sym (c.in-Prefix.ensures ∙ c.read-e.ensures.0)) (sym c.read-e.ensures.1)

pub overflow_add-d : goal.overflow_add-d
overflow_add-d c =
    let P = c.requires in let D = c.loop-s.invariant P.edition P.holds in let S = D.sub in let m = S.lawful.fields.words in
    let W = prefix_below _ S.lawful _ S.path c.loop-s.s c.loop-s.d c.read-e.result.place c.child-s.result c.length-d.result S.lay S.bytes S.deep S.inside S.tree S.slot_is
    (sym (c.in-Prefix.ensures ∙ c.read-e.ensures.0)) (sym c.read-e.ensures.1) c.child-s.ensures.0 c.length-d.ensures.0 in
    let w = W.sub.short in omega arith

pub loop-s-smaller-in-Prefix : goal.loop-s-smaller-in-Prefix
loop-s-smaller-in-Prefix c =
    let P = c.requires in let D = c.loop-s.invariant P.edition P.holds in let S = D.sub in let m = S.lawful.fields.words in
    let W = prefix_below _ S.lawful _ S.path c.loop-s.s c.loop-s.d c.read-e.result.place c.child-s.result c.length-d.result S.lay S.bytes S.deep S.inside S.tree S.slot_is
    (sym (c.in-Prefix.ensures ∙ c.read-e.ensures.0)) (sym c.read-e.ensures.1) c.child-s.ensures.0 c.length-d.ensures.0 in
    let w = W.sub.short in let v = W.falls in omega arith

pub loop-s-preserved-in-Prefix : goal.loop-s-preserved-in-Prefix
loop-s-preserved-in-Prefix c = λ E H.
    let D = c.loop-s.invariant E H in let S = D.sub in
    down_to D (prefix_below _ S.lawful _ S.path c.loop-s.s c.loop-s.d c.read-e.result.place c.child-s.result c.length-d.result S.lay S.bytes S.deep S.inside S.tree S.slot_is
    (sym (c.in-Prefix.ensures ∙ c.read-e.ensures.0)) (sym c.read-e.ensures.1) c.child-s.ensures.0 c.length-d.ensures.0)

pub child_at-s-requires : goal.child_at-s-requires
child_at-s-requires c = let P = c.requires in let D = c.loop-s.invariant P.edition P.holds in let S = D.sub in let k = c.kind.ensures ∙ c.read-e.ensures.0 in node_visit _ _ S.path c.loop-s.s _ _ S.lay S.tree S.slot_is (not_leaf _ k c.in_default.not-Leaf) (not_prefix _ k c.in_default.not-Prefix) (sym k) (sym c.read-e.ensures.1)

pub overflow_add-d-in_default : goal.overflow_add-d-in_default
overflow_add-d-in_default c =
    let P = c.requires in let D = c.loop-s.invariant P.edition P.holds in let S = D.sub in let k = c.kind.ensures ∙ c.read-e.ensures.0 in let m = S.lawful.fields.words in
    let W = node_below _ S.lawful _ S.path c.loop-s.s c.loop-s.d c.read-e.result.place (number_of c.kind.result) c.child_at-s.result.slot S.lay S.bytes S.deep S.inside S.tree S.slot_is
    (not_leaf _ k c.in_default.not-Leaf) (not_prefix _ k c.in_default.not-Prefix) (sym k) (sym c.read-e.ensures.1) (λ ks A R. (c.child_at-s.ensures.1 ks A R).1) in
    let w = W.sub.short in omega arith

pub loop-s-smaller : goal.loop-s-smaller
loop-s-smaller c =
    let P = c.requires in let D = c.loop-s.invariant P.edition P.holds in let S = D.sub in let k = c.kind.ensures ∙ c.read-e.ensures.0 in let m = S.lawful.fields.words in
    let W = node_below _ S.lawful _ S.path c.loop-s.s c.loop-s.d c.read-e.result.place (number_of c.kind.result) c.child_at-s.result.slot S.lay S.bytes S.deep S.inside S.tree S.slot_is
    (not_leaf _ k c.in_default.not-Leaf) (not_prefix _ k c.in_default.not-Prefix) (sym k) (sym c.read-e.ensures.1) (λ ks A R. (c.child_at-s.ensures.1 ks A R).1) in
    let w = W.sub.short in omega arith

pub loop-s-preserved : goal.loop-s-preserved
loop-s-preserved c = λ E H.
    let D = c.loop-s.invariant E H in let S = D.sub in let k = c.kind.ensures ∙ c.read-e.ensures.0 in
    down_to D (node_below _ S.lawful _ S.path c.loop-s.s c.loop-s.d c.read-e.result.place (number_of c.kind.result) c.child_at-s.result.slot S.lay S.bytes S.deep S.inside S.tree S.slot_is
    (not_leaf _ k c.in_default.not-Leaf) (not_prefix _ k c.in_default.not-Prefix) (sym k) (sym c.read-e.ensures.1) (λ ks A R. (c.child_at-s.ensures.1 ks A R).1))
