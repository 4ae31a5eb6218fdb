-- What is left, and what stands above. Assumes nothing.
use native.Mathlib.Omega.{arith}
use Rattle.layout.specs.declared.kind.Kind.TheVariants as kind
use Rattle.erase_join.proofs.KindTests.{kind_met, kind_differs}
use Rattle.erase_join.proofs.PairLaws.{above_of, leaf_bare, leaf_under, other_bare, other_roomy}
use Rattle.erase_join.proofs.join.join.Goals as goal

pub read-child-requires : goal.read-child-requires
read-child-requires c =
    let A = (c.read-l.ensures _ c.requires.holds).entered in (A.some, A.entry)

pub kind-requires : goal.kind-requires
kind-requires c =
    let A = (c.read-l.ensures _ c.requires.holds).entered in let e = c.read-child.ensures.0 in record { low = omega (arith, A.least); high = omega (arith, A.most) }

pub spare-requires : goal.spare-requires
spare-requires c =
    above_of (c.read-l.ensures _ c.requires.holds)

pub up-requires : goal.up-requires
up-requires c =
    record { edition = c.requires.edition; holds = other_bare (c.read-l.ensures _ c.requires.holds) (kind_differs _ kind.Leaf c.ne.ensures c.if-ne.true c.kind.ensures c.read-child.ensures.0) c.spare.ensures c.if-spare-eq0.true }

pub returns-then-spare-eq0 : goal.returns-then-spare-eq0
returns-then-spare-eq0 c =
    λ E P. c.up.ensures E (other_bare (c.read-l.ensures E P) (kind_differs _ kind.Leaf c.ne.ensures c.if-ne.true c.kind.ensures c.read-child.ensures.0) c.spare.ensures c.if-spare-eq0.true)

pub over-requires : goal.over-requires
over-requires c =
    record { edition = c.requires.edition; holds = other_roomy (c.read-l.ensures _ c.requires.holds) (kind_differs _ kind.Leaf c.ne.ensures c.if-ne.true c.kind.ensures c.read-child.ensures.0) c.spare.ensures c.if-spare-eq0.false }

pub returns-then-ne : goal.returns-then-ne
returns-then-ne c =
    λ E P. c.over.ensures E (other_roomy (c.read-l.ensures E P) (kind_differs _ kind.Leaf c.ne.ensures c.if-ne.true c.kind.ensures c.read-child.ensures.0) c.spare.ensures c.if-spare-eq0.false)

pub leaf_up-requires : goal.leaf_up-requires
leaf_up-requires c =
    record { edition = c.requires.edition; holds = leaf_bare (c.read-l.ensures _ c.requires.holds) (kind_met _ kind.Leaf c.ne.ensures c.if-ne.false c.kind.ensures c.read-child.ensures.0) c.if-above-eq0.true }

pub returns-then-above-eq0 : goal.returns-then-above-eq0
returns-then-above-eq0 c =
    λ E P. c.leaf_up.ensures E (leaf_bare (c.read-l.ensures E P) (kind_met _ kind.Leaf c.ne.ensures c.if-ne.false c.kind.ensures c.read-child.ensures.0) c.if-above-eq0.true)

pub leaf_over-requires : goal.leaf_over-requires
leaf_over-requires c =
    record { edition = c.requires.edition; holds = leaf_under (c.read-l.ensures _ c.requires.holds) (kind_met _ kind.Leaf c.ne.ensures c.if-ne.false c.kind.ensures c.read-child.ensures.0) c.if-above-eq0.false }

pub returns : goal.returns
returns c =
    λ E P. c.leaf_over.ensures E (leaf_under (c.read-l.ensures E P) (kind_met _ kind.Leaf c.ne.ensures c.if-ne.false c.kind.ensures c.read-child.ensures.0) c.if-above-eq0.false)
