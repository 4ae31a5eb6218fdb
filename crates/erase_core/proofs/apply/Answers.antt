-- `apply` calls the edit for what is left of the Leaf's node. Assumes nothing.
use mathlib.Core.Path.{refl}
use Rattle.layout.specs.declared.kind.Kind.TheVariants as kinds
use Rattle.erase_join.proofs.KindTests.{kind_is, kind_is_not}
use Rattle.erase_core.proofs.CoreLaws.{node_fits, at_keeps, at_pair, at_mark}
use Rattle.erase_core.proofs.apply.Goals as goal

pub count-requires : goal.count-requires
count-requires c = (node_fits c.requires.holds).0

pub remove_child-requires : goal.remove_child-requires
remove_child-requires c =
    record { edition = c.requires.edition; key = c.args.key.now; holds = at_keeps c.requires.holds c.count.ensures.1 c.shrink_mark.ensures.value c.if-count-shrink_mark.true }

pub returns-then-count-shrink_mark : goal.returns-then-count-shrink_mark
returns-then-count-shrink_mark c =
    λ E P. c.remove_child.ensures E c.args.key.now (at_keeps P c.count.ensures.1 c.shrink_mark.ensures.value c.if-count-shrink_mark.true)

pub join-requires : goal.join-requires
join-requires c =
    record { edition = c.requires.edition; holds = at_pair c.requires.holds c.count.ensures.1 c.shrink_mark.ensures.value c.if-count-shrink_mark.false (kind_is _ kinds.Node4 c.eq.ensures c.if-eq.true refl refl) }

pub returns-then-eq : goal.returns-then-eq
returns-then-eq c =
    λ E P. c.join.ensures E (at_pair P c.count.ensures.1 c.shrink_mark.ensures.value c.if-count-shrink_mark.false (kind_is _ kinds.Node4 c.eq.ensures c.if-eq.true refl refl))

pub shrink-requires : goal.shrink-requires
shrink-requires c =
    record { edition = c.requires.edition; key = c.args.key.now; holds = at_mark c.requires.holds c.count.ensures.1 c.shrink_mark.ensures.value c.if-count-shrink_mark.false (kind_is_not _ kinds.Node4 c.eq.ensures c.if-eq.false refl refl) }

pub returns : goal.returns
returns c =
    λ E P. c.shrink.ensures E c.args.key.now (at_mark P c.count.ensures.1 c.shrink_mark.ensures.value c.if-count-shrink_mark.false (kind_is_not _ kinds.Node4 c.eq.ensures c.if-eq.false refl refl))
