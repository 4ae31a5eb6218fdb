-- `add` has room in the node, or goes to the next kind. Assumes nothing.
use native.Mathlib.Omega.{arith}
use Rattle.put_core.proofs.CoreLaws.{node_fits, node_open, node_full}
use Rattle.put_core.proofs.add.Goals as goal

pub count-requires : goal.count-requires
count-requires c = (node_fits c.requires.holds).0

pub add_child-requires : goal.add_child-requires
add_child-requires c =
    record { edition = c.requires.edition; holds = node_open c.requires.holds c.count.ensures.1 c.most_children.ensures.value (omega arith) }

pub returns-then-count-most_children : goal.returns-then-count-most_children
returns-then-count-most_children c =
    λ E A. c.add_child.ensures E (node_open A c.count.ensures.1 c.most_children.ensures.value (omega arith))

pub grow-requires : goal.grow-requires
grow-requires c =
    record { edition = c.requires.edition; holds = node_full c.requires.holds c.count.ensures.1 c.most_children.ensures.value (λ z. omega arith) }

pub returns : goal.returns
returns c =
    λ E A. c.grow.ensures E (node_full A c.count.ensures.1 c.most_children.ensures.value (λ z. omega arith))
