-- The tests in turn. Assumes nothing.
use native.Mathlib.Omega.{arith}
use Rattle.pack_body.proofs.NodeLaws.{smallest_4, smallest_16, smallest_48, smallest_256}
use Rattle.pack_body.proofs.inner_node.smallest.Goals as goal

pub returns-then-n-most_children : goal.returns-then-n-most_children
returns-then-n-most_children c = smallest_4 c.args.n (omega arith)

pub returns-then-n-most_children-2 : goal.returns-then-n-most_children-2
returns-then-n-most_children-2 c = smallest_16 c.args.n (omega arith) (omega arith)

pub returns-then-n-most_children-3 : goal.returns-then-n-most_children-3
returns-then-n-most_children-3 c = smallest_48 c.args.n (omega arith) (omega arith)

pub returns : goal.returns
returns c = smallest_256 c.args.n (omega arith)
