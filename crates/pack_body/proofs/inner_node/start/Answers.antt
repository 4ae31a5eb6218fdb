-- The count over zeros. Assumes nothing.
use native.Mathlib.Omega.{arith}
use Rattle.layout.specs.Kind.{number_of}
use Rattle.layout.proofs.KindLaws.{size_least}
use Rattle.pack_body.proofs.NodeLaws.{node_started}
use Rattle.pack_body.proofs.inner_node.start.Goals as goal

pub set_count-requires : goal.set_count-requires
set_count-requires c = let P = c.requires in omega (arith, size_least (number_of c.args.kind) (omega arith) (omega arith))

pub returns : goal.returns
returns c = let P = c.requires in node_started (P.0, P.1) P.2 P.3 c.set_count.ensures
