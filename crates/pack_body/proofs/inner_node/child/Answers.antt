-- One child more. Assumes nothing.
use native.Mathlib.Omega.{arith}
use Rattle.pack_body.proofs.NodeLaws.{child_written}
use Rattle.pack_body.proofs.inner_node.child.Goals as goal

pub returns : goal.returns
returns c = let P = c.requires in child_written (P.0, P.1) P.3 (omega arith) c.append.ensures
