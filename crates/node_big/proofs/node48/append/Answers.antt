-- One entry and one child written. Assumes nothing.
use Rattle.node_big.proofs.node48.append.Goals as goal

pub returns : goal.returns
returns c = cc
