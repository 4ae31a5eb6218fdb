-- One byte and one child written. Assumes nothing.
use Rattle.node.proofs.sorted.append.Goals as goal

pub returns : goal.returns
returns g c = cc
