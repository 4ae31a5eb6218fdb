-- The child's field is 0 after it, and the count is one less. Assumes nothing.
use native.Mathlib.Omega.{arith}
use Rattle.node.proofs.KidsLaws.{length_remove}
use Rattle.node_big.proofs.Laws256.{remove256, has256}
use Rattle.node_big.proofs.node256.remove.Goals as goal

pub overflow_sub-n : goal.overflow_sub-n
overflow_sub-n c =
    let l = length_remove c.args.b c.requires.kids c.requires.has in
    omega (arith, c.requires.node.count)

pub returns : goal.returns
returns c =
    let W = c.write.ensures in let l = length_remove c.args.b c.requires.kids c.requires.has in
    (W.only, λ ks N. remove256 ks N (omega arith) W (omega (arith, c.requires.node.count)) (has256 c.args.b c.requires.kids ks (omega arith) c.requires.node N c.requires.has))
