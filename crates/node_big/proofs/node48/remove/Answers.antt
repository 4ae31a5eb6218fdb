-- The byte's entry and its child are 0 after it. Assumes nothing.
use native.Mathlib.Omega.{arith}
use Rattle.node.proofs.KidsLaws.{length_remove}
use Rattle.node_big.proofs.Laws48.{some48, remove48}
use Rattle.node_big.proofs.node48.remove.Goals as goal

pub overflow_sub-n : goal.overflow_sub-n
overflow_sub-n c =
    let l = length_remove c.args.b c.requires.kids c.requires.has in
    omega (arith, c.requires.node.count)

pub write-requires : goal.write-requires
write-requires c =
    let q = some48 c.args.b c.requires.kids c.requires.node (omega arith) (rw c.from.ensures at c.entry-p.ensures.0) c.requires.has in
    (omega arith, q.0, q.1, omega arith, omega arith)

pub returns : goal.returns
returns c =
    let W = c.write.ensures in let q = some48 c.args.b c.requires.kids c.requires.node (omega arith) (rw c.from.ensures at c.entry-p.ensures.0) c.requires.has in
    let l = length_remove c.args.b c.requires.kids c.requires.has in
    (W.only, λ ks N. remove48 ks N (omega arith) W (rw c.from.ensures at c.entry-p.ensures.0) q.0 (omega (arith, c.requires.node.count)), W.other)
