-- `plain_good` decides that a key of edition 1 is legal and begins with the path, with LeafLaws at each exit. Assumes nothing.
use native.Mathlib.Omega.{arith}
use Rattle.shape.proofs.LeafLaws.{plain_by}
use Rattle.pieces.proofs.DecideLaws.{passed}
use Rattle.shape.proofs.leaf.plain_good.Goals as goal

pub returns-then-k-lt-HALF : goal.returns-then-k-lt-HALF
returns-then-k-lt-HALF c = let a = c.args in let l = c.min in plain_by a.f.now a.e a.k a.path.now c.requires l.result (omega arith) (omega arith) (λ i x y. omega arith) (passed c.ends.ensures c.if-not-ends.false-raw) (passed c.same.ensures c.if-not-same.false-raw) c.no_zero.ensures

pub returns : goal.returns
returns c = let a = c.args in let l = c.min in plain_by a.f.now a.e a.k a.path.now c.requires l.result (omega arith) (omega arith) (λ i x y. omega arith) (passed c.ends.ensures c.if-not-ends.false-raw) (passed c.same.ensures c.if-not-same.false-raw) c.full_by.ensures
