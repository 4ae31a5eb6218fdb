-- `rising` decides that the bytes ascend: those that are left do, from `low` on, exactly if all do. Assumes nothing.
use native.Mathlib.Omega.{arith}
use Rattle.pieces.proofs.DecideLaws.{granted, denied}
use Rattle.shape_inner.proofs.SortedLaws.{left_more, left_low, left_end}
use Rattle.shape_inner.proofs.rising.Goals as goal

pub returns-then-b-low : goal.returns-then-b-low
returns-then-b-low c = let a = c.args in denied (left_low a.f.now a.at a.cap a.n c.loop-i.i c.loop-i.low (omega arith) c.loop-i.invariant.1 (omega arith))

pub loop-i-preserved : goal.loop-i-preserved
loop-i-preserved c = let a = c.args in (
  omega arith,
  rw c.byte-b.ensures.0 (left_more a.f.now a.at a.cap a.n c.loop-i.i c.loop-i.low (λ k. omega (arith, c.type_inv.f k)) (omega arith) (omega arith) c.loop-i.invariant.1),
)

pub returns : goal.returns
returns c = let a = c.args in granted (left_end a.f.now a.at a.cap a.n c.loop-i.i c.loop-i.low (omega arith) c.loop-i.invariant.1)
