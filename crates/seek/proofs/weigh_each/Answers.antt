-- What is left weighs what the whole weighs. Assumes nothing.
use native.Mathlib.Omega.{arith}
use Rattle.seek.proofs.WeighLaws.{tail_above, tail_below, byte_decides, byte_same}
use Rattle.seek.proofs.weigh_each.Goals as goal

pub returns-then-tail-from : goal.returns-then-tail-from
returns-then-tail-from c = tail_above c.loop-i.invariant (omega arith) (omega arith) (omega arith) (omega arith)

pub returns-then-text-d : goal.returns-then-text-d
returns-then-text-d c = tail_below c.loop-i.invariant (omega arith) (omega arith) (omega arith) (λ h. omega arith)

pub returns-then-x-b : goal.returns-then-x-b
returns-then-x-b c = byte_decides c.loop-i.invariant (omega arith) (omega arith) (omega arith) _ c.cmp.ensures c.if-x-b.true

pub loop-i-preserved : goal.loop-i-preserved
loop-i-preserved c = byte_same c.loop-i.invariant (omega arith) (omega arith) (omega arith) (omega arith)
