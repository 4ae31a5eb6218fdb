-- Every byte passed is below `from`. Assumes nothing.
use borrow.Author.Count.{below_more}
use Rattle.node.proofs.SortedLaws.{next_in, next_out}
use Prim.Native.Nat.{◌<◌}
use native.Mathlib.Omega.{arith}
use lib.ListN.{length}
use Rattle.node.proofs.sorted.next.Goals as goal

pub returns-then-from-byte : goal.returns-then-from-byte
returns-then-from-byte g c =
    let l = c.loop-i in let n = c.count-i-end.ensures.0 in let K = g.K.Ascending in let r = rw c.BYTES.ensures at c.byte-byte.ensures.0 in λ ks N.
    let h : l.i < length ks = omega (arith, N.count) in
    let e = next_in l.i ks N K.behind h l.invariant c.if-from-byte.true r (omega arith) c.child-slot.ensures.0 in
    (c.byte-byte.ensures.1, e.0, e.1)

pub loop-i-preserved : goal.loop-i-preserved
loop-i-preserved g c = let r = rw c.BYTES.ensures at c.byte-byte.ensures.0 in below_more _ _ c.loop-i.invariant (omega (arith, c.if-from-byte.false))

pub returns : goal.returns
returns g c =
    let n = c.count-i-end.ensures.0 in λ ks N. next_out c.loop-i.i ks N (omega (arith, N.count)) c.loop-i.invariant
