-- `indexed_good` decides the body of a Node48; the loop's invariant is `Marked`, with IndexedLaws at each exit. Assumes nothing.
use native.Mathlib.Omega.{arith}
use Rattle.pieces.proofs.DecideLaws.{denied, passed}
use Rattle.shape_inner.proofs.IndexedLaws.{marked_none, marked_more, marked_count, marked_end}
use Rattle.shape_inner.proofs.indexed_good.Goals as goal

pub loop-b-init : goal.loop-b-init
loop-b-init c = let a = c.args in marked_none a.f.now a.o

pub loop-b-preserved : goal.loop-b-preserved
loop-b-preserved c = let a = c.args in rw (c.in_use-used.ensures.0, c.entry-p.ensures.0) (marked_more a.f.now a.o c.loop-b.b c.loop-b.seen c.loop-b.twice c.loop-b.used c.loop-b.invariant (λ k. omega (arith, c.type_inv.f k)) (omega arith))

pub returns-then-used-n : goal.returns-then-used-n
returns-then-used-n c = let a = c.args in denied (marked_count a.f.now a.o c.loop-b.b c.loop-b.seen c.loop-b.twice c.loop-b.used c.loop-b.invariant a.n (omega arith) c.if-used-n.true)

pub returns : goal.returns
returns c = let a = c.args in marked_end a.f.now a.o c.loop-b.b c.loop-b.seen c.loop-b.twice c.loop-b.used c.loop-b.invariant a.n (omega arith) (λ k. omega (arith, c.type_inv.f k)) c.if-twice-ne0.false c.if-used-n.false (passed c.all_zero.ensures c.if-not-all_zero.false-raw) c.unmarked.ensures
