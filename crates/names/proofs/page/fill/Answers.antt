-- One law for each way out, and the next entry. Assumes nothing.
use Prim.Native.Nat.{◌+◌, ◌-◌}
use native.Mathlib.Omega.{arith}
use Rattle.names.proofs.EditionLaws.{naming}
use Rattle.names.proofs.PageLaws.{paging_start, paging_count, paging_room, paging_end, head_part, head_tail, head_most, paging_ten, paging_more, paging_on}
use Rattle.names.proofs.page.fill.Goals as goal

pub loop-next-init : goal.loop-next-init
loop-next-init c = paging_start _ (naming _) c.requires.0 c.first-next.ensures

pub returns-then-count-eq0 : goal.returns-then-count-eq0
returns-then-count-eq0 c = let P = rw c.in-Some.is at c.loop-next.invariant in paging_ten P c.if-buffer-used.true c.if-count-eq0.true

pub returns-then-buffer-used : goal.returns-then-buffer-used
returns-then-buffer-used c = let P = rw c.in-Some.is at c.loop-next.invariant in paging_more P c.if-buffer-used.true (λ z. omega arith)

pub overflow_add-count : goal.overflow_add-count
overflow_add-count c =
    let r = paging_room c.loop-next.invariant in
    let n = paging_count c.loop-next.invariant in
    let o = c.if-buffer-used.false in omega arith

pub from_bound-next-requires : goal.from_bound-next-requires
from_bound-next-requires c =
    let P = rw c.in-Some.is at c.loop-next.invariant in let e = c.in-Some.e in
    (P.sub, head_tail P, head_most P (e.at + e.long - e.at) (omega arith), omega (arith, c.requires.3), omega (arith, c.requires.4))

pub loop-next-preserved : goal.loop-next-preserved
loop-next-preserved c =
    let P = rw c.in-Some.is at c.loop-next.invariant in let e = c.in-Some.e in
    let r = paging_room P in
    paging_on P (omega arith) (head_part P (e.at + e.long - e.at) (omega arith)) c.write.ensures c.from_bound-next.ensures

pub returns : goal.returns
returns c = paging_end (rw c.in_default.is at c.loop-next.invariant)
