-- The loop's invariant: what is told of the lists from here on tells of all. Assumes nothing.
use native.Mathlib.Omega.{arith}
use mathlib.Core.Path.{refl}
use Rattle.census.proofs.FreedLaws.{list_none, lists_bad, lists_more, lists_end}
use Rattle.census.proofs.freed.lists.Goals as goal

pub loop-n-preserved-then-list_head-eq0 : goal.loop-n-preserved-then-list_head-eq0
loop-n-preserved-then-list_head-eq0 c =
    let v = c.loop-n.invariant in (
      v.0,
      v.1,
      λ m r T. v.2 m r (lists_more (list_none (rw c.known-kind.ensures at c.list_head.ensures.0) c.if-list_head-eq0.true v.1) refl (omega arith) refl T),
    )

pub returns-in_err-sums : goal.returns-in_err-sums
returns-in_err-sums c =
    rw c.from_residual.ensures (c.loop-n.invariant.2 _ _ (lists_bad (rw c.known-kind.ensures at c.list.ensures) (omega arith) c.in_err-sums.was))

pub loop-n-preserved : goal.loop-n-preserved
loop-n-preserved c =
    let v = c.loop-n.invariant in (
      omega (arith, v.0, c.list.auto),
      (c.list.ensures.holds _ c.in_ok-sums.was).tally,
      λ m r T. v.2 m r (lists_more (rw c.known-kind.ensures at c.list.ensures) c.in_ok-sums.was (omega arith) refl T),
    )

pub returns : goal.returns
returns c =
    let v = c.loop-n.invariant in v.2 _ _ (lists_end (omega arith) v.1)
