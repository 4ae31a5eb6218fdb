-- By its place, or by the next byte that has a child. Assumes nothing.
use native.Mathlib.Omega.{arith}
use Rattle.inner.proofs.InnerLaws.{as_sorted}
use Rattle.inner.proofs.DispatchLaws.{visit_sorted, is_next, visited}
use Rattle.inner.proofs.visit.child_at.Goals as goal

pub child_at-requires : goal.child_at-requires
child_at-requires c = visit_sorted (omega arith) (rw c.in-Node4.is at c.requires)

pub returns-in-Node4 : goal.returns-in-Node4
returns-in-Node4 c = let I = c.child_at.ensures in rw c.in-Node4.is (I.0, λ ks N R. I.1 ks (as_sorted N (omega arith)))

pub child_at-requires-in-Node16 : goal.child_at-requires-in-Node16
child_at-requires-in-Node16 c = visit_sorted (omega arith) (rw c.in-Node16.is at c.requires)

pub returns-in-Node16 : goal.returns-in-Node16
returns-in-Node16 c = let I = c.child_at-in-Node16.ensures in rw c.in-Node16.is (I.0, λ ks N R. I.1 ks (as_sorted N (omega arith)))

pub unwrap-requires : goal.unwrap-requires
unwrap-requires c = is_next c.requires c.next_child.result c.next_child.ensures

pub returns-in_default : goal.returns-in_default
returns-in_default c = visited c.requires (rw c.unwrap.ensures at c.next_child.ensures)
