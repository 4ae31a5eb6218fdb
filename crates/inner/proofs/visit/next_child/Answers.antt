-- By kind. Assumes nothing.
use mathlib.Core.Path.{refl}
use native.Mathlib.Omega.{arith}
use Rattle.layout.proofs.KindLaws.{last_inner}
use Rattle.inner.proofs.InnerLaws.{as_sorted}
use Rattle.inner.proofs.DispatchLaws.{some_sorted}
use Rattle.inner.proofs.visit.next_child.Goals as goal

pub next-requires : goal.next-requires
next-requires c = some_sorted (omega arith) (rw c.in-Node4.is at c.requires.0)

pub returns-in-Node4 : goal.returns-in-Node4
returns-in-Node4 c = rw c.in-Node4.is (λ ks N. c.next.ensures ks (as_sorted N (omega arith)))

pub next-requires-in-Node16 : goal.next-requires-in-Node16
next-requires-in-Node16 c = some_sorted (omega arith) (rw c.in-Node16.is at c.requires.0)

pub returns-in-Node16 : goal.returns-in-Node16
returns-in-Node16 c = rw c.in-Node16.is (λ ks N. c.next-in-Node16.ensures ks (as_sorted N (omega arith)))

pub next-requires-in-Node48 : goal.next-requires-in-Node48
next-requires-in-Node48 c = let P = rw c.in-Node48.is at c.requires.0 in (record { kids = P.kids; node = P.node.six refl }, c.requires.1)

pub returns-in-Node48 : goal.returns-in-Node48
returns-in-Node48 c = rw c.in-Node48.is (λ ks N. c.next-in-Node48.ensures ks (N.six refl))

pub next-requires-in_default : goal.next-requires-in_default
next-requires-in_default c =
    let P = rw (last_inner c.args.kind c.requires.0.node.range c.in_default.not-Node4 c.in_default.not-Node16 c.in_default.not-Node48) at c.requires.0 in (record { kids = P.kids; node = P.node.seven refl }, c.requires.1)

pub returns-in_default : goal.returns-in_default
returns-in_default c =
    rw (last_inner c.args.kind c.requires.0.node.range c.in_default.not-Node4 c.in_default.not-Node16 c.in_default.not-Node48) (λ ks N. c.next-in_default.ensures ks (N.seven refl))
