-- By kind. Assumes nothing.
use mathlib.Core.Path.{refl}
use native.Mathlib.Omega.{arith}
use Rattle.layout.proofs.KindLaws.{last_inner}
use Rattle.node.specs.Kids.{place_of}
use Rattle.inner.proofs.InnerLaws.{as_sorted, link_is_sorted, link_is_48, link_is_256}
use Rattle.inner.proofs.DispatchLaws.{some_sorted}
use Rattle.inner.proofs.look.seat.Goals as goal

pub seat-requires : goal.seat-requires
seat-requires c = some_sorted (omega arith) (rw c.in-Node4.is at c.requires)

pub returns-in-Node4 : goal.returns-in-Node4
returns-in-Node4 c =
    let a = c.args in rw c.in-Node4.is (λ ks N. let S = c.seat.ensures ks (as_sorted N (omega arith)) in (S.0, link_is_sorted a.f.now a.o 4 (place_of a.b ks) a.b (omega arith) (omega (arith, S.1))))

pub seat-requires-in-Node16 : goal.seat-requires-in-Node16
seat-requires-in-Node16 c = some_sorted (omega arith) (rw c.in-Node16.is at c.requires)

pub returns-in-Node16 : goal.returns-in-Node16
returns-in-Node16 c =
    let a = c.args in rw c.in-Node16.is (λ ks N. let S = c.seat-in-Node16.ensures ks (as_sorted N (omega arith)) in (S.0, link_is_sorted a.f.now a.o 5 (place_of a.b ks) a.b (omega arith) (omega (arith, S.1))))

pub seat-requires-in-Node48 : goal.seat-requires-in-Node48
seat-requires-in-Node48 c = let P = rw c.in-Node48.is at c.requires in record { kids = P.kids; node = P.node.six refl }

pub returns-in-Node48 : goal.returns-in-Node48
returns-in-Node48 c =
    let a = c.args in rw c.in-Node48.is (λ ks N. (c.seat-in-Node48.ensures.0 ks (N.six refl), link_is_48 a.f.now a.o 6 (place_of a.b ks) a.b refl c.seat-in-Node48.ensures.1))

pub seat-requires-in_default : goal.seat-requires-in_default
seat-requires-in_default c =
    let P = rw (last_inner c.args.kind c.requires.node.range c.in_default.not-Node4 c.in_default.not-Node16 c.in_default.not-Node48) at c.requires in record { kids = P.kids; node = P.node.seven refl }

pub returns-in_default : goal.returns-in_default
returns-in_default c =
    let a = c.args in rw (last_inner c.args.kind c.requires.node.range c.in_default.not-Node4 c.in_default.not-Node16 c.in_default.not-Node48) (λ ks N. (c.seat-in_default.ensures.0 ks (N.seven refl), link_is_256 a.f.now a.o 7 (place_of a.b ks) a.b refl c.seat-in_default.ensures.1))
