-- By kind. Assumes nothing.
use mathlib.Core.Path.{refl}
use native.Mathlib.Omega.{arith}
use Rattle.layout.proofs.KindLaws.{last_inner}
use Rattle.inner.proofs.DispatchLaws.{append_sorted, append_48, append_256}
use Rattle.inner.proofs.carry.append.Goals as goal

pub append-requires : goal.append-requires
append-requires c = let P = rw c.in-Node4.is at c.requires in (omega (arith, P.2), omega (arith, P.3))

pub returns-in-Node4 : goal.returns-in-Node4
returns-in-Node4 c = let a = c.args in rw c.in-Node4.is (append_sorted _ a.o 4 a.i a.b a.slot (omega arith) c.append.ensures)

pub append-requires-in-Node16 : goal.append-requires-in-Node16
append-requires-in-Node16 c = let P = rw c.in-Node16.is at c.requires in (omega (arith, P.2), omega (arith, P.3))

pub returns-in-Node16 : goal.returns-in-Node16
returns-in-Node16 c = let a = c.args in rw c.in-Node16.is (append_sorted _ a.o 5 a.i a.b a.slot (omega arith) c.append-in-Node16.ensures)

pub append-requires-in-Node48 : goal.append-requires-in-Node48
append-requires-in-Node48 c = let P = rw c.in-Node48.is at c.requires in (P.2, P.3)

pub returns-in-Node48 : goal.returns-in-Node48
returns-in-Node48 c = let a = c.args in rw c.in-Node48.is (append_48 _ a.o 6 a.i a.b a.slot refl c.append-in-Node48.ensures)

pub append-requires-in_default : goal.append-requires-in_default
append-requires-in_default c =
    let P = rw (last_inner c.args.kind (c.requires.0, c.requires.1) c.in_default.not-Node4 c.in_default.not-Node16 c.in_default.not-Node48) at c.requires in P.2

pub returns-in_default : goal.returns-in_default
returns-in_default c =
    let a = c.args in rw (last_inner c.args.kind (c.requires.0, c.requires.1) c.in_default.not-Node4 c.in_default.not-Node16 c.in_default.not-Node48) (append_256 _ a.o 7 a.i a.b a.slot refl c.append-in_default.ensures)
