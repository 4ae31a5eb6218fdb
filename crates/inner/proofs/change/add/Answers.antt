-- By kind. Assumes nothing.
use mathlib.Core.Path.{refl}
use native.Mathlib.Omega.{arith}
use Rattle.layout.proofs.KindLaws.{last_inner}
use Rattle.inner.proofs.DispatchLaws.{open_sorted, open_48, open_256, added_sorted, added_48, added_256}
use Rattle.inner.proofs.change.add.Goals as goal

pub add-requires : goal.add-requires
add-requires c = (open_sorted (omega arith) (rw c.in-Node4.is at c.requires.0), c.requires.2)

pub returns-in-Node4 : goal.returns-in-Node4
returns-in-Node4 c = let I = c.add.ensures in rw c.in-Node4.is (added_sorted (omega arith) (omega arith) I.0 I.1)

pub add-requires-in-Node16 : goal.add-requires-in-Node16
add-requires-in-Node16 c = (open_sorted (omega arith) (rw c.in-Node16.is at c.requires.0), c.requires.2)

pub returns-in-Node16 : goal.returns-in-Node16
returns-in-Node16 c = let I = c.add-in-Node16.ensures in rw c.in-Node16.is (added_sorted (omega arith) (omega arith) I.0 I.1)

pub add-requires-in-Node48 : goal.add-requires-in-Node48
add-requires-in-Node48 c = (open_48 (rw c.in-Node48.is at c.requires.0) refl, c.requires.2)

pub returns-in-Node48 : goal.returns-in-Node48
returns-in-Node48 c = let I = c.add-in-Node48.ensures in rw c.in-Node48.is (added_48 refl I.0 I.1 I.2 I.3)

pub add-requires-in_default : goal.add-requires-in_default
add-requires-in_default c =
    (open_256 (rw (last_inner c.args.kind c.requires.0.node.range c.in_default.not-Node4 c.in_default.not-Node16 c.in_default.not-Node48) at c.requires.0) refl, c.requires.1, c.requires.2)

pub returns-in_default : goal.returns-in_default
returns-in_default c =
    let I = c.add-in_default.ensures in rw (last_inner c.args.kind c.requires.0.node.range c.in_default.not-Node4 c.in_default.not-Node16 c.in_default.not-Node48) (added_256 refl I.0 I.1)
