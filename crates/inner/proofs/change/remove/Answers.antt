-- By kind. Assumes nothing.
use mathlib.Core.Path.{refl}
use native.Mathlib.Omega.{arith}
use Rattle.layout.proofs.KindLaws.{last_inner}
use Rattle.inner.proofs.DispatchLaws.{has_sorted, has_48, has_256, removed_sorted, removed_48, removed_256}
use Rattle.inner.proofs.change.remove.Goals as goal

pub remove-requires : goal.remove-requires
remove-requires c = has_sorted (omega arith) (rw c.in-Node4.is at c.requires)

pub returns-in-Node4 : goal.returns-in-Node4
returns-in-Node4 c = let I = c.remove.ensures in rw c.in-Node4.is (removed_sorted (omega arith) (omega arith) I.0 I.1)

pub remove-requires-in-Node16 : goal.remove-requires-in-Node16
remove-requires-in-Node16 c = has_sorted (omega arith) (rw c.in-Node16.is at c.requires)

pub returns-in-Node16 : goal.returns-in-Node16
returns-in-Node16 c = let I = c.remove-in-Node16.ensures in rw c.in-Node16.is (removed_sorted (omega arith) (omega arith) I.0 I.1)

pub remove-requires-in-Node48 : goal.remove-requires-in-Node48
remove-requires-in-Node48 c = has_48 (rw c.in-Node48.is at c.requires) refl

pub returns-in-Node48 : goal.returns-in-Node48
returns-in-Node48 c = let I = c.remove-in-Node48.ensures in rw c.in-Node48.is (removed_48 refl I.0 I.1 I.2)

pub remove-requires-in_default : goal.remove-requires-in_default
remove-requires-in_default c =
    has_256 (rw (last_inner c.args.kind c.requires.node.range c.in_default.not-Node4 c.in_default.not-Node16 c.in_default.not-Node48) at c.requires) refl

pub returns-in_default : goal.returns-in_default
returns-in_default c =
    let I = c.remove-in_default.ensures in rw (last_inner c.args.kind c.requires.node.range c.in_default.not-Node4 c.in_default.not-Node16 c.in_default.not-Node48) (removed_256 refl I.0 I.1)
