-- The byte's place is closed among the bytes, then among the children; then the count. Assumes nothing.
use Prim.Native.Nat.{◌+◌}
use native.Mathlib.Omega.{arith}
use mathlib.Core.Path.{◌≡◌, ◌∙◌, sym}
use Rattle.layout.proofs.NumberLaws.{le1}
use Rattle.node.proofs.SortedLaws.{sorted_row, sorted_remove, has_place, three}
use Rattle.node.proofs.sorted.remove.Goals as goal

pub close-requires-clause-order : goal.close-requires-clause-order
close-requires-clause-order g c =
    let w = has_place c.requires c.count-n.ensures.0 (rw c.BYTES.ensures at c.place-p.ensures.1) in
    omega arith

pub close-requires-2-clause-order : goal.close-requires-2-clause-order
close-requires-2-clause-order g c =
    let w = has_place c.requires c.count-n.ensures.0 (rw c.BYTES.ensures at c.place-p.ensures.1) in
    omega arith

pub overflow_sub-n : goal.overflow_sub-n
overflow_sub-n g c =
    let w = has_place c.requires c.count-n.ensures.0 (rw c.BYTES.ensures at c.place-p.ensures.1) in
    omega arith

pub returns : goal.returns
returns g c =
    let E = c.set_count.ensures in let B = c.close-2.ensures in let A = rw c.BYTES.ensures at c.close.ensures in let R = rw c.BYTES.ensures at c.place-p.ensures in let n = c.count-n.ensures.0 in let a = c.args in let p = c.requires in let w = has_place p n R.1 in
    let K = g.K.Ascending in
    let few = p.node.few in
    let count = p.node.count in
    let k : a.o + c.CHILDREN.result ≡ a.o + K.BYTES + K.places = omega (arith, K.behind) in
    let B' = rw k at B in (
      three a.o K.BYTES K.places _ A.closed.rest B'.closed.rest E p.node.head (omega arith) (omega arith) (omega arith) (omega arith),
      λ ks N. sorted_remove a.b ks N (R.1 ks (sorted_row N) (n ∙ N.count)) (n ∙ N.count) p.caps w (A.closed, sym (le1 _ _) ∙ A.zero) (B'.closed, B'.zero) E,
    )
