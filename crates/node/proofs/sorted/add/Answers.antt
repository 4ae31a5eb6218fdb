-- The bytes are opened at the rank, then the children; then the count. Assumes nothing.
use Prim.Native.Nat.{◌+◌}
use native.Mathlib.Omega.{arith}
use mathlib.Core.Path.{◌≡◌, ◌∙◌, sym}
use Rattle.layout.proofs.NumberLaws.{le1}
use Rattle.moves.proofs.MoveLaws.{only_none}
use Rattle.node.proofs.SortedLaws.{sorted_row, sorted_insert, three}
use Rattle.node.proofs.sorted.add.Goals as goal

pub returns : goal.returns
returns g c =
    let E = c.set_count.ensures in let B = c.open-2.ensures in let A = rw c.BYTES.ensures at c.open.ensures in let R = rw c.BYTES.ensures at c.rank-p.ensures in let n = c.count-n.ensures.0 in let a = c.args in let p = c.requires in let w = R.0 in
    let K = g.K.Ascending in
    let few = p.0.few in
    let k : a.o + c.CHILDREN.result ≡ a.o + K.BYTES + K.places = omega (arith, K.behind) in
    let B' = rw k at B in (
      three a.o K.BYTES K.places _ A.opened.rest B'.opened.rest E p.0.node.head (omega arith) (omega arith) (omega arith) (omega arith),
      λ ks N z. sorted_insert a.slot ks N (only_none _ _ _) (R.1 ks (sorted_row N) (n ∙ N.count)) w (n ∙ N.count) (omega arith) p.0.caps (omega arith) p.1 (A.opened, sym (le1 _ _) ∙ A.number ∙ c.from.ensures) (B'.opened, B'.number) E z,
    )
