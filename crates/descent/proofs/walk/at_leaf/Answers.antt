-- `at_leaf` ends at the Leaf: the part of the frame that is compared is the Leaf's key. Assumes nothing.
use Prim.Native.Nat.{◌+◌, ◌-◌, ◌<◌}
use mathlib.Core.Path.{refl, sym, ◌∙◌}
use native.Mathlib.Omega.{arith}
use lib.ListN.{length}
use Rattle.descent.proofs.SeatLaws.{leaf_part, leaf_shares}
use Rattle.descent.proofs.StepLaws.{leaf_found, leaf_other}
use Rattle.descent.proofs.walk.at_leaf.Goals as goal

pub returns-then-stands_at : goal.returns-then-stands_at
returns-then-stands_at c =
    let x = c.extent-from in let n = c.key_length-n in let p = leaf_part _ c.requires x.result n.result n.result x.ensures.0 n.ensures.0 refl in
    rw c.ended.ensures (leaf_found _ c.requires (sym p ∙ c.stands_at.ensures.holds c.if-stands_at.true))

pub shared_from-q-requires : goal.shared_from-q-requires
shared_from-q-requires c =
    let A = c.requires in let x = c.extent-from in let n = c.key_length-n in let part = leaf_part _ A x.result n.result (x.result + n.result - x.result) x.ensures.0 n.ensures.0 (omega arith) in
    let long : length A.key < 65536 = omega (arith, A.at.at.key_length, n.ensures.0) in
    (omega (arith, A.lawful.fields.keys _ A.legal), rw part long, rw part (leaf_shares _ A))

pub returns : goal.returns
returns c =
    let x = c.extent-from in let n = c.key_length-n in let h = c.stands_at in let q = c.shared_from-q in let own = leaf_part _ c.requires x.result n.result n.result x.ensures.0 n.ensures.0 refl in
    let part = leaf_part _ c.requires x.result n.result (x.result + n.result - x.result) x.ensures.0 n.ensures.0 (omega arith) in
    rw c.ended-2.ensures (leaf_other _ c.requires q.result (λ e. h.ensures.fails c.if-stands_at.false (own ∙ e)) (rw part at q.ensures))
