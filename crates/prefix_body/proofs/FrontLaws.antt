-- A Prefix that loses its first bytes: what is left moves down, and zeros follow it. Assumes nothing.
use Prim.Native.Nat.{ℕ, ◌+◌, ◌-◌, ◌<◌, ◌≤◌}
use mathlib.Core.Path.{◌≡◌, sym, ap, ◌∙◌}
use mathlib.Core.List.{List}
use native.Mathlib.Omega.{arith}
use native.Mathlib.Decide.{dec_lt}
use lib.ListN.{length, drop, length-drop}
use lib.Seq.{get_or-drop}
use Rattle.layout.specs.Number.{byte_at, le, put}
use Rattle.layout.specs.Place.{prefix_child, prefix_length, prefix_zero, prefix_bytes}
use Rattle.layout.proofs.NumberLaws.{le_put}
use Rattle.moves.specs.Moved.{Only, Moved, Cleared}
use Rattle.moves.proofs.MoveLaws.{only_put, only_then}
use Rattle.room.proofs.HeapLaws.{le_below}
use Rattle.prefix_body.specs.Prefix.{Shortened}

module _ {f f1 f2 g : List ℕ} (o q n left at : ℕ) (en : n ≡ le 2 f (o + prefix_length)) (el : left ≡ n - q) (ea : at ≡ o + 16) (few : q ≤ n) (most : n ≤ 112) (fits : o + 128 ≤ length f) (M : Moved f f1 (at + q) at left)
    (C : Cleared f1 f2 (at + left) q) (eg : g ≡ put 2 f2 (o + prefix_length) left) where
  O3 : Only f2 g (o + prefix_length) (o + prefix_length + 2)
  O3 = rw eg (only_put 2 f2 (o + prefix_length) left)

  low : (a : ℕ) → a < o + prefix_bytes → byte_at f2 a ≡ byte_at f a
  low a l = C.rest.below a (omega arith) ∙ M.rest.below a (omega arith)

  high : (a : ℕ) → o + prefix_bytes + n ≤ a → byte_at g a ≡ byte_at f a
  high a l = O3.above a (omega arith) ∙ C.rest.above a (omega arith) ∙ M.rest.above a (omega arith)

  only : Only f g o (o + 128)
  only =
      let l1 = M.rest.size in
      let l2 = C.rest.size in
      let l3 = O3.size in
      only_then o (o + 128) (only_then o (o + 128) M.rest C.rest (omega arith) (omega arith) (omega arith) (omega arith)) O3 (omega arith) (omega arith) (omega arith) (omega arith)

  pub shortened : Shortened f g o q
  shortened =
      record {
        only = only;
        at = λ p c P l.
            let z : n ≡ length p = en ∙ P.long in
            let d = length-drop q p in
            let s = only.size in
            let s2 : length f2 ≡ length f = C.rest.size ∙ M.rest.size in
            record {
              room = omega arith;
              some = omega arith;
              most = omega (arith, P.most);
              child = le_below 4 (o + prefix_child) O3 (omega arith) ∙ le_below 4 (o + prefix_child) C.rest (omega arith) ∙ le_below 4 (o + prefix_child) M.rest (omega arith) ∙ P.child;
              long = ap (λ x. le 2 x (o + prefix_length)) eg ∙ le_put 2 f2 (o + prefix_length) left (omega arith) (omega arith) ∙ omega arith;
              zeros = λ i h. O3.above (o + prefix_zero + i) (omega arith) ∙ low (o + prefix_zero + i) (omega arith) ∙ P.zeros i h;
              text = λ i h.
                  O3.above (o + prefix_bytes + i) (omega arith) ∙ C.rest.below (o + prefix_bytes + i) (omega arith)
                  ∙ M.inside (o + prefix_bytes + i) (o + prefix_bytes + (q + i)) (omega arith) (omega arith) (omega arith) ∙ P.text (q + i) (omega arith) ∙ sym (get_or-drop q p i 0);
              rest = λ i h. elim (dec_lt (length (drop q p) + i) n) [
                | yes y ↦ O3.above (o + prefix_bytes + length (drop q p) + i) (omega arith) ∙ C.zeros (o + prefix_bytes + length (drop q p) + i) (omega arith) (omega arith)
                | no y ↦
                    let j = length (drop q p) + i - n in
                    high (o + prefix_bytes + length (drop q p) + i) (omega arith)
                    ∙ ap (byte_at f) (omega arith) ∙ P.rest j (omega arith)
              ];
            };
      }
