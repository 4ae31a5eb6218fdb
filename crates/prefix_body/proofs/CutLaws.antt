-- A Prefix cut in two: without its first byte; its last bytes in another body; its first bytes alone. Assumes nothing.
use Prim.Native.Nat.{ℕ, ◌+◌, ◌-◌, ◌<◌, ◌≤◌}
use mathlib.Core.Path.{◌≡◌, sym, ap, ◌∙◌}
use mathlib.Core.List.{List}
use mathlib.Core.Logic.{⊎_elim, inl, inr}
use native.Mathlib.Omega.{arith}
use native.Mathlib.Decide.{dec_lt}
use lib.ListN.{length, take, drop, length-drop}
use lib.Seq.{length-take-le, get_or-take, get_or-drop}
use Rattle.layout.specs.Number.{byte_at, le, put}
use Rattle.layout.specs.Place.{prefix_child, prefix_length, prefix_zero, prefix_bytes}
use Rattle.layout.proofs.NumberLaws.{le_put}
use Rattle.model.specs.Body.{PrefixAt}
use Rattle.model.proofs.UniqueLaws.{prefix_unique}
use Rattle.moves.specs.Moved.{Only, Moved, Cleared, Closed}
use Rattle.moves.proofs.MoveLaws.{only_put, only_then, keeps_outside}
use Rattle.room.proofs.HeapLaws.{le_below, le_above}
use Rattle.between.proofs.BodyLaws.{prefix_keeps}
use Rattle.prefix_body.specs.Prefix.{PrefixWritten, Longer, Shortened, Elsewhere}
use Rattle.prefix_body.proofs.PrefixLaws.{prefix_law}

-- ---- without its first byte

module _ {f f1 g : List ℕ} (o n : ℕ) (L : Longer f o 1) (en : n ≡ le 2 f (o + prefix_length)) (M : Closed f f1 (o + 16) (o + 16 + n) 1 × (byte_at f1 (o + 16 + n - 1) ≡ 0)) (eg : g ≡ put 2 f1 (o + prefix_length) (n - 1)) where
  O1 : Only f f1 (o + 16) (o + 16 + n)
  O1 = M.0.rest

  O2 : Only f1 g (o + prefix_length) (o + prefix_length + 2)
  O2 = rw eg (only_put 2 f1 (o + prefix_length) (n - 1))

  fits : (o + 128 ≤ length f) × (1 < n) × (n ≤ 112)
  fits = let P = L.at in let m = L.more in (P.room, omega (arith, P.long), omega (arith, P.long, P.most))

  only : Only f g o (o + 128)
  only =
      let l1 = O1.size in
      let l2 = O2.size in
      let l = fits in
      only_then o (o + 128) O1 O2 (omega arith) (omega arith) (omega arith) (omega arith)

  pub first_dropped : Shortened f g o 1
  first_dropped =
      record {
        only = only;
        at = λ p c P l.
            let z : n ≡ length p = en ∙ P.long in
            let d = length-drop 1 p in
            let s = only.size in
            let s1 = O1.size in
            let m = fits in
            record {
              room = omega arith;
              some = omega arith;
              most = omega arith;
              child = le_below 4 (o + prefix_child) O2 (omega arith) ∙ le_below 4 (o + prefix_child) O1 (omega arith) ∙ P.child;
              long = ap (λ x. le 2 x (o + prefix_length)) eg ∙ le_put 2 f1 (o + prefix_length) (n - 1) (omega arith) (omega arith) ∙ omega arith;
              zeros = λ i h. O2.above (o + prefix_zero + i) (omega arith) ∙ O1.below (o + prefix_zero + i) (omega arith) ∙ P.zeros i h;
              text = λ i h.
                  O2.above (o + prefix_bytes + i) (omega arith) ∙ M.0.low (o + prefix_bytes + i) (o + prefix_bytes + (1 + i)) (omega arith) (omega arith) (omega arith) ∙ P.text (1 + i) (omega arith) ∙ sym (get_or-drop 1 p i 0);
              rest = λ i h.
                  let a = o + prefix_bytes + length (drop 1 p) + i in
                  O2.above a (omega arith) ∙ elim (dec_lt a (o + 16 + n)) [
                    | yes y ↦ ap (byte_at f1) (omega arith) ∙ M.1
                    | no y ↦ O1.above a (omega arith) ∙ ap (byte_at f) (omega arith) ∙ P.rest (length (drop 1 p) + i - n) (omega arith)
                  ];
            };
      }

-- ---- its last bytes in another body

module _ {f f1 f2 f3 g : List ℕ} (o from q left child : ℕ) (A : Longer f from q × (o + 128 ≤ length f) × Elsewhere o from) (el : left ≡ le 2 f (from + prefix_length) - q) (ec : child ≡ le 4 f (from + prefix_child))
    (low : child < 4294967296) (C : Cleared f f1 o 128) (e2 : f2 ≡ put 4 f1 (o + prefix_child) child) (e3 : f3 ≡ put 2 f2 (o + prefix_length) left) (M : Moved f3 g (from + 16 + q) (o + 16) left) where
  O123 : Only f f3 o (o + 128)
  O123 =
      let O2 : Only f1 f2 (o + prefix_child) (o + prefix_child + 4) = rw e2 (only_put 4 f1 (o + prefix_child) child) in
      let O3 : Only f2 f3 (o + prefix_length) (o + prefix_length + 2) = rw e3 (only_put 2 f2 (o + prefix_length) left) in
      let l1 = C.rest.size in
      let l2 = O2.size in
      only_then o (o + 128) (only_then o (o + 128) C.rest O2 (omega arith) (omega arith) (omega arith) (omega arith)) O3 (omega arith) (omega arith) (omega arith) (omega arith)

  moved : (p : List ℕ) (c : ℕ) → PrefixAt f from p c → PrefixWritten f g o (drop q p) c
  moved p c P =
      let P3 = prefix_keeps from p c (keeps_outside from (from + 128) O123 (⊎_elim (λ x. inr (omega arith)) (λ x. inl (omega arith)) A.2)) P in
      let L = A.0 in
      let u = (prefix_unique f from p L.bytes c L.below P L.at).0 in
      let d = length-drop q p in
      let m = L.more in
      let l : left ≡ length (drop q p) = omega (arith, P.long, ap length u) in
      let e : child ≡ c = ec ∙ P.child in
      let W : PrefixWritten f g o (drop q p) child =
      prefix_law o child (drop q p) A.1 (omega (arith, ap length u)) (omega (arith, P.most)) low C e2 (e3 ∙ ap (put 2 f2 (o + prefix_length)) l)
      (record {
        only = rw (← l) M.rest;
        text = λ a i h ea. M.inside a (from + prefix_bytes + (q + i)) (omega arith) (omega arith) (omega arith) ∙ P3.text (q + i) (omega (arith, ap length u)) ∙ sym (get_or-drop q p i 0);
      }) in
      rw e at W

  pub tail_moved : Only f g o (o + 128) × ((p : List ℕ) (c : ℕ) → PrefixAt f from p c → PrefixAt g o (drop q p) c)
  tail_moved = ((moved A.0.bytes A.0.below A.0.at).only, λ p c P. (moved p c P).at)

-- ---- its first bytes alone

module _ {f f1 f2 g : List ℕ} (o q n child : ℕ) (A : Longer f o q × (1 ≤ q) × (child < 4294967296)) (en : n ≡ le 2 f (o + prefix_length)) (C : Cleared f f1 (o + 16 + q) (n - q)) (e2 : f2 ≡ put 2 f1 (o + prefix_length) q)
    (eg : g ≡ put 4 f2 (o + prefix_child) child) where
  K2 : Only f1 f2 (o + prefix_length) (o + prefix_length + 2)
  K2 = rw e2 (only_put 2 f1 (o + prefix_length) q)

  K3 : Only f2 g (o + prefix_child) (o + prefix_child + 4)
  K3 = rw eg (only_put 4 f2 (o + prefix_child) child)

  few : (o + 128 ≤ length f) × (q < n) × (n ≤ 112)
  few = let P = A.0.at in let m = A.0.more in (P.room, omega (arith, P.long), omega (arith, P.long, P.most))

  kept_only : Only f g o (o + 128)
  kept_only =
      let l1 = C.rest.size in
      let l2 = K2.size in
      let l = few in
      only_then o (o + 128) (only_then o (o + 128) C.rest K2 (omega arith) (omega arith) (omega arith) (omega arith)) K3 (omega arith) (omega arith) (omega arith) (omega arith)

  pub front_kept : Only f g o (o + 128) × ((p : List ℕ) (c : ℕ) → PrefixAt f o p c → PrefixAt g o (take q p) child)
  front_kept = (
    kept_only,
    λ p c P.
        let z : n ≡ length p = en ∙ P.long in
        let m = few in
        let lt : length (take q p) ≡ q = length-take-le q p (omega arith) in
        let one = A.1 in
        let s = kept_only.size in
        let s1 = C.rest.size in
        let s2 = K2.size in
        let up : (a : ℕ) → o + prefix_length + 2 ≤ a → byte_at g a ≡ byte_at f1 a = λ a l. K3.above a (omega arith) ∙ K2.above a l in
        record {
          room = omega arith;
          some = omega arith;
          most = omega arith;
          child = ap (λ x. le 4 x (o + prefix_child)) eg ∙ le_put 4 f2 (o + prefix_child) child (omega arith) A.2;
          long = le_above 2 (o + prefix_length) K3 (omega arith) ∙ ap (λ x. le 2 x (o + prefix_length)) e2 ∙ le_put 2 f1 (o + prefix_length) q (omega arith) (omega arith) ∙ sym lt;
          zeros = λ i h. up (o + prefix_zero + i) (omega arith) ∙ C.rest.below (o + prefix_zero + i) (omega arith) ∙ P.zeros i h;
          text = λ i h. up (o + prefix_bytes + i) (omega arith) ∙ C.rest.below (o + prefix_bytes + i) (omega arith) ∙ P.text i (omega arith) ∙ sym (get_or-take q p i 0 (omega arith));
          rest = λ i h.
              let a = o + prefix_bytes + length (take q p) + i in
              up a (omega arith) ∙ elim (dec_lt a (o + 16 + n)) [
                | yes y ↦ C.zeros a (omega arith) (omega arith)
                | no y ↦ C.rest.above a (omega arith) ∙ ap (byte_at f) (omega arith) ∙ P.rest (q + i - n) (omega arith)
              ];
        },
  )
