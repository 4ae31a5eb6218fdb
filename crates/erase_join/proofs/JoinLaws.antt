-- What the model makes of a run that the byte of a lone child joins, in every edition. Assumes nothing.
use Prim.Native.Nat.{ℕ, suc, ◌+◌, ◌-◌, ◌<◌, ◌≤◌}
use mathlib.Core.Path.{◌≡◌, refl, sym, ap, ◌∙◌}
use mathlib.Core.List.{List, [], ◌∷◌, ◌++◌, append_assoc, append-nil}
use mathlib.Core.Bool.{true}
use native.Mathlib.Omega.{arith}
use lib.ListN.{length, length-append}
use Rattle.layout.specs.Kind.{leaf_kind, node4_kind}
use Rattle.model.specs.Tree.{Art, Change, Left, is_inner, chain, prefixes, as_prefix, rechained, lone_child, under_prefix}
use Rattle.model.specs.Frame.{Lay, IsNode, art}
use Rattle.model.proofs.StringLaws.{clash}
use Rattle.model.proofs.ChainLaws.{as_some}
use Rattle.model.proofs.OneBody.{node_inner}
use Rattle.chain.specs.Row.{bodies_of, bytes_of, tip_of}
use Rattle.chain.specs.Shift.{lacks}
use Rattle.erase_join.specs.declared.lone.Lone.{Lone}
use Rattle.erase_join.proofs.SiteLaws.{leaves, lost}

lone_run : (b : ℕ) (p : List ℕ) (a : Art) (c : Change Left) → is_inner a ≡ true → lone_child b (as_prefix p a) c ≡ rechained (chain (length p)) (chain (suc (length p))) (Art.prefix (b ∷ p) a) c
lone_run b (x ∷ p) a c i = refl
lone_run b [] (Art.leaf k v) c i = clash (cc)
lone_run b [] (Art.prefix q a) c i = clash (cc)
lone_run b [] (Art.node kind ks) c i = refl

under_run : (p : List ℕ) (b : ℕ) (q : List ℕ) (a : Art) (c : Change Left) → is_inner a ≡ true
    → under_prefix p b (as_prefix q a) c ≡ rechained (chain (length p) + chain (length q)) (chain (length p + suc (length q))) (Art.prefix (p ++ b ∷ q) a) c
under_run p b (x ∷ q) a c i = refl
under_run p b [] (Art.leaf k v) c i = clash (cc)
under_run p b [] (Art.prefix q a) c i = clash (cc)
under_run p b [] (Art.node kind ks) c i = ap (λ n. rechained n (chain (length p + 1)) (Art.prefix (p ++ b ∷ []) (Art.node kind ks)) c) (omega arith)

-- a run of bytes p above the inner node a is left
module _ (l : Lone) (u lay : Lay) (d : ℕ) (eu : art u ≡ as_prefix (bytes_of u) (art (tip_of u))) (i : IsNode (tip_of u)) where
  rechained_is : (was now n m : ℕ) (a : Art) → art lay ≡ a → now - was ≡ n → was - now ≡ m → rechained was now a (lost l u d) ≡ leaves (art lay) (prefixes n) (prefixes m ++ node4_kind ∷ leaf_kind ∷ []) d
  rechained_is was now n m a ea en em =
      ap (λ x. leaves a (prefixes x ++ []) (prefixes (was - now) ++ node4_kind ∷ leaf_kind ∷ []) d) en ∙ ap (λ x. leaves a (prefixes n ++ []) (prefixes x ++ node4_kind ∷ leaf_kind ∷ []) d) em
      ∙ ap (λ x. leaves a x (prefixes m ++ node4_kind ∷ leaf_kind ∷ []) d) (append-nil (prefixes n)) ∙ ap (λ x. leaves x (prefixes n) (prefixes m ++ node4_kind ∷ leaf_kind ∷ []) d) (sym ea)

  -- the byte joins it
  pub up_leaves : art lay ≡ Art.prefix (l.byte ∷ bytes_of u) (art (tip_of u)) → lone_child l.byte (art u) (lost l u d) ≡ leaves (art lay) (prefixes (lacks u)) (node4_kind ∷ leaf_kind ∷ []) d
  up_leaves el =
      let p = bytes_of u in
      ap (λ x. lone_child l.byte x (lost l u d)) eu ∙ lone_run l.byte p (art (tip_of u)) (lost l u d) (node_inner (tip_of u) i)
      ∙ rechained_is (chain (length p)) (chain (suc (length p))) (lacks u) 0 (Art.prefix (l.byte ∷ p) (art (tip_of u))) el refl (omega arith)

  -- below a Prefix of bytes p that is full
  pub full_leaves : (p : List ℕ) → length p ≡ 112 → art lay ≡ Art.prefix (p ++ l.byte ∷ bytes_of u) (art (tip_of u)) → under_prefix p l.byte (art u) (lost l u d) ≡ leaves (art lay) (prefixes (lacks u)) (node4_kind ∷ leaf_kind ∷ []) d
  full_leaves p full el =
      let q = bytes_of u in
      ap (λ x. under_prefix p l.byte x (lost l u d)) eu ∙ under_run p l.byte q (art (tip_of u)) (lost l u d) (node_inner (tip_of u) i)
      ∙ rechained_is (chain (length p) + chain (length q)) (chain (length p + suc (length q))) (lacks u) 0 (Art.prefix (p ++ l.byte ∷ q) (art (tip_of u))) el (omega arith) (omega arith)

  -- a Prefix above of bytes p, which has room, does too, and m bodies fewer are left
  pub over_leaves : (p : List ℕ) (m : ℕ) → 1 ≤ length p → length p < 112 → art lay ≡ as_prefix ((p ++ l.byte ∷ []) ++ bytes_of u) (art (tip_of u)) → length (bodies_of u) ≡ chain (length (bytes_of u))
      → chain (length ((p ++ l.byte ∷ []) ++ bytes_of u)) + m ≡ suc (length (bodies_of u)) → under_prefix p l.byte (art u) (lost l u d) ≡ leaves (art lay) [] (prefixes m ++ node4_kind ∷ leaf_kind ∷ []) d
  over_leaves p m some room el eb em =
      let q = bytes_of u in
      let w : (p ++ l.byte ∷ []) ++ q ≡ p ++ l.byte ∷ q = append_assoc p (l.byte ∷ []) q in
      let n : length ((p ++ l.byte ∷ []) ++ q) ≡ length p + suc (length q) = ap length w ∙ length-append p (l.byte ∷ q) in
      let el' : art lay ≡ Art.prefix (p ++ l.byte ∷ q) (art (tip_of u)) =
      el ∙ ap (λ x. as_prefix x (art (tip_of u))) w ∙ as_some (p ++ l.byte ∷ q) (art (tip_of u)) (omega (arith, length-append p (l.byte ∷ q))) in
      let em' : chain (length p + suc (length q)) + m ≡ suc (chain (length q)) = ap (λ x. chain x + m) (sym n) ∙ em ∙ ap suc eb in
      ap (λ x. under_prefix p l.byte x (lost l u d)) eu ∙ under_run p l.byte q (art (tip_of u)) (lost l u d) (node_inner (tip_of u) i)
      ∙ rechained_is (chain (length p) + chain (length q)) (chain (length p + suc (length q))) 0 m (Art.prefix (p ++ l.byte ∷ q) (art (tip_of u))) el' (omega arith) (omega arith)
