-- The run of Prefixes on top of a tree that stands: what it is, and that its last body alone may be short. Assumes nothing.
use Prim.Native.Nat.{ℕ, suc, ◌+◌, ◌<◌, ◌≤◌}
use mathlib.Core.Path.{◌≡◌, refl, sym, ap, ◌∙◌}
use mathlib.Core.List.{List, [], ◌∷◌, ◌++◌}
use native.Mathlib.Omega.{arith}
use lib.ListN.{length, length-append}
use Rattle.layout.specs.Kind.{prefix_kind}
use Rattle.layout.specs.Entry.{place_of}
use Rattle.model.specs.Edition.{Edition}
use Rattle.model.specs.Tree.{chain, as_prefix}
use Rattle.model.specs.Item.{Item, body, sum, Same}
use Rattle.model.specs.Frame.{Lay, IsNode, Below, atop, art, items, Tree, View, Heap}
use Rattle.model.specs.Frame.Lay.{leaf, prefix, node}
use Rattle.model.proofs.ItemLaws.{sum_cons}
use Rattle.model.proofs.ChainLaws.{as_some, atop_as}
use Rattle.model.proofs.OneBody.{node_inner}
use Rattle.room.specs.Step.{Freed}
use Rattle.between.specs.Lead.{NotLeaf}
use Rattle.between.proofs.TreeLaws.{sum_none, prefix_sum, prefix_parts}
use Rattle.chain.specs.Row.{row_items, run_many, bodies_of, bytes_of, tip_of}

-- what `release` says
abbrev pub Release : List ℕ → List ℕ → ℕ → ℕ → Type 0
Release f g s k = (h : View) (o : ℕ) (rest : List Item) → Heap f h → Same h.owned (body s k o ∷ rest) → place_of f s ≡ o → Freed f g h s k o rest

-- ---- what may stand below

pub below_not_leaf : (q : List ℕ) (t : Lay) → Below q t → NotLeaf t
below_not_leaf q (leaf s o e k v) b = b
below_not_leaf q (prefix s o p l) b = tt
below_not_leaf q (node s o kind ks) b = tt

-- below a full Prefix anything but a Leaf; below a short one an inner node
pub below_full : (q : List ℕ) (t : Lay) → NotLeaf t → length q ≡ 112 → Below q t
below_full q (leaf s o e k v) n l = n
below_full q (prefix s o p t) n l = l
below_full q (node s o kind ks) n l = tt

pub below_short : (q : List ℕ) (t : Lay) → Below q t → length q < 112 → IsNode t
below_short q (leaf s o e k v) b l = absurd b
below_short q (prefix s o p t) b l = absurd (omega (arith, b))
below_short q (node s o kind ks) b l = tt

pub below_other : (q : List ℕ) (t : Lay) → NotLeaf t → run_many t ≡ 0 → Below q t
below_other q (leaf s o e k v) n z = n
below_other q (prefix s o p t) n z = absurd (omega arith)
below_other q (node s o kind ks) n z = tt

-- ---- the run

pub node_run : (t : Lay) → IsNode t → (bodies_of t ≡ []) × (bytes_of t ≡ []) × (tip_of t ≡ t)
node_run (leaf s o e k v) i = absurd i
node_run (prefix s o p t) i = absurd i
node_run (node s o kind ks) i = (refl, refl, refl)

pub run_many_lem : (t : Lay) → length (bodies_of t) ≡ run_many t
run_many_lem (leaf s o e k v) = refl
run_many_lem (prefix s o p t) = omega (arith, run_many_lem t)
run_many_lem (node s o kind ks) = refl

pub run_sum : (w : Item → ℕ) (t : Lay) → sum w (items t) ≡ sum w (row_items (bodies_of t) []) + sum w (items (tip_of t))
run_sum w (leaf s o e k v) = omega (arith, sum_none w)
run_sum w (prefix s o p t) = omega (arith, prefix_sum w s o p t, run_sum w t, sum_cons w (body s prefix_kind o) (row_items (bodies_of t) []))
run_sum w (node s o kind ks) = omega (arith, sum_none w)

-- two rows as one
pub row_app : (w : Item → ℕ) (xs ys : List (ℕ × ℕ)) → sum w (row_items (xs ++ ys) []) ≡ sum w (row_items xs []) + sum w (row_items ys [])
row_app w [] ys = omega (arith, sum_none w)
row_app w (x ∷ xs) ys = omega (arith, row_app w xs ys, sum_cons w (body x.0 prefix_kind x.1) (row_items (xs ++ ys) []), sum_cons w (body x.0 prefix_kind x.1) (row_items xs []))

pub run_not_leaf : (t : Lay) → 1 ≤ length (bytes_of t) → NotLeaf t
run_not_leaf (leaf s o e k v) l = absurd (omega arith)
run_not_leaf (prefix s o p t) l = tt
run_not_leaf (node s o kind ks) l = tt

-- ---- the run of a tree that stands

module _ (E : Edition) (f : List ℕ) where
  -- without slots and places it is one Prefix above an inner node
  pub run_art : (path : List ℕ) (t : Lay) → Tree E f path t → NotLeaf t → (art t ≡ as_prefix (bytes_of t) (art (tip_of t))) × IsNode (tip_of t)
  run_art path (leaf s o e k v) T n = absurd n
  run_art path (node s o kind ks) T n = (refl, tt)
  run_art path (prefix s o p t) T n =
      let P = prefix_parts E f path s o p t T in
      let R = run_art (path ++ p) t P.3 (below_not_leaf p t P.2) in
      let a = art (tip_of t) in
      (ap (atop p) R.0 ∙ atop_as p (bytes_of t) a (node_inner (tip_of t) R.1) ∙ sym (as_some (p ++ bytes_of t) a (omega (arith, P.1.some, length-append p (bytes_of t)))), R.1)

  -- "each full but the last"
  pub run_chained : (path : List ℕ) (t : Lay) → Tree E f path t → length (bodies_of t) ≡ chain (length (bytes_of t))
  run_chained path (leaf s o e k v) T = refl
  run_chained path (node s o kind ks) T = refl
  run_chained path (prefix s o p t) T =
      let P = prefix_parts E f path s o p t T in
      let one = P.1.some in
      let most = P.1.most in
      chained p t one most P.2 (run_chained (path ++ p) t P.3)
    where
      chained : (p : List ℕ) (t : Lay) → 1 ≤ length p → length p ≤ 112 → Below p t → length (bodies_of t) ≡ chain (length (bytes_of t)) → suc (length (bodies_of t)) ≡ chain (length (p ++ bytes_of t))
      chained p (leaf s o e k v) h g b c = absurd b
      chained p (node s o kind ks) h g b c = omega (arith, length-append p [])
      chained p (prefix s o q t) h g b c = omega (arith, c, b, length-append p (q ++ bytes_of t))
