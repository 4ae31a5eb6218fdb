-- The items of a tree, by its slot's kind: what stands below a Leaf, a Prefix and an inner node. Assumes nothing.
use Prim.Native.Nat.{ℕ, ◌<◌, ◌≤◌}
use mathlib.Core.Path.{◌≡◌, refl, sym, ap, ◌∙◌}
use mathlib.Core.List.{List, [], ◌∷◌, ◌++◌}
use native.Mathlib.Omega.{arith}
use lib.ListN.{length}
use Rattle.layout.specs.Number.{Bytes}
use Rattle.layout.specs.Entry.{place_of, high_of}
use Rattle.model.specs.Edition.{Edition, Lawful, Value}
use Rattle.model.specs.Tree.{extent_of}
use Rattle.model.specs.Item.{Item, body, extent}
use Rattle.model.specs.Body.{PrefixAt}
use Rattle.model.specs.Frame as frame
use Rattle.model.specs.Frame.{Lay, LayKids, slot_of, IsNode, items, items_all, Entry, NodeOf, LeafOf, Tree, Trees}
use Rattle.model.specs.Frame.Lay.{leaf, prefix, node}
use Rattle.model.proofs.WellLaws.{inside_short}
use Rattle.model.proofs.StandsGood.{below_inside}
use Rattle.model.proofs.OneBody.{node_below}
use Rattle.audit.specs.Walk.{Live, TreeItems, Below}

-- ---- a slot's body stands first

body_same : {s s' k k' o o' : ℕ} {xs ys : List Item} → ◌≡◌ {A = List Item} (body s k o ∷ xs) (body s' k' o' ∷ ys) → (s ≡ s') × (k ≡ k') × (o ≡ o') × (xs ≡ ys)
body_same e = (cc, cc, cc, cc)

first : (f : List ℕ) (s s' k o : ℕ) (xs ys : List Item) → s' ≡ s → Entry f s' k o → body s' k o ∷ ys ≡ xs → Live k → (zs : List Item) × (xs ≡ body s (high_of f s) (place_of f s) ∷ zs) × Live (high_of f s)
first f s s' k o xs ys q E e L =
    let E' : Entry f s k o = rw q at E in
    let h = E'.kind_is in
    (ys, sym e ∙ rw (q, sym h, sym E'.place_is), rw h L)

pub tree_first : {Ed : Edition} {f path : List ℕ} {s : ℕ} {xs : List Item} → TreeItems Ed f path s xs → (ys : List Item) × (xs ≡ body s (high_of f s) (place_of f s) ∷ ys) × Live (high_of f s)
unfolding Tree items
tree_first {Ed} {f} {path} {s} {xs} T = go T.lay T.tree T.slot T.are
  where
    go : (l : Lay) → Tree Ed f path l → slot_of l ≡ s → items l ≡ xs → (ys : List Item) × (xs ≡ body s (high_of f s) (place_of f s) ∷ ys) × Live (high_of f s)
    go (leaf s' o e k v) t q z = first f s s' 1 o xs (extent e (extent_of k v) ∷ []) q t.0 z (record { some = omega arith; last = omega arith; crossing = λ h. absurd (omega arith) })
    go (prefix s' o p l) t q z = first f s s' 2 o xs (items l) q t.0 z (record { some = omega arith; last = omega arith; crossing = λ h. absurd (omega arith) })
    go (node s' o kind ks) t q z =
        let r = t.1.inner.range in
        first f s s' kind o xs (items_all ks) q t.0 z (record { some = omega arith; last = omega arith; crossing = λ h. absurd (omega arith) })

-- ---- what stands below a Leaf

pub record LeafBelow (Ed : Edition) (f path : List ℕ) (o : ℕ) (ys : List Item) : Type 0 where
  pub at : ℕ
  pub key : List ℕ
  pub value : Value
  pub of : LeafOf Ed f path o at key value
  pub are : ys ≡ extent at (extent_of key value) ∷ []

pub leaf_of : {Ed : Edition} {f path : List ℕ} {s o : ℕ} {ys : List Item} → Below Ed f path s 1 o ys → LeafBelow Ed f path o ys
unfolding Tree items
leaf_of {Ed} {f} {path} {s} {o} {ys} T = go T.lay T.tree T.are
  where
    go : (l : Lay) → Tree Ed f path l → items l ≡ body s 1 o ∷ ys → LeafBelow Ed f path o ys
    go (leaf s' o' e k v) t z = let q = body_same z in record { at = e; key = k; value = v; of = rw q.2 at t.1; are = sym q.3 }
    go (prefix s' o' p l) t z = absurd (omega (arith, (body_same z).1))
    go (node s' o' kind ks) t z = let r = t.1.inner.range in absurd (omega (arith, (body_same z).1))

pub leaf_is : {Ed : Edition} {f path : List ℕ} {s o e : ℕ} {k : List ℕ} {v : Value} → Entry f s 1 o → LeafOf Ed f path o e k v → Below Ed f path s 1 o (extent e (extent_of k v) ∷ [])
unfolding Tree items
leaf_is {Ed} {f} {path} {s} {o} {e} {k} {v} E L = record { lay = leaf s o e k v; tree = (E, L); slot = refl; are = refl }

-- ---- below a Prefix

pub record PrefixBelow (Ed : Edition) (f path : List ℕ) (o : ℕ) (ys : List Item) : Type 0 where
  pub bytes : List ℕ
  pub lay : Lay
  pub of : PrefixAt f o bytes (slot_of lay)
  pub below : frame.Below bytes lay
  pub tree : Tree Ed f (path ++ bytes) lay
  pub are : items lay ≡ ys

pub prefix_of : {Ed : Edition} {f path : List ℕ} {s o : ℕ} {ys : List Item} → Below Ed f path s 2 o ys → PrefixBelow Ed f path o ys
unfolding Tree items
prefix_of {Ed} {f} {path} {s} {o} {ys} T = go T.lay T.tree T.are
  where
    go : (l : Lay) → Tree Ed f path l → items l ≡ body s 2 o ∷ ys → PrefixBelow Ed f path o ys
    go (leaf s' o' e k v) t z = absurd (omega (arith, (body_same z).1))
    go (prefix s' o' p l) t z = let q = body_same z in record { bytes = p; lay = l; of = rw q.2 at t.1; below = t.2; tree = t.3; are = q.3 }
    go (node s' o' kind ks) t z = let r = t.1.inner.range in absurd (omega (arith, (body_same z).1))

pub prefix_is : {Ed : Edition} {f path : List ℕ} {s o : ℕ} {p : List ℕ} (l : Lay) {ys : List Item} → Entry f s 2 o → PrefixAt f o p (slot_of l) → frame.Below p l → Tree Ed f (path ++ p) l → items l ≡ ys → Below Ed f path s 2 o ys
unfolding Tree items
prefix_is {Ed} {f} {path} {s} {o} {p} l E P I T e = record { lay = prefix s o p l; tree = (E, P, I, T); slot = refl; are = ap (λ (v : List Item). body s 2 o ∷ v) e }

-- ---- below an inner node

pub record NodeBelow (Ed : Edition) (f path : List ℕ) (o kind : ℕ) (ys : List Item) : Type 0 where
  pub kids : LayKids
  pub of : NodeOf f o kind kids
  pub trees : Trees Ed f path kids
  pub are : items_all kids ≡ ys

pub node_of_lem : {Ed : Edition} {f path : List ℕ} {s o kind : ℕ} {ys : List Item} → 4 ≤ kind → Below Ed f path s kind o ys → NodeBelow Ed f path o kind ys
unfolding Tree items
node_of_lem {Ed} {f} {path} {s} {o} {kind} {ys} h T = go T.lay T.tree T.are
  where
    go : (l : Lay) → Tree Ed f path l → items l ≡ body s kind o ∷ ys → NodeBelow Ed f path o kind ys
    go (leaf s' o' e k v) t z = absurd (omega (arith, (body_same z).1))
    go (prefix s' o' p l) t z = absurd (omega (arith, (body_same z).1))
    go (node s' o' kind' ks) t z = let q = body_same z in record { kids = ks; of = rw (q.1, q.2) at t.1; trees = t.2; are = q.3 }

pub node_is : {Ed : Edition} {f path : List ℕ} {s o kind : ℕ} (ks : LayKids) {ys : List Item} → Entry f s kind o → NodeOf f o kind ks → Trees Ed f path ks → items_all ks ≡ ys → Below Ed f path s kind o ys
unfolding Tree items
node_is {Ed} {f} {path} {s} {o} {kind} ks E N T e = record { lay = node s o kind ks; tree = (E, N, T); slot = refl; are = ap (λ (v : List Item). body s kind o ∷ v) e }

-- ---- the path to what may stand below a Prefix, and its kind

module _ {Ed : Edition} (L : Lawful Ed) where
  pub below_short : (f path p : List ℕ) (l : Lay) → Bytes f → frame.Below p l → Tree Ed f path l → length path < Ed.longest
  below_short f path p l B H T = inside_short L path (below_inside L f path p l B H T)

  pub node_short : (f path : List ℕ) (l : Lay) → Bytes f → IsNode l → Tree Ed f path l → length path < Ed.longest
  node_short f path l B I T = below_short f path [] l B (node_below [] l I) T

module _ (Ed : Edition) (f path : List ℕ) (s : ℕ) where
  pub kind_node : (l : Lay) → Tree Ed f path l → slot_of l ≡ s → 4 ≤ high_of f s → IsNode l
  unfolding Tree
  kind_node (leaf s' o e k v) T q h = let E : Entry f s 1 o = rw q at T.0 in absurd (omega (arith, E.kind_is))
  kind_node (prefix s' o p l) T q h = let E : Entry f s 2 o = rw q at T.0 in absurd (omega (arith, E.kind_is))
  kind_node (node s' o kind ks) T q h = tt

  module _ (p : List ℕ) where
    pub below_kind : (l : Lay) → frame.Below p l → Tree Ed f path l → slot_of l ≡ s → (2 ≤ high_of f s) × (high_of f s ≤ 7) × (high_of f s ≡ 3 → ⊥) × (high_of f s ≡ 2 → length p ≡ 112)
    unfolding Tree
    below_kind (leaf s' o e k v) H T q = absurd H
    below_kind (prefix s' o r l) H T q =
        let E : Entry f s 2 o = rw q at T.0 in
        let h = E.kind_is in
        (omega arith, omega arith, λ e. omega arith, λ e. H)
    below_kind (node s' o kind ks) H T q =
        let E : Entry f s kind o = rw q at T.0 in
        let h = E.kind_is in
        let r = T.1.inner.range in
        (omega arith, omega arith, λ e. omega arith, λ e. absurd (omega arith))

    pub kind_below : (l : Lay) → Tree Ed f path l → slot_of l ≡ s → 2 ≤ high_of f s → (high_of f s ≡ 2 → length p ≡ 112) → frame.Below p l
    unfolding Tree
    kind_below (leaf s' o e k v) T q h n = let E : Entry f s 1 o = rw q at T.0 in absurd (omega (arith, E.kind_is))
    kind_below (prefix s' o r l) T q h n = let E : Entry f s 2 o = rw q at T.0 in n E.kind_is
    kind_below (node s' o kind ks) T q h n = tt
