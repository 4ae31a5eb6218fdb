-- One law for each way that the seek goes in a frame. Assumes nothing.
use Prim.Native.Nat.{ℕ, suc, ◌+◌, ◌<◌}
use native.Mathlib.Omega.{arith}
use mathlib.Core.Path.{◌≡◌, refl, sym, ap, ◌∙◌}
use mathlib.Core.List.{List, [], ◌∷◌, ◌++◌, append_assoc}
use mathlib.Core.Option.{none, some}
use lib.ListN.{length, length-append, drop, take-append-drop}
use Rattle.layout.specs.Number.{Bytes}
use Rattle.model.specs.Edition.{Edition, Lawful}
use Rattle.model.specs.Body.{Asc, look_kid}
use Rattle.model.specs.Frame.{Lay, LayKids, slot_of, pairs, Tree, Trees}
use Rattle.model.specs.Frame.Lay.{leaf, prefix, node}
use Rattle.model.specs.Frame.LayKids.{nil, kid}
use Rattle.model.proofs.StringLaws.{eqb_cases, ltb_cases, clash}
use Rattle.node.specs.Kids.{next_kid}
use Rattle.listing.specs.Seek.{leaves, leaves_all, first_leaf, kids_from, leaves_at, AllL, From, Under, Kept}
use Rattle.listing.proofs.SeekLaws.{all_append, all_map}
use Rattle.inside.specs.Inside.{Inside, InsideAll}
use Rattle.seek.specs.Sub.{Sub}
use Rattle.seek.proofs.DownLaws.{tree_full, first_append}

-- ---- keys go on from the path that leads to their Leaf

shorter : (E : Edition) (path p k : List ℕ) → From E (path ++ p) k → From E path k
shorter E path p k h = (p ++ h.0, h.1 ∙ append_assoc path p h.0, h.2)

mutual
  unfolding Tree Trees

  pub tree_under : (E : Edition) (f path : List ℕ) (l : Lay) → Tree E f path l → Under E path l
  tree_under E f path (leaf s o e k v) T =
      let w = E.walked k in
      ((drop (length path) w, sym (take-append-drop (length path) w) ∙ ap (λ (x : List ℕ). x ++ drop (length path) w) T.1.begins, T.1.legal), tt)
  tree_under E f path (prefix s o p l) T = all_map (From E (path ++ p)) (From E path) (λ k h. shorter E path p k h) (leaves l) (tree_under E f (path ++ p) l T.3)
  tree_under E f path (node s o kind ks) T = trees_under E f path ks T.2

  pub trees_under : (E : Edition) (f path : List ℕ) (ks : LayKids) → Trees E f path ks → AllL (From E path) (leaves_all ks)
  trees_under E f path nil T = tt
  trees_under E f path (kid b j l ks) T =
      all_append (From E path) (leaves l) (leaves_all ks)
      (all_map (From E (path ++ b ∷ [])) (From E path) (λ k h. shorter E path (b ∷ []) k h) (leaves l) (tree_under E f (path ++ b ∷ []) l T.0))
      (trees_under E f path ks T.1)

-- the children of a node, bytes ascending
pub trees_kept : (E : Edition) (f path : List ℕ) (lo : ℕ) (ks : LayKids) → Asc lo (pairs ks) → Trees E f path ks → Kept E path lo ks
unfolding Trees pairs Asc
trees_kept E f path lo nil A T = tt
trees_kept E f path lo (kid b j l ks) A T = (A.0, tree_under E f (path ++ b ∷ []) l T.0, trees_kept E f path (suc b) ks A.3 T.1)

-- ---- a node's children: the first from a byte on, and the one of a byte

module _ (E : Edition) (L : Lawful E) (f path : List ℕ) (d : ℕ) (B : Bytes f) (D : length path ≡ d) (deep : d < E.longest) where
  abbrev sub_of : (b : ℕ) (l : Lay) → Tree E f (path ++ b ∷ []) l → Inside f l → Sub E f (slot_of l) (d + 1)
  sub_of b l T I = record { lawful = L; lay = l; path = path ++ b ∷ []; tree = T; slot_is = refl; inside = I; bytes = B; deep = omega (arith, length-append path (b ∷ [])); short = omega arith }

  pub kids_none : (lo x : ℕ) (ks : LayKids) → Asc lo (pairs ks) → (next_kid x (pairs ks)).0 ≡ 256 → first_leaf (leaves_all (kids_from x ks)) ≡ none
  unfolding pairs Asc next_kid
  kids_none lo x nil A e = refl
  kids_none lo x (kid b j l ks) A e = ltb_cases b x
      (λ t o. rw t (kids_none (suc b) x ks A.3 (rw t at e)))
      (λ t o. let z : b ≡ 256 = rw t at e in let y = A.1 in absurd (omega arith))

  pub kids_some : (lo x : ℕ) (ks : LayKids) → Asc lo (pairs ks) → Trees E f path ks → InsideAll f ks → ((next_kid x (pairs ks)).0 ≡ 256 → ⊥)
      → (S : Sub E f (next_kid x (pairs ks)).1 (d + 1)) × (first_leaf (leaves_all (kids_from x ks)) ≡ first_leaf (leaves S.lay))
  unfolding pairs Asc next_kid Trees InsideAll
  kids_some lo x nil A T I e = absurd (e refl)
  kids_some lo x (kid b j l ks) A T I e = ltb_cases b x
      (λ t o. rw t (kids_some (suc b) x ks A.3 T.1 I.1 (rw t at e)))
      (λ t o. rw t (sub_of b l T.0 I.0, first_append (leaves l) (leaves_all ks) (tree_full E f (path ++ b ∷ []) l T.0)))

  pub kid_gone : (x : ℕ) (ks : LayKids) → Trees E f path ks → InsideAll f ks → none ≡ look_kid x (pairs ks) → leaves_at x ks ≡ []
  unfolding pairs look_kid Trees InsideAll
  kid_gone x nil T I e = refl
  kid_gone x (kid b j l ks) T I e = eqb_cases b x
      (λ t q. clash (let z = rw t at e in cc))
      (λ t n. rw t (kid_gone x ks T.1 I.1 (rw t at e)))

  pub kid_there : (x c : ℕ) (ks : LayKids) → Trees E f path ks → InsideAll f ks → some c ≡ look_kid x (pairs ks) → (S : Sub E f c (d + 1)) × (S.path ≡ path ++ x ∷ []) × (leaves_at x ks ≡ leaves S.lay)
  unfolding pairs look_kid Trees InsideAll
  kid_there x c nil T I e = clash (cc)
  kid_there x c (kid b j l ks) T I e = eqb_cases b x
      (λ t q. let z : some c ≡ some (slot_of l) = rw t at e in let v : slot_of l ≡ c = cc in rw (t, ← v) (sub_of b l T.0 I.0, ap (λ (y : ℕ). path ++ y ∷ []) q, refl))
      (λ t n. rw t (kid_there x c ks T.1 I.1 (rw t at e)))
