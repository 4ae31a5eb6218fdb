-- In a tree that stands, no two bodies of one kind are known by the same: no two Leaves have one key, no two inner nodes of a kind one path,
-- no two Prefixes one byte. Assumes nothing.
use Prim.Native.Nat.{ℕ, suc, ◌+◌, ◌<◌, ◌≤◌}
use mathlib.Core.Path.{◌≡◌, refl, sym, ap, ◌∙◌}
use mathlib.Core.List.{List, [], ◌∷◌, ◌++◌}
use native.Mathlib.Omega.{arith}
use native.Mathlib.Decide.{dec_le}
use lib.ListN.{length, take, get_or, length-append}
use lib.Seq.{get_or-take, take-take, take-append_seam, get_or-append_seam}
use Rattle.layout.specs.Kind.{leaf_kind, prefix_kind}
use Rattle.model.specs.Edition.{Edition}
use Rattle.model.specs.Body.{Asc}
use Rattle.model.specs.Frame.{Lay, LayKids, pairs, Begins, Tree, Trees}
use Rattle.model.specs.Frame.Lay.{leaf, prefix, node}
use Rattle.model.specs.Frame.LayKids.{nil, kid}
use Rattle.model.specs.Mark.{Mark, mark, marks, marks_all, count}
use Rattle.model.proofs.StringLaws.{clash}
use Rattle.model.proofs.MarkLaws.{leaf_marks, prefix_marks, node_marks, kid_marks, nil_marks}
use Rattle.model.proofs.StandsGood.{asc_kid, inner_asc}

-- ---- beginnings

-- y begins with p and is longer; its next byte
begins_less : (y p q : List ℕ) → Begins y (p ++ q) → Begins y p
begins_less y p q h =
    let l : length p ≤ length (p ++ q) = omega (arith, length-append p q) in
    sym (take-take (length p) (length (p ++ q)) y l) ∙ ap (take (length p)) h ∙ take-append_seam p q

pub begins_long : (y p : List ℕ) → Begins y p → length p ≤ length y
begins_long [] [] h = omega arith
begins_long [] (x ∷ p) h = clash (cc)
begins_long (z ∷ y) [] h = omega arith
begins_long (z ∷ y) (x ∷ p) h = let t : take (length p) y ≡ p = cc in omega (arith, begins_long y p t)

begins_byte : (y p : List ℕ) (b : ℕ) → Begins y (p ++ b ∷ []) → (length p < length y) × (get_or y (length p) 0 ≡ b)
begins_byte y p b h =
    let n = length-append p (b ∷ []) in (
      omega (arith, begins_long y (p ++ b ∷ []) h),
      sym (get_or-take (length (p ++ b ∷ [])) y (length p) 0 (omega arith)) ∙ ap (λ (z : List ℕ). get_or z (length p) 0) h ∙ get_or-append_seam p b [] 0,
    )

pub begins_self : (y : List ℕ) → Begins y y
begins_self [] = refl
begins_self (x ∷ y) = ap (λ (z : List ℕ). x ∷ z) (begins_self y)

-- ---- a weight that holds of bodies known by y: a Prefix that starts on the way to y and ends below

pub record Names (E : Edition) (w : Mark → ℕ) (y : List ℕ) : Type 0 where
  pub one : (m : Mark) → w m ≤ 1
  pub leaf : (s : ℕ) (k : List ℕ) → 1 ≤ w (mark s leaf_kind k k) → E.walked k ≡ y
  pub node : (s k : ℕ) (p : List ℕ) → 4 ≤ k → 1 ≤ w (mark s k p p) → p ≡ y
  pub prefix : (s : ℕ) (p q : List ℕ) → 1 ≤ length q → 1 ≤ w (mark s prefix_kind p (p ++ q)) → Begins y p × (length y < length p + length q)

-- n bodies of a tree to which p leads
record Few (y p : List ℕ) (n : ℕ) : Type 0 where
  pub few : n ≤ 1
  pub begins : 1 ≤ n → Begins y p

-- n bodies of the children from byte lo on
record Below (lo : ℕ) (y p : List ℕ) (n : ℕ) : Type 0 where
  pub few : n ≤ 1
  pub begins : 1 ≤ n → Begins y p
  pub long : 1 ≤ n → length p < length y
  pub byte : 1 ≤ n → lo ≤ get_or y (length p) 0

module _ {E : Edition} {w : Mark → ℕ} {y : List ℕ} (N : Names E w y) (f : List ℕ) where
  prefix_few : (s o : ℕ) (p q : List ℕ) (l : Lay) → 1 ≤ length q → Few y (p ++ q) (count w (marks (p ++ q) l)) → Few y p (count w (marks p (prefix s o q l)))
  prefix_few s o p q l i L =
      let m = mark s prefix_kind p (p ++ q) in
      let e = prefix_marks w p s o q l in
      elim (dec_le 1 (w m)) [
        | yes h ↦
            let P = N.prefix s p q i h in
            let z : count w (marks (p ++ q) l) ≡ 0 = (elim (dec_le 1 (count w (marks (p ++ q) l))) [
              | yes g ↦ absurd (omega (arith, P.1, length-append p q, begins_long y (p ++ q) (L.begins g)))
              | no g ↦ omega arith
            ]) in
            record { few = omega (arith, N.one m); begins = λ g. P.0 }
        | no h ↦ record { few = omega (arith, L.few); begins = λ g. begins_less y p q (L.begins (omega arith)) }
      ]

  node_few : (s o kind : ℕ) (p : List ℕ) (ks : LayKids) → 4 ≤ kind → Below 0 y p (count w (marks_all p ks)) → Few y p (count w (marks p (node s o kind ks)))
  node_few s o kind p ks k4 B =
      let m = mark s kind p p in
      let e = node_marks w p s o kind ks in
      elim (dec_le 1 (w m)) [
        | yes h ↦
            let q : p ≡ y = N.node s kind p k4 h in
            let z : count w (marks_all p ks) ≡ 0 = (elim (dec_le 1 (count w (marks_all p ks))) [ yes g ↦ absurd (omega (arith, B.long g, ap length q)) | no g ↦ omega arith ]) in
            record { few = omega (arith, N.one m); begins = λ g. rw q (begins_self y) }
        | no h ↦ record { few = omega (arith, B.few); begins = λ g. B.begins (omega arith) }
      ]

  kid_below : (lo b j : ℕ) (p : List ℕ) (l : Lay) (ks : LayKids) → lo ≤ b → Few y (p ++ b ∷ []) (count w (marks (p ++ b ∷ []) l)) → Below (suc b) y p (count w (marks_all p ks))
      → Below lo y p (count w (marks_all p (kid b j l ks)))
  kid_below lo b j p l ks h F B =
      let e = kid_marks w p b j l ks in
      elim (dec_le 1 (count w (marks (p ++ b ∷ []) l))) [
        | yes g ↦
            let Y = F.begins g in
            let C = begins_byte y p b Y in
            let z : count w (marks_all p ks) ≡ 0 = (elim (dec_le 1 (count w (marks_all p ks))) [ yes u ↦ absurd (omega (arith, B.byte u, C.1)) | no u ↦ omega arith ]) in
            record { few = omega (arith, F.few); begins = λ u. begins_less y p (b ∷ []) Y; long = λ u. C.0; byte = λ u. omega (arith, C.1) }
        | no g ↦ record { few = omega (arith, B.few); begins = λ u. B.begins (omega arith); long = λ u. B.long (omega arith); byte = λ u. omega (arith, B.byte (omega arith)) }
      ]

  mutual
    unfolding Tree Trees

    tree_few : (p : List ℕ) (l : Lay) → Tree E f p l → Few y p (count w (marks p l))
    tree_few p (leaf s o e k v) T = let q = leaf_marks w p s o e k v in record { few = omega (arith, N.one (mark s leaf_kind k k)); begins = λ h. rw (← N.leaf s k (omega arith)) T.1.begins }
    tree_few p (prefix s o q l) T = prefix_few s o p q l T.1.some (tree_few (p ++ q) l T.3)
    tree_few p (node s o kind ks) T = node_few s o kind p ks T.1.inner.range.0 (trees_below 0 p ks T.2 (inner_asc f o kind (pairs ks) T.1.inner))

    trees_below : (lo : ℕ) (p : List ℕ) (ks : LayKids) → Trees E f p ks → Asc lo (pairs ks) → Below lo y p (count w (marks_all p ks))
    trees_below lo p nil T A =
        let q = nil_marks w p in record { few = omega arith; begins = λ h. absurd (omega arith); long = λ h. absurd (omega arith); byte = λ h. absurd (omega arith) }
    trees_below lo p (kid b j l ks) T A =
        let U = asc_kid lo b j l ks A in kid_below lo b j p l ks U.0 (tree_few (p ++ b ∷ []) l T.0) (trees_below (suc b) p ks T.1 U.3)

  pub tree_once : (p : List ℕ) (l : Lay) → Tree E f p l → count w (marks p l) ≤ 1
  tree_once p l T = (tree_few p l T).few
