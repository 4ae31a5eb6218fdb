-- Two runs of Prefixes with one string and one tree below, whose bodies stand in one order: each body has a byte that it had, and one that is taken
-- stands below the others. Assumes nothing.
use Prim.Native.Nat.{ℕ, ◌+◌, ◌<◌, ◌≤◌}
use mathlib.Core.Path.{◌≡◌, refl, sym, ap, ◌∙◌}
use mathlib.Core.List.{List, [], ◌∷◌, ◌++◌, append_assoc, append-nil}
use mathlib.Core.Bool.{true, false}
use mathlib.Core.Logic.{◌⊎◌, inl, inr, ⊎_elim}
use native.Mathlib.Omega.{arith}
use native.Mathlib.Decide.{dec_le}
use lib.ListN.{length, take, length-append}
use lib.Seq.{take-append_seam}
use Rattle.layout.specs.Kind.{prefix_kind}
use Rattle.model.specs.Edition.{Edition}
use Rattle.model.specs.Frame.{Lay, Below, Tree}
use Rattle.model.specs.Frame.Lay.{leaf, prefix, node}
use Rattle.model.specs.Mark.{Mark, mark, marks, is, like, slot_is, common, count, In, Live}
use Rattle.model.specs.Touch.{among}
use Rattle.model.proofs.MarkLaws.{prefix_marks, is_same, is_common, is_gone, counts_like, common_way, weight_in}
use Rattle.model.proofs.ShiftLaws.{slot_weighs}
use Rattle.between.specs.Lead.{NotLeaf}
use Rattle.between.proofs.TreeLaws.{prefix_parts}
use Rattle.between.proofs.StayLaws.{from_below}
use Rattle.chain.specs.Row.{bodies_of, bytes_of, tip_of}
use Rattle.chain.proofs.RunLaws.{below_not_leaf}

-- ---- the runs

-- "each full but the last", above an inner node
abbrev pub Ranged : Lay → Type 0
Ranged (leaf s o e k v) = ⊥
Ranged (prefix s o p l) = (1 ≤ length p) × (length p ≤ 112) × Below p l × Ranged l
Ranged (node s o kind ks) = Unit {0}

pub tree_ranged : (E : Edition) (f path : List ℕ) (t : Lay) → Tree E f path t → NotLeaf t → Ranged t
tree_ranged E f path (leaf s o e k v) T n = n
tree_ranged E f path (prefix s o p t) T n =
    let P = prefix_parts E f path s o p t T in
    (P.1.some, P.1.most, P.2, tree_ranged E f (path ++ p) t P.3 (below_not_leaf p t P.2))
tree_ranged E f path (node s o kind ks) T n = tt

-- the bodies of the second are those of the first in order, but for some at its end; those that it has not are among `goes`
abbrev pub Along : List ℕ → List (ℕ × ℕ) → List (ℕ × ℕ) → Type 0
Along goes [] ys = Unit {0}
Along goes (x ∷ xs) [] = (among x.0 goes ≡ true) × Along goes xs []
Along goes (x ∷ xs) (y ∷ ys) = (x.0 ≡ y.0) × Along goes xs ys

pub along_more : (goes : List ℕ) (xs new : List (ℕ × ℕ)) → Along goes xs (xs ++ new)
along_more goes [] new = tt
along_more goes (x ∷ xs) new = (refl, along_more goes xs new)

-- what stands below a run
pub run_marks : (w : Mark → ℕ) (path : List ℕ) (t : Lay) → count w (marks (path ++ bytes_of t) (tip_of t)) ≤ count w (marks path t)
run_marks w path (leaf s o e k v) = omega (arith, ap (λ y. count w (marks y (leaf s o e k v))) (append-nil path))
run_marks w path (prefix s o p t) = omega (arith, prefix_marks w path s o p t, run_marks w (path ++ p) t, ap (λ y. count w (marks y (tip_of t))) (append_assoc path p (bytes_of t)))
run_marks w path (node s o kind ks) = omega (arith, ap (λ y. count w (marks y (node s o kind ks))) (append-nil path))

-- ---- numbers: a body of q bytes from a on, and r bytes below it

full_or_last : (q : List ℕ) (l : Lay) → Below q l → (length q ≡ 112) ⊎ (length (bytes_of l) ≡ 0)
full_or_last q (leaf s o e k v) b = absurd b
full_or_last q (prefix s o p l) b = inl b
full_or_last q (node s o kind ks) b = inr refl

starts : (a q r a' q' r' : ℕ) → a + (q + r) ≡ a' + (q' + r') → a < a' + 112 → 1 ≤ q → (q' ≡ 112) ⊎ (r' ≡ 0) → a < a' + q'
starts a q r a' q' r' e n s c = ⊎_elim (λ h. omega arith) (λ h. omega arith) c

ends : (a q r a' q' r' : ℕ) → a + (q + r) ≡ a' + (q' + r') → a < a' + 112 → q ≤ 112 → (q' ≡ 112) ⊎ (r' ≡ 0) → a + q < a' + q' + 112
ends a q r a' q' r' e n s c = ⊎_elim (λ h. omega arith) (λ h. omega arith) c

-- ---- the first bodies of two such runs

module _ (p : List ℕ) (q : List ℕ) (l : Lay) (p' : List ℕ) (q' : List ℕ) (l' : Lay) (e : p ++ (q ++ bytes_of l) ≡ p' ++ (q' ++ bytes_of l')) where
  long : length p + (length q + length (bytes_of l)) ≡ length p' + (length q' + length (bytes_of l'))
  long =
      omega (
        arith,
        ap length e,
        length-append p (q ++ bytes_of l),
        length-append q (bytes_of l),
        length-append p' (q' ++ bytes_of l'),
        length-append q' (bytes_of l'),
      )

  one_string : (p ++ q) ++ bytes_of l ≡ (p' ++ q') ++ bytes_of l'
  one_string = append_assoc p q (bytes_of l) ∙ e ∙ sym (append_assoc p' q' (bytes_of l'))

  first_common : (s : ℕ) → 1 ≤ length q → 1 ≤ length q' → Below q l → Below q' l' → length p < length p' + 112 → length p' < length p + 112 → common (mark s prefix_kind p (p ++ q)) (mark s prefix_kind p' (p' ++ q')) ≡ true
  first_common s some some' b b' n n' =
      let w = p ++ (q ++ bytes_of l) in
      let g = long in
      let lw : length w ≡ length p + (length q + length (bytes_of l)) = omega (arith, length-append p (q ++ bytes_of l), length-append q (bytes_of l)) in
      let a = length-append p q in
      let a' = length-append p' q' in
      let x1 : take (length p) w ≡ p = take-append_seam p (q ++ bytes_of l) in
      let x2 : take (length (p ++ q)) w ≡ p ++ q = ap (take (length (p ++ q))) (sym (append_assoc p q (bytes_of l))) ∙ take-append_seam (p ++ q) (bytes_of l) in
      let x3 : take (length p') w ≡ p' = ap (take (length p')) e ∙ take-append_seam p' (q' ++ bytes_of l') in
      let x4 : take (length (p' ++ q')) w ≡ p' ++ q' = ap (take (length (p' ++ q'))) (e ∙ sym (append_assoc p' q' (bytes_of l'))) ∙ take-append_seam (p' ++ q') (bytes_of l') in
      let f1 = starts (length p) (length q) (length (bytes_of l)) (length p') (length q') (length (bytes_of l')) g n some (full_or_last q' l' b') in
      let f2 = starts (length p') (length q') (length (bytes_of l')) (length p) (length q) (length (bytes_of l)) (sym g) n' some' (full_or_last q l b) in
      let c = common_way w s prefix_kind (length p) (length (p ++ q)) (length p') (length (p' ++ q')) (omega arith) (omega arith) (omega arith) (omega arith) (omega arith) (omega arith) in
      ap (λ z. common (mark s prefix_kind z (p ++ q)) (mark s prefix_kind p' (p' ++ q'))) (sym x1) ∙ ap (λ z. common (mark s prefix_kind (take (length p) w) z) (mark s prefix_kind p' (p' ++ q'))) (sym x2)
      ∙ ap (λ z. common (mark s prefix_kind (take (length p) w) (take (length (p ++ q)) w)) (mark s prefix_kind z (p' ++ q'))) (sym x3)
      ∙ ap (λ z. common (mark s prefix_kind (take (length p) w) (take (length (p ++ q)) w)) (mark s prefix_kind (take (length p') w) z)) (sym x4) ∙ c

  next_near : length q ≤ 112 → Below q' l' → length p < length p' + 112 → length (p ++ q) < length (p' ++ q') + 112
  next_near most b' n =
      omega (arith, ends (length p) (length q) (length (bytes_of l)) (length p') (length q') (length (bytes_of l')) long n most (full_or_last q' l' b'), length-append p q, length-append p' q')

-- ---- each body has a byte that it had

module _ (goes : List ℕ) (x : Mark) (stays : among x.slot goes ≡ false) where
  pub along_like : (p : List ℕ) (t : Lay) (p' : List ℕ) (t' : Lay) → Ranged t → Ranged t' → tip_of t ≡ tip_of t' → p ++ bytes_of t ≡ p' ++ bytes_of t' → length p < length p' + 112 → length p' < length p + 112
      → Along goes (bodies_of t) (bodies_of t') → count (is x) (marks p t) ≤ count (like x) (marks p' t')
  along_like p (leaf s o e k v) p' t' R R' et es n n' A = absurd R
  along_like p (node s o kind ks) p' t' R R' et es n n' A =
      let q : p ≡ p' ++ bytes_of t' = sym (append-nil p) ∙ es in
      omega (arith, ap (λ y. count (is x) (marks y (node s o kind ks))) q, ap (λ y. count (is x) (marks (p' ++ bytes_of t') y)) et, run_marks (is x) p' t', counts_like x (marks p' t'))
  along_like p (prefix s o q l) p' (leaf s' o' e k v) R R' et es n n' A = absurd R'
  along_like p (prefix s o q l) p' (node s' o' kind ks) R R' et es n n' A =
      let g : length (p ++ (q ++ bytes_of l)) ≡ length p' = ap length (es ∙ append-nil p') in
      omega (
        arith,
        prefix_marks (is x) p s o q l,
        is_gone x goes s prefix_kind p (p ++ q) stays A.0,
        along_like (p ++ q) l p' (node s' o' kind ks) R.3 tt et (append_assoc p q (bytes_of l) ∙ es) (omega (arith, length-append p q, length-append p (q ++ bytes_of l), length-append q (bytes_of l))) (omega (arith, length-append p q)) A.1,
      )
  along_like p (prefix s o q l) p' (prefix s' o' q' l') R R' et es n n' A =
      omega (
        arith,
        prefix_marks (is x) p s o q l,
        prefix_marks (like x) p' s' o' q' l',
        is_common x s prefix_kind p (p ++ q) p' (p' ++ q') (first_common p q l p' q' l' es s R.0 R'.0 R.2 R'.2 n n'),
        ap (λ y. like x (mark y prefix_kind p' (p' ++ q'))) A.0,
        along_like (p ++ q) l (p' ++ q') l' R.3 R'.3 et (one_string p q l p' q' l' es) (next_near p q l p' q' l' es R.1 R'.2 n) (next_near p' q' l' p q l (sym es) R'.1 R.2 n') A.1,
      )

-- ---- a body that is taken stands below the others

slot_in : (m : Mark) (ms : List Mark) → In m ms → Live m.slot ms
slot_in m ms h = weight_in (slot_is m.slot) ms m h (omega (arith, slot_weighs m m.slot refl))

first_slot : (s : ℕ) (p : List ℕ) (o : ℕ) (q : List ℕ) (l : Lay) → Live s (marks p (prefix s o q l))
first_slot s p o q l = omega (arith, prefix_marks (slot_is s) p s o q l, slot_weighs (mark s prefix_kind p (p ++ q)) s refl)

module _ (goes : List ℕ) (m x y : Mark) (same : m.slot ≡ x.slot) (kind : y.kind ≡ prefix_kind) where
  -- y stands below the first body
  below_first : (p : List ℕ) (s o : ℕ) (q : List ℕ) (l : Lay) → 1 ≤ length q → In y (marks p (prefix s o q l)) → (y.slot ≡ s → ⊥) → In y (marks (p ++ q) l) × (length p < length y.from)
  below_first p s o q l some h n = elim (dec_le 1 (is y (mark s prefix_kind p (p ++ q)))) [
    | yes g ↦ absurd (n (ap (λ (z : Mark). z.slot) (is_same y (mark s prefix_kind p (p ++ q)) g)))
    | no g ↦
        let i : In y (marks (p ++ q) l) = omega (arith, prefix_marks (is y) p s o q l) in
        (i, omega (arith, from_below y (λ z. omega (arith, kind)) (p ++ q) l i, length-append p q))
  ]

  pub along_last : (p : List ℕ) (t : Lay) (p' : List ℕ) (t' : Lay) → Ranged t → Ranged t' → tip_of t ≡ tip_of t' → p ++ bytes_of t ≡ p' ++ bytes_of t' → Along goes (bodies_of t) (bodies_of t')
      → ((s : ℕ) → count (slot_is s) (marks p' t') ≤ 1) → In m (marks p t) → (In m (marks p' t') → ⊥) → In x (marks p' t') → In y (marks p' t') → (Live y.slot (marks p t) → ⊥) → length x.from < length y.from
  along_last p (leaf s o e k v) p' t' R R' et es A once hm moved hx hy new = absurd R
  along_last p (node s o kind ks) p' t' R R' et es A once hm moved hx hy new =
      let q : p ≡ p' ++ bytes_of t' = sym (append-nil p) ∙ es in
      absurd (moved (omega (arith, hm, ap (λ z. count (is m) (marks z (node s o kind ks))) q, ap (λ z. count (is m) (marks (p' ++ bytes_of t') z)) et, run_marks (is m) p' t')))
  along_last p (prefix s o q l) p' (leaf s' o' e k v) R R' et es A once hm moved hx hy new = absurd R'
  along_last p (prefix s o q l) p' (node s' o' kind ks) R R' et es A once hm moved hx hy new =
      absurd (new (slot_in_tip (slot_in y (marks p' (node s' o' kind ks)) hy)))
    where
      slot_in_tip : Live y.slot (marks p' (node s' o' kind ks)) → Live y.slot (marks p (prefix s o q l))
      slot_in_tip h =
          let g : p' ≡ p ++ (q ++ bytes_of l) = sym (append-nil p') ∙ sym es in
          omega (arith, ap (λ z. count (slot_is y.slot) (marks z (node s' o' kind ks))) g, ap (λ z. count (slot_is y.slot) (marks (p ++ (q ++ bytes_of l)) z)) et, run_marks (slot_is y.slot) p (prefix s o q l))
  along_last p (prefix s o q l) p' (prefix s' o' q' l') R R' et es A once hm moved hx hy new =
      let ny : y.slot ≡ s' → ⊥ = λ z. new (rw (z, ← A.0) (first_slot s p o q l)) in
      let B = below_first p' s' o' q' l' R'.0 hy ny in
      elim (dec_le 1 (is x (mark s' prefix_kind p' (p' ++ q')))) [
        | yes a ↦ omega (arith, B.1, ap (λ (z : Mark). length z.from) (is_same x (mark s' prefix_kind p' (p' ++ q')) a))
        | no a ↦
            let ix : In x (marks (p' ++ q') l') = omega (arith, prefix_marks (is x) p' s' o' q' l') in
            elim (dec_le 1 (is m (mark s prefix_kind p (p ++ q)))) [
              | yes b ↦
                  let em : s' ≡ x.slot = sym A.0 ∙ sym (ap (λ (z : Mark). z.slot) (is_same m (mark s prefix_kind p (p ++ q)) b)) ∙ same in
                  absurd (omega (
                    arith,
                    once x.slot,
                    prefix_marks (slot_is x.slot) p' s' o' q' l',
                    slot_in x (marks (p' ++ q') l') ix,
                    slot_weighs (mark s' prefix_kind p' (p' ++ q')) x.slot em,
                  ))
              | no b ↦
                  along_last (p ++ q) l (p' ++ q') l' R.3 R'.3 et (one_string p q l p' q' l' es) A.1 (λ i. omega (arith, once i, prefix_marks (slot_is i) p' s' o' q' l'))
                  (omega (arith, hm, prefix_marks (is m) p s o q l)) (λ i. moved (omega (arith, i, prefix_marks (is m) p' s' o' q' l'))) ix B.0 (λ i. new (omega (arith, i, prefix_marks (slot_is y.slot) p s o q l)))
            ]
      ]
