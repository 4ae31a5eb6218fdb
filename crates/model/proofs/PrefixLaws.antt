-- Where a body stands in a tree that stands: a Prefix has bytes, and no other Prefix starts before its end; what is no Prefix has one path. So no
-- two bodies have a byte in common. Assumes nothing.
use Prim.Native.Nat.{ℕ, ◌<◌, ◌≤◌}
use mathlib.Core.Path.{◌≡◌, refl, sym, ap, ◌∙◌}
use mathlib.Core.List.{List, [], ◌∷◌, ◌++◌}
use mathlib.Core.Bool.{Bool, true, false}
use native.Mathlib.Omega.{arith}
use native.Mathlib.Decide.{dec_le, ℕ_discrete}
use lib.ListN.{length, take, length-append}
use lib.Dec.{ltb, eqb}
use lib.Seq.{take-append_seam}
use borrow.Author.Tests.{lt-ltb, ltb-true, ne_eqb}
use Rattle.layout.specs.Kind.{leaf_kind, prefix_kind, empty_root_kind}
use Rattle.model.specs.Strings.{pick, same}
use Rattle.model.specs.Edition.{Edition}
use Rattle.model.specs.Frame.{Lay, LayKids, Root, bare, tree, RootAt, Begins, Tree, Trees}
use Rattle.model.specs.Frame.Lay.{leaf, prefix, node}
use Rattle.model.specs.Frame.LayKids.{nil, kid}
use Rattle.model.specs.Mark.{Mark, mark, marks, marks_all, root_marks, is, count, In}
use Rattle.model.proofs.StringLaws.{same_true, same_refl, shared_left}
use Rattle.model.proofs.WayLaws.{shared_right, shared_take, begins_of}
use Rattle.model.proofs.MarkLaws.{leaf_marks, prefix_marks, node_marks, kid_marks, nil_marks, tree_marks, bare_marks, is_same, only, Common, common_turn}
use Rattle.model.proofs.PlaceLaws.{begins_self, Names, tree_once}

-- ---- what a body is known by

pub record Known (m : Mark) : Type 0 where
  pub spans : Begins m.to m.from
  pub some : m.kind ≡ prefix_kind → length m.from < length m.to
  pub flat : (m.kind ≡ prefix_kind → ⊥) → m.from ≡ m.to

plain_known : (s k : ℕ) (a : List ℕ) → (k ≡ prefix_kind → ⊥) → Known (mark s k a a)
plain_known s k a n = record { spans = begins_self a; some = λ e. absurd (n e); flat = λ e. refl }

prefix_known : (s : ℕ) (p q : List ℕ) → 1 ≤ length q → Known (mark s prefix_kind p (p ++ q))
prefix_known s p q h = record { spans = take-append_seam p q; some = λ e. omega (arith, length-append p q); flat = λ e. absurd (e refl) }

module _ (E : Edition) (f : List ℕ) (m : Mark) where
  -- it is the one
  here : (s k : ℕ) (a b : List ℕ) → Known (mark s k a b) → 1 ≤ is m (mark s k a b) → Known m
  here s k a b K h = let e = is_same m (mark s k a b) h in rw e K

  mutual
    unfolding Tree Trees

    tree_known : (p : List ℕ) (l : Lay) → Tree E f p l → In m (marks p l) → Known m
    tree_known p (leaf s o e k v) T h = here s leaf_kind k k (plain_known s leaf_kind k (λ e. omega arith)) (omega (arith, leaf_marks (is m) p s o e k v))
    tree_known p (prefix s o q l) T h = elim (dec_le 1 (is m (mark s prefix_kind p (p ++ q)))) [
      | yes g ↦ here s prefix_kind p (p ++ q) (prefix_known s p q T.1.some) g
      | no g ↦ tree_known (p ++ q) l T.3 (omega (arith, prefix_marks (is m) p s o q l))
    ]
    tree_known p (node s o kind ks) T h = elim (dec_le 1 (is m (mark s kind p p))) [
      | yes g ↦ here s kind p p (plain_known s kind p (λ e. omega (arith, T.1.inner.range.0))) g
      | no g ↦ trees_known p ks T.2 (omega (arith, node_marks (is m) p s o kind ks))
    ]

    trees_known : (p : List ℕ) (ks : LayKids) → Trees E f p ks → In m (marks_all p ks) → Known m
    trees_known p nil T h = absurd (omega (arith, nil_marks (is m) p))
    trees_known p (kid b j l ks) T h = elim (dec_le 1 (count (is m) (marks (p ++ b ∷ []) l))) [
      | yes g ↦ tree_known (p ++ b ∷ []) l T.0 g
      | no g ↦ trees_known p ks T.1 (omega (arith, kid_marks (is m) p b j l ks))
    ]

  pub known : (r : Root) → RootAt E f r → In m (root_marks r) → Known m
  unfolding RootAt
  known (bare s o) T h = here s empty_root_kind [] [] (plain_known s empty_root_kind [] (λ e. omega arith)) (omega (arith, bare_marks (is m) s o))
  known (tree l) T h = tree_known [] l T (rw (tree_marks l) at h)

-- ---- a Prefix over the string y: it starts on the way to y and ends below

abbrev over : List ℕ → Mark → ℕ
over y m = pick (eqb m.kind prefix_kind) (pick (same (take (length m.from) y) m.from) (pick (ltb (length y) (length m.to)) 1 0) 0) 0

over_few : (y : List ℕ) (m : Mark) → over y m ≤ 1
over_few y m = go (eqb m.kind prefix_kind) (same (take (length m.from) y) m.from) (ltb (length y) (length m.to))
  where
    go : (a b c : Bool) → pick a (pick b (pick c 1 0) 0) 0 ≤ 1
    go true true true = omega arith
    go true true false = omega arith
    go true false c = omega arith
    go false b c = omega arith

over_none : (y : List ℕ) (s k : ℕ) (p : List ℕ) → 4 ≤ k → over y (mark s k p p) ≡ 0
over_none y s k p h = rw (ne_eqb k prefix_kind (λ e. omega arith)) refl

over_prefix : (y p t : List ℕ) → 1 ≤ pick (same (take (length p) y) p) (pick (ltb (length y) (length t)) 1 0) 0 → Begins y p × (length y < length t)
over_prefix y p t h = go (same (take (length p) y) p) (ltb (length y) (length t)) refl refl h
  where
    go : (a b : Bool) → same (take (length p) y) p ≡ a → ltb (length y) (length t) ≡ b → 1 ≤ pick a (pick b 1 0) 0 → Begins y p × (length y < length t)
    go true true e g h = (same_true (take (length p) y) p e, ltb-true (length y) (length t) g)
    go true false e g h = absurd (omega arith)
    go false b e g h = absurd (omega arith)

over_names : (E : Edition) (y : List ℕ) → Names E (over y) y
over_names E y = record {
  one = over_few y;
  leaf = λ s k h. absurd (omega arith);
  node = λ s k p i h. absurd (omega (arith, over_none y s k p i));
  prefix = λ s p q i h. let P = over_prefix y p (p ++ q) h in (P.0, omega (arith, P.1, length-append p q));
}

root_once : (E : Edition) (f y : List ℕ) (r : Root) → RootAt E f r → count (over y) (root_marks r) ≤ 1
unfolding RootAt
root_once E f y (bare s o) T = omega (arith, bare_marks (over y) s o, over_few y (mark s empty_root_kind [] []))
root_once E f y (tree l) T = rw (tree_marks l) (tree_once (over_names E y) f [] l T)

over_one : (y : List ℕ) (m : Mark) → m.kind ≡ prefix_kind → Begins y m.from → length y < length m.to → 1 ≤ over y m
over_one y m k b g = rw (k, b, same_refl m.from, lt-ltb (length y) (length m.to) g) (omega arith)

-- ---- Prefixes that have bytes in common

-- the start of the one is on the way to the end of the other
pub on_way : (m y : Mark) → Begins y.to y.from → Common m y → take (length y.from) m.to ≡ y.from
on_way m y b C = shared_take (length y.from) m.to y.to (omega (arith, C.right)) ∙ b

module _ (E : Edition) (f : List ℕ) (r : Root) (T : RootAt E f r) where
  -- no other Prefix starts between the start and the end of one
  pub lone : (x z : Mark) → In x (root_marks r) → In z (root_marks r) → x.kind ≡ prefix_kind → z.kind ≡ prefix_kind → Begins z.from x.from → length z.from < length x.to → x ≡ z
  lone x z hx hz kx kz b l =
      only (over z.from) (root_marks r) (root_once E f z.from r T) x z hx hz (over_one z.from x kx b l) (over_one z.from z kz (begins_self z.from) ((known E f z r T hz).some kz))

  -- what has a byte in common with anything is a Prefix
  pub common_prefix : (m n : Mark) → In m (root_marks r) → Common m n → m.kind ≡ prefix_kind
  common_prefix m n h C = elim (ℕ_discrete m.kind prefix_kind) [ yes e ↦ e | no e ↦ absurd (omega (arith, C.left, shared_left m.to n.to, ap length ((known E f m r T h).flat e))) ]

  pub common_one : (m n : Mark) → In m (root_marks r) → In n (root_marks r) → Common m n → m ≡ n
  common_one m n hm hn C =
      let a = shared_left m.to n.to in
      let b = shared_right m.to n.to in
      let km = common_prefix m n hm C in
      let kn = common_prefix n m hn (common_turn m n C) in
      let sm = (known E f m r T hm).spans in
      let sn = (known E f n r T hn).spans in
      elim (dec_le (length m.from) (length n.from)) [
        | yes l ↦ lone m n hm hn km kn (begins_of m.to m.from n.from sm (on_way m n sn C) l) (omega (arith, C.right))
        | no l ↦ sym (lone n m hn hm kn km (begins_of n.to n.from m.from sn (on_way n m sm (common_turn m n C)) (omega arith)) (omega (arith, C.left)))
      ]
