-- Two trees that stand and are one without slots and places have their bodies at the same places: the bodies of a chain too, for each Prefix is
-- full but the last. Assumes nothing.
use Prim.Native.Nat.{ℕ, ◌≤◌}
use mathlib.Core.Path.{◌≡◌, sym, ap, ◌∙◌}
use mathlib.Core.List.{List, [], ◌∷◌, ◌++◌}
use native.Mathlib.Omega.{arith}
use native.Mathlib.Decide.{dec_le}
use lib.ListN.{length, take, drop, length-append}
use lib.Seq.{take-append_seam, drop-append_seam}
use Rattle.layout.specs.Place.{prefix_most}
use Rattle.layout.specs.Kind.{leaf_kind, prefix_kind, empty_root_kind}
use Rattle.model.specs.Edition.{Edition, Value}
use Rattle.model.specs.Tree.{Art, Kids}
use Rattle.model.specs.Frame.{Lay, LayKids, Root, bare, tree, atop, art, art_kids, root_art, RootAt, Tree, Trees}
use Rattle.model.specs.Frame.Lay.{leaf, prefix, node}
use Rattle.model.specs.Frame.LayKids.{nil, kid}
use Rattle.model.specs.Mark.{Mark, mark, marks, marks_all, root_marks, count, is, In}
use Rattle.model.proofs.StringLaws.{clash}
use Rattle.model.proofs.ChainLaws.{Hung, below_hung}
use Rattle.model.proofs.MarkLaws.{leaf_marks, prefix_marks, node_marks, kid_marks, nil_marks, tree_marks, bare_marks, is_same, is_self}

-- ---- chains

-- a shared beginning has a byte
abbrev Some : Art → Type 0
Some (Art.leaf k v) = Unit {0}
Some (Art.prefix p a) = 1 ≤ length p
Some (Art.node kind ks) = Unit {0}

-- two strings in two parts, the first ones as long
parts_same : (p q p' q' : List ℕ) → length p ≡ length p' → p ++ q ≡ p' ++ q' → (p ≡ p') × (q ≡ q')
parts_same p q p' q' n e = (
  sym (take-append_seam p q) ∙ ap (take (length p)) e ∙ ap (λ (i : ℕ). take i (p' ++ q')) n ∙ take-append_seam p' q',
  sym (drop-append_seam p q) ∙ ap (drop (length p)) e ∙ ap (λ (i : ℕ). drop i (p' ++ q')) n ∙ drop-append_seam p' q',
)

-- the bytes of an Art that is a prefix
abbrev bytes_of : Art → List ℕ
bytes_of (Art.leaf k v) = []
bytes_of (Art.prefix p a) = p
bytes_of (Art.node kind ks) = []

pub atop_same : (p p' : List ℕ) (a a' : Art) → Hung p a → Hung p' a' → Some a → Some a' → length p ≤ prefix_most → length p' ≤ prefix_most → atop p a ≡ atop p' a' → (p ≡ p') × (a ≡ a')
atop_same p p' (Art.leaf k v) a' H H' S S' m m' e = absurd H
atop_same p p' (Art.prefix q a) (Art.leaf k' v') H H' S S' m m' e = absurd H'
atop_same p p' (Art.prefix q a) (Art.prefix q' a') H H' S S' m m' e =
    let P = parts_same p q p' q' (H ∙ sym H') (ap bytes_of e) in
    let x = P.0 in
    let y = P.1 in
    let z : a ≡ a' = cc in
    (x, ap (λ (i : List ℕ). Art.prefix i a) y ∙ ap (Art.prefix q') z)
atop_same p p' (Art.prefix q a) (Art.node kind' ks') H H' S S' m m' e = absurd (omega (arith, ap length (ap bytes_of e), length-append p q))
atop_same p p' (Art.node kind ks) (Art.leaf k' v') H H' S S' m m' e = absurd H'
atop_same p p' (Art.node kind ks) (Art.prefix q' a') H H' S S' m m' e = absurd (omega (arith, ap length (ap bytes_of e), length-append p' q'))
atop_same p p' (Art.node kind ks) (Art.node kind' ks') H H' S S' m m' e = (cc, cc)

some_atop : (p : List ℕ) (a : Art) → 1 ≤ length p → Some (atop p a)
some_atop p (Art.leaf k v) h = h
some_atop p (Art.prefix q a) h = omega (arith, length-append p q)
some_atop p (Art.node kind ks) h = h

tree_some : (E : Edition) (f p : List ℕ) (l : Lay) → Tree E f p l → Some (art l)
unfolding Tree
tree_some E f p (leaf s o e k v) T = tt
tree_some E f p (prefix s o q l) T = some_atop q (art l) T.1.some
tree_some E f p (node s o kind ks) T = tt

-- the bodies of two chains of one shared beginning have the same bytes
pub prefix_same : (E : Edition) (f g p p' : List ℕ) (s o : ℕ) (q : List ℕ) (l : Lay) (s' o' : ℕ) (q' : List ℕ) (l' : Lay) → Tree E f p (prefix s o q l) → Tree E g p' (prefix s' o' q' l')
    → art (prefix s o q l) ≡ art (prefix s' o' q' l') → (q ≡ q') × (art l ≡ art l')
unfolding Tree
prefix_same E f g p p' s o q l s' o' q' l' T U e =
    atop_same q q' (art l) (art l') (below_hung q l T.2) (below_hung q' l' U.2) (tree_some E f (p ++ q) l T.3) (tree_some E g (p' ++ q') l' U.3) T.1.most U.1.most e

pub atop_leaf : {A : Type 0} (p : List ℕ) (a : Art) (k : List ℕ) (v : Value) → atop p a ≡ Art.leaf k v → A
atop_leaf p (Art.leaf k' v') k v e = clash (cc)
atop_leaf p (Art.prefix q a) k v e = clash (cc)
atop_leaf p (Art.node kind ks) k v e = clash (cc)

pub atop_node : {A : Type 0} (p : List ℕ) (a : Art) (kind : ℕ) (ks : Kids) → atop p a ≡ Art.node kind ks → A
atop_node p (Art.leaf k' v') kind ks e = clash (cc)
atop_node p (Art.prefix q a) kind ks e = clash (cc)
atop_node p (Art.node kind' ks') kind ks e = clash (cc)

-- ---- places

-- a body at the place of x
pub record Seen (x : Mark) (ms : List Mark) : Type 0 where
  pub body : Mark
  pub there : In body ms
  pub kind : x.kind ≡ body.kind
  pub from : x.from ≡ body.from
  pub to : x.to ≡ body.to

seen_more : {x : Mark} {ms ns : List Mark} → ((m : Mark) → count (is m) ms ≤ count (is m) ns) → Seen x ms → Seen x ns
seen_more h S = record { body = S.body; there = omega (arith, h S.body, S.there); kind = S.kind; from = S.from; to = S.to }

module _ (E : Edition) (f g : List ℕ) (x : Mark) where
  here : (s s' k : ℕ) (a b : List ℕ) (ms : List Mark) → 1 ≤ is x (mark s k a b) → In (mark s' k a b) ms → Seen x ms
  here s s' k a b ms h i = let e = is_same x (mark s k a b) h in record { body = mark s' k a b; there = i; kind = ap (λ (z : Mark). z.kind) e; from = ap (λ (z : Mark). z.from) e; to = ap (λ (z : Mark). z.to) e }

  mutual
    unfolding Tree Trees

    seen : (p : List ℕ) (l l' : Lay) → Tree E f p l → Tree E g p l' → art l ≡ art l' → In x (marks p l) → Seen x (marks p l')
    seen p (leaf s o e k v) (leaf s' o' e' k' v') T U h i =
        let q : k ≡ k' = cc in
        rw (← q) (here s s' leaf_kind k k (marks p (leaf s' o' e' k v')) (omega (arith, leaf_marks (is x) p s o e k v)) (omega (arith, leaf_marks (is (mark s' leaf_kind k k)) p s' o' e' k v', is_self (mark s' leaf_kind k k))))
    seen p (leaf s o e k v) (prefix s' o' q' l') T U h i = atop_leaf q' (art l') k v (sym h)
    seen p (leaf s o e k v) (node s' o' kind' ks') T U h i = clash (cc)
    seen p (prefix s o q l) (leaf s' o' e' k' v') T U h i = atop_leaf q (art l) k' v' h
    seen p (prefix s o q l) (prefix s' o' q' l') T U h i =
        let S = prefix_same E f g p p s o q l s' o' q' l' T U h in
        let U' : Tree E g (p ++ q) l' = rw (← S.0) at U.3 in
        let m = mark s' prefix_kind p (p ++ q) in
        rw (← S.0) (elim (dec_le 1 (is x (mark s prefix_kind p (p ++ q)))) [
          | yes t ↦ here s s' prefix_kind p (p ++ q) (marks p (prefix s' o' q l')) t (omega (arith, prefix_marks (is m) p s' o' q l', is_self m))
          | no t ↦ seen_more (λ n. omega (arith, prefix_marks (is n) p s' o' q l')) (seen (p ++ q) l l' T.3 U' S.1 (omega (arith, prefix_marks (is x) p s o q l)))
        ])
    seen p (prefix s o q l) (node s' o' kind' ks') T U h i = atop_node q (art l) kind' (art_kids ks') h
    seen p (node s o kind ks) (leaf s' o' e' k' v') T U h i = clash (cc)
    seen p (node s o kind ks) (prefix s' o' q' l') T U h i = atop_node q' (art l') kind (art_kids ks) (sym h)
    seen p (node s o kind ks) (node s' o' kind' ks') T U h i =
        let e : kind ≡ kind' = cc in
        let c : art_kids ks ≡ art_kids ks' = cc in
        let m = mark s' kind p p in
        rw (← e) (elim (dec_le 1 (is x (mark s kind p p))) [
          | yes t ↦ here s s' kind p p (marks p (node s' o' kind ks')) t (omega (arith, node_marks (is m) p s' o' kind ks', is_self m))
          | no t ↦ seen_more (λ n. omega (arith, node_marks (is n) p s' o' kind ks')) (seen_all p ks ks' T.2 U.2 c (omega (arith, node_marks (is x) p s o kind ks)))
        ])

    seen_all : (p : List ℕ) (ks ks' : LayKids) → Trees E f p ks → Trees E g p ks' → art_kids ks ≡ art_kids ks' → In x (marks_all p ks) → Seen x (marks_all p ks')
    seen_all p nil ks' T U h i = absurd (omega (arith, nil_marks (is x) p))
    seen_all p (kid b j l ks) nil T U h i = clash (cc)
    seen_all p (kid b j l ks) (kid b' j' l' ks') T U h i =
        let e : b ≡ b' = cc in
        let a : art l ≡ art l' = cc in
        let c : art_kids ks ≡ art_kids ks' = cc in
        let U' : Tree E g (p ++ b ∷ []) l' = rw (← e) at U.0 in
        rw (← e) (elim (dec_le 1 (count (is x) (marks (p ++ b ∷ []) l))) [
          | yes t ↦ seen_more (λ n. omega (arith, kid_marks (is n) p b j' l' ks')) (seen (p ++ b ∷ []) l l' T.0 U' a t)
          | no t ↦ seen_more (λ n. omega (arith, kid_marks (is n) p b j' l' ks')) (seen_all p ks ks' T.1 U.1 c (omega (arith, kid_marks (is x) p b j l ks)))
        ])

  pub root_seen : (r r' : Root) → RootAt E f r → RootAt E g r' → root_art r ≡ root_art r' → In x (root_marks r) → Seen x (root_marks r')
  unfolding RootAt
  root_seen (bare s o) (bare s' o') T U h i =
      let m = mark s' empty_root_kind [] [] in here s s' empty_root_kind [] [] (root_marks (bare s' o')) (omega (arith, bare_marks (is x) s o)) (omega (arith, bare_marks (is m) s' o', is_self m))
  root_seen (bare s o) (tree l') T U h i = clash (cc)
  root_seen (tree l) (bare s' o') T U h i = clash (cc)
  root_seen (tree l) (tree l') T U h i = let e : art l ≡ art l' = cc in rw (tree_marks l') (seen [] l l' T U e (rw (tree_marks l) at i))
