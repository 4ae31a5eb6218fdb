-- One law for each step down: a Leaf, a Prefix, an inner node. Assumes nothing.
use Prim.Native.Nat.{ℕ, ◌+◌, ◌<◌, ◌≤◌}
use native.Mathlib.Omega.{arith}
use native.Mathlib.Decide.{ℕ_discrete}
use mathlib.Core.Path.{◌≡◌, refl, sym, ◌∙◌}
use mathlib.Core.List.{List, [], ◌∷◌, ◌++◌}
use lib.ListN.{length, length-append}
use Rattle.layout.specs.Number.{le, Bytes}
use Rattle.layout.specs.Place.{entry_at, prefix_child, prefix_length}
use Rattle.layout.specs.Kind.{leaf_kind, prefix_kind, fewest}
use Rattle.layout.specs.Entry.{high_of, place_of}
use Rattle.model.specs.Edition.{Edition, Lawful}
use Rattle.model.specs.Body.{InnerAt, PrefixAt, child_in}
use Rattle.model.specs.Frame.{Lay, LayKids, slot_of, pairs, Tree, Trees}
use Rattle.model.specs.Frame.Lay.{leaf, prefix, node}
use Rattle.model.specs.Frame.LayKids.{nil, kid}
use Rattle.node.specs.Kids.{Reached}
use Rattle.inner.specs.Inner.{Visit}
use Rattle.listing.specs.Seek.{Leafy, leaves, leaves_all, first_leaf}
use Rattle.inside.specs.Inside.{Inside, InsideAll}
use Rattle.inside.proofs.InsideLaws.{entry_at_lem, slot_kind, slot_in, below_short, node_short}
use Rattle.seek.specs.Sub.{Sub, Placed, FirstAt, Down}

-- ---- a node has two children or more, so every tree has a Leaf

pub two_least : (kind n : ℕ) → 4 ≤ kind → kind ≤ 7 → fewest kind ≤ n → 2 ≤ n
two_least kind n a b h = elim (ℕ_discrete kind 4) [
  | yes e ↦ let z : fewest 4 ≤ n = rw e at h in omega arith
  | no x ↦ elim (ℕ_discrete kind 5) [
    | yes e ↦ let z : fewest 5 ≤ n = rw e at h in omega arith
    | no y ↦ elim (ℕ_discrete kind 6) [
      | yes e ↦ let z : fewest 6 ≤ n = rw e at h in omega arith
      | no w ↦ let e : kind ≡ 7 = omega arith in let z : fewest 7 ≤ n = rw e at h in omega arith
    ]
  ]
]

pub record Full (xs : List Leafy) : Type 0 where
  pub head : Leafy
  pub rest : List Leafy
  pub is : xs ≡ head ∷ rest

full_append : (xs ys : List Leafy) → Full xs → Full (xs ++ ys)
full_append xs ys h = record { head = h.head; rest = h.rest ++ ys; is = rw h.is }

pub first_append : (xs ys : List Leafy) → Full xs → first_leaf (xs ++ ys) ≡ first_leaf xs
first_append xs ys h = rw h.is

mutual
  unfolding Tree Trees pairs

  pub tree_full : (E : Edition) (f path : List ℕ) (l : Lay) → Tree E f path l → Full (leaves l)
  tree_full E f path (leaf s o e k v) T = record { head = record { place = o; key = k }; rest = []; is = refl }
  tree_full E f path (prefix s o p l) T = tree_full E f (path ++ p) l T.3
  tree_full E f path (node s o kind ks) T = let r = T.1.inner.range in kids_full E f path ks (two_least kind (length (pairs ks)) r.0 r.1 T.1.least) T.2

  kids_full : (E : Edition) (f path : List ℕ) (ks : LayKids) → 2 ≤ length (pairs ks) → Trees E f path ks → Full (leaves_all ks)
  kids_full E f path nil h T = absurd (omega arith)
  kids_full E f path (kid b j l ks) h T = full_append (leaves l) (leaves_all ks) (tree_full E f (path ++ b ∷ []) l T.0)

-- ---- its entry lies in the frame, and an inner node's path is short

pub sub_slot : {E : Edition} {f : List ℕ} {s d : ℕ} → Sub E f s d → (1 ≤ s) × (entry_at s + 4 ≤ length f)
sub_slot {E} {f} {s} S = let i = slot_in f s S.lay S.inside S.slot_is in (i.first, i.last)

pub sub_kind : {E : Edition} {f : List ℕ} {s d : ℕ} → Sub E f s d → (1 ≤ high_of f s) × (high_of f s ≤ 8)
sub_kind {E} {f} {s} S = slot_kind E f S.path s S.lay S.tree S.slot_is

-- ---- the end: a Leaf

pub leaf_first : (E : Edition) (f path : List ℕ) (s o : ℕ) (l : Lay) → Tree E f path l → slot_of l ≡ s → high_of f s ≡ leaf_kind → place_of f s ≡ o → Placed (first_leaf (leaves l)) o
unfolding Tree
leaf_first E f path s o (leaf s' o' e k v) T q h p = record { leaf = record { place = o'; key = k }; is = refl; place = (entry_at_lem f s' s leaf_kind leaf_kind o' o q h p T.0).1 }
leaf_first E f path s o (prefix s' o' b l) T q h p = absurd (omega (arith, (entry_at_lem f s' s prefix_kind leaf_kind o' o q h p T.0).0))
leaf_first E f path s o (node s' o' kind ks) T q h p = absurd (omega (arith, (entry_at_lem f s' s kind leaf_kind o' o q h p T.0).0, T.1.inner.range))

pub down_leaf : {E : Edition} {f : List ℕ} {s s' d o : ℕ} → Down E f s s' d → high_of f s' ≡ leaf_kind → place_of f s' ≡ o → FirstAt E f s o
down_leaf {E} {f} {s} {s'} {d} {o} D h p path l T q =
    let P = leaf_first E f D.sub.path s' o D.sub.lay D.sub.tree D.sub.slot_is h p in
    record { leaf = P.leaf; is = D.same path l T q ∙ P.is; place = P.place }

-- ---- a Prefix

-- what stands below it
pub record Below (E : Edition) (f : List ℕ) (d o : ℕ) (l : Lay) (c n : ℕ) : Type 0 where
  pub sub : Sub E f c (d + n)
  pub first : first_leaf (leaves l) ≡ first_leaf (leaves sub.lay)
  pub falls : 1 ≤ n

pub prefix_room : (E : Edition) (f path : List ℕ) (s o : ℕ) (l : Lay) → Tree E f path l → slot_of l ≡ s → high_of f s ≡ prefix_kind → place_of f s ≡ o → o + 128 ≤ length f
unfolding Tree
prefix_room E f path s o (leaf s' o' e k v) T q h p = absurd (omega (arith, (entry_at_lem f s' s leaf_kind prefix_kind o' o q h p T.0).0))
prefix_room E f path s o (prefix s' o' b l) T q h p = let e = (entry_at_lem f s' s prefix_kind prefix_kind o' o q h p T.0).1 in let r = T.1.room in omega arith
prefix_room E f path s o (node s' o' kind ks) T q h p = absurd (omega (arith, (entry_at_lem f s' s kind prefix_kind o' o q h p T.0).0, T.1.inner.range))

pub prefix_below : (E : Edition) (L : Lawful E) (f path : List ℕ) (s d o c n : ℕ) (l : Lay) → Bytes f → length path ≡ d → Inside f l → Tree E f path l → slot_of l ≡ s → high_of f s ≡ prefix_kind → place_of f s ≡ o
    → c ≡ le 4 f (o + prefix_child) → n ≡ le 2 f (o + prefix_length) → Below E f d o l c n
unfolding Tree Inside
prefix_below E L f path s d o c n (leaf s' o' e k v) B D I T q h p ec en = absurd (omega (arith, (entry_at_lem f s' s leaf_kind prefix_kind o' o q h p T.0).0))
prefix_below E L f path s d o c n (prefix s' o' b l) B D I T q h p ec en =
    let e = (entry_at_lem f s' s prefix_kind prefix_kind o' o q h p T.0).1 in
    let P : PrefixAt f o b (slot_of l) = rw e at T.1 in
    let m : n ≡ length b = en ∙ P.long in
    let u = P.some in
    let w = below_short L f (path ++ b) b l B T.2 T.3 in
    record {
      sub = record { lawful = L; lay = l; path = path ++ b; tree = T.3; slot_is = sym (ec ∙ P.child); inside = I.1; bytes = B; deep = omega (arith, length-append path b); short = omega (arith, length-append path b) };
      first = refl;
      falls = omega arith;
    }
prefix_below E L f path s d o c n (node s' o' kind ks) B D I T q h p ec en = absurd (omega (arith, (entry_at_lem f s' s kind prefix_kind o' o q h p T.0).0, T.1.inner.range))

pub down_to : {E : Edition} {f : List ℕ} {s s' d o c n : ℕ} (D : Down E f s s' d) → Below E f d o D.sub.lay c n → Down E f s c (d + n)
down_to D W = record { sub = W.sub; same = λ path l T q. D.same path l T q ∙ W.first }

-- ---- an inner node

first_kid : (E : Edition) (L : Lawful E) (f path : List ℕ) (ks : LayKids) (d c : ℕ) → length path ≡ d → d < E.longest → Bytes f → InsideAll f ks → Trees E f path ks → 2 ≤ length (pairs ks) → c ≡ child_in (pairs ks) 0
    → (S : Sub E f c (d + 1)) × (first_leaf (leaves_all ks) ≡ first_leaf (leaves S.lay))
unfolding Trees InsideAll pairs
first_kid E L f path nil d c D m B I T h e = absurd (omega arith)
first_kid E L f path (kid x j l ks) d c D m B I T h e = (
  record { lawful = L; lay = l; path = path ++ x ∷ []; tree = T.0; slot_is = sym e; inside = I.0; bytes = B; deep = omega (arith, length-append path (x ∷ [])); short = omega arith },
  first_append (leaves l) (leaves_all ks) (tree_full E f (path ++ x ∷ []) l T.0),
)

pub reached_first : (ks : List (ℕ × ℕ)) → Reached ks 0 0
reached_first ks = record { past = λ j l. absurd (omega arith); ahead = λ l. omega arith }

-- a walk through the children of an inner node stands before the first
pub node_visit : (E : Edition) (f path : List ℕ) (s o kind : ℕ) (l : Lay) → Tree E f path l → slot_of l ≡ s → (high_of f s ≡ leaf_kind → ⊥) → (high_of f s ≡ prefix_kind → ⊥) → high_of f s ≡ kind → place_of f s ≡ o → Visit f o kind 0 0
unfolding Tree
node_visit E f path s o kind (leaf s' o' e k v) T q x y h p = absurd (x (rw q at T.0.kind_is))
node_visit E f path s o kind (prefix s' o' b l) T q x y h p = absurd (y (rw q at T.0.kind_is))
node_visit E f path s o kind (node s' o' kind' ks) T q x y h p =
    let e = entry_at_lem f s' s kind' kind o' o q h p T.0 in
    let r = T.1.inner.range in
    let n = two_least kind' (length (pairs ks)) r.0 r.1 T.1.least in
    record { kids = pairs ks; node = rw (e.0, e.1) at T.1.inner; inside = omega arith; reached = reached_first (pairs ks); low = omega arith }

pub node_below : (E : Edition) (L : Lawful E) (f path : List ℕ) (s d o kind c : ℕ) (l : Lay) → Bytes f → length path ≡ d → Inside f l → Tree E f path l → slot_of l ≡ s → (high_of f s ≡ leaf_kind → ⊥) → (high_of f s ≡ prefix_kind → ⊥) → high_of f s ≡ kind → place_of f s ≡ o
    → ((ks : List (ℕ × ℕ)) → InnerAt f o kind ks → Reached ks 0 0 → c ≡ child_in ks 0) → Below E f d o l c 1
unfolding Tree Inside
node_below E L f path s d o kind c (leaf s' o' e k v) B D I T q x y h p N = absurd (x (rw q at T.0.kind_is))
node_below E L f path s d o kind c (prefix s' o' r l) B D I T q x y h p N = absurd (y (rw q at T.0.kind_is))
node_below E L f path s d o kind c (node s' o' kind' ks) B D I T q x y h p N =
    let e = entry_at_lem f s' s kind' kind o' o q h p T.0 in
    let A : InnerAt f o kind (pairs ks) = rw (e.0, e.1) at T.1.inner in
    let r = T.1.inner.range in
    let m = node_short L f path (node s' o' kind' ks) B tt T in
    let K = first_kid E L f path ks d c D (omega arith) B I.1 T.2 (two_least kind' (length (pairs ks)) r.0 r.1 T.1.least) (N (pairs ks) A (reached_first (pairs ks))) in
    record { sub = K.0; first = K.1; falls = omega arith }
