-- The subtree where a descent stands: its slot has an entry, its body lies in the frame, and it is a Leaf, a Prefix or an inner node
-- as the entry says. Assumes nothing.
use Prim.Native.Nat.{ℕ, ◌+◌, ◌≤◌}
use mathlib.Core.Path.{◌≡◌, refl, sym, ap, ◌∙◌}
use mathlib.Core.List.{List, [], ◌∷◌, ◌++◌, append-nil, head-eq_of_cons-eq, tail-eq_of_cons-eq}
use mathlib.Core.Option.{some}
use native.Mathlib.Omega.{arith}
use lib.ListN.{length, take, drop, length-append, get_or-append}
use borrow.Author.Tests.{eq-eqb}
use lib.Seq.{get_or-append-add}
use Rattle.layout.specs.Number.{le}
use Rattle.layout.specs.Place.{entry_at, leaf_extent, leaf_key, prefix_length, prefix_bytes}
use Rattle.layout.specs.Kind.{leaf_kind, prefix_kind, body_size, number_of}
use Rattle.layout.specs.declared.kind.Kind.{Kind}
use Rattle.layout.specs.declared.kind.Kind.TheVariants as kinds
use Rattle.layout.specs.Entry.{place_of, high_of}
use Rattle.model.specs.Strings.{shared}
use Rattle.model.specs.Edition.{Edition, Lawful, Legal, Value, text_of}
use Rattle.model.specs.Item.{Item, body, extent, sum, Same}
use Rattle.model.specs.Body.{Text, look_kid}
use Rattle.model.specs.Tree.{extent_of}
use Rattle.model.specs.Frame.{Lay, LayKids, Root, tree, slot_of, art_kids, items, items_all, pairs, Entry, Begins, Tree, RootAt, root_items, Numbers, view_of, Heap}
use Rattle.model.specs.Frame.Lay.{leaf, prefix, node}
use Rattle.model.proofs.StandsGood.{below_inside, tree_well}
use Rattle.model.proofs.WellLaws.{Inside, inside_short, not_inside, node_inside}
use Rattle.keys.proofs.KeyLaws.{text_part}
use Rattle.keys.proofs.WordLaws.{spells_shared}
use Rattle.model.proofs.ItemLaws.{sum_app, sum_cons}
use Rattle.room.proofs.HeapLaws.{lies}
use Rattle.between.specs.Hole.{Step, under, among, plug, path_of, steps_items}
use Rattle.between.specs.Work.{Suits, Around}
use Rattle.between.specs.Lead.{NotUnder}
use Rattle.between.proofs.TreeLaws.{sum_none, leaf_sum, prefix_sum, node_sum, leaf_parts, prefix_parts, node_parts}
use Rattle.between.proofs.HoleLaws.{plug_sum, plug_among, hole_out}
use Rattle.between.proofs.KidsLaws.{look_split}
use Rattle.descent.specs.declared.spot.Spot.{Spot}
use Rattle.descent.specs.Spot.{Going, Counted, Sought, AtLeaf, AtPrefix, AtNode}

-- ---- bytes of the frame

pub text_left : (f : List ℕ) (o : ℕ) (p q : List ℕ) → Text f o (p ++ q) → Text f o p
text_left f o p q T = λ i h. T i (omega (arith, length-append p q)) ∙ get_or-append p q 0 i h

pub text_right : (f : List ℕ) (o : ℕ) (p q : List ℕ) → Text f o (p ++ q) → Text f (o + length p) q
text_right f o p q T = λ i h.
    let e : o + length p + i ≡ o + (length p + i) = omega arith in
    rw e (T (length p + i) (omega (arith, length-append p q)) ∙ get_or-append-add p q i 0)

-- ---- kinds by their numbers

pub not_leaf : (k : Kind) → (k ≡ kinds.Leaf → ⊥) → number_of k ≡ 1 → ⊥
not_leaf kinds.Leaf n e = n refl
not_leaf kinds.Prefix n e = absurd (let z : 2 ≡ 1 = e in omega arith)
not_leaf kinds.Crossing n e = absurd (let z : 3 ≡ 1 = e in omega arith)
not_leaf kinds.Node4 n e = absurd (let z : 4 ≡ 1 = e in omega arith)
not_leaf kinds.Node16 n e = absurd (let z : 5 ≡ 1 = e in omega arith)
not_leaf kinds.Node48 n e = absurd (let z : 6 ≡ 1 = e in omega arith)
not_leaf kinds.Node256 n e = absurd (let z : 7 ≡ 1 = e in omega arith)
not_leaf kinds.EmptyRoot n e = absurd (let z : 8 ≡ 1 = e in omega arith)

pub not_prefix : (k : Kind) → (k ≡ kinds.Prefix → ⊥) → number_of k ≡ 2 → ⊥
not_prefix kinds.Leaf n e = absurd (let z : 1 ≡ 2 = e in omega arith)
not_prefix kinds.Prefix n e = n refl
not_prefix kinds.Crossing n e = absurd (let z : 3 ≡ 2 = e in omega arith)
not_prefix kinds.Node4 n e = absurd (let z : 4 ≡ 2 = e in omega arith)
not_prefix kinds.Node16 n e = absurd (let z : 5 ≡ 2 = e in omega arith)
not_prefix kinds.Node48 n e = absurd (let z : 6 ≡ 2 = e in omega arith)
not_prefix kinds.Node256 n e = absurd (let z : 7 ≡ 2 = e in omega arith)
not_prefix kinds.EmptyRoot n e = absurd (let z : 8 ≡ 2 = e in omega arith)

pub not_empty : (k : Kind) → (k ≡ kinds.EmptyRoot → ⊥) → number_of k ≡ 8 → ⊥
not_empty kinds.Leaf n e = absurd (let z : 1 ≡ 8 = e in omega arith)
not_empty kinds.Prefix n e = absurd (let z : 2 ≡ 8 = e in omega arith)
not_empty kinds.Crossing n e = absurd (let z : 3 ≡ 8 = e in omega arith)
not_empty kinds.Node4 n e = absurd (let z : 4 ≡ 8 = e in omega arith)
not_empty kinds.Node16 n e = absurd (let z : 5 ≡ 8 = e in omega arith)
not_empty kinds.Node48 n e = absurd (let z : 6 ≡ 8 = e in omega arith)
not_empty kinds.Node256 n e = absurd (let z : 7 ≡ 8 = e in omega arith)
not_empty kinds.EmptyRoot n e = n refl

-- ---- where a body lies

abbrev pub kind_in : Lay → ℕ
kind_in (leaf s o e k v) = leaf_kind
kind_in (prefix s o p l) = prefix_kind
kind_in (node s o kind ks) = kind

abbrev pub place_in : Lay → ℕ
place_in (leaf s o e k v) = o
place_in (prefix s o p l) = o
place_in (node s o kind ks) = o

root_sum : (w : Item → ℕ) (l : Lay) → sum w (root_items (tree l)) ≡ sum w (items l)
unfolding root_items
root_sum w l = refl

-- what is known of the body of a subtree
pub record Seat (f : List ℕ) (t : Lay) : Type 0 where
  pub low : 1 ≤ slot_of t
  pub table : entry_at (slot_of t) + 4 ≤ length f
  pub entry : Entry f (slot_of t) (kind_in t) (place_in t)
  pub fits : place_in t + body_size (kind_in t) ≤ length f
  pub kinds : (1 ≤ kind_in t) × (kind_in t ≤ 7)

-- ---- while a descent goes

heap_at : {f : List ℕ} (n : Numbers) (ls : List (List (ℕ × ℕ))) (r : Root) (l m : Lay) → r ≡ tree l → l ≡ m → Heap f (view_of n ls r) → Heap f (view_of n ls (tree m))
heap_at n ls r l m e d H = rw (e, d) at H

suits_leaf : (xs : List Step) (s o e : ℕ) (k : List ℕ) (v : Value) → Suits xs (leaf s o e k v) → NotUnder xs
unfolding Suits
suits_leaf [] s o e k v S = tt
suits_leaf (under s' o' p ∷ xs) s o e k v S = absurd S
suits_leaf (among s' o' kind ls b j rs ∷ xs) s o e k v S = tt

-- two strings that begin with a path share it
begun_shared : (path r w : List ℕ) → Begins w path → length path ≤ shared (path ++ r) w
begun_shared [] r w h = omega arith
begun_shared (x ∷ path) r [] h = absurd (omega (arith, ap length h))
begun_shared (x ∷ path) r (y ∷ w) h =
    let z = begun_shared path r w (tail-eq_of_cons-eq h) in
    rw (eq-eqb x y (sym (head-eq_of_cons-eq h))) (omega arith)

-- a legal walked string goes on from where it does not end
goes_on : {E : Edition} (L : Lawful E) {k path : List ℕ} → Legal E k → Inside E path → (rest : List ℕ) → E.walked k ≡ path ++ rest → (b : ℕ) × (after : List ℕ) × (rest ≡ b ∷ after)
goes_on L {k} {path} l I [] e = not_inside L k path l I (e ∙ append-nil path)
goes_on L l I (b ∷ after) e = (b, after, refl)

module _ (E : Edition) where
  module _ {f : List ℕ} {n : Numbers} {ls : List (List (ℕ × ℕ))} (xs : List Step) where
    seat_of : (t : Lay) (rest : List Item) → Heap f (view_of n ls (tree (plug xs t))) → ((w : Item → ℕ) → sum w (items t) ≡ w (body (slot_of t) (kind_in t) (place_in t)) + sum w rest)
        → Entry f (slot_of t) (kind_in t) (place_in t) → (1 ≤ kind_in t) × (kind_in t ≤ 7) → Seat f t
    seat_of t rest H S Y K =
        let own : Same (root_items (tree (plug xs t))) (body (slot_of t) (kind_in t) (place_in t) ∷ (rest ++ steps_items xs))
        = λ w. omega (arith, root_sum w (plug xs t), plug_sum w xs t, S w, sum_cons w (body (slot_of t) (kind_in t) (place_in t)) (rest ++ steps_items xs), sum_app w rest (steps_items xs)) in
        let L = lies (slot_of t) (kind_in t) (place_in t) (rest ++ steps_items xs) H own K.0 (omega (arith, K.1)) in
        let b = H.header.bump_in in
        let z = H.header.size in
        record { low = L.low; table = omega (arith, L.table); entry = Y; fits = omega (arith, L.ends); kinds = K }

    pub seat : (path : List ℕ) (t : Lay) → Heap f (view_of n ls (tree (plug xs t))) → Tree E f path t → Seat f t
    seat path (leaf s o e k v) H T =
        seat_of (leaf s o e k v) (extent e (extent_of k v) ∷ []) H (λ w. omega (arith, leaf_sum w s o e k v, sum_cons w (extent e (extent_of k v)) [], sum_none w)) (leaf_parts E f path s o e k v T).0 (omega arith, omega arith)
    seat path (prefix s o p l) H T = seat_of (prefix s o p l) (items l) H (λ w. prefix_sum w s o p l) (prefix_parts E f path s o p l T).0 (omega arith, omega arith)
    seat path (node s o kind ks) H T =
        let P = node_parts E f path s o kind ks T in
        let r = P.1.inner.range in
        seat_of (node s o kind ks) (items_all ks) H (λ w. node_sum w s o kind ks) P.0 (omega arith, omega arith)

  tree_at : (f : List ℕ) (r : Root) (l m : Lay) → r ≡ tree l → l ≡ m → RootAt E f r → Tree E f [] m
  unfolding RootAt
  tree_at f r l m e d R = rw (e, d) at R

  module _ {f k : List ℕ} {s : Spot} (G : Going E f k s) where
    pub heap_of : Heap f (view_of G.stands.nums G.stands.lists (tree (plug G.way.steps G.way.sub)))
    heap_of = heap_at G.stands.nums G.stands.lists G.stands.root G.lay (plug G.way.steps G.way.sub) G.is G.way.whole G.stands.heap

    -- around the subtree all stands, and so does the subtree
    pub hole : Around E f G.way.steps (slot_of G.way.sub) × Suits G.way.steps G.way.sub × Tree E f (path_of G.way.steps) G.way.sub
    hole = hole_out E f G.way.steps G.way.sub (tree_at f G.stands.root G.lay (plug G.way.steps G.way.sub) G.is G.way.whole G.stands.root_at)

    pub seated : Seat f G.way.sub
    seated = seat G.way.steps (path_of G.way.steps) G.way.sub heap_of hole.2

    pub going_entry : (1 ≤ s.here.slot) × (entry_at s.here.slot + 4 ≤ length f)
    going_entry = let q = G.way.slot_is in let S = seated in (omega (arith, S.low), omega (arith, S.table))

    -- the kind that the entry says is one
    pub going_kind : {h : ℕ} → h ≡ high_of f s.here.slot → (1 ≤ h) × (h ≤ 8)
    going_kind p =
        let Y = rw G.way.slot_is at seated.entry in
        let K = seated.kinds in (omega (arith, p, Y.kind_is, K.0), omega (arith, p, Y.kind_is, K.1))

    -- the entry's words and the subtree's are the same
    same_entry : (kind o : ℕ) → kind ≡ high_of f s.here.slot → o ≡ place_of f s.here.slot → (kind_in G.way.sub ≡ kind) × (place_in G.way.sub ≡ o)
    same_entry kind o p q =
        let Y = rw G.way.slot_is at seated.entry in
        (sym Y.kind_is ∙ sym p, sym Y.place_is ∙ sym q)

    pub leaf_here : Lawful E → Legal E k → Counted E k s G.lay G.way.sub → (o : ℕ) → 1 ≡ high_of f s.here.slot → o ≡ place_of f s.here.slot → AtLeaf E f k s o
    leaf_here L K C o p q = go G.way.sub refl
      where
        go : (t : Lay) → G.way.sub ≡ t → AtLeaf E f k s o
        go (leaf s' o' e k' v') z =
            let N = same_entry 1 o p q in
            let d : o' ≡ o = rw z at N.1 in
            let c : s' ≡ s.here.slot = rw z at G.way.slot_is in
            let r : place_in (leaf s' o' e k' v') + 16 ≤ length f = rw z at seated.fits in
            let T : Tree E f (path_of G.way.steps) (leaf s' o' e k' v') = rw z at hole.2 in
            let Y = (leaf_parts E f (path_of G.way.steps) s' o' e k' v' T).1 in
            record { lawful = L; legal = K; going = G; count = C; extent = e; key = k'; value = v'; is = z ∙ cc; room = omega arith; at = rw (sym d) Y; free = suits_leaf G.way.steps s' o' e k' v' (rw z at hole.1) }
        go (prefix s' o' b l) z = absurd (let e : 2 ≡ 1 = rw z at (same_entry 1 o p q).0 in omega arith)
        go (node s' o' kind ks) z =
            let e : kind ≡ 1 = rw z at (same_entry 1 o p q).0 in
            let T : Tree E f (path_of G.way.steps) (node s' o' kind ks) = rw z at hole.2 in
            let r = (node_parts E f (path_of G.way.steps) s' o' kind ks T).1.inner.range in
            absurd (omega arith)

    pub prefix_here : {w : List ℕ} → Lawful E → Sought E k w → Counted E k s G.lay G.way.sub → (o : ℕ) → 2 ≡ high_of f s.here.slot → o ≡ place_of f s.here.slot → AtPrefix E f k w s o
    prefix_here {w} L K C o p q = go G.way.sub refl
      where
        go : (t : Lay) → G.way.sub ≡ t → AtPrefix E f k w s o
        go (leaf s' o' e k' v') z = absurd (let e : 1 ≡ 2 = rw z at (same_entry 2 o p q).0 in omega arith)
        go (prefix s' o' b l) z =
            let path = path_of G.way.steps in
            let d : o' ≡ o = rw z at (same_entry 2 o p q).1 in
            let c : s' ≡ s.here.slot = rw z at G.way.slot_is in
            let T : Tree E f path (prefix s' o' b l) = rw z at hole.2 in
            let P = prefix_parts E f path s' o' b l T in
            let I = below_inside L f (path ++ b) b l G.stands.bytes P.2 P.3 in
            let W = inside_short L (path ++ b) I in
            let n = G.way.deep in
            record { lawful = L; sought = K; going = G; count = C; bytes = b; below = l; is = z ∙ cc; at = rw (sym d) (prefix_parts E f path s' o' b l T).1; hangs = P.2; low = going_entry.0; short = omega (arith, length-append path b) }
        go (node s' o' kind ks) z =
            let e : kind ≡ 2 = rw z at (same_entry 2 o p q).0 in
            let T : Tree E f (path_of G.way.steps) (node s' o' kind ks) = rw z at hole.2 in
            let r = (node_parts E f (path_of G.way.steps) s' o' kind ks T).1.inner.range in
            absurd (omega arith)

    -- no child has slot 0
    some_child : (s' o kind : ℕ) (ks : LayKids) → G.way.sub ≡ node s' o kind ks → (b : ℕ) → look_kid b (pairs ks) ≡ some 0 → ⊥
    some_child s' o kind ks z b h =
        let path = path_of G.way.steps in
        let S = look_split b 0 ks h in
        let e = z ∙ ap (node s' o kind) S.is in
        let x = among s' o kind S.before b S.place S.after in
        let w = G.way.whole ∙ ap (plug G.way.steps) e ∙ sym (plug_among s' o kind S.before b S.place S.after G.way.steps S.child) in
        let H = heap_at G.stands.nums G.stands.lists G.stands.root G.lay (plug (x ∷ G.way.steps) S.child) G.is w G.stands.heap in
        let T = hole_out E f (x ∷ G.way.steps) S.child (tree_at f G.stands.root G.lay (plug (x ∷ G.way.steps) S.child) G.is w G.stands.root_at) in
        omega (arith, (seat (x ∷ G.way.steps) (path_of (x ∷ G.way.steps)) S.child H T.2).low, S.slot)

    pub node_here : {w : List ℕ} → Lawful E → Sought E k w → Counted E k s G.lay G.way.sub → (kind o : ℕ) → kind ≡ high_of f s.here.slot → o ≡ place_of f s.here.slot → (kind ≡ 1 → ⊥) → (kind ≡ 2 → ⊥) → AtNode E f k w s o kind
    node_here {w} L K C kind o p q n1 n2 = go G.way.sub refl
      where
        go : (t : Lay) → G.way.sub ≡ t → AtNode E f k w s o kind
        go (leaf s' o' e k' v') z = absurd (n1 (sym (rw z at (same_entry kind o p q).0)))
        go (prefix s' o' b l) z = absurd (n2 (sym (rw z at (same_entry kind o p q).0)))
        go (node s' o' kind' ks) z =
            let path = path_of G.way.steps in
            let N = same_entry kind o p q in
            let y : kind' ≡ kind = rw z at N.0 in
            let d : o' ≡ o = rw z at N.1 in
            let c : s' ≡ s.here.slot = rw z at G.way.slot_is in
            let T : Tree E f path (node s' o' kind' ks) = rw z at hole.2 in
            let I = node_inside L kind' (art_kids ks) path (tree_well E f G.stands.bytes path (node s' o' kind' ks) T) in
            let n = G.way.deep in
            let g = goes_on L K.legal I G.way.rest G.way.leads.word in
            record {
              lawful = L;
              sought = K;
              going = G;
              count = C;
              kids = ks;
              is = z ∙ cc;
              at = rw (sym d, sym y) (node_parts E f path s' o' kind' ks T).1;
              short = omega (arith, inside_short L path I);
              live = some_child s' o' kind' ks z;
              low = going_entry.0;
              byte = g.0;
              after = g.1;
              next = g.2;
            }

  -- ---- what the code reads there

  -- the key of a Leaf is the part of the frame from its extent on
  pub leaf_part : {f k : List ℕ} {s : Spot} {o : ℕ} (A : AtLeaf E f k s o) (x n m : ℕ) → x ≡ le 4 f (o + leaf_extent) → n ≡ le 2 f (o + leaf_key) → m ≡ n → take m (drop x f) ≡ A.key
  leaf_part {f} A x n m p q r =
      let L = A.at.at in
      let e : x ≡ A.extent = p ∙ L.extent in
      let l : m ≡ length A.key = r ∙ q ∙ L.key_length in
      rw (l, e) (text_part f A.extent A.key (omega (arith, L.room)) (text_left f A.extent A.key (text_of A.value) L.text))

  pub prefix_part : {f k w : List ℕ} {s : Spot} {o : ℕ} (A : AtPrefix E f k w s o) (n : ℕ) → n ≡ le 2 f (o + prefix_length) → take n (drop (o + prefix_bytes) f) ≡ A.bytes
  prefix_part {f} {k} {w} {s} {o} A n q =
      let P = A.at in
      let m : n ≡ length A.bytes = q ∙ P.long in
      rw m (text_part f (o + prefix_bytes) A.bytes (omega (arith, P.room, P.most)) P.text)

  pub prefix_few : {f k w : List ℕ} {s : Spot} {o : ℕ} (A : AtPrefix E f k w s o) (n : ℕ) → n ≡ le 2 f (o + prefix_length) → (o + 128 ≤ length f) × (n ≤ 112)
  prefix_few A n q = (A.at.room, omega (arith, q, A.at.long, A.at.most))

  -- a key's walked string shares at least the path with that of a Leaf below it
  pub leaf_shares : {f k : List ℕ} {s : Spot} {o : ℕ} (A : AtLeaf E f k s o) → s.depth ≤ shared (E.walked k) (E.walked A.key)
  leaf_shares {f} {k} {s} A =
      let W = A.going.way in
      let n = W.deep in
      rw W.leads.word (omega (arith, begun_shared (path_of W.steps) W.rest (E.walked A.key) A.at.begins))

  -- as many bytes of a Prefix are shared with what is read as with the walked string
  pub prefix_shares : {f k w : List ℕ} {s : Spot} {o : ℕ} (A : AtPrefix E f k w s o) → shared A.bytes (drop s.depth w) ≡ shared A.bytes (drop s.depth (E.walked k))
  prefix_shares {f} {k} {w} {s} {o} A =
      let G = A.going in
      let path = path_of G.way.steps in
      let T : Tree E f path (prefix s.here.slot o A.bytes A.below) = rw A.is at (hole G).2 in
      let P = prefix_parts E f path s.here.slot o A.bytes A.below T in
      let I = below_inside A.lawful f (path ++ A.bytes) A.bytes A.below G.stands.bytes P.2 P.3 in
      spells_shared A.lawful A.sought.legal A.sought.spells path G.way.rest A.bytes s.depth G.way.leads.word G.way.deep I
