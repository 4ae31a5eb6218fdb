-- One law for each case of what remains of the tree at a slot: a Leaf, a Prefix with what stands below, an inner node. Assumes nothing.
use Prim.Native.Nat.{ℕ, ◌+◌, ◌-◌, ◌<◌, ◌≤◌}
use mathlib.Core.Path.{◌≡◌, refl, sym, ap, subst, ◌∙◌}
use mathlib.Core.List.{List, [], ◌∷◌, ◌++◌}
use native.Mathlib.Omega.{arith}
use lib.ListN.{length, length-append}
use Rattle.layout.specs.Number.{le, Bytes}
use Rattle.layout.specs.Place.{entry_at, prefix_child, prefix_length}
use Rattle.layout.specs.Kind.{leaf_kind, prefix_kind, body_size}
use Rattle.layout.specs.Entry.{high_of, place_of, entry_of}
use Rattle.model.specs.Edition.{Edition, Lawful}
use Rattle.model.specs.Tree.{Art}
use Rattle.model.specs.Image.{node_of, digits, padded, slots, size, entries, bodies}
use Rattle.model.specs.Frame.{Lay, slot_of, atop, art, Entry, NodeOf, Tree, Trees}
use Rattle.model.specs.Frame.Lay.{leaf, prefix, node}
use Rattle.model.proofs.WellLaws.{inside_short}
use Rattle.model.proofs.StandsGood.{tree_well, below_inside}
use Rattle.model.proofs.ChainLaws.{Hung, below_hung, packed_atop, packed_hung, atop_slots, atop_size, atop_entries, atop_bodies}
use Rattle.model.proofs.PackedLaws.{packed_well}
use Rattle.model.proofs.PackedBytes.{length_bodies, length_entries}
use Rattle.model.proofs.UniqueLaws.{tree_unique}
use Rattle.pack.specs.declared.bodies.Next.{Next}
use Rattle.pack.specs.Laid.{Room, Laid, LeafFits, LeafLaid, PrefixFits, PrefixLaid}
use Rattle.inside.specs.Inside.{Inside, InsideAll}
use Rattle.inside.proofs.InsideLaws.{IsLeaf, IsPrefix, IsInner, leaf_lay, prefix_lay, inner_lay, slot_in, slot_kind}
use Rattle.pack.specs.Walk.{packed_lay, packed_run, TreeReady, TreePacked}
use Rattle.pack.proofs.BodiesLaws.{length_prefix}
use Rattle.pack.proofs.LaidLaws.{laid_as, laid_join, room_first, room_rest}

-- ---- lengths

pub length_packed : {E : Edition} → Lawful E → (f path : List ℕ) (l : Lay) → Bytes f → Tree E f path l → (s o : ℕ) → length (bodies (packed_lay l) s o) ≡ size (packed_lay l)
length_packed {E} L f path l B T s o = length_bodies E (packed_lay l) path (packed_well L (art l) path (tree_well E f B path l T)) s o

-- a packed Prefix's body
abbrev prefix_body : ℕ → List ℕ → List ℕ
prefix_body child p = padded 16 (digits 4 child ++ digits 2 (length p)) ++ padded 112 p

-- what is neither a Leaf nor a Prefix is of kind 4 to 7
inner_kind : (E : Edition) (f path : List ℕ) (s : ℕ) (l : Lay) → Tree E f path l → slot_of l ≡ s → (high_of f s ≡ leaf_kind → ⊥) → (high_of f s ≡ prefix_kind → ⊥) → (4 ≤ high_of f s) × (high_of f s ≤ 7)
unfolding Tree
inner_kind E f path s (leaf s' o e k v) T q x y = absurd (x (rw q at T.0.kind_is))
inner_kind E f path s (prefix s' o p l) T q x y = absurd (y (rw q at T.0.kind_is))
inner_kind E f path s (node s' o kind ks) T q x y =
    let h : Entry f s kind o = rw q at T.0 in
    let e = h.kind_is in
    let r = T.1.inner.range in (omega arith, omega arith)

-- ---- the tree at slot s

module _ {E : Edition} {f : List ℕ} {s left : ℕ} {out : List ℕ} {at : Next} (T : TreeReady E f s left out at) where
  -- its entry lies in the frame
  pub tree_slot : (1 ≤ s) × (entry_at s + 4 ≤ length f)
  tree_slot = let S = slot_in f s T.lay T.inside T.slot_is in (S.first, S.last)

  pub tree_kind : (1 ≤ high_of f s) × (high_of f s ≤ 8)
  tree_kind = slot_kind E f T.path s T.lay T.tree T.slot_is

  -- a Leaf
  module _ {o : ℕ} (h : high_of f s ≡ leaf_kind) (p : place_of f s ≡ o) where
    is_leaf : IsLeaf s o T.lay
    is_leaf = leaf_lay E f T.path s o T.lay T.tree T.slot_is h p

    leaf_tree : Tree E f T.path (leaf s o is_leaf.extent is_leaf.key is_leaf.value)
    leaf_tree = rw is_leaf.is at T.tree

    pub leaf_fits : LeafFits f o out at
    unfolding Tree Inside
    leaf_fits =
        let K = is_leaf in
        let i : Inside f (leaf s o K.extent K.key K.value) = rw K.is at T.inside in
        let R : Room 1 (size (packed_lay (leaf s o K.extent K.key K.value))) at out = rw K.is at T.room in
        record { extent = K.extent; key = K.key; value = K.value; inside = i.1; stands = leaf_tree.1.at; room = R }

    pub leaf_packed : {out' : List ℕ} {r : Next} → LeafLaid f o out at out' r → TreePacked E f s out at out' r
    unfolding Tree
    leaf_packed L =
        let K = is_leaf in
        record { lay = leaf s o K.extent K.key K.value; path = T.path; tree = leaf_tree; slot_is = refl; laid = L.of K.extent K.key K.value leaf_tree.1.at }

  -- a Prefix
  module _ {o : ℕ} (h : high_of f s ≡ prefix_kind) (p : place_of f s ≡ o) where
    is_prefix : IsPrefix s o T.lay
    is_prefix = prefix_lay E f T.path s o T.lay T.tree T.slot_is h p

    prefix_tree : Tree E f T.path (prefix s o is_prefix.bytes is_prefix.below)
    prefix_tree = rw is_prefix.is at T.tree

    prefix_hung : Hung is_prefix.bytes (packed_lay is_prefix.below)
    unfolding Tree
    prefix_hung = packed_hung is_prefix.bytes (art is_prefix.below) (below_hung is_prefix.bytes is_prefix.below prefix_tree.2)

    packed_prefix : packed_lay (prefix s o is_prefix.bytes is_prefix.below) ≡ atop is_prefix.bytes (packed_lay is_prefix.below)
    packed_prefix = packed_atop is_prefix.bytes (art is_prefix.below)

    prefix_room : Room (1 + slots (packed_lay is_prefix.below)) (body_size prefix_kind + size (packed_lay is_prefix.below)) at out
    unfolding Tree
    prefix_room =
        let b = is_prefix.bytes in
        let a = packed_lay is_prefix.below in
        let P = prefix_tree.1 in
        let R : Room (slots (packed_lay (prefix s o b is_prefix.below))) (size (packed_lay (prefix s o b is_prefix.below))) at out = rw is_prefix.is at T.room in
        let e : slots (packed_lay (prefix s o b is_prefix.below)) ≡ 1 + slots a = ap slots packed_prefix ∙ atop_slots b P.some P.most a prefix_hung in
        let g : size (packed_lay (prefix s o b is_prefix.below)) ≡ body_size prefix_kind + size a = ap size packed_prefix ∙ atop_size b P.some P.most a prefix_hung in
        subst (λ n. Room n (body_size prefix_kind + size a) at out) e (subst (λ n. Room (slots (packed_lay (prefix s o b is_prefix.below))) n at out) g R)

    prefix_inside : Inside f (prefix s o is_prefix.bytes is_prefix.below)
    prefix_inside = rw is_prefix.is at T.inside

    pub prefix_fits : PrefixFits f o out at
    unfolding Tree
    prefix_fits = record { bytes = is_prefix.bytes; below = slot_of is_prefix.below; stands = prefix_tree.1; room = room_first (omega arith) (omega arith) prefix_room }

    pub prefix_in : o + 128 ≤ length f
    unfolding Tree
    prefix_in = prefix_tree.1.room

    -- its bytes are fewer than the path has left
    prefix_left : length T.path + length is_prefix.bytes < E.longest
    unfolding Tree
    prefix_left =
        let I = below_inside T.lawful f (T.path ++ is_prefix.bytes) is_prefix.bytes is_prefix.below T.bytes prefix_tree.2 prefix_tree.3 in
        omega (arith, inside_short T.lawful (T.path ++ is_prefix.bytes) I, length-append T.path is_prefix.bytes)

    module _ {c n : ℕ} (ec : c ≡ le 4 f (o + prefix_child)) (en : n ≡ le 2 f (o + prefix_length)) where
      child_is : slot_of is_prefix.below ≡ c
      unfolding Tree
      child_is = sym prefix_tree.1.child ∙ sym ec

      long_is : n ≡ length is_prefix.bytes
      unfolding Tree
      long_is = en ∙ prefix_tree.1.long

      -- one at least
      pub prefix_some : 1 ≤ n
      unfolding Tree
      prefix_some = let b = long_is in omega (arith, prefix_tree.1.some)

      pub prefix_most : n ≤ left
      prefix_most = let b = long_is in let d = T.deep in let e = prefix_left in omega arith

      module _ {out' : List ℕ} {here : Next} (L : PrefixLaid f o out at out' here) where
        head : Laid (entry_of prefix_kind at.place ∷ []) (prefix_body (at.slot + 1) is_prefix.bytes) at out out' here
        unfolding Tree
        head = L.of is_prefix.bytes (slot_of is_prefix.below) prefix_tree.1

        head_long : length (prefix_body (at.slot + 1) is_prefix.bytes) ≡ 128
        unfolding Tree
        head_long = length_prefix (at.slot + 1) is_prefix.bytes prefix_tree.1.most

        pub prefix_below : TreeReady E f c (left - n) out' here
        unfolding Tree Inside
        prefix_below =
            record {
              lawful = T.lawful;
              lay = is_prefix.below;
              path = T.path ++ is_prefix.bytes;
              tree = prefix_tree.3;
              slot_is = child_is;
              inside = prefix_inside.1;
              bytes = T.bytes;
              deep = (let d = T.deep in let e = prefix_left in let b = long_is in omega (arith, length-append T.path is_prefix.bytes));
              room = room_rest (omega arith) (omega (arith, head_long)) prefix_room head;
            }

        pub prefix_packed : {out'' : List ℕ} {r : Next} → TreePacked E f c out' here out'' r → TreePacked E f s out at out'' r
        unfolding Tree
        prefix_packed {out''} {r} P =
            let l = is_prefix.below in
            let same : P.lay ≡ l = tree_unique E f P.path (T.path ++ is_prefix.bytes) P.lay l P.tree prefix_tree.3 (P.slot_is ∙ sym child_is) in
            let es : here.slot ≡ at.slot + 1 = head.slot_is in
            let ep : here.place ≡ at.place + body_size prefix_kind = head.place_is ∙ ap (λ (m : ℕ). at.place + m) head_long in
            let low = prefix_room.table in
            let D : Laid (entries (packed_lay l) (at.place + body_size prefix_kind)) (bodies (packed_lay l) (at.slot + 1) (at.place + body_size prefix_kind)) here out' out'' r = laid_as (cc) (cc) P.laid in
            let b = is_prefix.bytes in
            let S = prefix_tree.1 in
            let ee : entries (packed_lay (prefix s o b l)) at.place ≡ entry_of prefix_kind at.place ∷ entries (packed_lay l) (at.place + body_size prefix_kind)
            = ap (λ (a : Art). entries a at.place) packed_prefix ∙ atop_entries b S.some S.most (packed_lay l) at.place prefix_hung in
            let eb : bodies (packed_lay (prefix s o b l)) at.slot at.place ≡ prefix_body (at.slot + 1) b ++ bodies (packed_lay l) (at.slot + 1) (at.place + body_size prefix_kind)
            = ap (λ (a : Art). bodies a at.slot at.place) packed_prefix ∙ atop_bodies b S.some S.most (packed_lay l) at.slot at.place prefix_hung in
            record {
              lay = prefix s o b l;
              path = T.path;
              tree = prefix_tree;
              slot_is = refl;
              laid = laid_as (sym ee) (sym eb) (laid_join (omega (arith, length_entries (packed_lay l) (at.place + body_size prefix_kind))) head D);
            }

  -- an inner node
  pub node_kind : (high_of f s ≡ leaf_kind → ⊥) → (high_of f s ≡ prefix_kind → ⊥) → (4 ≤ high_of f s) × (high_of f s ≤ 7)
  node_kind = inner_kind E f T.path s T.lay T.tree T.slot_is

  -- and what stands at it
  module _ (low : 4 ≤ high_of f s) where
    pub is_inner : IsInner f s T.lay
    is_inner = inner_lay E f T.path s T.lay T.tree T.slot_is low

    node_tree : Tree E f T.path (node s (place_of f s) (high_of f s) is_inner.kids)
    node_tree = rw is_inner.is at T.tree

    pub node_of_lem : NodeOf f (place_of f s) (high_of f s) is_inner.kids
    unfolding Tree
    node_of_lem = node_tree.1

    pub node_trees : Trees E f T.path is_inner.kids
    unfolding Tree
    node_trees = node_tree.2

    pub kids_inside : InsideAll f is_inner.kids
    unfolding Inside
    kids_inside = let i : Inside f (node s (place_of f s) (high_of f s) is_inner.kids) = rw is_inner.is at T.inside in i.1

    pub node_room : Room (slots (node_of (packed_run is_inner.kids))) (size (node_of (packed_run is_inner.kids))) at out
    node_room = rw is_inner.is at T.room

-- ---- what remains of the tree at slot s: the tree at slot s', below the Prefixes that are packed

pub record Remains (E : Edition) (f : List ℕ) (s left : ℕ) (out : List ℕ) (at : Next) (s' left' : ℕ) (out' : List ℕ) (at' : Next) : Type 0 where
  pub ready : TreeReady E f s' left' out' at'
  pub fewer : left' ≤ left
  pub packed : (out'' : List ℕ) (r : Next) → TreePacked E f s' out' at' out'' r → TreePacked E f s out at out'' r

module _ {E : Edition} {f : List ℕ} {s left : ℕ} {out : List ℕ} {at : Next} {s' left' : ℕ} {out' : List ℕ} {at' : Next} (R : Remains E f s left out at s' left' out' at') where
  -- a Prefix is packed
  pub remains_below : {o c n : ℕ} → high_of f s' ≡ prefix_kind → place_of f s' ≡ o → c ≡ le 4 f (o + prefix_child) → n ≡ le 2 f (o + prefix_length) → {out'' : List ℕ} {here : Next} → PrefixLaid f o out' at' out'' here
      → Remains E f s left out at c (left' - n) out'' here
  remains_below h p ec en L =
      let a = R.fewer in
      record { ready = prefix_below R.ready h p ec en L; fewer = omega arith; packed = λ z r P. R.packed z r (prefix_packed R.ready h p ec en L P) }
