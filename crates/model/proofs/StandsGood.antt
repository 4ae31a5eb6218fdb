-- What a good frame stands for is a good state: its tree is well formed, its records are counted, and its slots and bytes are
-- accounted for. And what its header says, in the words of the state. Assumes nothing.
use Prim.Native.Nat.{ℕ, zero, suc, ◌+◌, ◌*◌, ◌%◌, ◌<◌, ◌≤◌}
use mathlib.Core.Path.{◌≡◌, refl, sym, ap, ◌∙◌}
use mathlib.Core.List.{List, [], ◌∷◌, ◌++◌, map, append_assoc}
use mathlib.Core.Bool.{Bool, true, false}
use mathlib.Core.Option.{some}
use native.Mathlib.Omega.{arith}
use native.Mathlib.Decide.{dec_le}
use lib.ListN.{length, get_or, drop, take-append-drop, length-append, length-map, get_or-map}
use lib.Dec.{eqb}
use borrow.Author.Tests.{eqb-true, ne_eqb}
use Rattle.layout.specs.Number.{le, byte_at, Bytes}
use Rattle.layout.specs.Place.{at_edition, at_f, at_n, at_d, at_b, at_u, at_r, at_x, data_start, node48_index}
use Rattle.layout.specs.Kind.{leaf_kind, node48_kind, Inner, body_size}
use Rattle.layout.specs.Kind.Inner.{node4, node16, node48, node256}
use Rattle.layout.proofs.NumberLaws.{le_lt}
use Rattle.layout.proofs.KindLaws.{range_inner}
use Rattle.model.specs.Strings.{pick, All, Byte}
use Rattle.model.specs.Edition.{Edition, Lawful, Value, text_of}
use Rattle.model.specs.Tree.{Art, count, taken}
use Rattle.model.specs.Records.{Record, records, records_kids, records_of}
use Rattle.model.specs.State.{State, kinds}
use Rattle.model.specs.Image.{slots, slots_kids, size, size_kids}
use Rattle.model.specs.Item.{Item, body, extent, inside, on_slot, bulk, leafy, sum, Sound}
use Rattle.model.specs.Body.{Text, Node48At, InnerAt, Asc, look_kid, named_child}
use Rattle.model.specs.Frame.{Lay, LayKids, Root, bare, tree, slot_of, Below, atop, art, art_kids, items, items_all, pairs, Places, NodeOf, LeafOf, Tree, Trees, RootAt, root_art, root_items, Numbers, FrameLength, SlotCapacity, list_items, freed, view_of, state_of, Heap, Stands}
use Rattle.model.specs.Frame.Lay.{leaf, prefix, node}
use Rattle.model.specs.Frame.LayKids.{nil, kid}
use Rattle.model.proofs.Well.{Well, WellKids, LeafW, NodeW, Distinct, Zeros, Placed}
use Rattle.model.proofs.WellLaws.{Inside, inside_left, node_inside}
use Rattle.model.proofs.ChainLaws.{Hung, below_hung, atop_slots, atop_size}
use Rattle.model.proofs.GoodState.{TreeOk, tree_slots, tree_size, weigh, free_of, GoodState}
use Rattle.model.proofs.StringLaws.{clash, all_append, all_left, all_right}
use Rattle.model.proofs.ItemLaws.{in_yes, in_under, in_over, sum_app, sum_cons, sum_add, sum_as}
use Rattle.model.proofs.UniqueLaws.{look_first, look_later, asc_parts}

-- ---- strings of bytes

-- what the frame has at a place are bytes
pub bytes_text : (f : List ℕ) (o : ℕ) (p : List ℕ) → Bytes f → Text f o p → All Byte p
bytes_text f o p B T = go p (λ i h. rw (sym (T i h)) (B (o + i)))
  where
    go : (p : List ℕ) → ((i : ℕ) → i < length p → get_or p i 0 < 256) → All Byte p
    go [] h = tt
    go (x ∷ p) h = (h 0 (omega arith), go p (λ i l. h (suc i) (omega arith)))

-- ---- the tree is well formed

pub leaf_well : (E : Edition) (f path : List ℕ) (o e : ℕ) (k : List ℕ) (v : Value) → Bytes f → LeafOf E f path o e k v → LeafW E k v path
leaf_well E f path o e k v B L =
    let b = bytes_text f e (k ++ text_of v) B L.at.text in
    let n = L.at.value_length in
    record {
      starts = record {
        legal = record { passes = L.legal; bytes = all_left Byte k (text_of v) b };
        rest = drop (length path) (E.walked k);
        word = sym (take-append-drop (length path) (E.walked k)) ∙ ap (λ (p : List ℕ). p ++ drop (length path) (E.walked k)) L.begins;
      };
      fits = record { passes = omega (arith, le_lt 2 f (o + 6) B); bytes = all_right Byte k (text_of v) b; stamp = L.stamped };
    }

pub atop_well : (E : Edition) (p : List ℕ) (a : Art) (path : List ℕ) → 1 ≤ length p → All Byte p → Hung p a → Well E a (path ++ p) → Well E (atop p a) path
atop_well E p (Art.leaf k v) path h c B W = absurd B
atop_well E p (Art.prefix q a) path h c B W =
    (record { some = omega (arith, length-append p q); chars = all_append Byte p q c W.0.chars; inner = W.0.inner }, rw (append_assoc path p q) at W.1)
atop_well E p (Art.node kind ks) path h c B W = (record { some = h; chars = c; inner = refl }, W)

pub length_pairs : (ks : LayKids) → length (pairs ks) ≡ count (art_kids ks)
unfolding pairs
length_pairs nil = refl
length_pairs (kid b j l ks) = ap suc (length_pairs ks)

pub inner_asc : (f : List ℕ) (o kind : ℕ) (ks : List (ℕ × ℕ)) → InnerAt f o kind ks → Asc 0 ks
inner_asc f o kind ks N = go (range_inner kind N.range.0 N.range.1) N
  where
    go : {kind : ℕ} → Inner kind → InnerAt f o kind ks → Asc 0 ks
    go node4 N = (N.four refl).asc
    go node16 N = (N.five refl).asc
    go node48 N = (N.six refl).asc
    go node256 N = (N.seven refl).asc

pub asc_kid : (lo b j : ℕ) (l : Lay) (ks : LayKids) → Asc lo (pairs (kid b j l ks)) → (lo ≤ b) × (b < 256) × (slot_of l < 4294967296) × Asc (suc b) (pairs ks)
unfolding pairs
asc_kid lo b j l ks A = asc_parts lo (b, slot_of l) (pairs ks) A

zeros_of : (f : List ℕ) (o kind : ℕ) (ks : LayKids) → eqb kind node48_kind ≡ false → Places f o kind ks → Zeros (art_kids ks)
unfolding Places
zeros_of f o kind nil e P = tt
zeros_of f o kind (kid b j l ks) e P = (sym (rw e at P.0), zeros_of f o kind ks e P.1)

-- an index entry that names a child is not 0
named_some : (f : List ℕ) (o p c : ℕ) → named_child f o p ≡ some c → 1 ≤ p
unfolding named_child
named_some f o zero c e = clash (cc)
named_some f o (suc p) c e = omega arith

module _ (f : List ℕ) (o : ℕ) (ps : List (ℕ × ℕ)) (N : Node48At f o ps) where
  abbrev entry_of48 : ℕ → ℕ
  entry_of48 b = byte_at f (o + node48_index + b)

  -- no child at a later byte has the place of byte b
  untaken : (b lo : ℕ) (ks : LayKids) → b < lo → b < 256 → 1 ≤ entry_of48 b → Asc lo (pairs ks) → Places f o node48_kind ks → taken (entry_of48 b) (art_kids ks) ≡ false
  unfolding Places
  untaken b lo nil h l u A P = refl
  untaken b lo (kid c j a ks) h l u A P =
      let q = asc_kid lo c j a ks A in
      let n : entry_of48 b ≡ j → ⊥ = λ e. let z : b ≡ c = N.once b c l q.1 (e ∙ sym P.0) u in omega arith in
      rw (ne_eqb (entry_of48 b) j n) (untaken b (suc c) ks (omega arith) l u q.3 P.1)

  distinct_of : (lo : ℕ) (ks : LayKids) → Asc lo (pairs ks) → Places f o node48_kind ks → ((b : ℕ) → lo ≤ b → look_kid b ps ≡ look_kid b (pairs ks)) → Distinct (art_kids ks)
  unfolding Places pairs
  distinct_of lo nil A P h = tt
  distinct_of lo (kid c j a ks) A P h =
      let q = asc_kid lo c j a ks A in
      let e : entry_of48 c ≡ j = P.0 in
      let there = N.look c q.1 ∙ h c q.0 ∙ look_first c (c, slot_of a) (pairs ks) refl in
      let u : 1 ≤ entry_of48 c = named_some f o (entry_of48 c) (slot_of a) there in
      let t : taken j (art_kids ks) ≡ false = rw (sym e) (untaken c (suc c) ks (omega arith) q.1 u q.3 P.1) in (
        omega arith,
        omega (arith, N.place c q.1),
        t,
        distinct_of (suc c) ks q.3 P.1 (λ b l. h b (omega arith) ∙ look_later b (c, slot_of a) (pairs ks) (λ z. omega arith)),
      )

placed_of : (f : List ℕ) (o kind : ℕ) (ks : LayKids) → InnerAt f o kind (pairs ks) → Places f o kind ks → Placed kind (art_kids ks)
placed_of f o kind ks N P = go (eqb kind node48_kind) refl
  where
    go : (t : Bool) → eqb kind node48_kind ≡ t → pick t (Distinct (art_kids ks)) (Zeros (art_kids ks))
    go true e =
        let k = eqb-true kind node48_kind e in
        let M = N.six k in
        distinct_of f o (pairs ks) M 0 ks M.asc (rw k at P) (λ b l. refl)
    go false e = zeros_of f o kind ks e P

pub node_well : (f : List ℕ) (o kind : ℕ) (ks : LayKids) → NodeOf f o kind ks → NodeW kind (art_kids ks)
node_well f o kind ks N =
    let n = length_pairs ks in
    let r = N.inner.range in
    let a = N.least in
    let b = N.at_most in
    record { sort = range_inner kind r.0 r.1; least = omega arith; at_most = omega arith; places = placed_of f o kind ks N.inner N.places }

module _ (E : Edition) (f : List ℕ) (B : Bytes f) where
  mutual
    unfolding Tree Trees

    pub tree_well : (path : List ℕ) (l : Lay) → Tree E f path l → Well E (art l) path
    tree_well path (leaf s o e k v) T = leaf_well E f path o e k v B T.1
    tree_well path (prefix s o p l) T =
        atop_well E p (art l) path T.1.some (bytes_text f (o + 16) p B T.1.text) (below_hung p l T.2) (tree_well (path ++ p) l T.3)
    tree_well path (node s o kind ks) T = (node_well f o kind ks T.1, trees_well path 0 ks (inner_asc f o kind (pairs ks) T.1.inner) T.2)

    pub trees_well : (path : List ℕ) (lo : ℕ) (ks : LayKids) → Asc lo (pairs ks) → Trees E f path ks → WellKids E (art_kids ks) path lo
    trees_well path lo nil A T = tt
    trees_well path lo (kid b j l ks) A T =
        let q = asc_kid lo b j l ks A in (q.0, q.1, tree_well (path ++ b ∷ []) l T.0, trees_well path (suc b) ks q.3 T.1)

-- the path to what stands below a Prefix leads on
pub below_inside : {E : Edition} (L : Lawful E) (f path p : List ℕ) (l : Lay) → Bytes f → Below p l → Tree E f path l → Inside E path
unfolding Tree
below_inside L f path p (leaf s o e k v) B H T = absurd H
below_inside L f path p (prefix s o q l) B H T = inside_left path q (below_inside L f (path ++ q) q l B T.2 T.3)
below_inside {E} L f path p (node s o kind ks) B H T = node_inside L kind (art_kids ks) path (tree_well E f B path (node s o kind ks) T)

-- ---- sums over the items of a tree

-- is it a body
unfoldable pub bodied : Item → ℕ
bodied (body s k o) = 1
bodied (extent e n) = 0

atop_records : (p : List ℕ) (a : Art) → records (atop p a) ≡ records a
atop_records p (Art.leaf k v) = refl
atop_records p (Art.prefix q a) = refl
atop_records p (Art.node kind ks) = refl

module _ (E : Edition) (f : List ℕ) where
  mutual
    unfolding items items_all sum bodied bulk Tree Trees

    pub slots_items : (path : List ℕ) (l : Lay) → Tree E f path l → sum bodied (items l) ≡ slots (art l)
    slots_items path (leaf s o e k v) T = refl
    slots_items path (prefix s o p l) T =
        let on = slots_items (path ++ p) l T.3 in
        omega (arith, atop_slots p T.1.some T.1.most (art l) (below_hung p l T.2))
    slots_items path (node s o kind ks) T = let on = slots_items_all path ks T.2 in omega arith

    pub slots_items_all : (path : List ℕ) (ks : LayKids) → Trees E f path ks → sum bodied (items_all ks) ≡ slots_kids (art_kids ks)
    slots_items_all path nil T = refl
    slots_items_all path (kid b j l ks) T =
        omega (arith, sum_app bodied (items l) (items_all ks), slots_items (path ++ b ∷ []) l T.0, slots_items_all path ks T.1)

  mutual
    unfolding items items_all sum bulk Tree Trees

    pub size_items : (path : List ℕ) (l : Lay) → Tree E f path l → sum bulk (items l) ≡ size (art l)
    size_items path (leaf s o e k v) T = omega arith
    size_items path (prefix s o p l) T =
        let on = size_items (path ++ p) l T.3 in
        omega (arith, atop_size p T.1.some T.1.most (art l) (below_hung p l T.2))
    size_items path (node s o kind ks) T = let on = size_items_all path ks T.2 in omega arith

    pub size_items_all : (path : List ℕ) (ks : LayKids) → Trees E f path ks → sum bulk (items_all ks) ≡ size_kids (art_kids ks)
    size_items_all path nil T = refl
    size_items_all path (kid b j l ks) T =
        omega (arith, sum_app bulk (items l) (items_all ks), size_items (path ++ b ∷ []) l T.0, size_items_all path ks T.1)

-- a body that is no Leaf's
pub leafy_other : (s k o : ℕ) → 2 ≤ k → leafy (body s k o) ≡ 0
unfolding leafy
leafy_other s k o h = in_over leaf_kind 1 k (omega arith)

leafy_cons : (s k o : ℕ) (is : List Item) → 2 ≤ k → sum leafy (body s k o ∷ is) ≡ sum leafy is
leafy_cons s k o is h = omega (arith, sum_cons leafy (body s k o) is, leafy_other s k o h)

module _ (E : Edition) (f : List ℕ) where
  mutual
    unfolding Tree Trees items items_all sum leafy inside

    pub records_items : (path : List ℕ) (l : Lay) → Tree E f path l → sum leafy (items l) ≡ length (records (art l))
    records_items path (leaf s o e k v) T = refl
    records_items path (prefix s o p l) T = leafy_cons s 2 o (items l) (omega arith) ∙ records_items (path ++ p) l T.3 ∙ ap (λ (r : List Record). length r) (sym (atop_records p (art l)))
    records_items path (node s o kind ks) T = let r = T.1.inner.range in leafy_cons s kind o (items_all ks) (omega arith) ∙ records_items_all path ks T.2

    pub records_items_all : (path : List ℕ) (ks : LayKids) → Trees E f path ks → sum leafy (items_all ks) ≡ length (records_kids (art_kids ks))
    records_items_all path nil T = refl
    records_items_all path (kid b j l ks) T =
        omega (arith, sum_app leafy (items l) (items_all ks), length-append (records (art l)) (records_kids (art_kids ks)), records_items (path ++ b ∷ []) l T.0, records_items_all path ks T.1)

-- ---- as many bodies as slots

-- is it a body whose slot is at most v
unfoldable pub slot_to : ℕ → Item → ℕ
slot_to v (body s k o) = inside 0 (suc v) s
slot_to v (extent e n) = 0

pub slot_to_zero : (i : Item) → slot_to 0 i ≡ on_slot 0 i
unfolding slot_to on_slot
slot_to_zero (extent e n) = refl
slot_to_zero (body s k o) = elim (dec_le s 0) [
  | yes p ↦ in_yes 0 1 s (omega arith) (omega arith) ∙ sym (in_yes s 1 0 p (omega arith))
  | no p ↦ in_over 0 1 s (omega arith) ∙ sym (in_under s 1 0 (omega arith))
]

pub slot_to_suc : (v : ℕ) (i : Item) → slot_to (suc v) i ≡ slot_to v i + on_slot (suc v) i
unfolding slot_to on_slot
slot_to_suc v (extent e n) = refl
slot_to_suc v (body s k o) = elim (dec_le s v) [
  | yes p ↦ omega (arith, in_yes 0 (suc (suc v)) s (omega arith) (omega arith), in_yes 0 (suc v) s (omega arith) (omega arith), in_over s 1 (suc v) (omega arith))
  | no p ↦ elim (dec_le s (suc v)) [
    | yes q ↦ omega (arith, in_yes 0 (suc (suc v)) s (omega arith) (omega arith), in_over 0 (suc v) s (omega arith), in_yes s 1 (suc v) q (omega arith))
    | no q ↦ omega (arith, in_over 0 (suc (suc v)) s (omega arith), in_over 0 (suc v) s (omega arith), in_under s 1 (suc v) (omega arith))
  ]
]

module _ {d u b x : ℕ} {is : List Item} (S : Sound d u b x is) where
  slots_to : (v : ℕ) → v ≤ u → sum (slot_to v) is ≡ v
  slots_to zero h = omega (arith, sum_as (slot_to 0) (on_slot 0) slot_to_zero is, S.zeroth)
  slots_to (suc v) h =
      omega (arith, sum_add (slot_to v) (on_slot (suc v)) (slot_to (suc v)) (slot_to_suc v) is, slots_to v (omega arith), S.once (suc v) (omega arith) h)

-- no body has a slot past u: all bodies have one up to u
pub bodies_to : (u : ℕ) (is : List Item) → ((s : ℕ) → u < s → sum (on_slot s) is ≡ 0) → sum bodied is ≡ sum (slot_to u) is
unfolding sum bodied slot_to on_slot
bodies_to u [] h = refl
bodies_to u (extent e n ∷ is) h = omega (arith, bodies_to u is (λ t l. let z = h t l in omega arith))
bodies_to u (body s k o ∷ is) h =
    let on = bodies_to u is (λ t l. let z = h t l in omega arith) in
    elim (dec_le s u) [
      | yes p ↦ omega (arith, in_yes 0 (suc u) s (omega arith) (omega arith))
      | no p ↦ absurd (omega (arith, h s (omega arith), in_yes s 1 s (omega arith) (omega arith)))
    ]

pub sound_bodies : {d u b x : ℕ} {is : List Item} → Sound d u b x is → sum bodied is ≡ u
sound_bodies {d} {u} {b} {x} {is} S = bodies_to u is S.past ∙ slots_to S u (omega arith)

-- ---- the freed bodies

module _ (w : Item → ℕ) (m : ℕ → ℕ) (same : (s k o : ℕ) → w (body s k o) ≡ m k) where
  pub sum_list : (k : ℕ) (xs : List (ℕ × ℕ)) → sum w (list_items k xs) ≡ length xs * m k
  unfolding sum list_items
  sum_list k [] = omega arith
  sum_list k (x ∷ xs) = let on = sum_list k xs in let here = same x.0 k x.1 in more (w (body x.0 k x.1)) (m k) (length xs) (sum w (list_items k xs)) here on
    where
      more : (a b n s : ℕ) → a ≡ b → s ≡ n * b → a + s ≡ suc n * b
      more a b n s e h = omega arith

  freed_eight : (a b c d e f g h : List (ℕ × ℕ))
      → (let ls = a ∷ b ∷ c ∷ d ∷ e ∷ f ∷ g ∷ h ∷ [] in sum w (freed 1 ls) ≡ weigh m (free_of (0 ∷ map length ls)) kinds)
  unfolding freed sum weigh
  freed_eight a b c d e f g h = simp (sum_app, sum_list) (omega arith)

  pub sum_freed : (ls : List (List (ℕ × ℕ))) → length ls ≡ 8 → sum w (freed 1 ls) ≡ weigh m (free_of (0 ∷ map length ls)) kinds
  sum_freed (a ∷ b ∷ c ∷ d ∷ e ∷ f ∷ g ∷ h ∷ []) l = freed_eight a b c d e f g h
  sum_freed [] l = absurd (omega arith)
  sum_freed (a ∷ []) l = absurd (omega arith)
  sum_freed (a ∷ b ∷ []) l = absurd (omega arith)
  sum_freed (a ∷ b ∷ c ∷ []) l = absurd (omega arith)
  sum_freed (a ∷ b ∷ c ∷ d ∷ []) l = absurd (omega arith)
  sum_freed (a ∷ b ∷ c ∷ d ∷ e ∷ []) l = absurd (omega arith)
  sum_freed (a ∷ b ∷ c ∷ d ∷ e ∷ f ∷ []) l = absurd (omega arith)
  sum_freed (a ∷ b ∷ c ∷ d ∷ e ∷ f ∷ g ∷ []) l = absurd (omega arith)
  sum_freed (a ∷ b ∷ c ∷ d ∷ e ∷ f ∷ g ∷ h ∷ i ∷ ls) l = absurd (omega arith)

-- ---- the whole frame

root_slots : (E : Edition) (f : List ℕ) (r : Root) → RootAt E f r → sum bodied (root_items r) ≡ tree_slots (root_art r)
unfolding root_items sum bodied RootAt
root_slots E f (bare s o) R = refl
root_slots E f (tree l) R = slots_items E f [] l R

root_size : (E : Edition) (f : List ℕ) (r : Root) → RootAt E f r → sum bulk (root_items r) ≡ tree_size (root_art r)
unfolding root_items sum bulk RootAt
root_size E f (bare s o) R = refl
root_size E f (tree l) R = size_items E f [] l R

pub root_records : (E : Edition) (f : List ℕ) (r : Root) → RootAt E f r → sum leafy (root_items r) ≡ length (records_of (root_art r))
unfolding root_items sum leafy inside RootAt
root_records E f (bare s o) R = refl
root_records E f (tree l) R = records_items E f [] l R

pub root_well : (E : Edition) (f : List ℕ) (r : Root) → Bytes f → RootAt E f r → TreeOk E (root_art r)
unfolding RootAt
root_well E f (bare s o) B R = tt
root_well E f (tree l) B R = tree_well E f B [] l R

bodied_is : (s k o : ℕ) → bodied (body s k o) ≡ 1
unfolding bodied
bodied_is s k o = refl

bulk_is : (s k o : ℕ) → bulk (body s k o) ≡ body_size k
unfolding bulk
bulk_is s k o = refl

good_at : (E : Edition) (f : List ℕ) (n : Numbers) (ls : List (List (ℕ × ℕ))) (r : Root) → Bytes f → Heap f (view_of n ls r) → RootAt E f r
    → n.R ≡ sum leafy (root_items r) → GoodState E (state_of n ls r)
good_at E f n ls r B H R c =
    let S = H.sound in
    let head = H.header in
    let eight = H.lists.eight in
    let u = sound_bodies S in
    let a = S.accounted in
    let z : length (get_or ls 2 []) ≡ 0 = ap length H.lists.third in
    record {
      well = root_well E f r B R;
      recs = c ∙ root_records E f r R;
      used = omega (arith, sum_app bodied (root_items r) (freed 1 ls), root_slots E f r R, sum_freed bodied (λ k. 1) bodied_is ls eight);
      laid = omega (arith, sum_app bulk (root_items r) (freed 1 ls), root_size E f r R, sum_freed bulk body_size bulk_is ls eight);
      nine = omega (arith, length-map ls length);
      three = get_or-map length ls 2 [] ∙ z;
      fits_u = head.given_in.1;
      fits_b = head.bump_in.2;
    }

pub stands_good : (E : Edition) (f : List ℕ) (s : State) → Stands E f s → GoodState E s
stands_good E f s S = rw S.state (good_at E f S.nums S.lists S.root S.bytes S.heap S.root_at S.counted)

-- what the header says, in the words of the state
pub record Heads (E : Edition) (f : List ℕ) (s : State) : Type 0 where
  pub size : length f ≡ s.F
  pub limits : FrameLength s.F
  pub slot_cap : SlotCapacity s.N
  pub bump_in : (s.B % 8 ≡ 0) × (data_start s.N + 8 ≤ s.B) × (s.B ≤ s.F)
  pub given_in : (1 ≤ s.U) × (s.U ≤ s.N)
  pub edition : le 4 f at_edition ≡ E.number
  pub stored : le 4 f at_f ≡ s.F
  pub slots_at : le 4 f at_n ≡ s.N
  pub data_at : le 4 f at_d ≡ data_start s.N
  pub bump_at : le 4 f at_b ≡ s.B
  pub given_at : le 4 f at_u ≡ s.U
  pub records_at : le 4 f at_r ≡ s.R
  pub dead_at : le 4 f at_x ≡ s.X

pub stands_heads : (E : Edition) (f : List ℕ) (s : State) → Stands E f s → Heads E f s
stands_heads E f s S =
    let H = S.heap.header in
    rw S.state (record {
      size = H.size;
      limits = H.limits;
      slot_cap = H.slot_cap;
      bump_in = H.bump_in;
      given_in = H.given_in;
      edition = H.edition ∙ ap (λ (X : Edition). X.number) S.edition_is;
      stored = H.stored;
      slots_at = H.slots_at;
      data_at = H.data_at;
      bump_at = H.bump_at;
      given_at = H.given_at;
      records_at = H.records_at;
      dead_at = H.dead_at;
    })
