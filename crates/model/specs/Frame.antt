-- "The frame" and "A good frame": the tree with its slots and places, when a frame's bytes hold it, and what a good frame stands for.
use Rattle.std.specs.Prelude.{ℕ, suc, ◌+◌, ◌%◌, ◌<◌, ◌≤◌, ◌≡◌, List, [], ◌∷◌, ◌++◌, map, true, length, get_or, take, eqb}
use Rattle.std.proofs.Math.Option.{Option, none, some}
use Rattle.layout.specs.Number.{le, byte_at, Bytes}
use Rattle.layout.specs.Place.{at_edition, at_f, at_n, at_d, at_b, at_u, at_r, at_x, at_root, at_head, at_spare, header_size, entry_at, data_start, node48_index, prefix_most}
use Rattle.layout.specs.Kind.{leaf_kind, prefix_kind, node48_kind, empty_root_kind, fewest, most}
use Rattle.layout.specs.Entry.{place_of, high_of}
use Rattle.model.specs.Strings.{pick}
use Rattle.model.specs.Edition.{Edition, Value}
use Rattle.model.specs.Tree.{Art, Kids, extent_of}
use Rattle.model.specs.State.{State}
use Rattle.model.specs.Item.{Item, body, extent, cover, sum, leafy, Sound}
use Rattle.model.specs.Body.{Zero, LeafAt, PrefixAt, InnerAt}

-- ---- the tree with its slots and places

mutual
  pub data Lay : Type 0 where
    -- slot, place of the body, place of the extent, key, value
    leaf : ℕ → ℕ → ℕ → List ℕ → Value → Lay
    -- slot, place, bytes, the node below
    prefix : ℕ → ℕ → List ℕ → Lay → Lay
    -- slot, place, kind, children
    node : ℕ → ℕ → ℕ → LayKids → Lay

  pub data LayKids : Type 0 where
    nil : LayKids
    -- byte, place in a Node48, child, the children at higher bytes
    kid : ℕ → ℕ → Lay → LayKids → LayKids

abbrev pub slot_of : Lay → ℕ
slot_of (leaf s o e k v) = s
slot_of (prefix s o p l) = s
slot_of (node s o kind ks) = s

-- of kind 4 to 7
abbrev pub IsNode : Lay → Type 0
IsNode (leaf s o e k v) = ⊥
IsNode (prefix s o p l) = ⊥
IsNode (node s o kind ks) = Unit {0}

-- what may stand below a Prefix of bytes p: "its child is of kind 4 to 7"; below a full one also the next of a chain, "each full but the last"
abbrev pub Below : List ℕ → Lay → Type 0
Below p (leaf s o e k v) = ⊥
Below p (prefix s o q l) = length p ≡ prefix_most
Below p (node s o kind ks) = Unit {0}

-- a shared beginning goes on: the Prefixes of a chain are one in the tree
abbrev pub atop : List ℕ → Art → Art
atop p (Art.leaf k v) = Art.prefix p (Art.leaf k v)
atop p (Art.prefix q a) = Art.prefix (p ++ q) a
atop p (Art.node kind ks) = Art.prefix p (Art.node kind ks)

-- the tree without slots and places
abbrev mutual
  pub art : Lay → Art
  art (leaf s o e k v) = Art.leaf k v
  art (prefix s o p l) = atop p (art l)
  art (node s o kind ks) = Art.node kind (art_kids ks)

  pub art_kids : LayKids → Kids
  art_kids nil = Kids.nil
  art_kids (kid b j l ks) = Kids.kid b j (art l) (art_kids ks)

-- what it stands on
unfoldable mutual
  pub items : Lay → List Item
  items (leaf s o e k v) = body s leaf_kind o ∷ extent e (extent_of k v) ∷ []
  items (prefix s o p l) = body s prefix_kind o ∷ items l
  items (node s o kind ks) = body s kind o ∷ items_all ks

  pub items_all : LayKids → List Item
  items_all nil = []
  items_all (kid b j l ks) = items l ++ items_all ks

-- bytes and slots of the children
unfoldable pub pairs : LayKids → List (ℕ × ℕ)
pairs nil = []
pairs (kid b j l ks) = (b, slot_of l) ∷ pairs ks

-- ---- when a frame's bytes hold it

-- slot s is live: its kind and its body's place
pub record Entry (f : List ℕ) (s kind o : ℕ) : Type 0 where
  pub kind_is : high_of f s ≡ kind
  pub place_is : place_of f s ≡ o

-- the places of the children: what a Node48's index says, and 0 in the other kinds
unfoldable pub Places : List ℕ → ℕ → ℕ → LayKids → Type 0
Places f o kind nil = Unit {0}
Places f o kind (kid b j l ks) = (pick (eqb kind node48_kind) (byte_at f (o + node48_index + b)) 0 ≡ j) × Places f o kind ks

-- "Children in use: Node4 2 to 4, Node16 4 to 16, Node48 13 to 48, Node256 38 to 256; the count says how many."
pub record NodeOf (f : List ℕ) (o kind : ℕ) (ks : LayKids) : Type 0 where
  pub inner : InnerAt f o kind (pairs ks)
  pub least : fewest kind ≤ length (pairs ks)
  pub at_most : length (pairs ks) ≤ most kind
  pub places : Places f o kind ks

-- a string begins with a path
abbrev pub Begins : List ℕ → List ℕ → Type 0
Begins w path = take (length path) w ≡ path

-- "A Leaf's key is legal and its walked string begins with the path that leads to it."
pub record LeafOf (E : Edition) (f path : List ℕ) (o e : ℕ) (k : List ℕ) (v : Value) : Type 0 where
  pub at : LeafAt f o e k v
  pub eights : e % 8 ≡ 0
  pub legal : E.key_fault k ≡ 0
  pub begins : Begins (E.walked k) path
  pub stamped : v.stamp < E.stamps

unfoldable mutual
  -- the tree stands in f, and this path leads to it. "A Prefix has 1 to 112 bytes and its child is of kind 4 to 7."
  pub Tree : Edition → List ℕ → List ℕ → Lay → Type 0
  Tree E f path (leaf s o e k v) = Entry f s leaf_kind o × LeafOf E f path o e k v
  Tree E f path (prefix s o p l) = Entry f s prefix_kind o × PrefixAt f o p (slot_of l) × Below p l × Tree E f (path ++ p) l
  Tree E f path (node s o kind ks) = Entry f s kind o × NodeOf f o kind ks × Trees E f path ks

  pub Trees : Edition → List ℕ → List ℕ → LayKids → Type 0
  Trees E f path nil = Unit {0}
  Trees E f path (kid b j l ks) = Tree E f (path ++ b ∷ []) l × Trees E f path ks

-- "EmptyRoot stands only at the root"
pub data Root : Type 0 where
  bare : ℕ → ℕ → Root  -- slot, place
  tree : Lay → Root

abbrev pub root_slot : Root → ℕ
root_slot (bare s o) = s
root_slot (tree l) = slot_of l

abbrev pub root_art : Root → Option Art
root_art (bare s o) = none
root_art (tree l) = some (art l)

unfoldable pub RootAt : Edition → List ℕ → Root → Type 0
RootAt E f (bare s o) = Entry f s empty_root_kind o × Zero f o 8
RootAt E f (tree l) = Tree E f [] l

unfoldable pub root_items : Root → List Item
root_items (bare s o) = body s empty_root_kind o ∷ []
root_items (tree l) = items l

-- ---- the header and the lists

pub record Numbers : Type 0 where
  pub edition : Edition
  pub F : ℕ
  pub N : ℕ
  pub B : ℕ
  pub U : ℕ
  pub R : ℕ
  pub X : ℕ
  pub root : ℕ

-- "Frame length F: a multiple of 8 from 1,024 to 524,288"
abbrev pub FrameLength : ℕ → Type 0
FrameLength f = (f % 8 ≡ 0) × (1024 ≤ f) × (f ≤ 524288)

-- "Slot capacity N: even, from 8 to 10,240."
abbrev pub SlotCapacity : ℕ → Type 0
SlotCapacity n = (n % 2 ≡ 0) × (8 ≤ n) × (n ≤ 10240)

-- "The header is as above; B is a multiple of 8 from D + 8 to F; U is from 1 to N; entries above U are zero."
pub record Header (f : List ℕ) (h : Numbers) : Type 0 where
  pub size : length f ≡ h.F
  pub limits : FrameLength h.F
  pub edition : le 4 f at_edition ≡ h.edition.number
  pub stored : le 4 f at_f ≡ h.F
  pub slots_at : le 4 f at_n ≡ h.N
  pub slot_cap : SlotCapacity h.N
  pub data_at : le 4 f at_d ≡ data_start h.N
  pub bump_at : le 4 f at_b ≡ h.B
  pub bump_in : (h.B % 8 ≡ 0) × (data_start h.N + 8 ≤ h.B) × (h.B ≤ h.F)
  pub given_at : le 4 f at_u ≡ h.U
  pub given_in : (1 ≤ h.U) × (h.U ≤ h.N)
  pub records_at : le 4 f at_r ≡ h.R
  pub dead_at : le 4 f at_x ≡ h.X
  pub root_at : le 2 f at_root ≡ h.root
  pub spare : (a : ℕ) → at_spare ≤ a → a < header_size → byte_at f a ≡ 0
  pub above : (a : ℕ) → entry_at (h.U + 1) ≤ a → a < data_start h.N → byte_at f a ≡ 0

-- a list of freed slots from its head, with the places of their bodies; 0 ends it
unfoldable pub Chain : List ℕ → ℕ → List (ℕ × ℕ) → Type 0
Chain f h [] = h ≡ 0
Chain f h (x ∷ xs) = (h ≡ x.0) × (place_of f x.0 ≡ x.1) × Chain f (high_of f x.0) xs

-- the lists of kinds 1 to 8; "list 3 is empty"
pub record Lists (f : List ℕ) (ls : List (List (ℕ × ℕ))) : Type 0 where
  pub eight : length ls ≡ 8
  pub third : get_or ls 2 [] ≡ []
  pub chains : (i : ℕ) → i < 8 → Chain f (le 2 f (at_head (i + 1))) (get_or ls i [])

-- "A freed slot keeps its body; the list it is on tells the kind."
unfoldable pub list_items : ℕ → List (ℕ × ℕ) → List Item
list_items k [] = []
list_items k (x ∷ xs) = body x.0 k x.1 ∷ list_items k xs

unfoldable pub freed : ℕ → List (List (ℕ × ℕ)) → List Item
freed k [] = []
freed k (l ∷ ls) = list_items k l ++ freed (suc k) ls

-- ---- the whole frame

-- its numbers, its lists, and what is given out and not freed
pub record View : Type 0 where
  pub nums : Numbers
  pub lists : List (List (ℕ × ℕ))
  pub owned : List Item

abbrev pub all : View → List Item
all h = h.owned ++ freed 1 h.lists

-- "In a good frame freed bodies, dead extents and bytes from B on are zero": every byte from D on that nothing live covers
pub record Clean (f : List ℕ) (d : ℕ) (live : List Item) : Type 0 where
  pub zero : (a : ℕ) → d ≤ a → sum (cover a) live ≡ 0 → byte_at f a ≡ 0

pub record Heap (f : List ℕ) (h : View) : Type 0 where
  pub header : Header f h.nums
  pub lists : Lists f h.lists
  pub clean : h.nums.edition.wiped ≡ true → Clean f (data_start h.nums.N) h.owned
  pub sound : Sound (data_start h.nums.N) h.nums.U h.nums.B h.nums.X (all h)

abbrev pub view_of : Numbers → List (List (ℕ × ℕ)) → Root → View
view_of n ls r = record { nums = n; lists = ls; owned = root_items r }

abbrev pub state_of : Numbers → List (List (ℕ × ℕ)) → Root → State
state_of n ls r = record { F = n.F; N = n.N; B = n.B; U = n.U; R = n.R; X = n.X; free = 0 ∷ map length ls; tree = root_art r }

-- f is a good frame of an edition, and stands for the state
pub record Stands (E : Edition) (f : List ℕ) (st : State) : Type 0 where
  pub bytes : Bytes f
  pub nums : Numbers
  pub lists : List (List (ℕ × ℕ))
  pub root : Root
  pub heap : Heap f (view_of nums lists root)
  pub edition_is : nums.edition ≡ E
  pub root_is : nums.root ≡ root_slot root
  pub root_at : RootAt E f root
  -- "exactly when R is 0; otherwise R counts the Leaves"
  pub counted : nums.R ≡ sum leafy (root_items root)
  pub state : st ≡ state_of nums lists root

abbrev pub Good : Edition → List ℕ → Type 0
Good E f = (st : State) × Stands E f st
