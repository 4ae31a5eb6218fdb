-- What the walk through the live tree tells of a slot, of a body, and of the children of a node.
use Rattle.std.specs.Prelude.{ℕ, ◌+◌, ◌*◌, ◌/◌, ◌%◌, ◌<◌, ◌≤◌, ◌≡◌, List, ◌∷◌, ◌++◌, Option, Some, None, length, take, drop}
use Rattle.layout.specs.Place.{prefix_most}
use Rattle.layout.specs.Kind.{leaf_kind, prefix_kind, crossing_kind, node256_kind, body_size}
use Rattle.layout.specs.Entry.{place_of, high_of}
use Rattle.model.specs.Edition.{Edition, Lawful}
use Rattle.model.specs.Item.{Item, body}
use Rattle.model.specs.Frame.{Lay, LayKids, slot_of, items, items_all, pairs, Entry, Places, Tree, Trees}
use Rattle.claims.specs.Units.{Each}
use Rattle.shape_inner.specs.Inner.{InnerHere}
use Rattle.census.specs.Told.{Tidy, Sited, Tally, Book, Grown, Told}
use Rattle.census.specs.declared.Sums.{Sums}
use Rattle.audit.specs.declared.walk.Inner.{Inner}

-- the kind of a slot of the tree, the root's EmptyRoot aside
pub record Live (kind : ℕ) : Type 0 where
  pub some : 1 ≤ kind
  pub last : kind ≤ node256_kind
  pub crossing : kind ≡ crossing_kind → ⊥

-- what may stand below a Prefix of n bytes: "its child is of kind 4 to 7", and below a full one also the next of a chain
pub record BelowSlot (f : List ℕ) (s u n : ℕ) : Type 0 where
  pub first : 1 ≤ s
  pub last : s ≤ u
  pub low : prefix_kind ≤ high_of f s
  pub high : high_of f s ≤ node256_kind
  pub crossing : high_of f s ≡ crossing_kind → ⊥
  pub full : high_of f s ≡ prefix_kind → n ≡ prefix_most

-- arrays that the paths of an edition's inner nodes fit, and as many of them as wait at once in a frame of u slots
pub record Arrays (E : Edition) (u path waits : ℕ) : Type 0 where
  pub words : E.longest ≤ path
  pub most : path ≤ 512
  pub room : (waiting : ℕ) → waiting < path → waiting < u → waiting < waits

-- a node that waits as one number: its slot, how many bytes lead to it, and the child whose turn it is
unfoldable pub wait_of : ℕ → ℕ → ℕ → ℕ
wait_of slot depth turn = slot * 131072 + depth * 256 + turn

unfoldable pub slot_in : ℕ → ℕ
slot_in w = w / 131072

unfoldable pub depth_in : ℕ → ℕ
depth_in w = w % 131072 / 256

unfoldable pub turn_in : ℕ → ℕ
turn_in w = w % 256

-- the first bytes of the path stay
pub record Kept (depth : ℕ) (p q : List ℕ) : Type 0 where
  pub same : take depth q ≡ take depth p

-- n bytes of the frame follow them
pub record Extended (f : List ℕ) (at depth n : ℕ) (p q : List ℕ) : Type 0 where
  pub is : take (depth + n) q ≡ take depth p ++ take n (drop at f)

-- the items of a tree at slot s, to which the path leads
pub record TreeItems (E : Edition) (f path : List ℕ) (s : ℕ) (xs : List Item) : Type 0 where
  pub lay : Lay
  pub tree : Tree E f path lay
  pub slot : slot_of lay ≡ s
  pub are : items lay ≡ xs

-- those below its body
abbrev pub Below : Edition → List ℕ → List ℕ → ℕ → ℕ → ℕ → List Item → Type 0
Below E f path s kind o ys = TreeItems E f path s (body s kind o ∷ ys)

-- those of children with these bytes and slots, of a node of the kind at o
pub record RunItems (E : Edition) (f path : List ℕ) (o kind : ℕ) (ks : List (ℕ × ℕ)) (xs : List Item) : Type 0 where
  pub kids : LayKids
  pub trees : Trees E f path kids
  pub pairs_are : pairs kids ≡ ks
  pub places : Places f o kind kids
  pub are : items_all kids ≡ xs

-- what is told of a body of the kind at o: of whatever slot it is, all that stands there
pub record At (E : Edition) (f path : List ℕ) (kind o d u b : ℕ) (m : List ℕ) (t : Sums) (m' : List ℕ) (r : Option Sums) : Type 0 where
  pub of : (s : ℕ) → Entry f s kind o → 1 ≤ s → s ≤ u → Told (TreeItems E f path s) (TreeItems E f path s) f d u b m t m' r

-- ---- a node whose children are still to be counted

-- no tidy items of which P holds
abbrev pub Fails : (List Item → Type 0) → ℕ → ℕ → ℕ → List ℕ → Sums → Type 0
Fails P d u b m t = (is : List Item) → Book m t is → (xs : List Item) → P xs → Tidy d u b (xs ++ is) → ⊥

-- the first of the items of which W holds were claimed and counted; of the others R holds
pub record Opens (R W : List Item → Type 0) (f : List ℕ) (d u b : ℕ) (m : List ℕ) (t : Sums) (m' : List ℕ) (t' : Sums) : Type 0 where
  pub items : List Item
  pub grown : Grown m t m' t' items
  pub sited : Each (Sited f d u b) items
  pub join : (ys : List Item) → R ys → W (items ++ ys)
  pub split : (zs is : List Item) → Tidy d u b (zs ++ is) → W zs → (ys : List Item) × R ys × (zs ≡ items ++ ys)

-- the body of an inner node: of whatever slot it is and whatever path of the length leads to it, its children are left; a path is shorter than
-- the limit. Of every edition, for nothing here depends on it
pub record NodeOpened (f : List ℕ) (limit depth kind o d u b : ℕ) (m : List ℕ) (t : Sums) (m' : List ℕ) (t' : Sums) : Type 0 where
  pub node : InnerHere f o kind
  pub room : o + body_size kind ≤ b
  pub short : depth < limit
  pub tally : Tally u 0 t'
  pub more : t.slots < t'.slots
  pub of : (E : Edition) (path : List ℕ) (s : ℕ) → Entry f s kind o → 1 ≤ s → s ≤ u → Opens (RunItems E f path o kind node.kids) (TreeItems E f path s) f d u b m t m' t'

pub record NodeTold (f : List ℕ) (limit depth kind o d u b : ℕ) (m : List ℕ) (t : Sums) (m' : List ℕ) (r : Option Sums) : Type 0 where
  pub holds : (t' : Sums) → r ≡ Some t' → NodeOpened f limit depth kind o d u b m t m' t'
  pub fails : r ≡ None → (E : Edition) → Lawful E → E.longest ≤ limit → (path : List ℕ) (s : ℕ) → length path ≡ depth → Entry f s kind o → 1 ≤ s → s ≤ u → Fails (TreeItems E f path s) d u b m t

-- a Prefix at slot s: the slot below it, to which the first bytes of `now` lead, is left; they are fewer than all
pub record PrefixLeads (f path : List ℕ) (depth s d u b : ℕ) (m : List ℕ) (t : Sums) (now m' : List ℕ) (i : Inner) : Type 0 where
  pub first : 1 ≤ i.slot
  pub last : i.slot ≤ u
  pub other : i.entry.high ≡ leaf_kind → ⊥
  pub kind_is : i.entry.high ≡ high_of f i.slot
  pub place_is : i.entry.place ≡ place_of f i.slot
  pub small : i.entry.place < 1048576
  pub deeper : depth ≤ i.depth
  pub short : i.depth < length now
  pub tally : Tally u 0 i.sums
  pub more : t.slots < i.sums.slots
  pub opens : (E : Edition) → Opens (TreeItems E f (take i.depth now) i.slot) (TreeItems E f path s) f d u b m t m' i.sums

pub record PrefixTold (f path : List ℕ) (depth s d u b : ℕ) (m : List ℕ) (t : Sums) (now m' : List ℕ) (r : Option Inner) : Type 0 where
  pub holds : (i : Inner) → r ≡ Some i → PrefixLeads f path depth s d u b m t now m' i
  pub fails : r ≡ None → (E : Edition) → Lawful E → E.longest ≤ length now → Fails (TreeItems E f path s) d u b m t
