-- A tree whose slots and Leaves lie in the frame.
use Rattle.std.specs.Prelude.{ℕ, ◌+◌, ◌≤◌, List, length}
use Rattle.layout.specs.Place.{entry_at}
use Rattle.layout.specs.Kind.{leaf_kind, body_size}
use Rattle.model.specs.Frame.{Lay, LayKids}
use Rattle.model.specs.Frame.Lay.{leaf, prefix, node}
use Rattle.model.specs.Frame.LayKids.{nil, kid}

-- the slot's entry lies in f
pub record SlotIn (f : List ℕ) (s : ℕ) : Type 0 where
  pub first : 1 ≤ s
  pub last : entry_at s + 4 ≤ length f

-- every entry and every Leaf's body of a tree lies in f
unfoldable mutual
  pub Inside : List ℕ → Lay → Type 0
  Inside f (leaf s o e k v) = SlotIn f s × (o + body_size leaf_kind ≤ length f)
  Inside f (prefix s o p l) = SlotIn f s × Inside f l
  Inside f (node s o kind ks) = SlotIn f s × InsideAll f ks

  pub InsideAll : List ℕ → LayKids → Type 0
  InsideAll f nil = Unit {0}
  InsideAll f (kid b j l ks) = Inside f l × InsideAll f ks
