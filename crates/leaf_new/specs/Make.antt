-- What a new Leaf and a new record count on, and what they leave.
use Rattle.std.specs.Prelude.{ℕ, ◌+◌, ◌<◌, ◌≡◌, List, [], ◌∷◌, length}
use Rattle.layout.specs.Kind.{leaf_kind}
use Rattle.model.specs.Edition.{Edition, Value, text_of}
use Rattle.model.specs.Tree.{extent_of}
use Rattle.model.specs.Item.{Item}
use Rattle.model.specs.Frame.{Lay, View, Heap, Begins}
use Rattle.leaf_new.specs.declared.Record.{Record}
use Rattle.room.specs.View.{recorded}
use Rattle.room.specs.Step.{Renumbered}
use Rattle.room.specs.Book.{RoomFor}
use Rattle.between.specs.Hole.{Step}
use Rattle.between.specs.Work.{Work}
use Rattle.between.specs.Edit.{MadeLeaf}

-- bytes with their stamp
abbrev pub stamped : List ℕ → ℕ → Value
stamped t n = record { bytes = t; stamp = n }

-- the value of a record that is put
abbrev pub value_of : Record → Value
value_of r = stamped r.value.now r.stamp

-- there is room for them
abbrev pub LeafRoom : View → List ℕ → Value → Type 0
LeafRoom h k v = RoomFor h (leaf_kind ∷ []) (extent_of k v)

-- a frame with room for a Leaf and its extent, a key and a value whose lengths fit their fields, and a stamp that fits its own
pub record Makes (f k : List ℕ) (v : Value) : Type 0 where
  pub view : View
  pub heap : Heap f view
  pub room : LeafRoom view k v
  pub key_fits : length k < 65536
  pub value_fits : length (text_of v) < 65536
  pub stamp_fits : v.stamp < 18446744073709551616

-- a Leaf of slot n was made, whatever else the work is and whichever path will lead to the Leaf
abbrev pub NewLeaf : List ℕ → List ℕ → List ℕ → Value → ℕ → Type 0
NewLeaf f g k v n =
    (E : Edition) (h : View) (xs : List Step) (s : ℕ) (ts : List (List ℕ × Lay)) (loose : List Item) (path : List ℕ) → Work E f h xs s ts loose → LeafRoom h k v → E.key_fault k ≡ 0 → Begins (E.walked k) path
    → v.stamp < E.stamps → MadeLeaf E f g h xs s ts loose path n k v

-- a frame whose R can grow
pub record Counts (f : List ℕ) : Type 0 where
  pub view : View
  pub heap : Heap f view
  pub few : view.nums.R + 1 < 4294967296

-- R is one more
abbrev pub Counted : List ℕ → List ℕ → Type 0
Counted f g = (h : View) → Heap f h → Renumbered f g h (recorded h (h.nums.R + 1))
