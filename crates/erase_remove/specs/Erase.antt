-- Erase at a spot of a good frame: what an edit counts on, and what it leaves.
use Rattle.layout.specs.Kind.{number_of}
use Rattle.std.specs.Prelude.{ℕ, ◌+◌, ◌≤◌, ◌≡◌, List, [], true, false, length}
use Rattle.layout.specs.Number.{le}
use Rattle.layout.specs.Place.{node_count}
use Rattle.layout.specs.Kind as table
use Rattle.model.specs.Edition.{Edition, Legal, Lawful, Value}
use Rattle.model.specs.State.{State, room, erase_change, call_erase}
use Rattle.model.specs.Image.{image}
use Rattle.model.specs.Frame.{Lay, art, tree, Stands}
use Rattle.model.specs.Frame.Lay.{leaf}
use Rattle.model.specs.Touch.{Outside, erase_touch, find_at, extent_at}
use Rattle.model.specs.Promise.{erase_kinds}
use Rattle.descent.specs.declared.spot.Spot.{Spot}
use Rattle.descent.specs.Spot.{Way, ThisKey}

-- a good frame, and the spot of the Leaf of a legal key, which an inner node holds; there is room for the erase
pub record EraseAt (E : Edition) (f k : List ℕ) (p : Spot) : Type 0 where
  pub lawful : Lawful E
  pub st : State
  pub stands : Stands E f st
  pub lay : Lay
  pub is : stands.root ≡ tree lay
  pub way : Way E k lay p
  pub found : ThisKey k p way.steps way.sub
  pub held : 1 ≤ p.node.slot
  pub legal : Legal E k
  pub some : 1 ≤ length k
  pub room : room st (erase_change E (art lay) k) ≡ true

-- the children that the count of the node that holds the Leaf says
abbrev pub counted : List ℕ → Spot → ℕ
counted f p = le 2 f (p.node.place + node_count)

-- without the Leaf the node keeps its kind
pub record Stays (E : Edition) (f k : List ℕ) (p : Spot) : Type 0 where
  pub erase : EraseAt E f k p
  pub more : counted f p ≡ table.shrink_mark (number_of p.node.kind) + 1 → ⊥

-- without the Leaf a node falls to the mark of its kind
pub record Falls (E : Edition) (f k : List ℕ) (p : Spot) : Type 0 where
  pub erase : EraseAt E f k p
  pub large : 5 ≤ number_of p.node.kind
  pub mark : counted f p ≡ table.shrink_mark (number_of p.node.kind) + 1

-- the erase is done: the model's answer is 0, and the promise's clause of the frame after
pub record EraseStep (E : Edition) (f k f' : List ℕ) : Type 0 where
  pub answer : (s : State) → Stands E f s → (call_erase E s k).answer ≡ 0
  pub after : (s : State) (w : Stands E f s) → (w' : Stands E f' (call_erase E s k).state) × (2 ≤ s.R →
      Outside f f' w.root w'.root w.lists w'.lists (erase_kinds E w.root k) (erase_touch E w.root k) [] (extent_at (length k) (find_at E w.root k)) false)

-- ---- the only record

-- a good frame whose tree is the Leaf of this key
pub record OnlyAt (E : Edition) (f k : List ℕ) : Type 0 where
  pub lawful : Lawful E
  pub st : State
  pub stands : Stands E f st
  pub slot : ℕ
  pub place : ℕ
  pub extent : ℕ
  pub value : Value
  pub is : stands.root ≡ tree (leaf slot place extent k value)

-- "leaves the frame as format leaves it": every byte
pub record OnlyStep (E : Edition) (f k f' : List ℕ) : Type 0 where
  pub step : EraseStep E f k f'
  pub image : (s : State) → Stands E f s → f' ≡ image E s.F s.N []
