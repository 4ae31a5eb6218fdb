-- Put at a spot of a good frame: what an edit counts on, and what it leaves.
use Rattle.std.specs.Prelude.{ℕ, ◌≤◌, ◌≡◌, List, ◌++◌, true, length, ltb}
use Rattle.model.specs.Edition.{Edition, Lawful, Legal, LegalValue, Value}
use Rattle.model.specs.State.{State, put_change, call_put}
use Rattle.model.specs.State as state
use Rattle.model.specs.Frame.{Lay, tree, Stands}
use Rattle.model.specs.Touch.{Outside, put_touch, find_at, extent_at, dying}
use Rattle.descent.specs.declared.spot.Spot.{Spot}
use Rattle.descent.specs.Spot.{Way}

module _ (E : Edition) where
  -- a good frame with room for a put of a legal key and value
  pub record PutReady (f k : List ℕ) (v : Value) : Type 0 where
    pub lawful : Lawful E
    pub st : State
    pub stands : Stands E f st
    pub legal : Legal E k
    pub some : 1 ≤ length k
    pub legal_value : LegalValue E v
    pub room : state.room st (put_change E st k v) ≡ true

  -- and the spot where the key's way ends in its tree
  pub record PutAt (f k : List ℕ) (v : Value) (p : Spot) : Type 0 where
    pub ready : PutReady f k v
    pub lay : Lay
    pub is : ready.stands.root ≡ tree lay
    pub way : Way E k lay p

  -- the state after, and what is settled of the bytes: the promise's clause of a put that is done
  abbrev pub Stepped : (f k : List ℕ) (v : Value) (f' : List ℕ) (s : State) → Stands E f s → Type 0
  Stepped f k v f' s w =
      (w' : Stands E f' (call_put E s k v).state) × (let c = put_change E s k v in
      Outside f f' w.root w'.root w.lists w'.lists (c.takes ++ c.frees) (put_touch E w.root k v) (extent_at (length k) (find_at E w'.root k)) (dying c.dead (extent_at (length k) (find_at E w.root k))) (ltb 0 c.extent))

  pub record PutStep (f k : List ℕ) (v : Value) (f' : List ℕ) : Type 0 where
    pub after : (s : State) (w : Stands E f s) → Stepped f k v f' s w
