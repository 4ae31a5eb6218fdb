-- A record that is written on a good frame, as a new one, as a replacement or as either: what they count on, and what they leave.
use Rattle.std.specs.Prelude.{ℕ, ◌≡◌, List, ◌++◌, Bool, true, false, length, ltb, Result, Ok, Err}
use Rattle.model.specs.Edition.{Edition, Lawful, Legal, LegalValue, Value}
use Rattle.model.specs.State.{State, Done, put_change, Write, new, replacing, either, call_write}
use Rattle.model.specs.State as state
use Rattle.model.specs.Frame.{Stands}
use Rattle.model.specs.Touch.{Outside, put_touch, find_at, extent_at, dying}
use Rattle.model.specs.Promise.{changes}
use Rattle.answers.specs.declared.Refusal.{Refusal}
use Rattle.keys.specs.Word.{Spells}
use Rattle.descent.specs.declared.spot.End.TheVariants as end
use Rattle.descent.specs.declared.spot.Spot.{Spot}
use Rattle.descent.specs.Spot.{SpotAt}
use Rattle.leaf_new.specs.Put.{PutReady, PutStep}
use Rattle.put_core.specs.declared.Way.{Way}
use Rattle.put_core.specs.declared.Way.TheVariants as way

-- the model's word for what is asked
abbrev pub way_of : Way → Write
way_of way.New = new
way_of way.Replacing = replacing
way_of way.Either = either

-- whether it was done
abbrev pub went : Result (Unit {0}) Refusal → Bool
went (Ok x) = true
went (Err r) = false

module _ (E : Edition) where
  -- a good frame, and a legal key and value
  pub record Asked (f k : List ℕ) (v : Value) : Type 0 where
    pub lawful : Lawful E
    pub st : State
    pub stands : Stands E f st
    pub legal : Legal E k
    pub legal_value : LegalValue E v

  -- and the descent of the key, which reads `word`, ended at p
  pub record AtSpot (f k word : List ℕ) (v : Value) (p : Spot) : Type 0 where
    pub asked : Asked f k v
    pub spells : Spells E k word
    pub spot : (s : State) (w : Stands E f s) → SpotAt E k w.root p

  -- there is room for the put, and the descent of the key ended at p
  pub record PutSpot (f k word : List ℕ) (v : Value) (p : Spot) : Type 0 where
    pub ready : PutReady E f k v
    pub spells : Spells E k word
    pub spot : SpotAt E k ready.stands.root p

  -- at an inner node without the byte
  pub record AtNode (f k word : List ℕ) (v : Value) (p : Spot) : Type 0 where
    pub put : PutSpot f k word v p
    pub ends : p.end ≡ end.Missing

  -- there was room, and the record is written; or there was none, and nothing has changed
  pub record Tried (f k : List ℕ) (v : Value) (r : Bool) (f' : List ℕ) : Type 0 where
    pub room : (s : State) → Stands E f s → r ≡ state.room s (put_change E s k v)
    pub done : r ≡ true → PutStep E f k v f'
    pub kept : r ≡ false → f' ≡ f

  -- f' stands for the state of d, and after a number that may change the frame every byte is as before but those that the put touches
  abbrev pub Left : (f k : List ℕ) (v : Value) (n : ℕ) (f' : List ℕ) (s : State) → Stands E f s → Done → Type 0
  Left f k v n f' s w d =
      (w' : Stands E f' d.state) × (changes n ≡ true → let c = put_change E s k v in
      Outside f f' w.root w'.root w.lists w'.lists (c.takes ++ c.frees) (put_touch E w.root k v) (extent_at (length k) (find_at E w'.root k)) (dying c.dead (extent_at (length k) (find_at E w.root k))) (ltb 0 c.extent))

  -- The clauses of a write's promise for a legal key and value: the number, the state after, what is settled of the bytes, and that nothing
  -- changes where the number says so.
  pub record WriteMade (a : Write) (f k : List ℕ) (v : Value) (n : ℕ) (f' : List ℕ) : Type 0 where
    pub answer : (s : State) → Stands E f s → n ≡ (call_write E a s k v).answer
    pub after : (s : State) (w : Stands E f s) → Left f k v n f' s w (call_write E a s k v)
    pub kept : changes n ≡ false → f' ≡ f
