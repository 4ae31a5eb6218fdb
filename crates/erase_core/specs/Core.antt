-- Erase on a good frame: what it counts on, and what it leaves.
use Rattle.std.specs.Prelude.{ℕ, ◌≤◌, ◌≡◌, List, [], false, length}
use Rattle.model.specs.Edition.{Edition, Legal, Lawful}
use Rattle.model.specs.State.{State, Done, call_erase}
use Rattle.model.specs.Image.{image}
use Rattle.model.specs.Frame.{Stands}
use Rattle.model.specs.Touch.{Outside, erase_touch, find_at, extent_at}
use Rattle.model.specs.Promise.{changes, erase_kinds}

-- a good frame, and a legal key
pub record Asked (E : Edition) (f k : List ℕ) : Type 0 where
  pub lawful : Lawful E
  pub st : State
  pub stands : Stands E f st
  pub legal : Legal E k

-- f' stands for the state of d, and after an erase that left records every byte is as before but those that it touches
abbrev pub Left : (E : Edition) (f k : List ℕ) (n : ℕ) (f' : List ℕ) (s : State) → Stands E f s → Done → Type 0
Left E f k n f' s w d =
    (w' : Stands E f' d.state) × (n ≡ 0 → 2 ≤ s.R →
    Outside f f' w.root w'.root w.lists w'.lists (erase_kinds E w.root k) (erase_touch E w.root k) [] (extent_at (length k) (find_at E w.root k)) false)

-- The clauses of erase's promise for a legal key: the number, the state after, what is settled of the bytes, of the only record every
-- byte, and that an erase that is not done changes nothing.
pub record EraseMade (E : Edition) (f k : List ℕ) (n : ℕ) (f' : List ℕ) : Type 0 where
  pub answer : (s : State) → Stands E f s → n ≡ (call_erase E s k).answer
  pub after : (s : State) (w : Stands E f s) → Left E f k n f' s w (call_erase E s k)
  pub only : (s : State) → Stands E f s → n ≡ 0 → s.R ≡ 1 → f' ≡ image E s.F s.N []
  pub kept : changes n ≡ false → f' ≡ f
