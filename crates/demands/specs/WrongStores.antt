-- "Promises have to shut these out": document 01's list of wrong stores, and those that document 02 is about, each as what it would have to prove of
-- its calls. No store can.
use Rattle.std.specs.Prelude.{ℕ, ◌+◌, ◌<◌, ◌≤◌, ◌≡◌, List, [], ◌∷◌, ◌≢◌, length}
use Rattle.std.proofs.Math.Option.{none, some}
use Rattle.layout.specs.Number.{le, byte_at}
use Rattle.layout.specs.Place.{at_b, at_u, at_r, at_x}
use Rattle.model.specs.Edition.{unstamped, edition1, Legal, LegalValue, Value, text_of}
use Rattle.model.specs.Tree.{up8}
use Rattle.model.specs.Records.{Record, lookup, upsert}
use Rattle.model.specs.State.{State, formatted, put_change}
use Rattle.model.specs.Frame.{Stands, Good}
use Rattle.model.specs.Promise.{LengthOk, CheckPromise, Found, not_found, LookUpPromise, PutPromise, ReplacePromise, PackPromise}
use Rattle.model.specs.Call.{Call, on_call, Called}
use Rattle.demands.specs.Words.{NotRefused, Holds, slots_of, NoRoom}

-- "a check that answers 2 to everything (demand 2's first sentence, W1)": to everything of the right length
abbrev pub AllTwo : Type 0
AllTwo = (f : List ℕ) → LengthOk f → CheckPromise edition1 f 2

-- "a store that answers 6 to everything (the room rule in demand 2)"
abbrev pub AllSix : Type 0
AllSix = (f k : List ℕ) (v : Value) → Good edition1 f → Legal edition1 k → LegalValue edition1 v → (f' : List ℕ) × PutPromise edition1 f k v 6 f'

-- "one that always says 8 or holds nothing (look-up, demand 2)"
abbrev pub AllEight : Type 0
AllEight = (f k : List ℕ) → Good edition1 f → Legal edition1 k → (visited : ℕ) × LookUpPromise edition1 f k (not_found 8 visited)

abbrev pub HoldsNothing : Type 0
HoldsNothing = (f k : List ℕ) (v : Value) → Good edition1 f → Legal edition1 k → LegalValue edition1 v → (n : ℕ) × (f' : List ℕ) × PutPromise edition1 f k v n f' × Holds edition1 f' []

-- "a put that writes only the first record and afterwards only says 0 (the set after each put)"
abbrev pub OnlyFirst : Type 0
OnlyFirst = (f k : List ℕ) (v : Value) (r : Record) (rs : List Record) → Holds edition1 f (r ∷ rs) → Legal edition1 k → LegalValue edition1 v → PutPromise edition1 f k v 0 f

-- (02) "Two provisioning tools overwrote each other's line profiles": a put that replaces all the same, whatever it says, 11 too
abbrev pub Overwrites : Type 0
Overwrites = (f k : List ℕ) (v : Value) (rs : List Record) → Holds edition1 f rs → Legal edition1 k → LegalValue edition1 v → lookup k rs ≢ none
    → (n : ℕ) × (f' : List ℕ) × PutPromise edition1 f k v n f' × Holds edition1 f' (upsert k v rs)

-- a put that asks for room first, and only then whether the key is there
abbrev pub RoomFirst : Type 0
RoomFirst = (f k : List ℕ) (v : Value) (s : State) → Stands edition1 f s → Legal edition1 k → LegalValue edition1 v → NoRoom s (put_change edition1 s k v) → PutPromise edition1 f k v 6 f

-- a replacement that puts an absent key in, and one that keeps the old value
abbrev pub PutsIn : Type 0
PutsIn = (f k : List ℕ) (v : Value) (rs : List Record) → Holds edition1 f rs → Legal edition1 k → LegalValue edition1 v → lookup k rs ≡ none
    → (n : ℕ) × (f' : List ℕ) × ReplacePromise edition1 f k v n f' × Holds edition1 f' (upsert k v rs)

abbrev pub KeepsOld : Type 0
KeepsOld = (f k : List ℕ) (v : Value) (rs : List Record) → Holds edition1 f rs → Legal edition1 k → LegalValue edition1 v → lookup k rs ≢ none
    → (n : ℕ) × (f' : List ℕ) × ReplacePromise edition1 f k v n f' × Holds edition1 f' rs

-- "a packer that writes one fixed image (reading back; demand 3 alone would let it pass)": one for each F and N
abbrev pub FixedImage : Type 0
FixedImage = (m : ℕ → ℕ → List ℕ) × ((f o : List ℕ) → Good edition1 f → length o ≡ length f → PackPromise edition1 f o 0 (m (length f) (slots_of f)))

-- (02) "A returned modem gave up an old subscriber password from a dead extent": where look-up found a value and a replacement has another length,
-- some bytes are as they were
abbrev pub LeavesThose : (List ℕ → Found → ℕ → Type 0) → Type 0
LeavesThose those = (f k : List ℕ) (v old : Value) (rs : List Record) → Holds edition1 f rs → Legal edition1 k → LegalValue edition1 v → lookup k rs ≡ some old → (length (text_of v) ≡ length (text_of old) → ⊥)
    → (g : Found) × (n : ℕ) × (f' : List ℕ) × LookUpPromise edition1 f k g × ReplacePromise edition1 f k v n f' × (NotRefused n → (a : ℕ) → those k g a → byte_at f' a ≡ byte_at f a)

-- the old value; the last eight bytes of its extent
abbrev pub LeavesOld : Type 0
LeavesOld = LeavesThose (λ k g a. (g.place ≤ a) × (a < g.place + g.long))

abbrev pub UnitShort : Type 0
UnitShort = LeavesThose (λ k g a. let end = g.place + up8 (length k + g.long) in (end ≤ a + length k + 8) × (a + length k < end))

-- the counters that a frame stores
pub record Counters (f : List ℕ) (U B R X : ℕ) : Type 0 where
  pub slots : le 4 f at_u ≡ U
  pub bytes : le 4 f at_b ≡ B
  pub records : le 4 f at_r ≡ R
  pub dead : le 4 f at_x ≡ X

-- "one that invents U, B, R or X (the check and the needs above)": a=1 put into the fresh frame of W1 leaves other counters than those of W2
abbrev pub Invents : Type 0
Invents = (f : List ℕ) → Stands edition1 f (formatted 1024 8) → (n : ℕ) × (f' : List ℕ) × PutPromise edition1 f (97 ∷ []) (unstamped (49 ∷ [])) n f' × (Counters f' 2 128 1 0 → ⊥)

pub record ShutOut : Type 0 where
  pub all_two : AllTwo → ⊥
  pub all_six : AllSix → ⊥
  pub all_eight : AllEight → ⊥
  pub holds_nothing : HoldsNothing → ⊥
  pub only_first : OnlyFirst → ⊥
  pub overwrites : Overwrites → ⊥
  pub room_first : RoomFirst → ⊥
  pub puts_in : PutsIn → ⊥
  pub keeps_old : KeepsOld → ⊥
  pub fixed_image : FixedImage → ⊥
  pub invents : Invents → ⊥
  pub leaves_old : LeavesOld → ⊥
  pub unit_short : UnitShort → ⊥
  -- and of every put, replacement and erase: the counters are those that the needs give
  pub settled : (f : List ℕ) (c : Call) (n : ℕ) (f' : List ℕ) (s : State) → Stands edition1 f s → Called edition1 f c n f'
      → let t = (on_call edition1 s c).state in Counters f' t.U t.B t.R t.X
