-- The words of the three demands: refusals and their order, no room, the set of records that a frame holds, a change at one key only.
use Rattle.std.specs.Prelude.{ℕ, ◌+◌, ◌-◌, ◌<◌, ◌≤◌, ◌≡◌, List, [], ◌∷◌, true, ◌↔◌, ◌⊎◌, ◌≢◌, length, eqb}
use Rattle.std.proofs.Math.Option.{Option, none, some}
use Rattle.layout.specs.Number.{byte_at, le}
use Rattle.layout.specs.Place.{at_n}
use Rattle.model.specs.Strings.{pick, All, Byte}
use Rattle.model.specs.Edition.{Edition, Value, text_of}
use Rattle.model.specs.Tree.{Art, Change}
use Rattle.model.specs.Records.{Record, records_of, lookup}
use Rattle.model.specs.State.{State, fresh_slots, fresh_bytes, put_change, erase_change}
use Rattle.model.specs.Frame.{Stands, Good}
use Rattle.model.specs.Order.{is_refusal, InOrder}
use Rattle.model.specs.Promise.{LengthOk, FormatOk}
use Rattle.model.specs.Call.{Call, put, replace, erase}

-- ---- refusals

-- "1 to 7 are refusals; 0, 8 and 9 are not", nor is 11
abbrev pub Refusal : ℕ → Type 0
Refusal n = is_refusal n ≡ true

abbrev pub NotRefused : ℕ → Type 0
NotRefused n = Refusal n → ⊥

-- a refusal's number, and when it applies
pub record Ground : Type 1 where
  pub number : ℕ
  pub applies : Type 0

abbrev pub OneOf : ℕ → List ℕ → Type 0
OneOf n [] = ⊥
OneOf n (m ∷ ms) = (n ≡ m) ⊎ OneOf n ms

-- The first ground's number is given exactly if it applies; if it does not, the others decide in the same way, and if none applies, it is
-- one of the answers that the call has besides.
abbrev pub InTurn : List Ground → List ℕ → ℕ → Type 0
InTurn [] answers n = OneOf n answers
InTurn (g ∷ gs) answers n = ((n ≡ g.number) ↔ g.applies) × ((g.applies → ⊥) → InTurn gs answers n)

abbrev pub numbers_of : List Ground → List ℕ
numbers_of [] = []
numbers_of (g ∷ gs) = g.number ∷ numbers_of gs

-- "The first refusal that applies in the order .. is given; 0, 8 and 9 only if none applies": a call's grounds, taken from the one order of
-- all refusals (model: Order), and its answers
abbrev pub FirstOf : List Ground → List ℕ → ℕ → Type 0
FirstOf gs answers n = InOrder (numbers_of gs) × InTurn gs answers n

-- "F or N against the limits (D + 8 above F among them), or the slice length"
abbrev pub wrong_limits : List ℕ → ℕ → ℕ → Ground
wrong_limits f len cap = record { number = 1; applies = FormatOk f len cap → ⊥ }

-- "for an existing frame: the slice's length against F's limits, or against the stored F"
abbrev pub wrong_length : List ℕ → Ground
wrong_length f = record { number = 1; applies = LengthOk f → ⊥ }

-- "not a good frame"
abbrev pub not_good : Edition → List ℕ → Ground
not_good E f = record { number = 2; applies = Good E f → ⊥ }

-- the most bytes of a key, by the edition's number: "1 to 112 bytes"; (02) "keys of 1 to 255 bytes of any kind"
abbrev pub most_of_key : ℕ → ℕ
most_of_key n = pick (eqb n 2) 255 112

-- "key length 0 or above 112"; (02) "3 now means 0 or above 255"
abbrev pub key_length : Edition → List ℕ → Ground
key_length E k = record { number = 3; applies = (length k ≡ 0) ⊎ (most_of_key E.number < length k) }

-- "key holds a byte 0"; (02) "Refusal 4 isn't given in edition 2"
abbrev pub key_zero : Edition → List ℕ → Ground
key_zero E k = record { number = 4; applies = (E.number ≢ 2) × ((i : ℕ) × (i < length k) × (byte_at k i ≡ 0)) }

-- "value above 65,535 bytes"
abbrev pub value_long : Value → Ground
value_long v = record { number = 5; applies = 65535 < length (text_of v) }

-- "pack: the output is not F long"
abbrev pub output_length : List ℕ → List ℕ → Ground
output_length f o = record { number = 7; applies = length o ≢ length f }

-- ---- no room

-- "No room is given exactly if the fresh slots needed exceed N - U, or the fresh bodies and the extent exceed F - B": of a change, which
-- says what bodies and what extent a call takes. (A body is fresh if its kind's list has none left.)
abbrev pub NoRoom : {A : Type 0} → State → Change A → Type 0
NoRoom s c = (s.N - s.U < fresh_slots s c.takes) ⊎ (s.F - s.B < fresh_bytes s c.takes + c.extent)

-- of a put: the key is absent, else it needs nothing
abbrev pub PutFull : Edition → State → List ℕ → Value → Type 0
PutFull E s k v = (lookup k (records_of s.tree) ≡ none) × NoRoom s (put_change E s k v)

-- of a replacement: the key is there, else it needs nothing
abbrev pub ReplaceFull : Edition → State → List ℕ → Value → Type 0
ReplaceFull E s k v = (lookup k (records_of s.tree) ≢ none) × NoRoom s (put_change E s k v)

-- of an erase that is more than "leaves the frame as format leaves it": the key is there, and it is not the only one
abbrev pub NoRoomIn : Edition → State → Option Art → List ℕ → Type 0
NoRoomIn E s none k = ⊥
NoRoomIn E s (some a) k = NoRoom s (erase_change E a k)

abbrev pub EraseFull : Edition → State → List ℕ → Type 0
EraseFull E s k = (lookup k (records_of s.tree) ≢ none) × (2 ≤ s.R) × NoRoomIn E s s.tree k

-- "no room"
abbrev pub put_full : Edition → List ℕ → List ℕ → Value → Ground
put_full E f k v = record { number = 6; applies = (s : State) × Stands E f s × PutFull E s k v }

abbrev pub replace_full : Edition → List ℕ → List ℕ → Value → Ground
replace_full E f k v = record { number = 6; applies = (s : State) × Stands E f s × ReplaceFull E s k v }

abbrev pub put_or_replace_full : Edition → List ℕ → List ℕ → Value → Ground
put_or_replace_full E f k v = record { number = 6; applies = (s : State) × Stands E f s × NoRoom s (put_change E s k v) }

abbrev pub erase_full : Edition → List ℕ → List ℕ → Ground
erase_full E f k = record { number = 6; applies = (s : State) × Stands E f s × EraseFull E s k }

-- ---- the set of records

-- f is a good frame and stands for these records, in key order
pub record Holds (E : Edition) (f : List ℕ) (rs : List Record) : Type 0 where
  pub state : State
  pub stands : Stands E f state
  pub set : records_of state.tree ≡ rs

-- the slot capacity N that a frame stores
abbrev pub slots_of : List ℕ → ℕ
slots_of f = le 4 f at_n

-- from the one set to the other only the key k has changed: it has the value o now, or none
pub record OnlyAt (k : List ℕ) (o : Option Value) (rs rs' : List Record) : Type 0 where
  pub own : lookup k rs' ≡ o
  pub others : (l : List ℕ) → l ≢ k → lookup l rs' ≡ lookup l rs

-- a value as a caller can pass it: a string of bytes, and a stamp that the edition has
abbrev pub Passable : Edition → Value → Type 0
Passable E v = All Byte (text_of v) × (v.stamp < E.stamps)

-- the key and the value of a call are strings of bytes, and the stamp is one
abbrev pub OfBytes : Edition → Call → Type 0
OfBytes E (put k v) = All Byte k × Passable E v
OfBytes E (replace k v) = All Byte k × Passable E v
OfBytes E (erase k) = All Byte k
