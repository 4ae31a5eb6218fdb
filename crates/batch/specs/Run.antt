-- The changes of a batch made one after another on a good frame: what is counted on, how far it has come, and what is left.
use Rattle.std.specs.Prelude.{ℕ, ◌+◌, ◌-◌, ◌<◌, ◌≤◌, ◌≡◌, List, ◌++◌, true, length, set, Result, Ok, Err}
use Rattle.std.proofs.Math.Option.{some}
use Rattle.model.specs.Edition.{Edition}
use Rattle.model.specs.Order.{is_refusal}
use Rattle.model.specs.Call.{Call}
use Rattle.descent.specs.Spot.{Standing}
use Rattle.sequence.specs.Sequence.{Made}
use Rattle.batch.specs.Layout.{count_in, at_key, end_of, changes_from, changes_of, laid}
use Rattle.batch.specs.Batch.{Unrefused, told, Stopped}
use Rattle.answers.specs.Number.{refusal_number}
use Rattle.batch.specs.declared.run.Stopped.{Stopped as Halt}

-- a change at o that lies within the batch
pub record At (E : Edition) (b : List ℕ) (o : ℕ) : Type 0 where
  pub near : o < 4294967296
  pub head : o + at_key E ≤ length b
  pub ends : end_of E b o ≤ length b

-- a good frame, and a batch
pub record Ready (E : Edition) (f b : List ℕ) : Type 0 where
  pub good : Standing E f
  pub whole : laid (changes_of E b) ≡ true

-- from f the first i changes are made, which gave these numbers and left f'
pub record Far (E : Edition) (f b : List ℕ) (i : ℕ) (f' : List ℕ) : Type 0 where
  pub before : List Call
  pub rest : List Call
  pub low : ℕ
  pub split : changes_of E b ≡ some (before ++ rest)
  pub left : changes_from E b (count_in b - i) i low ≡ some rest
  pub long : length before ≡ i
  pub few : i ≤ count_in b
  pub numbers : List ℕ
  pub made : Made E f before numbers f'
  pub good : Standing E f'

-- all changes are made
pub record All (E : Edition) (f b : List ℕ) (numbers f' : List ℕ) : Type 0 where
  pub calls : List Call
  pub whole : changes_of E b ≡ some calls
  pub made : Made E f calls numbers f'

-- the answer n to change i is told, if there is room
pub record ToldAt (lent : List ℕ) (i n : ℕ) (lent' : List ℕ) : Type 0 where
  pub within : i < length lent → lent' ≡ set lent i n
  pub past : length lent ≤ i → lent' ≡ lent

-- all changes were made, and their answers told
pub record CarriedOut (E : Edition) (f b lent f' lent' : List ℕ) : Type 0 where
  pub numbers : List ℕ
  pub all : All E f b numbers f'
  pub tells : lent' ≡ told numbers lent

-- one was refused, the first such
pub record Halted (E : Edition) (f b : List ℕ) (n at : ℕ) (f' : List ℕ) : Type 0 where
  pub refused : is_refusal n ≡ true
  pub small : n < 256
  pub few : at ≤ 4294967295
  pub stopped : (cs : List Call) (lent : List ℕ) → changes_of E b ≡ some cs → Stopped E f cs lent n at f f' lent

-- all changes were made, and none was
pub record Through (E : Edition) (f b f' : List ℕ) : Type 0 where
  pub numbers : List ℕ
  pub all : All E f b numbers f'
  pub unrefused : Unrefused numbers

abbrev pub Tried : Edition → (f b : List ℕ) → Result Unit Halt → (f' : List ℕ) → Type 0
Tried E f b (Ok x) f' = Through E f b f'
Tried E f b (Err s) f' = Halted E f b (refusal_number s.refusal) s.place f'
