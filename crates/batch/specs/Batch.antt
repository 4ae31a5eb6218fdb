-- What a batch does: "It is applied in a second lent frame of equal length, the first is checked once, and the result goes to the first only if no
-- change is refused." `f`, `g`, `b` and `lent` are the first frame, the second, the batch and the slice for the answers at entry, with a prime at
-- exit; `n` is the number given and `at` the place of the change that was refused, from 1, or 0.
use Rattle.std.specs.Prelude.{ℕ, ◌+◌, ◌≡◌, ◌≢◌, List, [], ◌∷◌, ◌++◌, true, false, length}
use Rattle.std.proofs.Math.Option.{none, some}
use Rattle.model.specs.Edition.{Edition}
use Rattle.model.specs.Order.{is_refusal}
use Rattle.model.specs.Frame.{Good}
use Rattle.model.specs.Promise.{Told}
use Rattle.model.specs.Call.{Call, Called}
use Rattle.sequence.specs.Sequence.{Made}
use Rattle.batch.specs.Layout.{changes_of}

-- "8, 9 and 11 don't stop a batch"
abbrev pub Unrefused : List ℕ → Type 0
Unrefused [] = Unit {0}
Unrefused (n ∷ ns) = (is_refusal n ≡ false) × Unrefused ns

-- the answers, one byte each, as many as there is room for; the rest as it was
abbrev pub told : List ℕ → List ℕ → List ℕ
told [] lent = lent
told (n ∷ ns) [] = []
told (n ∷ ns) (x ∷ lent) = n ∷ told ns lent

-- no change is refused: "The record set and answers equal those of the single calls in that order", each with its whole promise; the second frame
-- equals the first
pub record Carried (E : Edition) (f : List ℕ) (cs : List Call) (lent : List ℕ) (n at : ℕ) (f' g' lent' : List ℕ) : Type 0 where
  pub number : n ≡ 0
  pub place : at ≡ 0
  pub answers : List ℕ
  pub made : Made E f cs answers f'
  pub unrefused : Unrefused answers
  pub second : g' ≡ f'
  pub tells : lent' ≡ told answers lent

-- "the number of the first refused change and its refusal are given and the first frame is as it was"; the second holds what the changes before it
-- left
pub record Stopped (E : Edition) (f : List ℕ) (cs : List Call) (lent : List ℕ) (n at : ℕ) (f' g' lent' : List ℕ) : Type 0 where
  pub before : List Call
  pub change : Call
  pub rest : List Call
  pub split : cs ≡ before ++ change ∷ rest
  pub place : at ≡ length before + 1
  pub answers : List ℕ
  pub made : Made E f before answers g'
  pub unrefused : Unrefused answers
  pub refused : Called E g' change n g'
  pub first : f' ≡ f
  pub tells : lent' ≡ lent

-- the batch itself is refused, and nothing is changed
pub record Refused (f g lent : List ℕ) (at : ℕ) (f' g' lent' : List ℕ) : Type 0 where
  pub place : at ≡ 0
  pub first : f' ≡ f
  pub second : g' ≡ g
  pub tells : lent' ≡ lent

pub record BatchPromise (E : Edition) (f g b lent : List ℕ) (n at : ℕ) (f' g' lent' : List ℕ) : Type 0 where
  pub told : Told E f n
  -- "a second frame of another length gets 7 likewise, before 12"
  pub length7 : Good E f → length g ≢ length f → n ≡ 7
  pub layout12 : Good E f → length g ≡ length f → changes_of E b ≡ none → n ≡ 12
  pub done : Good E f → length g ≡ length f → (cs : List Call) → changes_of E b ≡ some cs → is_refusal n ≡ false → Carried E f cs lent n at f' g' lent'
  pub stopped : Good E f → length g ≡ length f → (cs : List Call) → changes_of E b ≡ some cs → is_refusal n ≡ true → Stopped E f cs lent n at f' g' lent'
  -- 1, 2, 7 and 12
  pub bad : (Good E f → ⊥) → Refused f g lent at f' g' lent'
  pub other : length g ≢ length f → Refused f g lent at f' g' lent'
  pub unlaid : changes_of E b ≡ none → Refused f g lent at f' g' lent'
