-- The owner's first demand of a batch: the first refusal of the batch itself that applies is given, in the one order of all refusals; if none applies, it is carried
-- out or the refusal of its first refused change is given; and a refused batch changes no byte of the first frame or of the slice for the answers. Document 02
-- excepts the second frame.
use Rattle.std.specs.Prelude.{ℕ, ◌≡◌, ◌≢◌, List, [], ◌∷◌, length}
use Rattle.std.proofs.Math.Option.{none}
use Rattle.model.specs.Edition.{Edition}
use Rattle.demands.specs.Words.{Refusal, Ground, FirstOf, wrong_length, not_good}
use Rattle.batch.specs.Layout.{changes_of}
use Rattle.batch.specs.Batch.{BatchPromise}

-- "a second frame of another length gets 7"
abbrev pub second_length : List ℕ → List ℕ → Ground
second_length f g = record { number = 7; applies = length g ≢ length f }

-- "offsets run back, overlap or point outside, or .. a change of unknown kind, gets 12"
abbrev pub not_laid : Edition → List ℕ → Ground
not_laid E b = record { number = 12; applies = changes_of E b ≡ none }

pub record BatchDemand1 (E : Edition) : Type 0 where
  pub batch : (f g b lent : List ℕ) (n at : ℕ) (f' g' lent' : List ℕ) → BatchPromise E f g b lent n at f' g' lent'
      → FirstOf (wrong_length f ∷ not_good E f ∷ second_length f g ∷ not_laid E b ∷ []) (0 ∷ 3 ∷ 4 ∷ 5 ∷ 6 ∷ []) n × (Refusal n → (f' ≡ f) × (lent' ≡ lent))
