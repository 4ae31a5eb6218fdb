-- The owner's first demand of a listing: the first refusal that applies is given, in the one order of all refusals, and a refused listing changes no
-- byte of the lent buffer.
use Rattle.std.specs.Prelude.{ℕ, ◌+◌, ◌<◌, ◌≡◌, List, [], ◌∷◌, ◌⊎◌, length}
use Rattle.std.proofs.Math.Option.{Option, none, some}
use Rattle.model.specs.Edition.{Edition}
use Rattle.model.specs.Records.{records_of}
use Rattle.model.specs.State.{State}
use Rattle.model.specs.Frame.{Stands}
use Rattle.demands.specs.Words.{Refusal, Ground, FirstOf, wrong_length, not_good, key_length, key_zero}
use Rattle.listing.specs.Listing.{names, after_start, prefix_limit, ListPromise}

-- of a start key, if one is given
abbrev pub OfStart : (List ℕ → Ground) → Option (List ℕ) → Type 0
OfStart g none = ⊥
OfStart g (some s) = (g s).applies

-- "The start key is held to 3 and 4, the prefix to its length only (3)."
abbrev pub names_length : Edition → List ℕ → Option (List ℕ) → Ground
names_length E p s = record { number = 3; applies = (prefix_limit E < length p) ⊎ OfStart (key_length E) s }

abbrev pub start_zero : Edition → Option (List ℕ) → Ground
start_zero E s = record { number = 4; applies = OfStart (key_zero E) s }

-- "A buffer too small for the first key": of the entries that are to be listed
abbrev pub FirstTooLong : ℕ → List (List ℕ) → Type 0
FirstTooLong room [] = ⊥
FirstTooLong room (e ∷ es) = room < 2 + length e

abbrev pub buffer_small : Edition → List ℕ → List ℕ → Option (List ℕ) → Option ℕ → List ℕ → Ground
buffer_small E f p s d b = record { number = 10; applies = (st : State) × Stands E f st × FirstTooLong (length b) (after_start s (names d p (records_of st.tree))) }

pub record ListDemand1 (E : Edition) : Type 0 where
  pub list : (f p : List ℕ) (s : Option (List ℕ)) (d : Option ℕ) (b : List ℕ) (n count more : ℕ) (b' : List ℕ) → ListPromise E f p s d b n count more b'
      → FirstOf (wrong_length f ∷ not_good E f ∷ names_length E p s ∷ start_zero E s ∷ buffer_small E f p s d b ∷ []) (0 ∷ []) n × (Refusal n → (count ≡ 0) × (more ≡ 0) × (b' ≡ b))
