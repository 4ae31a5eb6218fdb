-- What info promises: how full a good frame is, by the numbers of the state that it stands for.
use Rattle.std.specs.Prelude.{ℕ, ◌≡◌, List, [], ◌∷◌, get_or}
use Rattle.model.specs.Edition.{Edition}
use Rattle.model.specs.State.{State}
use Rattle.model.specs.Frame.{Stands}
use Rattle.model.specs.Promise.{CheckPromise}

-- how many bodies the list of a kind has
abbrev pub listed : List ℕ → ℕ → ℕ
listed free kind = get_or free kind 0

-- the lists 1 to 8
abbrev pub lists : List ℕ → List ℕ
lists free = listed free 1 ∷ listed free 2 ∷ listed free 3 ∷ listed free 4 ∷ listed free 5 ∷ listed free 6 ∷ listed free 7 ∷ listed free 8 ∷ []

abbrev pub fullness : State → List ℕ
fullness s = s.F ∷ s.N ∷ s.U ∷ s.B ∷ s.R ∷ s.X ∷ lists s.free

-- n is the check's number; a good frame's numbers are told, and of any other bytes nothing
pub record InfoPromise (E : Edition) (f : List ℕ) (n : ℕ) (told : List ℕ) : Type 0 where
  pub check : CheckPromise E f n
  pub full : (s : State) → Stands E f s → told ≡ fullness s
  pub nothing : (n ≡ 0 → ⊥) → told ≡ []
