-- What the exported look-up promises: the number, and place, length and the slots visited where there is room for just three; in edition 2 the stamp too,
-- where there is room for just four.
use Rattle.std.specs.Prelude.{ℕ, ◌≡◌, List, [], ◌∷◌, eqb}
use Rattle.model.specs.Strings.{pick}
use Rattle.model.specs.Edition.{Edition}
use Rattle.model.specs.Promise.{Found, LookUpPromise}
use Rattle.demands.specs.Words.{Refusal, NotRefused}
use Rattle.frame_store.specs.Tells.{Tells}

abbrev pub told_of : Edition → Found → List ℕ
told_of E g = pick (eqb E.stamps 1) (g.place ∷ g.long ∷ g.slots ∷ []) (g.place ∷ g.long ∷ g.slots ∷ g.stamp ∷ [])

pub record LookedUp (E : Edition) (f k o : List ℕ) (n : ℕ) (o' : List ℕ) : Type 0 where
  pub found : Found
  pub promise : LookUpPromise E f k found
  pub number : n ≡ found.number
  -- 0 or 8
  pub told : NotRefused n → Tells o (told_of E found) o'
  -- "a refused call changes no byte of any lent buffer"
  pub refused : Refusal n → o' ≡ o
