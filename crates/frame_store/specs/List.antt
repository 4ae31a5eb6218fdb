-- What the exported listing promises: the listing's own promise, and how many and whether more remain where there is room for just two.
use Rattle.std.specs.Prelude.{ℕ, ◌≡◌, List, [], ◌∷◌, not, eqb}
use Rattle.model.specs.Edition.{Edition}
use Rattle.listing.specs.Listing.{start_of, delimiter_of, ListPromise}
use Rattle.demands.specs.Words.{Refusal, NotRefused}
use Rattle.frame_store.specs.Tells.{Tells}

pub record Listed (E : Edition) (f p s : List ℕ) (has delimiter : ℕ) (b o : List ℕ) (n : ℕ) (b' o' : List ℕ) : Type 0 where
  pub count : ℕ
  pub more : ℕ
  pub promise : ListPromise E f p (start_of (not (eqb has 0)) s) (delimiter_of delimiter) b n count more b'
  pub told : NotRefused n → Tells o (count ∷ more ∷ []) o'
  -- "a refused call changes no byte of any lent buffer"
  pub refused : Refusal n → o' ≡ o
