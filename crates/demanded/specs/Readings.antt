-- Demand 2 of calls that were made, read back: which calls, by their own promises, and that the last one gives the value that was put.
use Rattle.std.specs.Prelude.{ℕ, ◌≡◌, List, take, drop}
use Rattle.model.specs.Edition.{Edition, Value, text_of}
use Rattle.model.specs.Promise.{FormatPromise, Found, LookUpPromise, PutPromise, PutOrReplacePromise, PackPromise}
use Rattle.answers.specs.Number.{number_of, done_number, written_number}
use Rattle.store.specs.Found.{found_in}
use Rattle.demands.specs.Words.{NotRefused}
use Rattle.demanded.specs.declared.readings.InNew.{InNew}
use Rattle.demanded.specs.declared.readings.InImage.{InImage}

-- the record is there, and its value is v, with its stamp
abbrev pub GivesBack : List ℕ → Value → Found → Type 0
GivesBack f v g = (g.number ≡ 0) × (take g.long (drop g.place f) ≡ text_of v) × (g.stamp ≡ v.stamp)

-- in a new frame: the key is new too
pub record ReadInNew (E : Edition) (f : List ℕ) (len cap : ℕ) (k : List ℕ) (v : Value) (r : InNew) (f' : List ℕ) : Type 0 where
  pub empty : List ℕ
  pub formatted : FormatPromise E f len cap (done_number r.formatted) empty
  pub put : PutPromise E empty k v (number_of written_number r.put) f'
  pub looked : LookUpPromise E f' k (found_in r.found)
  pub back : NotRefused (done_number r.formatted) → NotRefused (number_of written_number r.put) → (number_of written_number r.put ≡ 0) × GivesBack f' v (found_in r.found)

-- in the packed image, which is read as a frame; whatever the key had before
pub record ReadInImage (E : Edition) (f o k : List ℕ) (v : Value) (r : InImage) (f' o' : List ℕ) : Type 0 where
  pub put : PutOrReplacePromise E f k v (number_of written_number r.put) f'
  pub packed : PackPromise E f' o (done_number r.packed) o'
  pub looked : LookUpPromise E o' k (found_in r.found)
  pub back : NotRefused (number_of written_number r.put) → NotRefused (done_number r.packed) → GivesBack o' v (found_in r.found)
