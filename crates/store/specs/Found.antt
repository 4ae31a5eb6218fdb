-- What an answer of look-up says, in the promise's words.
use Rattle.std.specs.Prelude.{ℕ, ◌≡◌, List, Result}
use Rattle.answers.specs.declared.LookUp.{LookUp}
use Rattle.answers.specs.declared.Refusal.{Refusal}
use Rattle.answers.specs.Number.{number_of, looked_number, look_up_place, look_up_long, look_up_slots, look_up_stamp}
use Rattle.model.specs.Edition.{Edition}
use Rattle.model.specs.Promise.{Found, ValuePromise}
use Rattle.descent.specs.Lookup.{shifted}

abbrev pub found_in : Result LookUp Refusal → Found
found_in r = record { number = number_of looked_number r; place = look_up_place r; long = look_up_long r; slots = look_up_slots r; stamp = look_up_stamp r }

-- the part is that of the frame at the promised place: `start` is where the frame begins in memory, and `here` where the part does
pub record ValueAt (E : Edition) (f k : List ℕ) (start here : ℕ × ℕ) (part : List ℕ) : Type 0 where
  pub at : ℕ
  pub stands : here ≡ shifted start at
  pub promise : ValuePromise E f k at part
