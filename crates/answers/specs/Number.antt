-- "Numbers a call can give": the number of each answer, and what look-up, info and a listing tell besides.
use Rattle.std.specs.Prelude.{ℕ, Result, Ok, Err, List, [], ◌∷◌, Bool, true, false}
use Rattle.answers.specs.declared.Refusal.{Refusal}
use Rattle.answers.specs.declared.Refusal.TheVariants as refusal
use Rattle.answers.specs.declared.Written.{Written}
use Rattle.answers.specs.declared.Written.TheVariants as written
use Rattle.answers.specs.declared.Erased.{Erased}
use Rattle.answers.specs.declared.Erased.TheVariants as erased
use Rattle.answers.specs.declared.LookUp.{LookUp}
use Rattle.answers.specs.declared.LookUp.TheVariants as look
use Rattle.answers.specs.declared.Page.{Page}
use Rattle.answers.specs.declared.Counts.{Counts}

abbrev pub refusal_number : Refusal → ℕ
refusal_number refusal.Length = 1
refusal_number refusal.Frame = 2
refusal_number refusal.KeyLength = 3
refusal_number refusal.KeyZero = 4
refusal_number refusal.ValueLength = 5
refusal_number refusal.Output = 7
refusal_number refusal.Room = 6
refusal_number refusal.Buffer = 10
refusal_number refusal.Batch = 12

-- of a call: the number of what it did, or the refusal's
abbrev pub number_of : {A : Type 0} → (A → ℕ) → Result A Refusal → ℕ
number_of done (Ok x) = done x
number_of done (Err r) = refusal_number r

-- of what is done, or refused: 0, or the refusal's number
abbrev pub done_number : {A : Type 0} → Result A Refusal → ℕ
done_number (Ok x) = 0
done_number (Err r) = refusal_number r

abbrev pub written_number : Written → ℕ
written_number written.New = 0
written_number written.Replaced = 9
written_number written.Present = 11
written_number written.Absent = 8

abbrev pub erased_number : Erased → ℕ
erased_number erased.Done = 0
erased_number erased.Absent = 8

abbrev pub looked_number : LookUp → ℕ
looked_number (look.Found x) = 0
looked_number (look.Absent v) = 8

-- "both 0 with any number but 0"
abbrev pub look_up_place : Result LookUp Refusal → ℕ
look_up_place (Ok (look.Found x)) = x.place
look_up_place (Ok (look.Absent v)) = 0
look_up_place (Err r) = 0

abbrev pub look_up_long : Result LookUp Refusal → ℕ
look_up_long (Ok (look.Found x)) = x.length
look_up_long (Ok (look.Absent v)) = 0
look_up_long (Err r) = 0

-- "Refused look-ups report 0."
abbrev pub look_up_slots : Result LookUp Refusal → ℕ
look_up_slots (Ok (look.Found x)) = x.slots
look_up_slots (Ok (look.Absent v)) = v
look_up_slots (Err r) = 0

-- (02) "look-up gives it back": 0 with any number but 0
abbrev pub look_up_stamp : Result LookUp Refusal → ℕ
look_up_stamp (Ok (look.Found x)) = x.stamp
look_up_stamp (Ok (look.Absent v)) = 0
look_up_stamp (Err r) = 0

-- F, N, U, B, R, X, and how many bodies the lists 1 to 8 have
abbrev pub counted : Counts → List ℕ
counted c =
    c.frame_length ∷ c.slot_capacity ∷ c.slots_given ∷ c.next_byte ∷ c.records ∷ c.dead_bytes
    ∷ c.leaf ∷ c.prefix ∷ c.crossing ∷ c.node4 ∷ c.node16 ∷ c.node48 ∷ c.node256 ∷ c.empty_root ∷ []

-- a refusal tells none
abbrev pub info_told : Result Counts Refusal → List ℕ
info_told (Ok c) = counted c
info_told (Err r) = []

abbrev pub one_if : Bool → ℕ
one_if true = 1
one_if false = 0

-- "how many and whether more remain": 0 with a refusal
abbrev pub list_count : Result Page Refusal → ℕ
list_count (Ok p) = p.count
list_count (Err r) = 0

abbrev pub list_more : Result Page Refusal → ℕ
list_more (Ok p) = one_if p.more
list_more (Err r) = 0
