-- The number of what a change has done, and number and place of what stops a batch.
use Rattle.std.specs.Prelude.{ℕ, ◌≡◌, Result, Ok, Err}
use Rattle.answers.specs.declared.Refusal.{Refusal}
use Rattle.answers.specs.Number.{refusal_number, written_number, erased_number}
use Rattle.batch.specs.declared.change.Made.{Made}
use Rattle.batch.specs.declared.change.Made.TheVariants as made
use Rattle.batch.specs.declared.run.Stopped.{Stopped}

abbrev pub made_number : Made → ℕ
made_number (made.Written w) = written_number w
made_number (made.Erased e) = erased_number e

-- the batch itself is refused
abbrev pub Refuses : Refusal → Stopped → Type 0
Refuses r s = (s.refusal ≡ r) × (s.place ≡ 0)

abbrev pub batch_number : Result Unit Stopped → ℕ
batch_number (Ok x) = 0
batch_number (Err s) = refusal_number s.refusal

-- of the change that was refused, from 1, or 0
abbrev pub batch_place : Result Unit Stopped → ℕ
batch_place (Ok x) = 0
batch_place (Err s) = s.place
