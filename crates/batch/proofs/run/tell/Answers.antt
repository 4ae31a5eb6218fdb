-- `tell` writes one answer, or none. Assumes nothing.
use mathlib.Core.Path.{refl}
use native.Mathlib.Omega.{arith}
use Rattle.batch.proofs.run.tell.Goals as goal

pub returns-then-i-answers : goal.returns-then-i-answers
returns-then-i-answers c = record { within = λ h. refl; past = λ h. absurd (omega arith) }

pub returns-else-i-answers : goal.returns-else-i-answers
returns-else-i-answers c = record { within = λ h. absurd (omega arith); past = λ h. refl }
