-- Each test refuses what is against the limits, and what passes them all is within. Assumes nothing.
use native.Mathlib.Omega.{arith}
use Rattle.pieces.proofs.DecideLaws.{granted, denied}
use Rattle.store.proofs.format.limits_hold.Goals as goal

pub returns-then-length-ne0 : goal.returns-then-length-ne0
returns-then-length-ne0 c = denied (λ h. omega arith)

pub returns-then-length-lt-LEAST_LENGTH : goal.returns-then-length-lt-LEAST_LENGTH
returns-then-length-lt-LEAST_LENGTH c = denied (λ h. omega arith)

pub returns-then-length-gt-MOST_LENGTH : goal.returns-then-length-gt-MOST_LENGTH
returns-then-length-gt-MOST_LENGTH c = denied (λ h. omega arith)

pub returns-then-capacity-ne0 : goal.returns-then-capacity-ne0
returns-then-capacity-ne0 c = denied (λ h. omega arith)

pub returns-then-capacity-lt-LEAST_SLOTS : goal.returns-then-capacity-lt-LEAST_SLOTS
returns-then-capacity-lt-LEAST_SLOTS c = denied (λ h. omega arith)

pub returns-then-capacity-gt-MOST_SLOTS : goal.returns-then-capacity-gt-MOST_SLOTS
returns-then-capacity-gt-MOST_SLOTS c = denied (λ h. omega arith)

pub returns-then-data_start_of-length : goal.returns-then-data_start_of-length
returns-then-data_start_of-length c = denied (λ h. omega arith)

pub returns : goal.returns
returns c = granted (record { long = (omega arith, omega arith, omega arith); slots = (omega arith, omega arith, omega arith); room = omega arith })
