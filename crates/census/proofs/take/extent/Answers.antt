-- One law for each answer (TakeLaws). Assumes nothing.
use mathlib.Core.Path.{refl}
use native.Mathlib.Omega.{arith}
use borrow.Author.Tests.{not-true, not-false}
use Rattle.census.proofs.TakeLaws.{extent_taken, extent_good}
use Rattle.census.proofs.take.extent.Goals as goal

pub returns-then-not-claim : goal.returns-then-not-claim
returns-then-not-claim c =
    let w = c.requires.whole in extent_taken w.0 w.1 (c.claim.ensures.1 (not-true _ c.if-not-claim.true-raw))

pub returns : goal.returns
returns c =
    let T = c.requires.tally in
    let w = c.requires.whole in
    extent_good w.0 w.1 (record { slots = omega arith; bytes = omega arith; leaves = omega arith }) (c.claim.ensures.0 (not-false _ c.if-not-claim.false-raw)) refl refl refl
