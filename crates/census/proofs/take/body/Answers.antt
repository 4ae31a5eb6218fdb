-- One law for each answer (TakeLaws). Assumes nothing.
use mathlib.Core.Path.{refl}
use native.Mathlib.Omega.{arith}
use borrow.Author.Tests.{not-true, not-false}
use Rattle.layout.proofs.KindLaws.{number_least, number_most}
use Rattle.census.proofs.TakeLaws.{body_many, body_low, body_high, body_taken, body_good}
use Rattle.census.proofs.take.body.Goals as goal

pub returns-then-bounds-t : goal.returns-then-bounds-t
returns-then-bounds-t c = body_many c.if-bounds-t.true

pub returns-then-o-bounds : goal.returns-then-o-bounds
returns-then-o-bounds c =
    let k = c.args.kind in body_low (number_least k) (number_most k) c.if-o-bounds.true

pub returns-then-bounds-o : goal.returns-then-bounds-o
returns-then-bounds-o c =
    let k = c.args.kind in body_high (number_least k) (number_most k) c.body_size-size.ensures.value c.if-bounds-o.true

pub returns-then-not-claim : goal.returns-then-not-claim
returns-then-not-claim c =
    body_taken c.body_size-size.ensures.value c.requires.place.0 (c.claim.ensures.1 (not-true _ c.if-not-claim.true-raw))

pub returns : goal.returns
returns c =
    let T = c.requires.tally in
    let h = c.body_size-size.ensures.most in
    let few = c.if-bounds-t.false in
    body_good c.body_size-size.ensures.value (record { slots = omega arith; bytes = omega arith; leaves = omega arith }) (omega arith) (omega arith) c.requires.place.0 (c.claim.ensures.0 (not-false _ c.if-not-claim.false-raw)) refl refl refl
