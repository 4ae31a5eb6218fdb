-- `write`: refused for its key or value, or what the core has made. Assumes nothing.
use native.Mathlib.Omega.{arith}
use Rattle.answers.proofs.NumberLaws.{handed_on}
use Rattle.store.proofs.PutCallLaws.{barred, asked, made}
use Rattle.batch.proofs.change.write.Goals as goal

pub returns-in_err-legal : goal.returns-in_err-legal
returns-in_err-legal c =
    let S = c.requires.0 in rw (handed_on c.in_err-legal.field-0.0 _ _ c.from_residual.ensures.1) (barred _ _ _ _ (S.st, S.stands) _ c.in_err-legal.ensures _)

pub write-requires : goal.write-requires
write-requires c =
    let S = c.requires.0 in asked _ _ _ _ S.lawful (S.st, S.stands) c.in_ok-legal.ensures (λ a. omega (arith, c.type_inv.key a)) (λ a. omega (arith, c.type_inv.value a)) c.requires.1

pub returns-in_err-written : goal.returns-in_err-written
returns-in_err-written c =
    let S = c.requires.0 in
    let A = asked _ _ _ _ S.lawful (S.st, S.stands) c.in_ok-legal.ensures (λ a. omega (arith, c.type_inv.key a)) (λ a. omega (arith, c.type_inv.value a)) c.requires.1 in
    rw (handed_on c.in_err-written.field-0.0 _ _ c.from_residual-in_err-written.ensures.1) (made _ _ _ _ _ A c.in_err-written.ensures)

pub returns : goal.returns
returns c =
    let S = c.requires.0 in
    let A = asked _ _ _ _ S.lawful (S.st, S.stands) c.in_ok-legal.ensures (λ a. omega (arith, c.type_inv.key a)) (λ a. omega (arith, c.type_inv.value a)) c.requires.1 in
    made _ _ _ _ _ A c.in_ok-written.ensures
