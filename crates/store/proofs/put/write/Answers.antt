-- A write is refused, or made on a good frame. Assumes nothing.
use native.Mathlib.Omega.{arith}
use Rattle.answers.proofs.NumberLaws.{handed_on}
use Rattle.editions.proofs.RulesLaws.{lawful}
use Rattle.store.proofs.LookLaws.{good}
use Rattle.store.proofs.PutCallLaws.{barred_frame, barred, asked, made, made_for}
use Rattle.store.proofs.put.write.Goals as goal

pub returns-in_err-check : goal.returns-in_err-check
returns-in_err-check c = rw (handed_on c.in_err-check.field-0.0 _ _ c.from_residual.ensures.1) (barred_frame _ _ _ _ _ c.in_err-check.ensures _)

pub returns-in_err-legal : goal.returns-in_err-legal
returns-in_err-legal c =
    rw (handed_on c.in_err-legal.field-0.0 _ _ c.from_residual-in_err-legal.ensures.1) (barred _ _ _ _ (good _ _ c.args.key.now c.in_ok-check.ensures) _ c.in_err-legal.ensures _)

pub write-requires : goal.write-requires
write-requires c =
    asked _ _ _ _ (lawful _) (good _ _ c.args.key.now c.in_ok-check.ensures) c.in_ok-legal.ensures (λ a. omega (arith, c.type_inv.key a)) (λ a. omega (arith, c.type_inv.value a)) c.stamp_for-stamp.ensures.1

pub returns : goal.returns
returns c =
    let A = asked _ _ _ _ (lawful c.args.edition) (good _ _ c.args.key.now c.in_ok-check.ensures) c.in_ok-legal.ensures
    (λ a. omega (arith, c.type_inv.key a)) (λ a. omega (arith, c.type_inv.value a)) c.stamp_for-stamp.ensures.1 in
    made_for _ _ _ _ _ _ c.stamp_for-stamp.ensures.0 (made _ _ _ _ _ A c.write.ensures)
