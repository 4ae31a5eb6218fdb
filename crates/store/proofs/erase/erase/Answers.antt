-- Each way out is one of erase's ends. Assumes nothing.
use native.Mathlib.Omega.{arith}
use Rattle.answers.proofs.NumberLaws.{handed_on}
use Rattle.editions.proofs.RulesLaws.{lawful}
use Rattle.store.proofs.LookLaws.{good}
use Rattle.store.proofs.EraseCallLaws.{erase_frame, erase_key, erase_asked, erase_made}
use Rattle.store.proofs.erase.erase.Goals as goal

pub returns-in_err-check : goal.returns-in_err-check
returns-in_err-check g c =
    rw (handed_on c.in_err-check.field-0.0 _ _ c.from_residual.ensures.1, ← c.edition-edition.ensures) (erase_frame _ _ _ _ c.in_err-check.ensures)

pub returns-in_err-fault : goal.returns-in_err-fault
returns-in_err-fault g c =
    rw (handed_on c.in_err-fault.field-0.0 _ _ c.from_residual-in_err-fault.ensures.1, ← c.edition-edition.ensures)
    (erase_key _ _ _ (good _ _ c.args.key.now c.in_ok-check.ensures) _ c.in_err-fault.ensures)

pub erase-requires : goal.erase-requires
erase-requires g c = erase_asked _ _ _ (lawful _) (good _ _ c.args.key.now c.in_ok-check.ensures) c.in_ok-fault.ensures (λ a. omega (arith, c.type_inv.key a))

pub returns : goal.returns
returns g c = rw (← c.edition-edition.ensures) (erase_made _ _ _ (good _ _ c.args.key.now c.in_ok-check.ensures) c.in_ok-fault.ensures c.erase.ensures)
