-- `erase`: refused for its key, or what the core has made. Assumes nothing.
use Rattle.answers.proofs.NumberLaws.{handed_on}
use Rattle.store.proofs.EraseCallLaws.{erase_made}
use Rattle.batch.proofs.change.erase.Goals as goal

pub returns-in_err-erased : goal.returns-in_err-erased
returns-in_err-erased c =
    let S = c.requires in rw (handed_on c.in_err-erased.field-0.0 _ _ c.from_residual-in_err-erased.ensures.1) (erase_made _ _ _ (S.st, S.stands) c.in_ok-fault.ensures c.in_err-erased.ensures)

pub returns : goal.returns
returns c = let S = c.requires in erase_made _ _ _ (S.st, S.stands) c.in_ok-fault.ensures c.in_ok-erased.ensures
