-- Each way out is one of the call's ends (ListLaws). Assumes nothing.
use mathlib.Core.Path.{sym}
use native.Mathlib.Omega.{arith}
use Rattle.names.proofs.EditionLaws.{naming}
use Rattle.names.proofs.ListLaws.{list_sub, list_unchecked, list_start, list_empty, list_page}
use Rattle.names.proofs.list_by.Goals as goal

pub returns-in_err-check : goal.returns-in_err-check
returns-in_err-check c = list_unchecked _ _ _ _ _ _ c.from_residual.ensures.1 c.in_err-check.ensures

pub returns-in_err-start_fault : goal.returns-in_err-start_fault
returns-in_err-start_fault c = list_start (naming _) c.in_ok-check.ensures c.args.asked.prefix.now _ _ _ (omega (arith, c.longest_key.ensures.value)) _ _ c.from_residual-in_err-start_fault.ensures.1 c.in_err-start_fault.ensures

pub returns-then-records-eq0 : goal.returns-then-records-eq0
returns-then-records-eq0 c = list_empty (naming _) c.in_ok-check.ensures c.args.asked.prefix.now _ _ _ (omega (arith, c.longest_key.ensures.value)) c.in_ok-start_fault.ensures c.records.ensures.0 c.if-records-eq0.true

pub fill-requires : goal.fill-requires
fill-requires c =
    (list_sub (naming _) c.in_ok-check.ensures c.records.ensures.0 (λ x. omega arith) c.root.ensures.0, sym c.in_ok-start_fault.ensures, omega (arith, c.longest_key.ensures), omega arith, omega arith)

pub returns : goal.returns
returns c =
    list_page (naming _) c.in_ok-check.ensures c.args.asked.prefix.now _ _ _ (omega (arith, c.longest_key.ensures.value)) c.in_ok-start_fault.ensures c.records.ensures.0 (λ x. omega arith) c.root.ensures.0
    c.fill.result c.fill.ensures
