-- Each way out is one of packing's ends (PackLaws). Assumes nothing.
use native.Mathlib.Omega.{arith}
use Rattle.answers.proofs.NumberLaws.{done_on}
use Rattle.pack.proofs.PackLaws.{rule_either, pack_refused, pack_done, known}
use Rattle.pack.proofs.by_rule.Goals as goal

pub returns-in_err-check_by : goal.returns-in_err-check_by
returns-in_err-check_by c = pack_refused _ _ c.in_err-check_by.field-0.0 _ (done_on c.in_err-check_by.field-0.0 _ c.from_residual.ensures.1) c.in_err-check_by.ensures

pub write-requires : goal.write-requires
write-requires c =
    let a = c.args in (record { edition = _; holds = known c.in_ok-check_by.ensures (rule_either a.edition a.wiped) c.slot_capacity.ensures.0 c.records.ensures.0 c.root.ensures.0 }, omega arith)

pub returns : goal.returns
returns c =
    let a = c.args in let K = known c.in_ok-check_by.ensures (rule_either a.edition a.wiped) c.slot_capacity.ensures.0 c.records.ensures.0 c.root.ensures.0 in
    pack_done c.in_ok-check_by.ensures _ (omega arith) (c.write.ensures _ K)
