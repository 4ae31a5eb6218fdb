-- One law for each answer (WalkLaws). Assumes nothing.
use Rattle.editions.specs.Rules.{rules_of}
use Rattle.editions.proofs.RulesLaws.{number_names}
use Rattle.keys.proofs.KeyLaws.{key_some}
use Rattle.audit.proofs.WalkLaws.{leaf_whole, leaf_body, leaf_bad, leaf_on}
use Rattle.audit.proofs.whole.lone.Goals as goal

pub returns-in_err-r : goal.returns-in_err-r
returns-in_err-r c = rw c.from_residual.ensures (leaf_body c.body.ensures c.in_err-r.was)

pub returns-in_err-x : goal.returns-in_err-x
returns-in_err-x c =
    rw c.from_residual-in_err-x.ensures (leaf_bad (c.body.ensures.holds _ c.in_ok-r.was) (λ k h. key_some (rules_of c.args.edition).number k (rw (number_names c.args.edition) h)) c.lone_good.ensures c.in_err-x.was)

pub extent-requires-clause-whole : goal.extent-requires-clause-whole
extent-requires-clause-whole c =
    let w = leaf_whole (c.lone_good.ensures.holds _ c.in_ok-x.was) in (w.0, w.1)

pub extent-requires-clause-within : goal.extent-requires-clause-within
extent-requires-clause-within c =
    (leaf_whole (c.lone_good.ensures.holds _ c.in_ok-x.was)).2

pub returns : goal.returns
returns c =
    leaf_on (c.body.ensures.holds _ c.in_ok-r.was) (c.lone_good.ensures.holds _ c.in_ok-x.was) c.extent.ensures
