-- One law for each answer (FreedLaws). Assumes nothing.
use mathlib.Core.Path.{ap}
use Rattle.layout.specs.Kind.{number_of}
use Rattle.census.proofs.FreedLaws.{third_kind, list_some, list_third, list_none}
use Rattle.census.proofs.freed.list.Goals as goal

pub returns-then-head-ne0 : goal.returns-then-head-ne0
returns-then-head-ne0 c = list_third (ap number_of c.in-Crossing.is) c.list_head-head.ensures.0 c.if-head-ne0.true

pub returns-else-head-ne0 : goal.returns-else-head-ne0
returns-else-head-ne0 c = list_none c.list_head-head.ensures.0 c.if-head-ne0.false c.requires.tally

pub returns-in_default : goal.returns-in_default
returns-in_default c =
    list_some (λ q. c.in_default.not-Crossing (third_kind c.args.kind q)) c.list_head-head.ensures.0 c.chain.ensures
