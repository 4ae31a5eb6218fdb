-- A byte joins a full Prefix in front, and the last one goes. Assumes nothing.
use mathlib.Core.Path.{sym, ◌∙◌}
use Rattle.layout.proofs.NumberLaws.{le1}
use Rattle.prefix_body.proofs.PrefixLaws.{turn_done}
use Rattle.prefix_body.proofs.turn.Goals as goal

pub returns : goal.returns
returns c =
    turn_done c.byte-last.ensures c.open.ensures.opened (sym (le1 _ _) ∙ c.open.ensures.number ∙ c.from.ensures) c.requires
