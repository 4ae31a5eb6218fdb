-- A byte joins in front. Assumes nothing.
use mathlib.Core.Path.{sym, ◌∙◌}
use Rattle.layout.proofs.NumberLaws.{le1}
use Rattle.prefix_body.proofs.PrefixLaws.{front_done}
use Rattle.prefix_body.proofs.front.Goals as goal

pub returns : goal.returns
returns c =
    front_done c.requires c.length-n.ensures.0 c.open.ensures.opened (sym (le1 _ _) ∙ c.open.ensures.number ∙ c.from.ensures) c.set_length.ensures
