-- `drop_first` closes the bytes up, and sets the length. Assumes nothing.
use mathlib.Core.Path.{sym, ◌∙◌}
use Rattle.layout.proofs.NumberLaws.{le1}
use Rattle.prefix_body.proofs.CutLaws.{first_dropped}
use Rattle.prefix_body.proofs.drop_first.Goals as goal

pub returns : goal.returns
returns c =
    first_dropped c.args.o c.length-n.result c.requires c.length-n.ensures.0 (c.close.ensures.closed, sym (le1 _ _) ∙ c.close.ensures.zero) c.set_length.ensures
