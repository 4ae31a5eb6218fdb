-- A byte joins at the end. Assumes nothing.
use Rattle.prefix_body.proofs.PrefixLaws.{back_done}
use Rattle.prefix_body.proofs.back.Goals as goal

pub returns : goal.returns
returns c =
    back_done c.args.b c.requires c.length-n.ensures.0 c.set_byte.ensures c.set_length.ensures c.set_child.ensures
