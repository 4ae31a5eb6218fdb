-- The first bytes of another Prefix join at the end. Assumes nothing.
use Rattle.prefix_body.proofs.PrefixLaws.{more_done}
use Rattle.prefix_body.proofs.more.Goals as goal

pub returns : goal.returns
returns c =
    more_done c.requires c.length-n.ensures.0 c.slide.ensures c.set_length.ensures
