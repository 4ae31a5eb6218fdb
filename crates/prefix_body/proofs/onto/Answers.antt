-- The bytes of another Prefix join at the end. Assumes nothing.
use Rattle.prefix_body.proofs.PrefixLaws.{joins_gets, onto_done}
use Rattle.prefix_body.proofs.onto.Goals as goal

pub more-requires : goal.more-requires
more-requires c =
    joins_gets c.requires c.length-m.ensures.0

pub returns : goal.returns
returns c =
    onto_done c.requires c.length-m.ensures.0 c.child-child.ensures c.more.ensures c.set_child.ensures
