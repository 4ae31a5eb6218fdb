-- A Prefix is filled up from another one. Assumes nothing.
use Rattle.prefix_body.proofs.PrefixLaws.{draws_gets, draws_longer, draw_done}
use mathlib.Core.Path.{refl}
use Rattle.prefix_body.proofs.draw.Goals as goal

pub more-requires : goal.more-requires
more-requires c =
    draws_gets c.requires c.length-k.ensures.0 refl

pub drop_front-requires : goal.drop_front-requires
drop_front-requires c =
    draws_longer c.requires c.length-k.ensures.0 refl c.more.ensures

pub returns : goal.returns
returns c =
    draw_done c.requires c.length-k.ensures.0 refl c.more.ensures c.drop_front.ensures
