-- `split_off` looks whether other bytes stand in the Prefix, and whether another Prefix stands below. Assumes nothing.
use Rattle.chain.proofs.ReadLaws.{not_there}
use Rattle.put_cut.proofs.SplitLaws.{split_room, split_entry, split_none, split_takes, split_read, split_tails, split_done}
use Rattle.put_cut.proofs.after.split_off.Goals as goal

pub child-child-requires : goal.child-child-requires
child-child-requires c = split_room c.requires

pub length-requires : goal.length-requires
length-requires c = split_room c.requires

pub returns-then-length-q : goal.returns-then-length-q
returns-then-length-q c =
    split_none c.length.ensures.0 c.if-length-q.true c.child-child.ensures.0

pub prefix_at-requires : goal.prefix_at-requires
prefix_at-requires c =
    split_entry c.requires c.child-child.ensures.0

pub move_down-requires : goal.move_down-requires
move_down-requires c = c.requires

pub take-s-requires : goal.take-s-requires
take-s-requires c =
    split_takes c.length.ensures.0 c.if-length-q.false c.child-child.ensures.0 (not_there _ _ _ c.prefix_at.ensures c.is_some.ensures c.if-is_some.false) c.requires

pub read-body-requires : goal.read-body-requires
read-body-requires c =
    split_read c.length.ensures.0 c.if-length-q.false c.child-child.ensures.0 (not_there _ _ _ c.prefix_at.ensures c.is_some.ensures c.if-is_some.false) c.requires c.take-s.ensures

pub tail-requires : goal.tail-requires
tail-requires c =
    split_tails c.length.ensures.0 c.if-length-q.false c.child-child.ensures.0 (not_there _ _ _ c.prefix_at.ensures c.is_some.ensures c.if-is_some.false) c.requires c.take-s.ensures c.read-body.ensures.1

pub returns : goal.returns
returns c =
    split_done c.length.ensures.0 c.if-length-q.false c.child-child.ensures.0 (not_there _ _ _ c.prefix_at.ensures c.is_some.ensures c.if-is_some.false) c.requires c.take-s.ensures c.read-body.ensures.1 c.tail.ensures
