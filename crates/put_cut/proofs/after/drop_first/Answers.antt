-- `drop_first` looks whether other bytes stand in the Prefix, and whether another Prefix stands below. Assumes nothing.
use Rattle.chain.proofs.ReadLaws.{not_there}
use Rattle.put_cut.proofs.DropLaws.{drop_room, drop_entry, drop_longer, drop_all_of, drop_one_of}
use Rattle.put_cut.proofs.after.drop_first.Goals as goal

pub child-child-requires : goal.child-child-requires
child-child-requires c = drop_room c.requires

pub length-requires : goal.length-requires
length-requires c = drop_room c.requires

pub returns-then-length-eq1 : goal.returns-then-length-eq1
returns-then-length-eq1 c =
    drop_all_of c.length.ensures.0 c.if-length-eq1.true c.child-child.ensures.0

pub prefix_at-requires : goal.prefix_at-requires
prefix_at-requires c =
    drop_entry c.requires c.child-child.ensures.0

pub move_up-requires : goal.move_up-requires
move_up-requires c = c.requires

pub drop_first-requires : goal.drop_first-requires
drop_first-requires c =
    drop_longer c.requires c.length.ensures.0 c.if-length-eq1.false

pub returns : goal.returns
returns c =
    drop_one_of c.length.ensures.0 c.if-length-eq1.false c.child-child.ensures.0 (not_there _ _ _ c.prefix_at.ensures c.is_some.ensures c.if-is_some.false) c.drop_first.ensures
