-- `fork` makes the Leaf and writes the Node4. Assumes nothing.
use Rattle.put_split.proofs.PartLaws.{fork_makes, fork_entry, fork_room, leaf_slot, forked}
use Rattle.put_split.proofs.parts.fork.Goals as goal

pub new_leaf-leaf-requires : goal.new_leaf-leaf-requires
new_leaf-leaf-requires c = fork_makes c.requires.0

pub read-body-requires : goal.read-body-requires
read-body-requires c = fork_entry c.requires.0 c.new_leaf-leaf.ensures

pub write_fork-requires : goal.write_fork-requires
write_fork-requires c =
    let M = c.new_leaf-leaf.ensures in let s = leaf_slot c.requires.0 M in
    (fork_room c.requires.0 M c.read-body.ensures.1, c.requires.1, s.0, s.1, c.requires.2, c.requires.3)

pub returns : goal.returns
returns c =
    forked c.requires.0 c.new_leaf-leaf.ensures c.read-body.ensures.1 c.write_fork.ensures
