-- `new_leaf` takes a body, then the extent, and writes the body. Assumes nothing.
use Rattle.leaf_new.proofs.LeafLaws.{makes_takes, makes_entry, makes_extends, makes_writes, leaf_law}
use Rattle.leaf_new.proofs.new_leaf.Goals as goal

pub take-s-requires : goal.take-s-requires
take-s-requires c = makes_takes c.requires

pub read-body-requires : goal.read-body-requires
read-body-requires c =
    makes_entry c.requires c.take-s.ensures

pub extend-extent-requires : goal.extend-extent-requires
extend-extent-requires c =
    makes_extends c.requires c.take-s.ensures

pub write-requires : goal.write-requires
write-requires c =
    (makes_writes c.requires c.take-s.ensures c.extend-extent.ensures c.read-body.ensures.1).0

pub returns : goal.returns
returns c =
    leaf_law c.requires c.take-s.ensures c.extend-extent.ensures c.read-body.ensures.1 c.write.ensures
