-- `split_leaf` takes a Node4 and a row of Prefixes, makes the Leaf, writes the row, then the link. Assumes nothing.
use mathlib.Core.Path.{refl}
use native.Mathlib.Omega.{arith}
use Rattle.put_split.proofs.OtherLaws.{leaf_here, to_short, to_low, shared_short, takes_node, takes_row, forks, writes, relinks, counts, ends}
use Rattle.put_split.proofs.split_leaf.Goals as goal

pub overflow_add-to : goal.overflow_add-to
overflow_add-to g c = omega (arith, to_low c.requires)

pub old_byte-c-requires : goal.old_byte-c-requires
old_byte-c-requires g c = leaf_here c.requires

pub take-node-requires : goal.take-node-requires
take-node-requires g c =
    takes_node c.requires c.at-b.ensures c.old_byte-c.ensures

pub bodies_of-need-requires : goal.bodies_of-need-requires
bodies_of-need-requires g c =
    shared_short c.requires c.at-b.ensures c.old_byte-c.ensures

pub take_row-requires : goal.take_row-requires
take_row-requires g c =
    takes_row c.requires c.at-b.ensures c.old_byte-c.ensures c.take-node.ensures c.bodies_of-need.ensures refl

pub fork-requires : goal.fork-requires
fork-requires g c =
    forks c.requires c.at-b.ensures c.old_byte-c.ensures c.take-node.ensures c.bodies_of-need.ensures c.take_row.ensures

pub slice_bounds-write_row-end-2 : goal.slice_bounds-write_row-end-2
slice_bounds-write_row-end-2 g c =
    omega (arith, to_short c.requires)

pub write_row-top-requires : goal.write_row-top-requires
write_row-top-requires g c =
    writes c.requires c.at-b.ensures c.old_byte-c.ensures c.take-node.ensures c.bodies_of-need.ensures c.take_row.ensures c.fork.ensures refl (omega arith)

pub relink-requires : goal.relink-requires
relink-requires g c =
    relinks c.requires c.at-b.ensures c.old_byte-c.ensures c.take-node.ensures c.bodies_of-need.ensures c.take_row.ensures c.fork.ensures refl c.write_row-top.ensures

pub count_record-requires : goal.count_record-requires
count_record-requires g c =
    counts c.requires c.at-b.ensures c.old_byte-c.ensures c.take-node.ensures c.bodies_of-need.ensures c.take_row.ensures c.fork.ensures refl c.write_row-top.ensures c.relink.ensures

pub returns : goal.returns
returns g c =
    ends c.requires c.at-b.ensures c.old_byte-c.ensures c.take-node.ensures c.bodies_of-need.ensures c.take_row.ensures c.fork.ensures refl c.write_row-top.ensures c.relink.ensures c.count_record.ensures (λ a. omega (arith, c.slice_known-7-1.given a))
