-- `add_child` makes a Leaf, adds it to the node and counts it. Assumes nothing.
use native.Mathlib.Omega.{arith}
use Rattle.put_add.proofs.AddLaws.{open_makes, open_adds, open_counts, open_put}
use Rattle.put_add.proofs.add_child.Goals as goal

pub new_leaf-leaf-requires : goal.new_leaf-leaf-requires
new_leaf-leaf-requires c = open_makes c.requires.holds

pub add-requires : goal.add-requires
add-requires c =
    open_adds c.requires.holds c.new_leaf-leaf.ensures

pub count_record-requires : goal.count_record-requires
count_record-requires c =
    open_counts c.requires.holds c.new_leaf-leaf.ensures c.at-b.ensures c.add.ensures

pub returns : goal.returns
returns c = λ E A.
    open_put A c.new_leaf-leaf.ensures c.at-b.ensures c.add.ensures c.count_record.ensures (λ a. omega (arith, c.slice_known-4-1.given a))
