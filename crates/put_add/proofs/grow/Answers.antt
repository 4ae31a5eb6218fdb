-- `grow` takes a body of the next kind, makes the Leaf, fills the body, writes the link and frees the old body. Assumes nothing.
use native.Mathlib.Omega.{arith}
use Rattle.put_add.proofs.GrowLaws.{full_up, kind_is, full_takes, full_makes, full_fills, full_link, full_frees, full_counts, full_put}
use Rattle.put_add.proofs.grow.Goals as goal

pub unwrap-up-requires : goal.unwrap-up-requires
unwrap-up-requires c = full_up c.requires.holds _ c.up.ensures

pub take-n-requires : goal.take-n-requires
take-n-requires c =
    full_takes c.requires.holds (kind_is _ _ c.unwrap-up.ensures c.up.ensures)

pub new_leaf-leaf-requires : goal.new_leaf-leaf-requires
new_leaf-leaf-requires c =
    full_makes c.requires.holds (kind_is _ _ c.unwrap-up.ensures c.up.ensures) c.take-n.ensures

pub refill-requires : goal.refill-requires
refill-requires c =
    full_fills c.requires.holds (kind_is _ _ c.unwrap-up.ensures c.up.ensures) c.take-n.ensures c.new_leaf-leaf.ensures

pub relink-requires : goal.relink-requires
relink-requires c =
    full_link c.requires.holds (kind_is _ _ c.unwrap-up.ensures c.up.ensures) c.take-n.ensures c.new_leaf-leaf.ensures c.at-b.ensures c.refill.ensures

pub release-requires : goal.release-requires
release-requires c =
    full_frees c.requires.holds (kind_is _ _ c.unwrap-up.ensures c.up.ensures) c.take-n.ensures c.new_leaf-leaf.ensures c.at-b.ensures c.refill.ensures c.relink.ensures

pub count_record-requires : goal.count_record-requires
count_record-requires c =
    full_counts c.requires.holds (kind_is _ _ c.unwrap-up.ensures c.up.ensures) c.take-n.ensures c.new_leaf-leaf.ensures c.at-b.ensures c.refill.ensures c.relink.ensures c.release.ensures

pub returns : goal.returns
returns c = λ E A.
    full_put A (kind_is _ _ c.unwrap-up.ensures c.up.ensures) c.take-n.ensures c.new_leaf-leaf.ensures c.at-b.ensures c.refill.ensures c.relink.ensures c.release.ensures c.count_record.ensures (λ a. omega (arith, c.slice_known-7-1.given a))
