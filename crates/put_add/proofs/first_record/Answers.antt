-- `first_record` makes the Leaf, names it in the root slot field and frees the EmptyRoot. Assumes nothing.
use native.Mathlib.Omega.{arith}
use Rattle.put_add.proofs.FirstLaws.{vacant_makes, vacant_frees, vacant_counts, vacant_put}
use Rattle.put_add.proofs.first_record.Goals as goal

pub new_leaf-leaf-requires : goal.new_leaf-leaf-requires
new_leaf-leaf-requires c = vacant_makes c.requires.holds

pub release-requires : goal.release-requires
release-requires c =
    vacant_frees c.requires.holds c.new_leaf-leaf.ensures c.relink.ensures c.root-old.ensures.0

pub count_record-requires : goal.count_record-requires
count_record-requires c =
    vacant_counts c.requires.holds c.new_leaf-leaf.ensures c.relink.ensures c.root-old.ensures.0 c.release.ensures

pub returns : goal.returns
returns c = λ E A.
    vacant_put A c.new_leaf-leaf.ensures c.relink.ensures c.root-old.ensures.0 c.release.ensures c.count_record.ensures (λ a. omega (arith, c.slice_known-5-1.given a))
