-- `drop_leaf` reads the lengths of the Leaf before its body is freed. Assumes nothing.
use Rattle.erase_remove.proofs.LeafLaws.{drops_room, drops_frees, drops_retires, drops_records, drop_law}
use native.Mathlib.Omega.{arith}
use Rattle.erase_remove.proofs.leaf.drop_leaf.Goals as goal

pub key_length-k-requires : goal.key_length-k-requires
key_length-k-requires c = drops_room c.requires

pub value_length-v-requires : goal.value_length-v-requires
value_length-v-requires c = drops_room c.requires

pub extent-extent-requires : goal.extent-extent-requires
extent-extent-requires c = drops_room c.requires

pub release-requires : goal.release-requires
release-requires c = drops_frees c.requires

pub retire-requires : goal.retire-requires
retire-requires c =
    drops_retires c.requires c.release.ensures c.key_length-k.ensures.0 c.value_length-v.ensures.0 c.extent-extent.ensures.0 c.rounded.ensures

pub overflow_sub-r : goal.overflow_sub-r
overflow_sub-r c =
    let some = drops_records c.requires c.release.ensures c.key_length-k.ensures.0 c.value_length-v.ensures.0 c.extent-extent.ensures.0 c.rounded.ensures c.retire.ensures in
    omega (arith, c.records-r.ensures.0, some)

pub returns : goal.returns
returns c =
    drop_law c.release.ensures c.key_length-k.ensures.0 c.value_length-v.ensures.0 c.extent-extent.ensures.0 c.rounded.ensures c.retire.ensures c.records-r.ensures.0 c.set_records.ensures
