-- `cut_first` takes a Node4, drops the first byte, makes the Leaf, and writes the Node4 and the link; what is spare is freed. Assumes nothing.
use mathlib.Core.Path.{refl}
use native.Mathlib.Omega.{arith}
use Rattle.put_cut.proofs.FirstLaws.{first_room, first_forked, first_takes, first_drops, first_forks, first_relinks, first_frees, first_counts, first_put}
use Rattle.put_cut.proofs.cut_first.Goals as goal

pub byte-c-requires : goal.byte-c-requires
byte-c-requires c = first_room c.requires.holds

pub take-node-requires : goal.take-node-requires
take-node-requires c = first_takes c.requires.holds

pub drop_first-rest-requires : goal.drop_first-rest-requires
drop_first-rest-requires c =
    first_drops c.requires.holds c.take-node.ensures

pub fork-requires : goal.fork-requires
fork-requires c =
    first_forks c.requires.holds c.take-node.ensures c.drop_first-rest.ensures c.at-b.ensures c.byte-c.ensures

pub relink-requires : goal.relink-requires
relink-requires c =
    let F = first_forked c.requires.holds c.at-b.ensures c.byte-c.ensures c.fork.ensures in
    first_relinks c.requires.holds c.take-node.ensures c.drop_first-rest.ensures F

pub free_row-requires : goal.free_row-requires
free_row-requires c =
    let F = first_forked c.requires.holds c.at-b.ensures c.byte-c.ensures c.fork.ensures in
    first_frees c.requires.holds c.take-node.ensures c.drop_first-rest.ensures F c.relink.ensures _ refl c.from.ensures refl

pub count_record-requires : goal.count_record-requires
count_record-requires c =
    let F = first_forked c.requires.holds c.at-b.ensures c.byte-c.ensures c.fork.ensures in
    first_counts c.requires.holds c.take-node.ensures c.drop_first-rest.ensures F c.relink.ensures _ refl c.from.ensures c.free_row.ensures

pub returns : goal.returns
returns c =
    λ E N. first_put N c.take-node.ensures c.drop_first-rest.ensures (first_forked N c.at-b.ensures c.byte-c.ensures c.fork.ensures) c.relink.ensures _ refl c.from.ensures c.free_row.ensures c.count_record.ensures
    (λ a. omega (arith, c.slice_known-7-1.given a))
