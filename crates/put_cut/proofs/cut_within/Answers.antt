-- `cut_within` takes a Node4, splits the part after off, makes the Leaf, and writes the Node4; the Prefix keeps the part before. Assumes nothing.
use mathlib.Core.Path.{refl}
use native.Mathlib.Omega.{arith}
use Rattle.put_cut.proofs.SpotLaws.{word_low, forked_as}
use Rattle.put_cut.proofs.WithinLaws.{within_room, within_takes, within_splits, within_forks, within_keeps, within_counts, within_put}
use Rattle.put_cut.proofs.cut_within.Goals as goal

pub overflow_add-spot : goal.overflow_add-spot
overflow_add-spot c = omega (arith, word_low c.requires.holds.at)

pub byte-c-requires : goal.byte-c-requires
byte-c-requires c = within_room c.requires.holds

pub take-node-requires : goal.take-node-requires
take-node-requires c = within_takes c.requires.holds

pub overflow_add-q : goal.overflow_add-q
overflow_add-q c = omega (arith, word_low c.requires.holds.at)

pub split_off-below-requires : goal.split_off-below-requires
split_off-below-requires c =
    within_splits c.requires.holds c.take-node.ensures

pub fork-requires : goal.fork-requires
fork-requires c =
    within_forks c.requires.holds c.take-node.ensures c.split_off-below.ensures c.at-b.ensures c.byte-c.ensures

pub keep-requires : goal.keep-requires
keep-requires c =
    let F = forked_as c.requires.holds.at refl refl c.at-b.ensures c.byte-c.ensures c.fork.ensures in
    within_keeps c.requires.holds c.take-node.ensures c.split_off-below.ensures F

pub count_record-requires : goal.count_record-requires
count_record-requires c =
    let F = forked_as c.requires.holds.at refl refl c.at-b.ensures c.byte-c.ensures c.fork.ensures in
    within_counts c.requires.holds c.take-node.ensures c.split_off-below.ensures F c.keep.ensures

pub returns : goal.returns
returns c =
    λ E N. within_put N c.take-node.ensures c.split_off-below.ensures (forked_as N.at refl refl c.at-b.ensures c.byte-c.ensures c.fork.ensures) c.keep.ensures c.count_record.ensures
    (λ a. omega (arith, c.slice_known-6-1.given a))
