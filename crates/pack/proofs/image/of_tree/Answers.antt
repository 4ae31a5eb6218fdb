-- One law for each step (ImageLaws). Assumes nothing.
use mathlib.Core.Path.{refl}
use native.Mathlib.Omega.{arith}
use Rattle.pack.proofs.ImageLaws.{known_limits, image_start, head_zero, end_some, image_made}
use Rattle.pack.proofs.image.of_tree.Goals as goal

pub data_start_of-requires : goal.data_start_of-requires
data_start_of-requires c = let P = c.requires in omega (arith, (known_limits P.0.holds P.1).slots)

pub tree-end-requires : goal.tree-end-requires
tree-end-requires c =
    let P = c.requires in record { edition = _; holds = image_start P.0.holds P.2 P.1 refl c.clear.ensures c.data_start_of.ensures c.longest_word.ensures.value }

pub overflow_sub-end : goal.overflow_sub-end
overflow_sub-end c =
    let P = c.requires in let S = image_start P.0.holds P.2 P.1 refl c.clear.ensures c.data_start_of.ensures c.longest_word.ensures.value in
    end_some P.0.holds P.2 P.1 refl c.clear.ensures c.data_start_of.ensures (c.tree-end.ensures _ S)

pub write-requires : goal.write-requires
write-requires c =
    let P = c.requires in let S = image_start P.0.holds P.2 P.1 refl c.clear.ensures c.data_start_of.ensures c.longest_word.ensures.value in
    head_zero P.0.holds P.2 P.1 refl c.clear.ensures c.data_start_of.ensures (c.tree-end.ensures _ S)

pub returns : goal.returns
returns c G K =
    let P = c.requires in let S = image_start K P.2 P.1 refl c.clear.ensures c.data_start_of.ensures c.longest_word.ensures.value in
    image_made K P.2 P.1 refl c.clear.ensures c.data_start_of.ensures (c.tree-end.ensures _ S) c.edition.ensures.0 c.write.ensures
