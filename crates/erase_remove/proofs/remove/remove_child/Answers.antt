-- `remove_child` takes the byte out of the node, then the Leaf goes. Assumes nothing.
use Rattle.erase_remove.proofs.DoneLaws.{as_step}
use Rattle.erase_remove.proofs.SpotLaws.{W0, has_byte_lem}
use Rattle.erase_remove.proofs.RemoveLaws.{remove_drops, remove_done}
use Rattle.erase_remove.proofs.remove.remove_child.Goals as goal

pub remove-requires : goal.remove-requires
remove-requires c =
    let P = c.requires.holds.erase in has_byte_lem P P.st P.stands (W0 P P.st P.stands)

pub drop_leaf-requires : goal.drop_leaf-requires
drop_leaf-requires c =
    let P = c.requires.holds in remove_drops P P.erase.st P.erase.stands c.remove.ensures

pub returns : goal.returns
returns c =
    λ E k P. as_step k (λ s w. remove_done P s w c.remove.ensures c.drop_leaf.ensures (λ i. (c.slice_known-3-1.given i).fits))
