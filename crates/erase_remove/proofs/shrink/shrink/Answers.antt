-- `shrink`, call by call. Assumes nothing.
use Rattle.erase_remove.proofs.DoneLaws.{as_step}
use Rattle.erase_remove.proofs.SpotLaws.{mark_down}
use Rattle.erase_remove.proofs.ShrinkLaws.{large, shrink_takes, shrink_entry, shrink_has, shrink_empties, shrink_carries, shrink_links, shrink_frees, shrink_drops, shrink_done}
use native.Mathlib.Omega.{arith}
use Rattle.erase_remove.proofs.shrink.shrink.Goals as goal

pub unreachable-requires : goal.unreachable-requires
unreachable-requires c =
    let l = large c.requires.holds in let d = mark_down _ l.0 l.1 in omega (arith, c.in_default.ensures)

pub take-slot-requires : goal.take-slot-requires
take-slot-requires c =
    let P = c.requires.holds in shrink_takes P P.erase.st P.erase.stands c.in-Some.ensures

pub read-new-requires : goal.read-new-requires
read-new-requires c =
    let P = c.requires.holds in let e = shrink_entry P P.erase.st P.erase.stands c.in-Some.ensures c.take-slot.ensures in
    (e.0, e.1)

pub remove-requires : goal.remove-requires
remove-requires c =
    let P = c.requires.holds in shrink_has P P.erase.st P.erase.stands c.in-Some.ensures c.take-slot.ensures

pub empty-requires : goal.empty-requires
empty-requires c =
    let P = c.requires.holds in shrink_empties P P.erase.st P.erase.stands c.in-Some.ensures c.take-slot.ensures c.read-new.ensures.1 c.remove.ensures

pub carry-requires : goal.carry-requires
carry-requires c =
    let P = c.requires.holds in shrink_carries P P.erase.st P.erase.stands c.in-Some.ensures c.take-slot.ensures c.read-new.ensures.1 c.remove.ensures c.empty.ensures

pub relink-requires : goal.relink-requires
relink-requires c =
    let P = c.requires.holds in shrink_links P P.erase.st P.erase.stands c.in-Some.ensures c.take-slot.ensures c.read-new.ensures.1 c.remove.ensures c.empty.ensures c.carry.ensures

pub release-requires : goal.release-requires
release-requires c =
    let P = c.requires.holds in shrink_frees P P.erase.st P.erase.stands c.in-Some.ensures c.take-slot.ensures c.read-new.ensures.1 c.remove.ensures c.empty.ensures c.carry.ensures c.relink.ensures

pub drop_leaf-requires : goal.drop_leaf-requires
drop_leaf-requires c =
    let P = c.requires.holds in shrink_drops P P.erase.st P.erase.stands c.in-Some.ensures c.take-slot.ensures c.read-new.ensures.1 c.remove.ensures c.empty.ensures c.carry.ensures c.relink.ensures c.release.ensures

pub returns : goal.returns
returns c =
    λ E k P. as_step k (λ s w. shrink_done P s w c.in-Some.ensures c.take-slot.ensures c.read-new.ensures.1 c.remove.ensures c.empty.ensures c.carry.ensures c.relink.ensures c.release.ensures c.drop_leaf.ensures (λ i. (c.slice_known-8-1.given i).fits))
