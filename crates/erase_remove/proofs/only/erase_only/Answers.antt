-- `erase_only` lays the frame out anew, for the capacity and the edition that it has. Assumes nothing.
use Rattle.erase_remove.proofs.OnlyLaws.{header_long, limits, only_step}
use Rattle.erase_remove.proofs.only.erase_only.Goals as goal

pub slot_capacity-slots-requires : goal.slot_capacity-slots-requires
slot_capacity-slots-requires c = header_long c.requires.holds.stands

pub edition-edition-requires : goal.edition-edition-requires
edition-edition-requires c = header_long c.requires.holds.stands

pub lay_out-requires : goal.lay_out-requires
lay_out-requires c =
    (limits c.requires.holds.stands c.slot_capacity-slots.ensures.0, c.edition-edition.ensures.1)

pub returns : goal.returns
returns c =
    only_step c.slot_capacity-slots.ensures.0 c.edition-edition.ensures.0 c.lay_out.ensures
