-- `refill` zeroes the body, carries the children and adds the Leaf. Assumes nothing.
use Rattle.put_add.proofs.FillLaws.{fill_carries, fill_adds, fill_law}
use Rattle.put_add.proofs.refill.Goals as goal

pub carry-requires : goal.carry-requires
carry-requires c =
    fill_carries c.requires c.read-body.ensures.1 c.empty.ensures

pub add-requires : goal.add-requires
add-requires c =
    fill_adds c.requires c.read-body.ensures.1 c.empty.ensures c.carry.ensures

pub returns : goal.returns
returns c =
    fill_law c.requires c.read-body.ensures.1 c.empty.ensures c.carry.ensures c.add.ensures
