-- Both packs keep their promise, and demand 3 speaks of two. Assumes nothing.
use Rattle.demanded.proofs.DemandedLaws.{packed_both}
use Rattle.demanded.proofs.orders.pack_both.Goals as goal

pub returns : goal.returns
returns g c = rw (← c.edition-edition.ensures) (packed_both _ c.pack.ensures c.pack-2.ensures)
