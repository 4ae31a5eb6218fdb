-- `fresh` gives out slot U + 1 and the bytes at B. Assumes nothing.
use Rattle.room.proofs.CodeLaws.{fresh_writes}
use Rattle.room.proofs.heap.fresh.Goals as goal

pub returns : goal.returns
returns c =
    fresh_writes _ _ c.slots_given-s.ensures.0 c.next_byte-o.ensures.0 c.body_size-n.ensures.value c.set_slots_given.ensures c.set_next_byte.ensures (rw c.number.ensures.value at c.write.ensures)
