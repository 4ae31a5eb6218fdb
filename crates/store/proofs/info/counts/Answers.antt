-- The numbers are read one by one, and the lists at once. Assumes nothing.
use Rattle.store.proofs.InfoLaws.{counts_are}
use Rattle.store.proofs.info.counts.Goals as goal

pub returns : goal.returns
returns c E s W =
    counts_are E W c.slot_capacity.ensures.0 c.slots_given-given.ensures.0 c.next_byte.ensures.0
    c.records.ensures.0 c.dead_bytes.ensures.0 (c.room_for.ensures E s W)
