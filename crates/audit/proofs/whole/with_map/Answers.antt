-- A map of words that are zero. Assumes nothing.
use Rattle.claims.proofs.UnitLaws.{bit_fresh}
use Rattle.audit.proofs.whole.with_map.Goals as goal

pub by_slots-requires-clause-fresh : goal.by_slots-requires-clause-fresh
by_slots-requires-clause-fresh g c = bit_fresh g.row.WORDS
