-- The number and the place of what stopped the batch in one. Assumes nothing.
use Rattle.frame_store.proofs.BatchLaws.{batched}
use Rattle.frame_store.proofs.calls.batch.Goals as goal

pub returns-in-Err : goal.returns-in-Err
returns-in-Err c = rw c.number.ensures (batched _ _ _ c.in-Err.ensures.0 c.in-Err.ensures.1)
