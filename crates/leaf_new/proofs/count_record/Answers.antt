-- `count_record` adds one to R. Assumes nothing.
use Rattle.leaf_new.proofs.LeafLaws.{count_law}
use Rattle.leaf_new.proofs.count_record.Goals as goal

pub returns : goal.returns
returns c = count_law c.records-r.ensures.0 c.set_records.ensures
