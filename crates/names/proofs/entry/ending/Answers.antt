-- Up to a delimiter that is there, or all of the key. Assumes nothing.
use Rattle.names.proofs.CutLaws.{cut_free, cut_stops}
use Rattle.names.proofs.entry.ending.Goals as goal

pub returns-in-Some-sought : goal.returns-in-Some-sought
returns-in-Some-sought c = rw c.in-Some.is (cut_stops c.args.key.now c.args.from _ _ c.in-Some-sought.ensures)

pub returns-in-None : goal.returns-in-None
returns-in-None c = rw c.in-Some.is (cut_free c.args.key.now c.args.from _ c.requires c.in-None.ensures)
