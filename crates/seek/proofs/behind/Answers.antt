-- 0 past the key that is the text. Assumes nothing.
use Rattle.seek.proofs.LeafLaws.{behind_is}
use Rattle.seek.proofs.behind.Goals as goal

pub returns : goal.returns
returns c = behind_is c.args.tail c.requires
