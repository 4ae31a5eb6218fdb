-- `claims::mask` meets its contract. Assumes nothing.
use Rattle.claims.proofs.BitLaws.{mask_is}
use Rattle.claims.proofs.mask.Goals as goal

pub returns : goal.returns
returns c = mask_is c.args.lo c.args.n c.requires.1
