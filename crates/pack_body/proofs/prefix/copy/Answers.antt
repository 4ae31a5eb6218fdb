-- The body pasted, its child written. Assumes nothing.
use Rattle.pack_body.proofs.WriterLaws.{prefix_copied}
use Rattle.pack_body.proofs.prefix.copy.Goals as goal

pub returns : goal.returns
returns c = prefix_copied c.requires c.paste.ensures c.set_child.ensures
