-- `write` zeroes the body, then writes child, length and bytes. Assumes nothing.
use Rattle.prefix_body.proofs.PrefixLaws.{prefix_law}
use Rattle.prefix_body.proofs.write.Goals as goal

pub returns : goal.returns
returns c =
    prefix_law c.args.o c.args.child c.args.bytes.now c.requires.0 c.requires.1 c.requires.2 c.requires.3 c.clear.ensures c.set_child.ensures c.set_length.ensures c.paste.ensures
