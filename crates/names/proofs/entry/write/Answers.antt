-- The length, then the bytes. Assumes nothing.
use Rattle.names.proofs.WriteLaws.{entry_written}
use Rattle.names.proofs.entry.write.Goals as goal

pub returns : goal.returns
returns c =
    entry_written c.args.buffer.now _ _ c.args.entry.now c.args.at c.requires.0 c.write.ensures c.paste.ensures
