-- `gather` pastes the bytes of the Prefix, and reads the chain below it after them. Assumes nothing.
use native.Mathlib.Omega.{arith}
use Rattle.put_cut.proofs.GatherLaws.{gather_reads, gather_done}
use Rattle.put_cut.proofs.after.gather.Goals as goal

pub read_row-requires : goal.read_row-requires
read_row-requires c =
    gather_reads c.requires c.length-n.ensures.0 c.child-child.ensures.0 c.paste.ensures.only.size

pub returns : goal.returns
returns c =
    gather_done c.requires c.length-n.ensures.0 c.child-child.ensures.0 c.paste.ensures c.read_row.ensures.0 c.read_row.ensures.1 (omega arith)
