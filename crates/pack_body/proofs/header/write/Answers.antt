-- All fields written over zeros. Assumes nothing.
use Rattle.pack_body.proofs.WriterLaws.{header_written}
use Rattle.pack_body.proofs.header.write.Goals as goal

pub returns : goal.returns
returns c =
    let P = c.requires in header_written P.0 P.1 (rw c.data_start_of.ensures at c.write.ensures)
