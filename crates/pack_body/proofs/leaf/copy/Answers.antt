-- Fields read, the body written, the extent pasted in the part behind it. Assumes nothing.
use Rattle.pack_body.proofs.WriterLaws.{leaf_copied}
use Rattle.pack_body.proofs.leaf.copy.Goals as goal

pub returns : goal.returns
returns c =
    let x = c.extent-from in let n = c.key_length-key_length in let w = c.value_length-value_length in let t = c.stamp-stamp in leaf_copied c.requires x.result n.result w.result t.result x.ensures.0 n.ensures.0 w.ensures.0 t.ensures c.write.ensures c.paste.ensures c.rounded.ensures
