-- Bytes that are the text's do not decide; others are weighed one after the other. Assumes nothing.
use Rattle.seek.proofs.WeighLaws.{same_open}
use Rattle.seek.proofs.weigh_bytes.Goals as goal

pub returns-then-same : goal.returns-then-same
returns-then-same c =
    let a = c.args in same_open a.f.now a.at a.n a.text.now a.d a.tail c.requires.0 c.if-d-n.true (c.same.ensures.holds c.if-same.true)
