-- Zeros are a body of no children. Assumes nothing.
use Rattle.inner.proofs.InnerLaws.{emptied}
use Rattle.inner.proofs.change.empty.Goals as goal

pub returns : goal.returns
returns c = emptied (c.requires.0, c.requires.1) c.requires.2 c.body_size.ensures.value c.clear.ensures
