-- The count says how many. Assumes nothing.
use mathlib.Core.Path.{◌∙◌}
use Rattle.inner.proofs.InnerLaws.{inner_count}
use Rattle.inner.proofs.look.count.Goals as goal

pub returns : goal.returns
returns c = (c.count.ensures.1, λ kind ks N. c.count.ensures.0 ∙ inner_count ks N)
