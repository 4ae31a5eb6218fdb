-- `beginning` measures what is below a full Prefix. Assumes nothing.
use native.Mathlib.Omega.{arith}
use Rattle.plan.proofs.RunLaws.{begun_short, begun_full, begun_below, begun_fits}
use Rattle.plan.proofs.put.beginning.Goals as goal

pub returns-then-n-lt-MOST : goal.returns-then-n-lt-MOST
returns-then-n-lt-MOST c = begun_short c.length-n.ensures.0 c.if-n-lt-MOST.true

pub long-requires : goal.long-requires
long-requires c = begun_below c.requires c.child.ensures.0

pub overflow_add-result : goal.overflow_add-result
overflow_add-result c =
    omega (arith, begun_fits c.requires c.length-n.ensures.0 c.child.ensures.0 c.long.ensures.0)

pub returns : goal.returns
returns c =
    begun_full c.length-n.ensures.0 c.child.ensures.0 c.long.ensures.0
