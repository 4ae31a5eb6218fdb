-- `replacing` needs the extent where the lengths differ. Assumes nothing.
use mathlib.Core.List.{[]}
use Rattle.plan.proofs.PutLaws.{same_length, other_length}
use Rattle.plan.proofs.put.replacing.Goals as goal

pub returns-then-new-old : goal.returns-then-new-old
returns-then-new-old c = let a = c.args in same_length a.new a.old a.extent c.if-new-old.true c.none-none.ensures

pub returns : goal.returns
returns c = let a = c.args in other_length a.new a.old a.extent c.if-new-old.false (c.with_extent.ensures [] 0 c.none-none.ensures)
