-- No byte passed is above b. Assumes nothing.
use Rattle.node.proofs.SortedLaws.{rank_row}
use native.Mathlib.Omega.{arith}
use borrow.Author.Rules.{rules}
use Rattle.node.proofs.sorted.rank.Goals as goal

pub returns-then-b-f : goal.returns-then-b-f
returns-then-b-f c = (search rules, λ ks R e. rank_row ks R e (search rules) c.loop-i.invariant (λ l. c.if-b-f.true))

pub returns : goal.returns
returns c = (search rules, λ ks R e. rank_row ks R e (search rules) (λ k l. c.loop-i.invariant k (omega arith)) (λ l. absurd (omega arith)))
