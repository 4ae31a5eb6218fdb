-- `claims::claim_across` meets its contract. The loop's invariant: `left` units from `at` on are not marked yet, and the others are.
-- Assumes nothing.
use Rattle.claims.proofs.BitLaws.{Claiming}
use Rattle.claims.proofs.claim_across.Given as goal

abbrev pub invariant-loop-left : goal.invariant-loop-left
invariant-loop-left l = Claiming l.from l.count l.at l.left l.initial.map l.map

abbrev pub decreases-loop-left : goal.decreases-loop-left
decreases-loop-left l = l.left
