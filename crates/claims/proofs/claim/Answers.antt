-- `claims::claim` meets its contract: nothing to claim, one word, or more. Assumes nothing.
use Rattle.model.proofs.StringLaws.{clash}
use Rattle.claims.proofs.BitLaws.{claim_start, claim_end}
use Rattle.claims.proofs.claim.Goals as goal

pub returns-then-count-eq0 : goal.returns-then-count-eq0
returns-then-count-eq0 c = let a = c.args in (λ e. claim_end (claim_start a.from a.count a.map.now) c.if-count-eq0.true, λ e. clash (cc))
