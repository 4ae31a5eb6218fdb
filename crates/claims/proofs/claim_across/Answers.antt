-- `claims::claim_across` meets its contract. The loop's invariant: `left` units from `at` on are not marked yet, and the others are.
-- Assumes nothing.
use Rattle.model.proofs.StringLaws.{clash}
use Rattle.claims.proofs.BitLaws.{claim_start, claim_more, claim_taken}
use Rattle.claims.proofs.claim_across.Goals as goal

pub loop-left-init : goal.loop-left-init
loop-left-init c = claim_start c.args.from c.args.count c.args.map.now

pub returns-then-old-bits-ne0 : goal.returns-then-old-bits-ne0
returns-then-old-bits-ne0 c =
    (λ e. clash (cc), λ e. claim_taken c.loop-left.invariant c.within-n.ensures c.mask-bits.ensures c.requires.0 c.if-old-bits-ne0.true)

pub loop-left-preserved : goal.loop-left-preserved
loop-left-preserved c =
    claim_more c.loop-left.invariant c.within-n.ensures c.mask-bits.ensures c.requires.0 c.if-old-bits-ne0.false
