-- Units of one word are claimed at once: the only step of `Claiming`. Assumes nothing.
use native.Mathlib.Omega.{arith}
use Rattle.model.proofs.StringLaws.{clash}
use Rattle.claims.specs.Units.{Run}
use Rattle.claims.proofs.BitLaws.{claim_start, claim_more, claim_taken, claim_end}
use Rattle.claims.proofs.claim_word.Goals as goal

pub returns-then-old-bits-ne0 : goal.returns-then-old-bits-ne0
returns-then-old-bits-ne0 c =
    let a = c.args in let R : Run a.from a.count a.count = record { some = c.requires.0; most = omega arith; in_word = c.requires.1 } in
    (λ e. clash (cc), λ e. claim_taken (claim_start a.from a.count a.map.now) R c.mask-bits.ensures c.requires.2 c.if-old-bits-ne0.true)

pub returns : goal.returns
returns c =
    let a = c.args in let R : Run a.from a.count a.count = record { some = c.requires.0; most = omega arith; in_word = c.requires.1 } in
    (λ e. claim_end (claim_more (claim_start a.from a.count a.map.now) R c.mask-bits.ensures c.requires.2 c.if-old-bits-ne0.false) (omega arith), λ e. clash (cc))
