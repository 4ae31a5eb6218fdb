-- `cut_prefix` tells by the part before. Assumes nothing.
use native.Mathlib.Omega.{arith}
use Rattle.put_cut.proofs.cut_prefix.Goals as goal

pub cut_first-requires : goal.cut_first-requires
cut_first-requires c =
    record { edition = c.requires.edition; holds = record { at = c.requires.holds; before = c.if-spot-eq0.true } }

pub returns-then-spot-eq0 : goal.returns-then-spot-eq0
returns-then-spot-eq0 c = λ E A. c.cut_first.ensures E (record { at = A; before = c.if-spot-eq0.true })

pub cut_within-requires : goal.cut_within-requires
cut_within-requires c =
    let some = c.if-spot-eq0.false in record { edition = c.requires.edition; holds = record { at = c.requires.holds; before = omega arith } }

pub returns : goal.returns
returns c =
    let some = c.if-spot-eq0.false in λ E A. c.cut_within.ensures E (record { at = A; before = omega arith })
