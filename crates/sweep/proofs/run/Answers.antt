-- Units with no mark are one range; else those without a mark are left of the mask. Assumes nothing.
use native.Mathlib.Omega.{arith}
use Rattle.sweep.proofs.SweepLaws.{run_none, run_inside, run_some}
use Rattle.sweep.proofs.run.Goals as goal

pub returns-then-word-bits-eq0 : goal.returns-then-word-bits-eq0
returns-then-word-bits-eq0 c =
    run_none c.args.at c.mask-bits.ensures c.requires.1 c.if-word-bits-eq0.true c.all_zero.ensures

pub units-requires : goal.units-requires
units-requires c =
    run_inside c.args.at c.mask-bits.ensures c.requires.1 c.args.word c.requires.2

pub returns : goal.returns
returns c =
    run_some c.args.at c.mask-bits.ensures c.requires.1 (omega arith) c.units.ensures
