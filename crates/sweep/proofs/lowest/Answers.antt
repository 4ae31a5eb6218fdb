-- The lowest digit of a word. Assumes nothing.
use native.Mathlib.Omega.{arith}
use Rattle.sweep.proofs.DigitLaws.{lowest_is}
use Rattle.sweep.proofs.lowest.Goals as goal

pub returns : goal.returns
returns c = lowest_is 64 c.args.bits (omega (arith, c.requires)) (omega arith)
