-- The word without its lowest digit. Assumes nothing.
use native.Mathlib.Omega.{arith}
use Rattle.sweep.proofs.DigitLaws.{dropped_is, dropped_less}
use Rattle.sweep.proofs.but_lowest.Goals as goal

pub returns : goal.returns
returns c = (dropped_is c.args.bits, dropped_less c.args.bits (omega (arith, c.requires)))
