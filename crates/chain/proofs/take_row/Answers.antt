-- `take_row` takes a body a turn, and the row names it. Assumes nothing.
use mathlib.Core.Path.{refl}
use native.Mathlib.Omega.{arith}
use borrow.Author.Rules.{rules}
use Rattle.chain.proofs.TakeLaws.{taken_start, taken_takes, taken_step, taken_end}
use Rattle.chain.proofs.take_row.Goals as goal

pub loop-i-init : goal.loop-i-init
loop-i-init c =
    (omega arith, omega arith, refl, refl, taken_start _ _ _ _ _ refl)

pub take-requires : goal.take-requires
take-requires c =
    let v = c.loop-i.invariant in taken_takes (omega arith) (omega arith) v.4 c.requires

pub loop-i-preserved : goal.loop-i-preserved
loop-i-preserved c =
    let v = c.loop-i.invariant in let z = c.requires in (omega arith, omega arith, search rules, search rules, taken_step (omega arith) (omega arith) v.4 (omega (arith, z.long)) c.take.ensures)

pub returns : goal.returns
returns c =
    let v = c.loop-i.invariant in taken_end v.4 (omega arith)
