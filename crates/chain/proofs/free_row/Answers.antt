-- `free_row` frees the last body of the row at each turn. Assumes nothing.
use mathlib.Core.Path.{refl}
use native.Mathlib.Omega.{arith}
use borrow.Author.Rules.{rules}
use Rattle.chain.proofs.FreeLaws.{freed_start, freed_frees, freed_step, freed_end}
use Rattle.chain.proofs.free_row.Goals as goal

pub loop-i-init : goal.loop-i-init
loop-i-init c =
    (omega arith, omega arith, refl, freed_start _ _ _)

pub release-requires : goal.release-requires
release-requires c =
    freed_frees c.loop-i.invariant.3 (omega arith) c.requires.0

pub loop-i-preserved : goal.loop-i-preserved
loop-i-preserved c =
    let v = c.loop-i.invariant in (omega arith, omega arith, search rules, freed_step v.3 (omega arith) c.release.ensures)

pub returns : goal.returns
returns c =
    let v = c.loop-i.invariant in freed_end v.3 (omega arith)
