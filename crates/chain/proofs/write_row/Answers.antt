-- `write_row`: from the last piece on, each body names what stands below it. Assumes nothing.
use mathlib.Core.Path.{refl, ◌∙◌}
use native.Mathlib.Omega.{arith}
use Rattle.chain.proofs.RowLaws.{row_start, row_seat, row_fits, row_step, row_end}
use Rattle.chain.proofs.write_row.Goals as goal

pub loop-i-init : goal.loop-i-init
loop-i-init c =
    let e = c.bodies_of-i.ensures in (omega arith, omega arith, omega arith, λ l. absurd (omega arith), omega arith, refl, row_start _ _ _ _ _ _ c.bodies_of-i.ensures refl)

pub read-body-requires : goal.read-body-requires
read-body-requires c =
    let S = row_seat c.loop-i.invariant.6 (omega arith) c.requires in
    (S.0, S.1)

pub write-requires : goal.write-requires
write-requires c =
    let v = c.loop-i.invariant in row_fits v.6 (omega arith) (omega arith) (omega arith) (omega arith) c.requires c.read-body.ensures.1 (omega arith)

pub loop-i-preserved : goal.loop-i-preserved
loop-i-preserved c =
    let v = c.loop-i.invariant in let S = row_seat v.6 (omega arith) c.requires in
    let Y = c.write.ensures in (
      omega arith,
      omega arith,
      omega arith,
      λ q. omega arith,
      omega (arith, S.3),
      Y.only.size ∙ v.5,
      row_step v.6 (omega arith) (omega arith) (omega arith) (omega arith) v.3 c.read-body.ensures.1 Y,
    )

pub returns : goal.returns
returns c =
    let v = c.loop-i.invariant in row_end v.6 (omega arith) (omega arith)
