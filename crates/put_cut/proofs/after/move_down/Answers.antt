-- `move_down` reads the chain, takes a Prefix if one is lacking, and writes the bytes to them. Assumes nothing.
use mathlib.Core.Path.{refl, sym}
use native.Mathlib.Omega.{arith}
use lib.Seq.{length-take-le}
use Rattle.put_cut.proofs.DownLaws.{down_gathers, down_counts, down_takes, down_writes, down_done}
use Rattle.put_cut.proofs.after.move_down.Goals as goal

pub gather-run-requires : goal.gather-run-requires
gather-run-requires c =
    down_gathers c.requires _ _ refl refl

pub bodies_of-need-requires : goal.bodies_of-need-requires
bodies_of-need-requires c =
    let u = down_counts c.requires c.gather-run.ensures (omega arith) in
    omega arith

pub take_row-requires : goal.take_row-requires
take_row-requires c =
    down_takes c.requires c.gather-run.ensures (omega arith) c.bodies_of-need.ensures (omega arith)

pub slice_bounds-bytes-end : goal.slice_bounds-bytes-end
slice_bounds-bytes-end c =
    let u = down_counts c.requires c.gather-run.ensures (omega arith) in
    omega arith

pub slice_bounds-write_row-end-2 : goal.slice_bounds-write_row-end-2
slice_bounds-write_row-end-2 c =
    let u = down_counts c.requires c.gather-run.ensures (omega arith) in
    sym (length-take-le _ _ (omega arith))

pub write_row-requires : goal.write_row-requires
write_row-requires c =
    down_writes c.requires c.gather-run.ensures (omega arith) c.bodies_of-need.ensures c.take_row.ensures (omega arith)

pub returns : goal.returns
returns c =
    down_done c.requires c.gather-run.ensures (omega arith) c.bodies_of-need.ensures c.take_row.ensures c.write_row.ensures
