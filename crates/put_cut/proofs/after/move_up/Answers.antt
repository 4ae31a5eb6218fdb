-- `move_up` reads the chain, and writes what is left of its bytes to its bodies. Assumes nothing.
use mathlib.Core.Path.{refl, sym, subst}
use native.Mathlib.Omega.{arith}
use lib.Seq.{length-take-le}
use Rattle.put_cut.specs.After.{FirstDropped}
use Rattle.put_cut.proofs.UpLaws.{up_gathers, up_counts, up_writes, up_done, as_flag}
use Rattle.put_cut.proofs.after.move_up.Goals as goal

pub gather-run-requires : goal.gather-run-requires
gather-run-requires c =
    up_gathers c.requires _ _ refl refl refl

pub bodies_of-requires : goal.bodies_of-requires
bodies_of-requires c =
    let u = up_counts c.requires c.gather-run.ensures refl (omega arith) (omega arith) in
    omega arith

pub overflow_sub-over : goal.overflow_sub-over
overflow_sub-over c =
    let u = up_counts c.requires c.gather-run.ensures refl (omega arith) (omega arith) in
    omega arith

pub offset_bounds-row-over : goal.offset_bounds-row-over
offset_bounds-row-over c =
    let u = up_counts c.requires c.gather-run.ensures refl (omega arith) (omega arith) in
    omega arith

pub slice_bounds-write_row-count : goal.slice_bounds-write_row-count
slice_bounds-write_row-count c =
    let u = up_counts c.requires c.gather-run.ensures refl (omega arith) (omega arith) in
    omega arith

pub slice_bounds-write_row-start : goal.slice_bounds-write_row-start
slice_bounds-write_row-start c =
    let u = up_counts c.requires c.gather-run.ensures refl (omega arith) (omega arith) in
    omega arith

pub slice_bounds-bytes-end : goal.slice_bounds-bytes-end
slice_bounds-bytes-end c =
    let u = up_counts c.requires c.gather-run.ensures refl (omega arith) (omega arith) in
    omega arith

pub slice_bounds-write_row-end-2 : goal.slice_bounds-write_row-end-2
slice_bounds-write_row-end-2 c =
    let u = up_counts c.requires c.gather-run.ensures refl (omega arith) (omega arith) in
    sym (length-take-le _ _ (omega arith))

pub write_row-top-requires : goal.write_row-top-requires
write_row-top-requires c =
    up_writes c.requires c.gather-run.ensures refl (omega arith) (omega arith) c.bodies_of.ensures

pub returns : goal.returns
returns c =
    let u = up_counts c.requires c.gather-run.ensures refl (omega arith) (omega arith) in
    subst (λ j. FirstDropped c.args.f.now c.write_row-top.new.f c.args.slot c.args.place c.write_row-top.result j) (as_flag _ (omega arith))
    (up_done c.requires c.gather-run.ensures refl (omega arith) (omega arith) c.bodies_of.ensures c.write_row-top.ensures)
