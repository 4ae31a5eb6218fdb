-- `read_row` opens a Prefix at each turn, until another kind stands there. Assumes nothing.
use mathlib.Core.Path.{refl}
use native.Mathlib.Omega.{arith}
use borrow.Author.Rules.{rules}
use Rattle.chain.proofs.ReadLaws.{read_start, read_slot, read_room, read_piece, read_step, part_fits}
use Rattle.chain.proofs.read_row.Goals as goal

pub loop-place-init : goal.loop-place-init
loop-place-init c =
    let z = c.requires in (omega (arith, z.bytes_fit), refl, refl, read_start _ _ _ _ _ _)

pub prefix_at-requires : goal.prefix_at-requires
prefix_at-requires c =
    let v = c.loop-place.invariant in read_slot v.3 c.requires

pub returns : goal.returns
returns c =
    let v = c.loop-place.invariant in let z = c.requires in (v.3, c.in_default.ensures)

pub overflow_add-at : goal.overflow_add-at
overflow_add-at c =
    let v = c.loop-place.invariant in let z = c.requires in let e = c.in-Some.ensures in omega (arith, e.1, read_room v.3 z e.0)

pub length-m-requires : goal.length-m-requires
length-m-requires c =
    let v = c.loop-place.invariant in let z = c.requires in let e = c.in-Some.ensures in omega (arith, e.1, read_room v.3 z e.0)

pub overflow_add-to : goal.overflow_add-to
overflow_add-to c =
    let v = c.loop-place.invariant in let z = c.requires in let e = c.in-Some.ensures in omega (arith, e.1, read_room v.3 z e.0)

pub slice_bounds-paste-end : goal.slice_bounds-paste-end
slice_bounds-paste-end c =
    let v = c.loop-place.invariant in let z = c.requires in let e = c.in-Some.ensures in let p = read_piece v.3 z e.0 e.1 c.length-m.ensures.0 in
    omega arith

pub paste-requires : goal.paste-requires
paste-requires c =
    let v = c.loop-place.invariant in let z = c.requires in let e = c.in-Some.ensures in let p = read_piece v.3 z e.0 e.1 c.length-m.ensures.0 in
    part_fits _ _ _ _ _ _ p.3 v.1

pub offset_bounds-row-count : goal.offset_bounds-row-count
offset_bounds-row-count c =
    let v = c.loop-place.invariant in let z = c.requires in let e = c.in-Some.ensures in let p = read_piece v.3 z e.0 e.1 c.length-m.ensures.0 in
    let w = z.low in omega (arith, p.4)

pub bounds-row-count : goal.bounds-row-count
bounds-row-count c =
    let v = c.loop-place.invariant in let z = c.requires in let e = c.in-Some.ensures in let p = read_piece v.3 z e.0 e.1 c.length-m.ensures.0 in
    omega (arith, p.4)

pub child-s-requires : goal.child-s-requires
child-s-requires c =
    let v = c.loop-place.invariant in let z = c.requires in let e = c.in-Some.ensures in omega (arith, e.1, read_room v.3 z e.0)

pub overflow_add-count : goal.overflow_add-count
overflow_add-count c =
    let v = c.loop-place.invariant in let z = c.requires in let e = c.in-Some.ensures in let p = read_piece v.3 z e.0 e.1 c.length-m.ensures.0 in
    let w = z.low in omega (arith, p.4)

pub overflow_add-n : goal.overflow_add-n
overflow_add-n c =
    let v = c.loop-place.invariant in let z = c.requires in let e = c.in-Some.ensures in let p = read_piece v.3 z e.0 e.1 c.length-m.ensures.0 in
    let w = z.short in omega (arith, p.3)

pub loop-place-smaller : goal.loop-place-smaller
loop-place-smaller c =
    let v = c.loop-place.invariant in let z = c.requires in let e = c.in-Some.ensures in let p = read_piece v.3 z e.0 e.1 c.length-m.ensures.0 in
    omega (arith, p.3, p.1)

pub loop-place-preserved : goal.loop-place-preserved
loop-place-preserved c =
    let v = c.loop-place.invariant in let z = c.requires in let e = c.in-Some.ensures in let p = read_piece v.3 z e.0 e.1 c.length-m.ensures.0 in
    (p.3, search rules, search rules, read_step _ v.3 e.0 e.1 c.length-m.ensures.0 c.child-s.ensures.0 c.paste.ensures (omega (arith, p.3)) (omega (arith, p.4)))
