-- `fill` draws bytes up at each turn, until what is below fits or is no Prefix. Assumes nothing.
use mathlib.Core.Path.{refl}
use native.Mathlib.Omega.{arith}
use Rattle.chain.proofs.FillLaws.{fills_slot, fills_room, fills_low, fills_left, fills_joins, fills_draws, fills_frees, fills_again, fill_other, fill_full, fill_onto, fill_draw}
use Rattle.chain.proofs.shift.fill.Goals as goal

pub prefix_at-requires : goal.prefix_at-requires
prefix_at-requires c =
    let v = c.loop.invariant in fills_slot v.0

pub returns-in_default : goal.returns-in_default
returns-in_default c =
    let v = c.loop.invariant in v.1 _ (fill_other c.in_default.ensures)

pub length-n-requires : goal.length-n-requires
length-n-requires c =
    let v = c.loop.invariant in fills_room v.0

pub returns-then-n-eq-MOST : goal.returns-then-n-eq-MOST
returns-then-n-eq-MOST c =
    let v = c.loop.invariant in let e = c.in-Some.ensures in let n = c.length-n.ensures.0 in v.1 _ (fill_full n (omega arith))

pub length-requires : goal.length-requires
length-requires c =
    let v = c.loop.invariant in let e = c.in-Some.ensures in fills_low v.0 e.0 e.1

pub onto-requires : goal.onto-requires
onto-requires c =
    let v = c.loop.invariant in let e = c.in-Some.ensures in let n = c.length-n.ensures.0 in let m = c.length.ensures.0 in fills_joins v.0 e.0 e.1 n m (omega arith)

pub release-requires : goal.release-requires
release-requires c =
    let v = c.loop.invariant in let e = c.in-Some.ensures in let n = c.length-n.ensures.0 in let m = c.length.ensures.0 in fills_frees v.0 e.0 e.1 n m (omega arith) c.onto.ensures

pub returns-then-n-length-le-MOST : goal.returns-then-n-length-le-MOST
returns-then-n-length-le-MOST c =
    let v = c.loop.invariant in let e = c.in-Some.ensures in let n = c.length-n.ensures.0 in let m = c.length.ensures.0 in v.1 _ (fill_onto e.0 e.1 n m (omega arith) c.onto.ensures c.release.ensures)

pub draw-requires : goal.draw-requires
draw-requires c =
    let v = c.loop.invariant in let e = c.in-Some.ensures in let n = c.length-n.ensures.0 in let m = c.length.ensures.0 in fills_draws v.0 e.0 e.1 n m (omega arith)

pub child-s-requires : goal.child-s-requires
child-s-requires c =
    let v = c.loop.invariant in let e = c.in-Some.ensures in let n = c.length-n.ensures.0 in let m = c.length.ensures.0 in fills_room (fills_again v.0 e.0 e.1 n m (omega arith) c.draw.ensures refl refl)

pub loop-preserved : goal.loop-preserved
loop-preserved c =
    let v = c.loop.invariant in let e = c.in-Some.ensures in let n = c.length-n.ensures.0 in let m = c.length.ensures.0 in (
      fills_again v.0 e.0 e.1 n m (omega arith) c.draw.ensures c.child-s.ensures.0 (omega arith),
      λ g X. v.1 g (fill_draw e.0 e.1 n m (omega arith) c.draw.ensures c.child-s.ensures.0 g X),
    )

pub returns : goal.returns
returns c =
    let v = c.loop.invariant in v.1 _ (fill_other (λ z. omega (arith, fills_left v.0 z refl)))
