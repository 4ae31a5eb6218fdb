-- `carry_out`: the changes so far were made, and their answers told. Assumes nothing.
use Prim.Native.Nat.{◌<◌}
use mathlib.Core.Path.{◌≡◌, refl}
use native.Mathlib.Omega.{arith}
use Rattle.batch.specs.Layout.{count_in}
use Rattle.batch.proofs.RunLaws.{headed_of, carry_start, far_at, carry_more, number_small, carry_end}
use borrow.Author.Rules.{rules}
use Rattle.batch.proofs.run.carry_out.Goals as goal

pub count-n-requires : goal.count-n-requires
count-n-requires c = (headed_of _ c.args.b.now c.requires.whole).count

pub loop-i-init : goal.loop-i-init
loop-i-init c = (refl, refl, carry_start c.args.f.now c.args.b.now c.requires c.args.answers.now)

pub offset-o-requires : goal.offset-o-requires
offset-o-requires c =
    let H = headed_of _ c.args.b.now c.requires.whole in
    let n = c.count-n in (omega arith, omega (arith, H.offsets, n.ensures.0))

pub change-done-requires : goal.change-done-requires
change-done-requires c =
    let l = c.loop-i in let o = c.offset-o in let n = c.count-n.ensures.0 in let h : l.i < count_in c.args.b.now = omega arith in
    far_at l.invariant.2.0 h o.result o.ensures.0 o.ensures.1

pub tell-requires : goal.tell-requires
tell-requires c = rw c.number.ensures (number_small _)

pub loop-i-preserved : goal.loop-i-preserved
loop-i-preserved c =
    let l = c.loop-i in let o = c.offset-o in let n = c.count-n.ensures.0 in let h : l.i < count_in c.args.b.now = omega arith in
    (search rules, search rules, carry_more l.invariant.2.0 _ _ _ l.invariant.2.1 h o.result o.ensures.0 _ _ c.change-done.ensures (rw c.number.ensures at c.tell.ensures))

pub returns : goal.returns
returns c =
    let l = c.loop-i in let n = c.count-n.ensures.0 in let e : l.i ≡ count_in c.args.b.now = omega (arith, l.invariant.2.0.few) in
    carry_end l.invariant.2.0 _ _ e l.invariant.2.1
