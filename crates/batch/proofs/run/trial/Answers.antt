-- `trial`: the changes so far were made and none refused; the first that is ends it. Assumes nothing.
use Prim.Native.Nat.{◌<◌}
use mathlib.Core.Path.{◌≡◌, refl}
use native.Mathlib.Omega.{arith}
use Rattle.batch.specs.Layout.{count_in}
use Rattle.batch.proofs.RunLaws.{headed_of, trial_start, far_at, trial_more, made_passes, tried_through, tried_halted}
use borrow.Author.Rules.{rules}
use Rattle.batch.proofs.run.trial.Goals as goal

pub count-n-requires : goal.count-n-requires
count-n-requires c = (headed_of _ c.args.b.now c.requires.whole).count

pub loop-i-init : goal.loop-i-init
loop-i-init c = (refl, trial_start c.args.f.now c.args.b.now c.requires)

pub offset-o-requires : goal.offset-o-requires
offset-o-requires c =
    let H = headed_of _ c.args.b.now c.requires.whole in
    let n = c.count-n in (omega arith, omega (arith, H.offsets, n.ensures.0))

pub change-requires : goal.change-requires
change-requires c =
    let l = c.loop-i in let o = c.offset-o in let n = c.count-n.ensures.0 in let h : l.i < count_in c.args.b.now = omega arith in
    far_at l.invariant.1.0 h o.result o.ensures.0 o.ensures.1

pub returns-in-Err : goal.returns-in-Err
returns-in-Err c =
    let l = c.loop-i in let o = c.offset-o in let n = c.count-n.ensures.0 in let h : l.i < count_in c.args.b.now = omega arith in
    tried_halted l.invariant.1.0 l.invariant.1.1 h (omega arith) o.result o.ensures.0 c.in-Err.refusal _ c.in-Err.ensures

pub loop-i-preserved : goal.loop-i-preserved
loop-i-preserved c =
    let l = c.loop-i in let o = c.offset-o in let n = c.count-n.ensures.0 in let h : l.i < count_in c.args.b.now = omega arith in
    (search rules, trial_more l.invariant.1.0 l.invariant.1.1 h o.result o.ensures.0 _ _ c.change.ensures (made_passes _ _ c.in_default.is))

pub returns : goal.returns
returns c =
    let l = c.loop-i in let n = c.count-n.ensures.0 in let e : l.i ≡ count_in c.args.b.now = omega (arith, l.invariant.1.0.few) in
    tried_through l.invariant.1.0 l.invariant.1.1 e
