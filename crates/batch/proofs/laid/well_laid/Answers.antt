-- `well_laid`: what is left of the changes is laid exactly if the whole is. Assumes nothing.
use Prim.Native.Nat.{◌-◌}
use mathlib.Core.Path.{refl, sym, ◌∙◌}
use Rattle.batch.proofs.LayoutLaws.{passed, sound_is, sound_not, on, left_bad, left_none, countless, offsetless, first}
use native.Mathlib.Omega.{arith}
use Rattle.batch.proofs.laid.well_laid.Goals as goal

pub returns-then-b-lt-COUNT_SIZE : goal.returns-then-b-lt-COUNT_SIZE
returns-then-b-lt-COUNT_SIZE c = countless _ c.args.b.now (omega arith)

pub returns-then-b-low : goal.returns-then-b-low
returns-then-b-low c =
    let b = c.args.b.now in let n = c.count-n.ensures.0 in offsetless _ b (omega arith) (omega arith)

pub loop-i-init : goal.loop-i-init
loop-i-init c =
    let b = c.args.b.now in let n = c.count-n in (omega arith, first _ b n.result _ n.ensures.0 refl (omega arith) (omega arith))

pub returns-then-not-is_sound : goal.returns-then-not-is_sound
returns-then-not-is_sound c =
    let l = c.loop-i in let n = c.count-n.result in let b = c.args.b.now in let o = c.offset-o in sym (l.invariant.1 ∙ left_bad _ b (n - l.i) l.i l.low (omega arith) (sound_not _ b l.low l.i o.result o.ensures.0 c.is_sound.ensures c.if-not-is_sound.true-raw))

pub end-low-requires : goal.end-low-requires
end-low-requires c = let h = passed _ _ _ _ c.is_sound.ensures c.if-not-is_sound.false-raw in (omega arith, omega arith)

pub loop-i-preserved : goal.loop-i-preserved
loop-i-preserved c =
    let l = c.loop-i in let n = c.count-n.result in let b = c.args.b.now in let o = c.offset-o in let s = sound_is _ b l.low l.i o.result o.ensures.0 c.is_sound.ensures c.if-not-is_sound.false-raw in
    (omega arith, l.invariant.1 ∙ on _ b n l.i l.low o.result c.end-low.result (omega arith) o.ensures.0 s c.end-low.ensures)

pub returns : goal.returns
returns c =
    let l = c.loop-i in let n = c.count-n.result in let b = c.args.b.now in sym (l.invariant.1 ∙ left_none _ b (n - l.i) l.i l.low (omega arith))
