-- `drop_front` moves what is left down, and zeroes what that leaves behind. Assumes nothing.
use Prim.Native.Nat.{◌+◌, ◌-◌}
use mathlib.Core.Path.{refl}
use native.Mathlib.Omega.{arith}
use Rattle.prefix_body.proofs.FrontLaws.{shortened}
use Rattle.prefix_body.proofs.drop_front.Goals as goal

pub returns : goal.returns
returns c =
    let o = c.args.o in let q = c.args.q in let n = c.length-n.result in let P = c.requires.at in shortened o q n (n - q) (o + 16) c.length-n.ensures.0 refl refl (omega (arith, c.length-n.ensures.0, P.long, c.requires.more)) (omega (arith, c.length-n.ensures.0, P.long, P.most)) P.room c.slide.ensures c.clear.ensures c.set_length.ensures
