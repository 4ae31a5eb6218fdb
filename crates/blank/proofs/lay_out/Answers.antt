-- What is written is the image of no records. Assumes nothing.
use Rattle.blank.proofs.BlankLaws.{laid_out}
use Prim.Native.Nat.{◌<◌}
use native.Mathlib.Omega.{arith}
use Rattle.blank.proofs.lay_out.Goals as goal

pub returns : goal.returns
returns c =
    λ E e. (let small : E.number < 4294967296 = omega (arith, e, c.requires.1) in
    let is = laid_out E small _ _ _ c.requires.0 c.clear.ensures in cc)
