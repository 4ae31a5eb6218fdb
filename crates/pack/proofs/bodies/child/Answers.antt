-- One law (BodiesLaws). Assumes nothing.
use native.Mathlib.Omega.{arith}
use Rattle.pack.proofs.BodiesLaws.{child_laid}
use Rattle.pack.proofs.bodies.child.Goals as goal

pub returns : goal.returns
returns c =
    let P = c.requires in let h = P.inside in child_laid (omega arith) c.child.ensures
