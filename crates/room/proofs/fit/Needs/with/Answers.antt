-- `with` adds one body of a kind to the needs. Assumes nothing.
use mathlib.Core.Path.{refl}
use native.Mathlib.Omega.{arith}
use Rattle.layout.specs.Kind.{number_of}
use Rattle.layout.proofs.KindLaws.{number_most}
use Rattle.room.proofs.FitLaws.{asks_with}
use Rattle.room.proofs.fit.Needs.with.Goals as goal

pub returns : goal.returns
returns c = asks_with (number_of c.args.kind) (omega (arith, number_most c.args.kind)) (rw c.number.ensures.value refl) refl
