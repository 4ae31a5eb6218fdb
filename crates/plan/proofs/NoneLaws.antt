-- Needs of nothing can be added to. Assumes nothing.
use native.Mathlib.Omega.{arith}
use mathlib.Core.List.{[]}
use Rattle.room.specs.declared.fit.Needs.{Needs}
use Rattle.room.specs.Fit.{Small, Asks}
use Rattle.room.proofs.FitLaws.{asks_small}

pub none_small : {n : Needs} → Asks n [] 0 → Small n
none_small A = asks_small A (omega arith) (omega arith)
