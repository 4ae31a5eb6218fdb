-- In edition 2 every number of eight bytes is a stamp. Assumes nothing.
use native.Mathlib.Omega.{arith}
use Rattle.pieces.proofs.DecideLaws.{granted}
use Rattle.shape.proofs.LeafLaws.{stamp_second}
use Rattle.shape.proofs.leaf.stamp_good.Goals as goal

pub returns-in-Second : goal.returns-in-Second
returns-in-Second c = rw c.in-Second.is (granted (stamp_second _ _ (λ a. omega (arith, c.type_inv.f a))))
