-- One law for each end (BodiesLaws). Assumes nothing.
use Prim.Native.Nat.{ℕ, ◌+◌}
use mathlib.Core.Path.{refl, ap}
use Rattle.pack.proofs.BodiesLaws.{node_lent, node_laid}
use Rattle.pack.proofs.bodies.node.Goals as goal

pub start-requires : goal.start-requires
start-requires c = node_lent c.requires (rw c.number.ensures.value at c.write.ensures)

pub returns : goal.returns
returns c =
    node_laid c.requires (rw c.number.ensures.value at c.write.ensures) c.args.n c.start.ensures refl (ap (λ (n : ℕ). c.args.next.place + n) c.body_size.ensures.value)
