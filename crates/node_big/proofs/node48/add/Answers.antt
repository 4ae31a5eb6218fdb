-- The child goes to the lowest empty place, and there is one. Assumes nothing.
use Prim.Native.Nat.{ℕ, ◌+◌}
use native.Mathlib.Omega.{arith}
use mathlib.Core.Path.{ap}
use Rattle.node_big.proofs.Laws48.{insert48, room48}
use Rattle.node_big.proofs.node48.add.Goals as goal

pub write-requires : goal.write-requires
write-requires c =
    let L = c.lowest-p.ensures in let r = room48 c.requires.0.kids c.requires.0.node L c.requires.0.few in
    (omega arith, L.first, omega arith, omega arith, omega arith)

pub returns : goal.returns
returns c =
    let W = c.write.ensures in let L = c.lowest-p.ensures in let r = room48 c.requires.0.kids c.requires.0.node L c.requires.0.few in (
      W.only,
      λ ks N z. insert48 ks N (omega arith) W L.first (omega arith) (L.free r) (ap (λ (m : ℕ). m + 1) c.count-n.ensures.0) z c.requires.1,
      rw W.entry L,
      W.other,
    )
