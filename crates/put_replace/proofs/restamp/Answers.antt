-- `restamp` writes the stamp if it is another. Assumes nothing.
use native.Mathlib.Omega.{arith}
use Rattle.put_replace.proofs.ReplaceLaws.{stamp_stays, stamp_put}
use Rattle.put_replace.proofs.restamp.Goals as goal

pub returns-then-stamp : goal.returns-then-stamp
returns-then-stamp c = stamp_stays _ _ _ (omega arith)

pub returns : goal.returns
returns c =
    let z = c.requires in rw c.set_stamp.ensures (stamp_put _ _ _ z.0 z.1 (λ q. omega arith))
