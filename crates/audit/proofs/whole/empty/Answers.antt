-- One law for each answer (RootLaws). Assumes nothing.
use Prim.Native.Nat.{◌+◌}
use mathlib.Core.Path.{◌≡◌}
use native.Mathlib.Omega.{arith}
use Rattle.pieces.proofs.DecideLaws.{passed}
use Rattle.shape.proofs.ZeroLaws.{blank_zero}
use Rattle.audit.proofs.RootLaws.{empty_good}
use Rattle.audit.proofs.whole.empty.Goals as goal

pub returns : goal.returns
returns c =
    let a = c.args in let here : a.o + 0 ≡ a.o = omega arith in
    empty_good (c.body.ensures.holds _ c.in_ok-r.was) (blank_zero a.f.now a.o 8 (passed (rw here at c.zero_eight.ensures) c.if-not-zero_eight.false-raw))
