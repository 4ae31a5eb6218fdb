-- `prefix_good` decides that a Prefix stands there, with PrefixLaws at each exit. Assumes nothing.
use native.Mathlib.Omega.{arith}
use Rattle.shape.proofs.PrefixLaws.{prefix_blank, prefix_end}
use Rattle.pieces.proofs.DecideLaws.{denied, refuted, passed}
use Rattle.shape.proofs.prefix.prefix_good.Goals as goal

pub returns-then-not-zeros_good : goal.returns-then-not-zeros_good
returns-then-not-zeros_good c = let a = c.args in denied (λ p. refuted c.zeros_good.ensures c.if-not-zeros_good.true-raw (prefix_blank a.f.now a.o c.length-n.result c.length-n.ensures.0 p))

pub returns : goal.returns
returns c = let a = c.args in prefix_end a.f.now a.o c.length-n.result c.length-n.ensures.0 (omega arith) (omega arith) (omega arith)
    (passed c.zeros_good.ensures c.if-not-zeros_good.false-raw) c.rest_good.ensures
