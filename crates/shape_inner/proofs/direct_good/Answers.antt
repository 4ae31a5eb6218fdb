-- `direct_good` decides how many children a Node256 has. Assumes nothing.
use mathlib.Core.Path.{sym, ap, ◌∙◌}
use native.Mathlib.Omega.{arith}
use Rattle.pieces.proofs.DecideLaws.{by_eq}
use Rattle.shape_inner.specs.Inner.{in_use, child256}
use Rattle.shape_inner.proofs.KidsLaws.{counted_end, direct_more}
use Rattle.shape_inner.proofs.direct_good.Goals as goal

pub loop-b-preserved : goal.loop-b-preserved
loop-b-preserved c = let a = c.args in let e = c.in_use-used.ensures.0 ∙ ap in_use c.child.ensures.0 in
    (omega arith, rw e (direct_more a.f.now a.o c.loop-b.b c.loop-b.used (omega arith) c.loop-b.invariant.1))

pub returns : goal.returns
returns c = let a = c.args in let e = counted_end (child256 a.f.now a.o) c.loop-b.b c.loop-b.used (omega arith) c.loop-b.invariant.1 in
    by_eq c.loop-b.used a.n (λ q. sym e ∙ q) (λ q. e ∙ q)
