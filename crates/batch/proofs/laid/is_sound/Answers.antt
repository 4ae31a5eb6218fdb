-- `is_sound`: the tests in the order of the definition. Assumes nothing.
use mathlib.Core.Path.{◌∙◌}
use native.Mathlib.Omega.{arith}
use Rattle.batch.proofs.LayoutLaws.{before, headless, endless, of_kind, known_told}
use Rattle.batch.proofs.laid.is_sound.Goals as goal

pub returns-then-o-low : goal.returns-then-o-low
returns-then-o-low c = before _ _ _ _ c.if-o-low.true

pub returns-then-b-o : goal.returns-then-b-o
returns-then-b-o c = let h = c.at_key.ensures in headless _ _ _ _ (omega arith) (omega arith)

pub returns-then-b-end : goal.returns-then-b-end
returns-then-b-end c = let e = c.end.ensures in let h = c.at_key.ensures in endless _ _ _ _ (omega arith) (omega arith) (omega arith)

pub returns : goal.returns
returns c =
    let e = c.end.ensures in let h = c.at_key.ensures in c.is_ok.ensures.value ∙ known_told _ _ c.kind.ensures ∙ of_kind _ _ _ _ (omega arith) (omega arith) (omega arith)
