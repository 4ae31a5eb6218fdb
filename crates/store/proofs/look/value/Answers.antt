-- Each way out is one of the value's ends. Assumes nothing.
use mathlib.Core.List.{[]}
use mathlib.Core.Path.{sym, ◌∙◌}
use native.Mathlib.Omega.{arith}
use Rattle.answers.proofs.NumberLaws.{refused, passed}
use Rattle.editions.proofs.RulesLaws.{lawful}
use Rattle.store.proofs.LookLaws.{standing, legal_key, value_refused, value_illegal, value_told}
use Rattle.store.proofs.look.value.Goals as goal

pub returns-then-is_err : goal.returns-then-is_err
returns-then-is_err g c = rw (← c.edition-edition.ensures) (value_refused _ _ _ _ _ c.check.ensures (refused _ c.if-is_err.ensures.value))

pub returns-then-is_err-2 : goal.returns-then-is_err-2
returns-then-is_err-2 g c =
    rw (← c.edition-edition.ensures)
    (value_illegal _ _ _ _ (rw (passed _ c.if-is_err.ensures.value) at c.check.ensures) (λ z. refused _ c.if-is_err-2.ensures.value (c.fault.ensures ∙ z)))

pub value-requires : goal.value-requires
value-requires g c =
    (standing _ _ [] (lawful _) (rw (passed _ c.if-is_err.ensures.value) at c.check.ensures), legal_key _ [] _ (sym (passed _ c.if-is_err-2.ensures.value) ∙ c.fault.ensures) (λ a. omega (arith, c.type_inv.key a)))

pub returns : goal.returns
returns g c =
    rw (← c.edition-edition.ensures)
    (value_told _ _ _ _ (rw (passed _ c.if-is_err.ensures.value) at c.check.ensures) (sym (passed _ c.if-is_err-2.ensures.value) ∙ c.fault.ensures) c.value.ensures)
