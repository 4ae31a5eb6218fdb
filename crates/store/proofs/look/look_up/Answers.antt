-- Each way out is one of look-up's ends. Assumes nothing.
use mathlib.Core.List.{[]}
use native.Mathlib.Omega.{arith}
use Rattle.editions.proofs.RulesLaws.{lawful}
use Rattle.store.proofs.LookLaws.{end_found, end_absent, standing, legal_key}
use Rattle.store.proofs.look.look_up.Goals as goal

pub find-held-requires : goal.find-held-requires
find-held-requires g c = (standing _ _ [] (lawful _) c.in_ok-check.ensures, legal_key _ [] _ c.in_ok-fault.ensures (λ a. omega (arith, c.type_inv.key a)))

pub returns-in-Some : goal.returns-in-Some
returns-in-Some g c = rw (← c.edition-edition.ensures) (end_found _ _ _ c.in_ok-check.ensures c.in_ok-fault.ensures _ c.find-held.ensures _ c.in-Some.is)

pub returns-in-None : goal.returns-in-None
returns-in-None g c = rw (← c.edition-edition.ensures) (end_absent _ _ _ c.in_ok-check.ensures c.in_ok-fault.ensures _ c.find-held.ensures c.in-None.is)
