-- The three calls keep their promises, and demand 2 speaks of them. Assumes nothing.
use native.Mathlib.Omega.{arith}
use Rattle.editions.specs.Rules.{rules_of}
use Rattle.store.specs.Write.{value_for}
use Rattle.store.proofs.PutCallLaws.{stamp_held}
use Rattle.demanded.proofs.DemandedLaws.{read_in_new}
use Rattle.demanded.proofs.readings.in_new.Goals as goal

pub returns : goal.returns
returns g c =
    let z = c.args in
    let e = c.edition-edition in
    rw (← e.ensures)
    (read_in_new e.result z.key.now (value_for (rules_of e.result) z.value.now z.stamp) (λ a. omega (arith, c.type_inv.key a)) (λ a. omega (arith, c.type_inv.value a)) (stamp_held e.result z.stamp)
    c.format-formatted.ensures c.put-given.ensures c.look_up-found.ensures)
