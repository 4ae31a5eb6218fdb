-- One law for each verdict (WholeLaws). Assumes nothing.
use Rattle.editions.specs.Rules.{rules_of}
use mathlib.Core.Path.{refl}
use native.Mathlib.Omega.{arith}
use borrow.Author.Tests.{not-false}
use mathlib.Core.Bool.{false}
use Rattle.audit.specs.Audit.{ruled}
use Rattle.audit.proofs.check_by.Goals as goal

pub all-requires : goal.all-requires
all-requires g c =
    let T = c.header_good.ensures.holds (not-false _ c.if-not-header_good.false-raw) in
    record { bytes = λ a. omega (arith, c.type_inv.f a); header = T (ruled false (rules_of c.edition-edition.result)) refl }
