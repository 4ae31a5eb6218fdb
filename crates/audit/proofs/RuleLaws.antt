-- Good by either rule is good by the one from before; and back, where the frame is clean if the rule asks for it. Assumes nothing.
use Prim.Native.Nat.{ℕ}
use mathlib.Core.Path.{◌≡◌, refl}
use mathlib.Core.Bool.{Bool, true, false}
use mathlib.Core.List.{List}
use Rattle.layout.specs.Number.{le}
use Rattle.layout.specs.Place.{at_d}
use Rattle.model.specs.Edition.{Edition, edition_of, before1}
use Rattle.model.specs.Frame.{root_items, Clean, Good}
use Rattle.model.proofs.StringLaws.{clash, eqb_cases}
use Rattle.model.proofs.CleanLaws.{SameKeys, stands_as}
use Rattle.model.proofs.Edition2.{of_two, of_other}
use Rattle.audit.specs.Audit.{ruled, by_rule}

pub rule_of : (wiped : Bool) (E : Edition) → SameKeys E (ruled wiped E)
rule_of wiped E = record { number = refl; faults = λ k. refl; walks = λ k. refl; stamps = refl }

pub of_rule : (wiped : Bool) (E : Edition) → SameKeys (ruled wiped E) E
of_rule wiped E = record { number = refl; faults = λ k. refl; walks = λ k. refl; stamps = refl }

between : (wiped other : Bool) (E : Edition) → SameKeys (ruled wiped E) (ruled other E)
between wiped other E = record { number = refl; faults = λ k. refl; walks = λ k. refl; stamps = refl }

pub rule_before : (wiped : Bool) (E : Edition) {f : List ℕ} → Good (ruled wiped E) f → Good (ruled false E) f
rule_before wiped E {f} G = (G.0, stands_as (between wiped false E) f G.1 (λ e. clash (cc)))

pub rule_good : (wiped : Bool) (E : Edition) {f : List ℕ} (G : Good (ruled false E) f) → (wiped ≡ true → Clean f (le 4 f at_d) (root_items G.1.root)) → Good (ruled wiped E) f
rule_good wiped E {f} G C = (G.0, stands_as (between false wiped E) f G.1 C)

-- the rule in force is the edition's own, and edition 1 by the one from before is `before1`
pub rule_now : (n : ℕ) → by_rule n true ≡ edition_of n
rule_now n = eqb_cases n 2 (λ t q. rw (of_two n q) refl) (λ t q. rw (of_other n q) refl)

pub rule_old : by_rule 1 false ≡ before1
unfolding edition_of
rule_old = refl
