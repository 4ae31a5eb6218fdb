-- What holds of the rules of every edition that the code names. Assumes nothing.
use Prim.Native.Nat.{ℕ}
use mathlib.Core.Path.{◌≡◌, refl}
use mathlib.Core.List.{List}
use mathlib.Core.Logic.{◌⊎◌}
use Rattle.model.specs.Edition.{edition_of, Lawful}
use Rattle.model.proofs.Edition1.{lawful1, key_number1}
use Rattle.model.proofs.Edition2.{lawful2, key_number2, edition_one, of_two}
use Rattle.editions.specs.declared.Edition.{Edition as Named}
use Rattle.editions.specs.declared.Edition.TheVariants as edition
use Rattle.editions.specs.Rules.{rules_of}

pub lawful : (e : Named) → Lawful (rules_of e)
lawful edition.First = lawful1
lawful edition.Second = lawful2

-- an edition is the one that its number names
pub number_names : (e : Named) → edition_of (rules_of e).number ≡ rules_of e
number_names edition.First = edition_one
number_names edition.Second = of_two 2 refl

-- a key is legal, or gets 3 or 4
pub key_number : (e : Named) (k : List ℕ) → ((rules_of e).key_fault k ≡ 0) ⊎ (((rules_of e).key_fault k ≡ 3) ⊎ ((rules_of e).key_fault k ≡ 4))
key_number edition.First k = key_number1 k
key_number edition.Second k = key_number2 k
