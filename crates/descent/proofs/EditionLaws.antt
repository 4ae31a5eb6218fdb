-- The two editions by name: what a descent reads of a key in each. Assumes nothing.
use Prim.Native.Nat.{ℕ, ◌≤◌}
use mathlib.Core.Path.{◌≡◌}
use mathlib.Core.List.{List}
use lib.ListN.{length}
use Rattle.model.specs.Edition.{Legal, edition2, escaped}
use Rattle.model.proofs.Edition2.{lawful2}
use Rattle.editions.specs.declared.Edition.{Edition}
use Rattle.editions.specs.Rules.{rules_of}
use Rattle.editions.proofs.RulesLaws.{number_names}
use Rattle.keys.proofs.KeyLaws.{key_some}
use Rattle.keys.proofs.WordLaws.{word_fits}

pub second_fits : (k : List ℕ) → Legal edition2 k → length (escaped k) ≤ 512
second_fits k l = word_fits lawful2 k l

-- a key that is not refused has a byte
pub some_byte : (e : Edition) (k : List ℕ) → (rules_of e).key_fault k ≡ 0 → 1 ≤ length k
some_byte e k h = key_some (rules_of e).number k (rw (number_names e) h)
