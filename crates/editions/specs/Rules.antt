-- The rules of an edition that the code names.
use Rattle.std.specs.Prelude.{ℕ, eqb}
use Rattle.model.specs.Strings.{pick}
use Rattle.model.specs.Edition.{Edition, edition1, edition2}
use Rattle.editions.specs.declared.Edition.{Edition as Named}
use Rattle.editions.specs.declared.Edition.TheVariants as edition

abbrev pub rules_of : Named → Edition
rules_of edition.First = edition1
rules_of edition.Second = edition2

-- "1 to 112 bytes"; (02) "keys of 1 to 255 bytes"
abbrev pub longest_key : Edition → ℕ
longest_key E = pick (eqb E.number 2) 255 112
