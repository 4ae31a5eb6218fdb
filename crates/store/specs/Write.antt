-- The refusal that a key and a value get, and the stamp that a record gets.
use Rattle.std.specs.Prelude.{List, ℕ, ltb, eqb}
use Rattle.model.specs.Strings.{pick}
use Rattle.model.specs.Edition.{Edition, Value, value_fault}

-- in the order 3, 4, 5, and 0 if both are legal
abbrev pub fault_of : Edition → List ℕ → Value → ℕ
fault_of E k v = pick (eqb (E.key_fault k) 0) (value_fault v) (E.key_fault k)

-- the stamp that a record gets: the one that is passed, and 0 if the edition has it not
abbrev pub stamp_for : Edition → ℕ → ℕ
stamp_for E s = pick (ltb s E.stamps) s 0

abbrev pub value_for : Edition → List ℕ → ℕ → Value
value_for E t s = record { bytes = t; stamp = stamp_for E s }
