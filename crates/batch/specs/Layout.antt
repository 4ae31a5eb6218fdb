-- A batch, "laid out in docs/: a header with a count and the offset of each change, then the changes": which bytes are one, and the changes that
-- it holds. Little-endian.
--   0         4    count
--   4 + 4 i   4    offset of change i, counted from 0, from the batch's start
--   o         2    kind: 1 put, 2 replacement, 3 erase
--   o + 2     2    key length
--   o + 4     4    value length
--   o + 8          key, value; in edition 2 the stamp, 8, and then at o + 16 key and value
-- Gaps, and bytes after the last change, are not looked at; the value bytes of an erase, and its stamp, belong to it and are not used.
use Rattle.std.specs.Prelude.{ℕ, zero, suc, ◌+◌, ◌*◌, ◌≡◌, Result, Ok, Err, List, [], ◌∷◌, Bool, true, false, length, take, drop, leb, eqb}
use Rattle.std.proofs.Math.Option.{Option, none, some}
use Rattle.layout.specs.Number.{le}
use Rattle.model.specs.Strings.{pick}
use Rattle.model.specs.Edition.{Edition, Value}
use Rattle.model.specs.Call.{Call, put, replace, erase}
use Rattle.batch.specs.declared.laid.Change.{Change}
use Rattle.batch.specs.declared.laid.Change.TheVariants as change
use Rattle.batch.specs.declared.laid.Unknown.{Unknown}

-- ---- the header

abbrev pub count_size : ℕ
count_size = 4

abbrev pub count_in : List ℕ → ℕ
count_in b = le count_size b 0

-- where the offset of change i stands, and where n offsets end
abbrev pub offset_at : ℕ → ℕ
offset_at i = count_size + 4 * i

abbrev pub offset_of : List ℕ → ℕ → ℕ
offset_of b i = le 4 b (offset_at i)

-- ---- a change at o

abbrev pub at_key_length : ℕ
at_key_length = 2

abbrev pub at_value_length : ℕ
at_value_length = 4

-- what stands before the stamp, or before the key where there is no stamp
abbrev pub at_stamp : ℕ
at_stamp = 8

unfoldable pub at_key : Edition → ℕ
at_key E = pick (eqb E.stamps 1) at_stamp (at_stamp + 8)

abbrev pub kind_at : List ℕ → ℕ → ℕ
kind_at b o = le 2 b o

abbrev pub key_long : List ℕ → ℕ → ℕ
key_long b o = le 2 b (o + at_key_length)

abbrev pub value_long : List ℕ → ℕ → ℕ
value_long b o = le 4 b (o + at_value_length)

-- where its value starts, and where it ends
abbrev pub value_from : Edition → List ℕ → ℕ → ℕ
value_from E b o = o + at_key E + key_long b o

abbrev pub end_of : Edition → List ℕ → ℕ → ℕ
end_of E b o = value_from E b o + value_long b o

abbrev pub key_at : Edition → List ℕ → ℕ → List ℕ
key_at E b o = take (key_long b o) (drop (o + at_key E) b)

abbrev pub text_at : Edition → List ℕ → ℕ → List ℕ
text_at E b o = take (value_long b o) (drop (value_from E b o) b)

unfoldable pub stamp_at : Edition → List ℕ → ℕ → ℕ
stamp_at E b o = pick (eqb E.stamps 1) 0 (le 8 b (o + at_stamp))

abbrev pub value_at : Edition → List ℕ → ℕ → Value
value_at E b o = record { bytes = text_at E b o; stamp = stamp_at E b o }

abbrev pub is_put : ℕ
is_put = 1

abbrev pub is_replacement : ℕ
is_replacement = 2

abbrev pub is_erase : ℕ
is_erase = 3

abbrev pub known : ℕ → Bool
known kind = pick (eqb kind is_put) true (pick (eqb kind is_replacement) true (eqb kind is_erase))

-- the kind that the code names, if it is a known one
abbrev pub Numbered : ℕ → Result Change Unknown → Type 0
Numbered n (Ok change.Put) = n ≡ is_put
Numbered n (Ok change.Replacement) = n ≡ is_replacement
Numbered n (Ok change.Erase) = n ≡ is_erase
Numbered n (Err e) = known n ≡ false

abbrev pub call_at : Edition → List ℕ → ℕ → Call
call_at E b o = pick (eqb (kind_at b o) is_put) (put (key_at E b o) (value_at E b o)) (pick (eqb (kind_at b o) is_replacement) (replace (key_at E b o) (value_at E b o)) (erase (key_at E b o)))

-- ---- the whole

-- "offsets run back, overlap or point outside, or .. a change of unknown kind": of a change at o, with other things up to lo, none of these
unfoldable pub sound : Edition → List ℕ → ℕ → ℕ → Bool
sound E b lo o = pick (leb lo o) (pick (leb (o + at_key E) (length b)) (pick (leb (end_of E b o) (length b)) (known (kind_at b o)) false) false) false

abbrev pub also : Call → Option (List Call) → Option (List Call)
also c none = none
also c (some cs) = some (c ∷ cs)

-- n changes from the i-th on, with other things up to lo
abbrev pub changes_from : Edition → List ℕ → ℕ → ℕ → ℕ → Option (List Call)
changes_from E b zero i lo = some []
changes_from E b (suc n) i lo =
    let o = offset_of b i in
    let rest = also (call_at E b o) (changes_from E b n (i + 1) (end_of E b o)) in
    pick (sound E b lo o) rest none

-- the changes of a batch, none where it gets 12: its header too has to lie within it
abbrev pub changes_of : Edition → List ℕ → Option (List Call)
changes_of E b = pick (leb count_size (length b)) (pick (leb (offset_at (count_in b)) (length b)) (changes_from E b (count_in b) 0 (offset_at (count_in b))) none) none

abbrev pub laid : Option (List Call) → Bool
laid none = false
laid (some cs) = true
