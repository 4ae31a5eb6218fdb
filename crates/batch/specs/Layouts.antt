-- Worked layouts: bytes, and the changes that they hold.
use Rattle.std.specs.Prelude.{ℕ, ◌≡◌, List, [], ◌∷◌}
use Rattle.std.proofs.Math.Option.{none, some}
use Rattle.model.specs.Edition.{edition_of, unstamped}
use Rattle.model.specs.Call.{put, erase}
use Rattle.batch.specs.Layout.{changes_of}

-- put a=1 (10 bytes from 12), erase a (9 bytes from 22)
abbrev pub two : List ℕ
two =
    2 ∷ 0 ∷ 0 ∷ 0 ∷ 12 ∷ 0 ∷ 0 ∷ 0 ∷ 22 ∷ 0 ∷ 0 ∷ 0
    ∷ 1 ∷ 0 ∷ 1 ∷ 0 ∷ 1 ∷ 0 ∷ 0 ∷ 0 ∷ 97 ∷ 49
    ∷ 3 ∷ 0 ∷ 1 ∷ 0 ∷ 0 ∷ 0 ∷ 0 ∷ 0 ∷ 97 ∷ []

-- one change, an erase of no key, at this offset
abbrev pub one : ℕ → ℕ → ℕ → List ℕ
one offset kind key_length = 1 ∷ 0 ∷ 0 ∷ 0 ∷ offset ∷ 0 ∷ 0 ∷ 0 ∷ kind ∷ 0 ∷ key_length ∷ 0 ∷ 0 ∷ 0 ∷ 0 ∷ 0 ∷ []

-- edition 2: put a=1 with stamp 258 (18 bytes from 12), erase a with a stamp that is not used (17 bytes from 30)
abbrev pub stamped : List ℕ
stamped =
    2 ∷ 0 ∷ 0 ∷ 0 ∷ 12 ∷ 0 ∷ 0 ∷ 0 ∷ 30 ∷ 0 ∷ 0 ∷ 0
    ∷ 1 ∷ 0 ∷ 1 ∷ 0 ∷ 1 ∷ 0 ∷ 0 ∷ 0 ∷ 2 ∷ 1 ∷ 0 ∷ 0 ∷ 0 ∷ 0 ∷ 0 ∷ 0 ∷ 97 ∷ 49
    ∷ 3 ∷ 0 ∷ 1 ∷ 0 ∷ 0 ∷ 0 ∷ 0 ∷ 0 ∷ 7 ∷ 0 ∷ 0 ∷ 0 ∷ 0 ∷ 0 ∷ 0 ∷ 0 ∷ 97 ∷ []

pub record Layouts : Type 0 where
  pub stamps : changes_of (edition_of 2) stamped ≡ some (put (97 ∷ []) (record { bytes = 49 ∷ []; stamp = 258 }) ∷ erase (97 ∷ []) ∷ [])
  -- no room for a stamp
  pub stampless : changes_of (edition_of 2) (one 8 3 0) ≡ none
  pub plain : changes_of (edition_of 1) two ≡ some (put (97 ∷ []) (unstamped (49 ∷ [])) ∷ erase (97 ∷ []) ∷ [])
  -- no change at all
  pub empty : changes_of (edition_of 1) (0 ∷ 0 ∷ 0 ∷ 0 ∷ []) ≡ some []
  -- shorter than its count; an offset that is not there; a count that is too large
  pub short : changes_of (edition_of 1) (0 ∷ 0 ∷ 0 ∷ []) ≡ none
  pub outside : changes_of (edition_of 1) (1 ∷ 0 ∷ 0 ∷ 0 ∷ []) ≡ none
  pub large : changes_of (edition_of 1) (255 ∷ 255 ∷ 255 ∷ 255 ∷ []) ≡ none
  -- the offset lies in the header, or past the end; an unknown kind; a key that runs past the end
  pub in_header : changes_of (edition_of 1) (one 7 3 0) ≡ none
  pub past : changes_of (edition_of 1) (one 9 3 0) ≡ none
  pub kind4 : changes_of (edition_of 1) (one 8 4 0) ≡ none
  pub key_past : changes_of (edition_of 1) (one 8 3 1) ≡ none
  -- an empty key is no fault of the layout: the change gets its own 3
  pub empty_key : changes_of (edition_of 1) (one 8 3 0) ≡ some (erase [] ∷ [])
