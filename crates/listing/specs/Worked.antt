-- Worked listings of one set of names as one table, each row derived from document 02's text by hand: a, a/b, a/c, ab, b/x, b/y, c.
use Rattle.std.specs.Prelude.{ℕ, ◌≡◌, List, [], ◌∷◌}
use Rattle.std.proofs.Math.Option.{Option, none, some}
use Rattle.model.specs.Edition.{edition_of, unstamped}
use Rattle.model.specs.Records.{Record}
use Rattle.listing.specs.Listing.{listing}

-- a record of no bytes
abbrev pub key : List ℕ → Record
key k = record { key = k; value = unstamped [] }

abbrev pub set : List Record
set = key (97 ∷ []) ∷ key (97 ∷ 47 ∷ 98 ∷ []) ∷ key (97 ∷ 47 ∷ 99 ∷ []) ∷ key (97 ∷ 98 ∷ []) ∷ key (98 ∷ 47 ∷ 120 ∷ []) ∷ key (98 ∷ 47 ∷ 121 ∷ []) ∷ key (99 ∷ []) ∷ []

pub record Row : Type 0 where
  pub prefix : List ℕ
  pub start : Option (List ℕ)
  pub delimiter : Option ℕ
  pub room : ℕ
  pub number : ℕ
  pub count : ℕ
  pub more : ℕ
  pub text : List ℕ

abbrev pub row : List ℕ → Option (List ℕ) → Option ℕ → ℕ → ℕ → ℕ → ℕ → List ℕ → Row
row p s d room n c m t = record { prefix = p; start = s; delimiter = d; room = room; number = n; count = c; more = m; text = t }

abbrev pub table : List Row
table =
    -- all names, no delimiter, room for the first two: 2 + 1 and 2 + 3 are 8 of 12; a/c would need 5 more
    row [] none none 12 0 2 1 (1 ∷ 0 ∷ 97 ∷ 3 ∷ 0 ∷ 97 ∷ 47 ∷ 98 ∷ [])
    -- after a/b, 8 bytes: a/c (5); ab needs 4 and 3 are left
    ∷ row [] (some (97 ∷ 47 ∷ 98 ∷ [])) none 8 0 1 1 (3 ∷ 0 ∷ 97 ∷ 47 ∷ 99 ∷ [])
    -- with '/': a, a/, ab, b/, c, and the last one fits exactly: 3 + 4 + 4 + 4 + 3 = 18
    ∷ row [] none (some 47) 18 0 5 0 (1 ∷ 0 ∷ 97 ∷ 2 ∷ 0 ∷ 97 ∷ 47 ∷ 2 ∷ 0 ∷ 97 ∷ 98 ∷ 2 ∷ 0 ∷ 98 ∷ 47 ∷ 1 ∷ 0 ∷ 99 ∷ [])
    -- the group a/ as start key: not again, and nothing of it
    ∷ row [] (some (97 ∷ 47 ∷ [])) (some 47) 18 0 3 0 (2 ∷ 0 ∷ 97 ∷ 98 ∷ 2 ∷ 0 ∷ 98 ∷ 47 ∷ 1 ∷ 0 ∷ 99 ∷ [])
    -- a key inside the group as start key: a/ does not sort after a/b
    ∷ row [] (some (97 ∷ 47 ∷ 98 ∷ [])) (some 47) 18 0 3 0 (2 ∷ 0 ∷ 97 ∷ 98 ∷ 2 ∷ 0 ∷ 98 ∷ 47 ∷ 1 ∷ 0 ∷ 99 ∷ [])
    -- prefix a/ : the delimiter in the prefix does not count
    ∷ row (97 ∷ 47 ∷ []) none (some 47) 18 0 2 0 (3 ∷ 0 ∷ 97 ∷ 47 ∷ 98 ∷ 3 ∷ 0 ∷ 97 ∷ 47 ∷ 99 ∷ [])
    -- prefix a: a itself matches
    ∷ row (97 ∷ []) none (some 47) 18 0 3 0 (1 ∷ 0 ∷ 97 ∷ 2 ∷ 0 ∷ 97 ∷ 47 ∷ 2 ∷ 0 ∷ 97 ∷ 98 ∷ [])
    -- start key above all that begins with the prefix; below it
    ∷ row (97 ∷ []) (some (98 ∷ [])) none 18 0 0 0 []
    ∷ row (98 ∷ []) (some (97 ∷ [])) none 5 0 1 1 (3 ∷ 0 ∷ 98 ∷ 47 ∷ 120 ∷ [])
    -- no match: 0 whatever the buffer, also of no bytes; a match and no room: 10
    ∷ row (100 ∷ []) none none 0 0 0 0 []
    ∷ row [] none none 2 10 0 0 []
    ∷ row [] (some (99 ∷ [])) none 0 0 0 0 []
    -- a prefix may hold a byte 0, a start key may not, nor be empty
    ∷ row (0 ∷ []) none none 18 0 0 0 []
    ∷ row [] (some (97 ∷ 0 ∷ [])) none 18 4 0 0 []
    ∷ row [] (some []) none 18 3 0 0 []
    ∷ []

abbrev pub Gives : Row → Type 0
Gives x = listing (edition_of 1) set x.prefix x.start x.delimiter x.room ≡ record { number = x.number; count = x.count; more = x.more; text = x.text }

abbrev pub Worked : List Row → Type 0
Worked [] = Unit {0}
Worked (x ∷ xs) = Gives x × Worked xs
