-- What the writing of a Prefix counts on, and what it leaves.
use Rattle.std.specs.Prelude.{ℕ, ◌+◌, ◌-◌, ◌<◌, ◌≤◌, ◌≡◌, List, ◌++◌, ◌⊎◌, length, take, drop}
use Rattle.model.specs.Body.{PrefixAt}
use Rattle.moves.specs.Moved.{Only}

-- a Prefix of bytes p and this child at o
pub record PrefixWritten (f g : List ℕ) (o : ℕ) (p : List ℕ) (child : ℕ) : Type 0 where
  pub only : Only f g o (o + 128)
  pub at : PrefixAt g o p child

-- the Prefix at o has room for n bytes more
pub record Spare (f : List ℕ) (o n : ℕ) : Type 0 where
  pub bytes : List ℕ
  pub below : ℕ
  pub at : PrefixAt f o bytes below
  pub room : length bytes + n ≤ 112

-- the Prefix at o, and the Prefix at low, which stands elsewhere
pub record Two (f : List ℕ) (o low : ℕ) : Type 0 where
  pub bytes : List ℕ
  pub below : ℕ
  pub at : PrefixAt f o bytes below
  pub lower : List ℕ
  pub child : ℕ
  pub lower_at : PrefixAt f low lower child
  pub apart : (o + 128 ≤ low) ⊎ (low + 128 ≤ o)

-- the upper one has room for the first k bytes of the other; for all of them; not for all
pub record Gets (f : List ℕ) (o low k : ℕ) : Type 0 where
  pub two : Two f o low
  pub few : k ≤ length two.lower
  pub room : length two.bytes + k ≤ 112

pub record Joins (f : List ℕ) (o low : ℕ) : Type 0 where
  pub two : Two f o low
  pub room : length two.bytes + length two.lower ≤ 112

pub record Draws (f : List ℕ) (o low : ℕ) : Type 0 where
  pub two : Two f o low
  pub more : 112 < length two.bytes + length two.lower

-- the upper one is full, and the other has the rest
pub record Drawn (f g : List ℕ) (o low : ℕ) : Type 0 where
  pub mid : List ℕ
  pub upper : Only f mid o (o + 128)
  pub lower : Only mid g low (low + 128)
  pub at : (p : List ℕ) (c : ℕ) (q : List ℕ) (d : ℕ) → PrefixAt f o p c → PrefixAt f low q d → PrefixAt g o (p ++ take (112 - length p) q) c × PrefixAt g low (drop (112 - length p) q) d

-- the Prefix at o has more than q bytes
pub record Longer (f : List ℕ) (o q : ℕ) : Type 0 where
  pub bytes : List ℕ
  pub below : ℕ
  pub at : PrefixAt f o bytes below
  pub more : q < length bytes

-- it lost its first q bytes
pub record Shortened (f g : List ℕ) (o q : ℕ) : Type 0 where
  pub only : Only f g o (o + 128)
  pub at : (p : List ℕ) (c : ℕ) → PrefixAt f o p c → q < length p → PrefixAt g o (drop q p) c

-- the Prefix at o is full
pub record Full (f : List ℕ) (o : ℕ) : Type 0 where
  pub bytes : List ℕ
  pub below : ℕ
  pub at : PrefixAt f o bytes below
  pub long : length bytes ≡ 112

-- the bodies at o and at low do not overlap
abbrev pub Elsewhere : ℕ → ℕ → Type 0
Elsewhere o low = (o + 128 ≤ low) ⊎ (low + 128 ≤ o)
