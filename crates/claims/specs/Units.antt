-- The map of the exact check: one bit for each unit of 8 bytes, in words of 64 bits, and the items that such a map shows.
use Rattle.std.specs.Prelude.{ℕ, ◌+◌, ◌*◌, ◌/◌, ◌%◌, ◌^◌, ◌<◌, ◌≤◌, ◌≡◌, List, [], ◌∷◌, get_or}
use Rattle.layout.specs.Kind.{body_size}
use Rattle.model.specs.Item.{Item, body, extent, inside, on_slot, cover, bulk, sum}

-- ---- bits

-- binary digit j of w, 0 or 1
unfoldable pub digit : ℕ → ℕ → ℕ
digit w j = w / 2 ^ j % 2

-- the mark of unit u
unfoldable pub bit : List ℕ → ℕ → ℕ
bit m u = digit (get_or m (u / 64) 0) (u % 64)

-- b has just the digits lo to lo + n - 1
pub record Mask (lo n b : ℕ) : Type 0 where
  pub digits : (j : ℕ) → digit b j ≡ inside lo n j

-- r units from at on, left at most, and all in at's word
pub record Run (at left r : ℕ) : Type 0 where
  pub some : 1 ≤ r
  pub most : r ≤ left
  pub in_word : at % 64 + r ≤ 64

-- ---- what a claim does

-- the n units from lo got their marks, which none of them had (a mark is at most 1), and no other mark changed
pub record Claimed (lo n : ℕ) (m m' : List ℕ) : Type 0 where
  pub marks : (u : ℕ) → bit m' u ≡ bit m u + inside lo n u

-- one of the n units from lo has its mark
pub record Taken (lo n : ℕ) (m : List ℕ) : Type 0 where
  pub unit : ℕ
  pub from : lo ≤ unit
  pub below : unit < lo + n
  pub mark : bit m unit ≡ 1

-- ---- items

-- a property of every item of a list
abbrev pub Each : (Item → Type 0) → List Item → Type 0
Each P [] = Unit {0}
Each P (i ∷ is) = P i × Each P is

-- where it starts
unfoldable pub place : Item → ℕ
place (body s k o) = o
place (extent e n) = e

-- it starts at a multiple of 8 and its size is one, so that it covers a byte just if it covers the first byte of its unit
pub record Eighth (i : Item) : Type 0 where
  pub start : place i % 8 ≡ 0
  pub whole : bulk i % 8 ≡ 0

abbrev pub Eighths : List Item → Type 0
Eighths = Each Eighth

-- it lies between d and b
pub record Within (d b : ℕ) (i : Item) : Type 0 where
  pub low : d ≤ place i
  pub high : place i + bulk i ≤ b

-- its slot, if it is a body, is one of 1 to u and tells its place by p, and it has a size
abbrev pub Slotted : ℕ → (ℕ → ℕ) → Item → Type 0
Slotted u p (body s k o) = (1 ≤ s) × (s ≤ u) × (p s ≡ o) × (1 ≤ body_size k)
Slotted u p (extent e n) = Unit {0}

-- what Sound says of slots
pub record Slots (u : ℕ) (is : List Item) : Type 0 where
  pub once : (s : ℕ) → 1 ≤ s → s ≤ u → sum (on_slot s) is ≡ 1
  pub zeroth : sum (on_slot 0) is ≡ 0
  pub past : (s : ℕ) → u < s → sum (on_slot s) is ≡ 0

-- the map shows just these items
pub record Seen (m : List ℕ) (is : List Item) : Type 0 where
  pub marks : (u : ℕ) → bit m u ≡ sum (cover (8 * u)) is

-- what Sound says of bytes
pub record Fits (d b : ℕ) (is : List Item) : Type 0 where
  pub apart : (a : ℕ) → sum (cover a) is ≤ 1
  pub low : (a : ℕ) → a < d → sum (cover a) is ≡ 0
  pub high : (a : ℕ) → b ≤ a → sum (cover a) is ≡ 0
