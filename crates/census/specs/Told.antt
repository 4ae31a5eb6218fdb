-- What a part of the exact check tells: items that are there, claimed in the map and counted; or that no good frame has them there.
use Rattle.std.specs.Prelude.{ℕ, ◌+◌, ◌*◌, ◌<◌, ◌≤◌, ◌≡◌, List, [], ◌∷◌, ◌++◌, Option, Some, None}
use Rattle.layout.specs.Kind.{body_size}
use Rattle.layout.specs.Entry.{place_of}
use Rattle.model.specs.Item.{Item, body, extent, on_slot, cover, bulk, sum}
use Rattle.claims.specs.Units.{bit, Each, Eighth, Within, Slotted, Seen}
use Rattle.census.specs.declared.Sums.{Sums}

-- ---- items

-- is it a body, is it an extent
unfoldable pub is_body : Item → ℕ
is_body (body s k o) = 1
is_body (extent e n) = 0

unfoldable pub is_extent : Item → ℕ
is_extent (body s k o) = 0
is_extent (extent e n) = 1

-- what the items of a good frame keep, and any part of them: `Sound` without the demand that every slot and byte is there
pub record Tidy (d u b : ℕ) (is : List Item) : Type 0 where
  pub apart : (a : ℕ) → sum (cover a) is ≤ 1
  pub low : (a : ℕ) → a < d → sum (cover a) is ≡ 0
  pub high : (a : ℕ) → b ≤ a → sum (cover a) is ≡ 0
  pub zeroth : sum (on_slot 0) is ≡ 0
  pub past : (s : ℕ) → u < s → sum (on_slot s) is ≡ 0
  pub few : sum is_body is ≤ u

-- at a multiple of 8 between d and b, and a body's slot is one of 1 to u and tells its place
pub record Sited (f : List ℕ) (d u b : ℕ) (i : Item) : Type 0 where
  pub eighth : Eighth i
  pub within : Within d b i
  pub slotted : Slotted u (place_of f) i

-- ---- counts

-- counts that wrap nothing: at most u bodies, no more extents than bodies, and x of these still to come
pub record Tally (u x : ℕ) (t : Sums) : Type 0 where
  pub slots : t.slots ≤ u
  pub bytes : t.bytes + 524288 * x ≤ 1048576 * t.slots
  pub leaves : t.leaves + x ≤ t.slots

-- a map and counts of these items
pub record Book (m : List ℕ) (t : Sums) (is : List Item) : Type 0 where
  pub seen : Seen m is
  pub slots : t.slots ≡ sum is_body is

-- the items xs were claimed and counted
pub record Grown (m : List ℕ) (t : Sums) (m' : List ℕ) (t' : Sums) (xs : List Item) : Type 0 where
  pub marks : (v : ℕ) → bit m' v ≡ bit m v + sum (cover (8 * v)) xs
  pub slots : t'.slots ≡ t.slots + sum is_body xs
  pub bytes : t'.bytes ≡ t.bytes + sum bulk xs
  pub leaves : t'.leaves ≡ t.leaves + sum is_extent xs

-- ---- one item

-- a body of whatever slot was claimed and counted, and an extent may follow
pub record BodyTaken (d u b kind o : ℕ) (m : List ℕ) (t : Sums) (m' : List ℕ) (t' : Sums) : Type 0 where
  pub tally : Tally u 1 t'
  pub low : d ≤ o
  pub high : o + body_size kind ≤ b
  pub grown : (s : ℕ) → Grown m t m' t' (body s kind o ∷ [])

pub record BodyTold (d u b kind o : ℕ) (m : List ℕ) (t : Sums) (m' : List ℕ) (r : Option Sums) : Type 0 where
  pub holds : (t' : Sums) → r ≡ Some t' → BodyTaken d u b kind o m t m' t'
  pub fails : r ≡ None → (is : List Item) → Book m t is → (s : ℕ) → Tidy d u b (body s kind o ∷ is) → ⊥

pub record ExtentTaken (u e n : ℕ) (m : List ℕ) (t : Sums) (m' : List ℕ) (t' : Sums) : Type 0 where
  pub tally : Tally u 0 t'
  pub grown : Grown m t m' t' (extent e n ∷ [])

pub record ExtentTold (u e n : ℕ) (m : List ℕ) (t : Sums) (m' : List ℕ) (r : Option Sums) : Type 0 where
  pub holds : (t' : Sums) → r ≡ Some t' → ExtentTaken u e n m t m' t'
  pub fails : r ≡ None → (is : List Item) → Book m t is → ((a : ℕ) → sum (cover a) (extent e n ∷ is) ≤ 1) → ⊥

-- ---- many

-- some items of which H holds were claimed and counted
pub record Held (H : List Item → Type 0) (f : List ℕ) (d u b : ℕ) (m : List ℕ) (t : Sums) (m' : List ℕ) (t' : Sums) : Type 0 where
  pub items : List Item
  pub are : H items
  pub grown : Grown m t m' t' items
  pub sited : Each (Sited f d u b) items
  pub tally : Tally u 0 t'

-- or any of which P holds are too many, overlap, or lie outside
pub record Told (H P : List Item → Type 0) (f : List ℕ) (d u b : ℕ) (m : List ℕ) (t : Sums) (m' : List ℕ) (r : Option Sums) : Type 0 where
  pub holds : (t' : Sums) → r ≡ Some t' → Held H f d u b m t m' t'
  pub fails : r ≡ None → (is : List Item) → Book m t is → (xs : List Item) → P xs → Tidy d u b (xs ++ is) → ⊥
