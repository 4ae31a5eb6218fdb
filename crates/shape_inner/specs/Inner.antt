-- What the tests of an inner node decide, and the lists of children that its bytes give.
use Rattle.std.specs.Prelude.{ℕ, zero, suc, ◌+◌, ◌*◌, ◌<◌, ◌≤◌, ◌≡◌, List, [], ◌∷◌, length, get_or}
use Rattle.std.proofs.Math.Option.{Option, none, some}
use Rattle.layout.specs.Number.{le, byte_at}
use Rattle.layout.specs.Place.{node48_index, node48_children, node256_children}
use Rattle.layout.specs.Kind.{fewest, most}
use Rattle.model.specs.Body.{Asc, Named, named_child, slot_or_none, InnerAt}

-- "Children in use: Node4 2 to 4, Node16 4 to 16, Node48 13 to 48, Node256 38 to 256"
pub record CountFits (kind n : ℕ) : Type 0 where
  pub least : fewest kind ≤ n
  pub at_most : n ≤ most kind

-- an inner node of the kind stands at o, with as many children as the kind may have
pub record InnerHere (f : List ℕ) (o kind : ℕ) : Type 0 where
  pub kids : List (ℕ × ℕ)
  pub is : InnerAt f o kind kids
  pub fits : CountFits kind (length kids)

-- ---- Node4 and Node16

-- n children, their bytes from b on and their slots from c on
unfoldable pub sorted_kids : List ℕ → ℕ → ℕ → ℕ → List (ℕ × ℕ)
sorted_kids f b c zero = []
sorted_kids f b c (suc n) = (byte_at f b, le 4 f c) ∷ sorted_kids f (b + 1) (c + 4) n

-- of cap places with bytes at `at` and slots behind them, those from n to m are zero
pub record Unused (f : List ℕ) (at cap n m : ℕ) : Type 0 where
  pub bytes : (i : ℕ) → n ≤ i → i < m → byte_at f (at + i) ≡ 0
  pub children : (i : ℕ) → n ≤ i → i < m → le 4 f (at + cap + 4 * i) ≡ 0

-- n of cap places are used, and ascend; the others are zero
pub record SortedHere (f : List ℕ) (at cap n : ℕ) : Type 0 where
  pub rising : Asc 0 (sorted_kids f at (at + cap) n)
  pub unused : Unused f at cap n cap

-- ---- Node48 and Node256

-- 1 for a child or an entry that is in use, which is one that is not 0
unfoldable pub in_use : ℕ → ℕ
in_use zero = 0
in_use (suc x) = 1

-- a byte with its child, if it has one, before others
unfoldable pub prepend : ℕ → Option ℕ → List (ℕ × ℕ) → List (ℕ × ℕ)
prepend b none ks = ks
prepend b (some c) ks = (b, c) ∷ ks

-- the children of the n bytes from b on, if `child` says which child a byte has
unfoldable pub kids_from : (ℕ → Option ℕ) → ℕ → ℕ → List (ℕ × ℕ)
kids_from child b zero = []
kids_from child b (suc n) = prepend b (child b) (kids_from child (suc b) n)

-- the child that a byte has in a Node48 at o, and in a Node256
abbrev pub child48 : List ℕ → ℕ → ℕ → Option ℕ
child48 f o b = named_child f o (byte_at f (o + node48_index + b))

abbrev pub child256 : List ℕ → ℕ → ℕ → Option ℕ
child256 f o b = slot_or_none (le 4 f (o + node256_children + 4 * b))

abbrev pub kids48 : List ℕ → ℕ → List (ℕ × ℕ)
kids48 f o = kids_from (child48 f o) 0 256

abbrev pub kids256 : List ℕ → ℕ → List (ℕ × ℕ)
kids256 f o = kids_from (child256 f o) 0 256

-- of the 48 children at `at`, those that are not marked are zero
abbrev pub Unmarked : List ℕ → ℕ → List ℕ → Type 0
Unmarked f at seen = (p : ℕ) → p < 48 → get_or seen (p + 1) 0 ≡ 0 → le 4 f (at + 4 * p) ≡ 0

-- a Node48's index and children, n of them in use
pub record IndexedHere (f : List ℕ) (o n : ℕ) : Type 0 where
  pub place : (b : ℕ) → b < 256 → byte_at f (o + node48_index + b) ≤ 48
  pub once : (b d : ℕ) → b < 256 → d < 256 → byte_at f (o + node48_index + b) ≡ byte_at f (o + node48_index + d) → 1 ≤ byte_at f (o + node48_index + b) → b ≡ d
  pub unused : (p : ℕ) → p < 48 → (Named f (o + node48_index) (p + 1) → ⊥) → le 4 f (o + node48_children + 4 * p) ≡ 0
  pub counted : length (kids48 f o) ≡ n
