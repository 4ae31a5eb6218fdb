-- An inner body of any kind: what a call counts on, and what it leaves.
use Rattle.std.specs.Prelude.{ℕ, ◌+◌, ◌*◌, ◌-◌, ◌<◌, ◌≤◌, ◌≡◌, List, [], ◌∷◌, ◌⊎◌, length, get_or, set, eqb, ltb}
use Rattle.std.proofs.Math.Option.{none, some}
use Rattle.layout.specs.Number.{byte_at, put}
use Rattle.layout.specs.Place.{node4_bytes, node16_bytes, node48_index, node48_children, node256_children}
use Rattle.layout.specs.Kind.{node48_kind, body_size, most}
use Rattle.model.specs.Strings.{pick}
use Rattle.model.specs.Body.{InnerAt, Zero, look_kid, child_in}
use Rattle.node.specs.Kids.{insert_kid, remove_kid, Reached}
use Rattle.moves.specs.Moved.{Only}
use Rattle.node_big.specs.Indexed.{Lowest, Numbered}

-- ---- places

-- where the bytes of a Node4 or Node16 start
abbrev pub sorted_bytes : ℕ → ℕ
sorted_bytes kind = get_or (0 ∷ 0 ∷ 0 ∷ 0 ∷ node4_bytes ∷ node16_bytes ∷ []) kind 0

-- the place of byte b in a Node48, and 0 in the other kinds, as `Places` of model has it
abbrev pub place_at : List ℕ → ℕ → ℕ → ℕ → ℕ
place_at f o kind b = pick (eqb kind node48_kind) (byte_at f (o + node48_index + b)) 0

-- where the child of byte b stands, which is the i-th from 0; j is its place in a Node48
unfoldable pub link_at : ℕ → ℕ → ℕ → ℕ → ℕ → ℕ
link_at o kind i j b =
    pick (ltb kind node48_kind) (o + sorted_bytes kind + most kind + 4 * i)
    (pick (eqb kind node48_kind) (o + node48_children + 4 * (j - 1)) (o + node256_children + 4 * b))

-- the i-th child, behind the others, at byte b: its place is i + 1 in a Node48. The count is left.
unfoldable pub appended : List ℕ → ℕ → ℕ → ℕ → ℕ → ℕ → List ℕ
appended f o kind i b slot =
    pick (ltb kind node48_kind) (put 4 (set f (o + sorted_bytes kind + i) b) (o + sorted_bytes kind + most kind + 4 * i) slot)
    (pick (eqb kind node48_kind) (put 4 (set f (o + node48_index + b) (i + 1)) (o + node48_children + 4 * i) slot) (put 4 f (o + node256_children + 4 * b) slot))

-- ---- what a call counts on

-- a body of some children
pub record NodeSome (f : List ℕ) (o kind : ℕ) : Type 0 where
  pub kids : List (ℕ × ℕ)
  pub node : InnerAt f o kind kids

-- with room for one more
pub record NodeOpen (f : List ℕ) (o kind : ℕ) : Type 0 where
  pub kids : List (ℕ × ℕ)
  pub node : InnerAt f o kind kids
  pub few : length kids < most kind

-- with byte b among them
pub record NodeHas (f : List ℕ) (o kind b : ℕ) : Type 0 where
  pub kids : List (ℕ × ℕ)
  pub node : InnerAt f o kind kids
  pub child : ℕ
  pub has : look_kid b kids ≡ some child

-- a walk through the children stands before the i-th
pub record Visit (f : List ℕ) (o kind i at : ℕ) : Type 0 where
  pub kids : List (ℕ × ℕ)
  pub node : InnerAt f o kind kids
  pub inside : i < length kids
  pub reached : Reached kids i at
  pub low : at ≤ 256

-- children at `from` that a zeroed body of another kind has room for, elsewhere
pub record Carry (f : List ℕ) (from kind to kind' : ℕ) : Type 0 where
  pub kids : List (ℕ × ℕ)
  pub node : InnerAt f from kind kids
  pub slots : (i : ℕ) → i < length kids → 1 ≤ child_in kids i
  pub range : (4 ≤ kind') × (kind' ≤ 7)
  pub fits : length kids ≤ most kind'
  pub room : to + body_size kind' ≤ length f
  pub zeros : Zero f to (body_size kind')
  pub apart : (from + body_size kind ≤ to) ⊎ (to + body_size kind' ≤ from)

-- ---- what it leaves

-- the place of every byte but b
abbrev pub OtherPlaces : List ℕ → List ℕ → ℕ → ℕ → ℕ → Type 0
OtherPlaces f g o kind b = (d : ℕ) → d < 256 → (d ≡ b → ⊥) → place_at g o kind d ≡ place_at f o kind d

pub record Emptied (f g : List ℕ) (o kind : ℕ) : Type 0 where
  pub only : Only f g o (o + body_size kind)
  pub zeros : Zero g o (body_size kind)
  pub inner : InnerAt g o kind []

pub record Added (f g : List ℕ) (o kind b slot : ℕ) : Type 0 where
  pub only : Only f g o (o + body_size kind)
  pub inner : (ks : List (ℕ × ℕ)) → InnerAt f o kind ks → look_kid b ks ≡ none → InnerAt g o kind (insert_kid b slot ks)
  -- "a new child takes the lowest empty place"
  pub lowest : kind ≡ node48_kind → Lowest f (o + node48_index) (place_at g o kind b)
  pub others : OtherPlaces f g o kind b

pub record Removed (f g : List ℕ) (o kind b : ℕ) : Type 0 where
  pub only : Only f g o (o + body_size kind)
  pub inner : (ks : List (ℕ × ℕ)) → InnerAt f o kind ks → InnerAt g o kind (remove_kid b ks)
  pub others : OtherPlaces f g o kind b

pub record Carried (f g : List ℕ) (from kind to kind' : ℕ) : Type 0 where
  pub only : Only f g to (to + body_size kind')
  pub inner : (ks : List (ℕ × ℕ)) → InnerAt f from kind ks → InnerAt g to kind' ks
  -- "children carried over from another kind take places 1, 2 and so on in byte order"
  pub numbered : (ks : List (ℕ × ℕ)) → InnerAt f from kind ks → kind' ≡ node48_kind → Numbered g to (length ks) ks
