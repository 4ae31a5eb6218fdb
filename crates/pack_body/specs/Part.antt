-- What a writer of the packed frame counts on, and what it leaves in its part: "each body and extent is written in a lent part of the output
-- that starts at its offset".
use Rattle.std.specs.Prelude.{ℕ, suc, ◌+◌, ◌≤◌, ◌≡◌, List, [], ◌∷◌, ◌++◌, length, eqb}
use Rattle.layout.specs.Place.{header_size}
use Rattle.layout.specs.Kind.{leaf_kind, prefix_kind, node4_kind, node16_kind, node48_kind, body_size}
use Rattle.model.specs.Strings.{pick}
use Rattle.model.specs.Edition.{Edition, Value}
use Rattle.model.specs.Tree.Art.{leaf}
use Rattle.model.specs.Image.{digits, numbers, padded, spread, up_from, size, bodies, header}
use Rattle.model.specs.Body.{Zero, Has, LeafAt, PrefixAt}
use Rattle.moves.specs.Moved.{Only}

-- ---- the header

-- of every edition that has the number e
pub record HeaderWritten (before after : List ℕ) (e f n b u r : ℕ) : Type 0 where
  pub only : Only before after 0 header_size
  pub is : (E : Edition) → E.number ≡ e → Has after 0 (header E f n b u r)

-- ---- a Leaf

-- the Leaf at o of f can go to the part, which is zero where it goes and starts at `at` of the output
pub record LeafCopies (f : List ℕ) (o : ℕ) (part : List ℕ) (at : ℕ) : Type 0 where
  pub extent : ℕ
  pub key : List ℕ
  pub value : Value
  pub inside : o + body_size leaf_kind ≤ length f
  pub stands : LeafAt f o extent key value
  pub room : size (leaf key value) ≤ length part
  pub zeros : Zero part 0 (size (leaf key value))
  pub low : at ≤ 524288

-- it takes r bytes
pub record LeafCopied (f : List ℕ) (o : ℕ) (before after : List ℕ) (at r : ℕ) : Type 0 where
  pub only : Only before after 0 r
  pub is : (e : ℕ) (k : List ℕ) (v : Value) → LeafAt f o e k v → (r ≡ size (leaf k v)) × ((s : ℕ) → Has after 0 (bodies (leaf k v) s at))

-- ---- a Prefix

pub record PrefixCopies (f : List ℕ) (o : ℕ) (part : List ℕ) : Type 0 where
  pub bytes : List ℕ
  pub below : ℕ
  pub stands : PrefixAt f o bytes below
  pub room : body_size prefix_kind ≤ length part

pub record PrefixCopied (f : List ℕ) (o : ℕ) (before after : List ℕ) (child : ℕ) : Type 0 where
  pub only : Only before after 0 (body_size prefix_kind)
  pub is : (p : List ℕ) (below : ℕ) → PrefixAt f o p below → Has after 0 (padded 16 (digits 4 child ++ digits 2 (length p)) ++ padded 112 p)

-- ---- an inner node

-- bytes from lo on, strictly ascending
unfoldable pub Ascending : ℕ → List ℕ → Type 0
Ascending lo [] = Unit {0}
Ascending lo (b ∷ bs) = (lo ≤ b) × Ascending (suc b) bs

-- the body of a node of n children while only the first of them are there: their bytes bs, their slots ss
unfoldable pub part_body : ℕ → ℕ → List ℕ → List ℕ → List ℕ
part_body kind n bs ss =
    pick (eqb kind node4_kind) (padded 4 (digits 2 n) ++ padded 4 bs ++ padded 16 (numbers 4 ss))
    (pick (eqb kind node16_kind) (padded 8 (digits 2 n) ++ padded 16 bs ++ padded 64 (numbers 4 ss))
    (pick (eqb kind node48_kind) (padded 8 (digits 2 n) ++ spread 256 0 bs (up_from 1 (length bs)) ++ padded 192 (numbers 4 ss))
    (padded 8 (digits 2 n) ++ numbers 4 (spread 256 0 bs ss))))

pub record NodeStarted (before after : List ℕ) (kind n : ℕ) : Type 0 where
  pub only : Only before after 0 (body_size kind)
  pub is : Has after 0 (part_body kind n [] [])

-- the i-th child was written, at byte b
pub record ChildWritten (before after : List ℕ) (kind i b slot : ℕ) : Type 0 where
  pub only : Only before after 0 (body_size kind)
  pub more : (n : ℕ) (bs ss : List ℕ) → length bs ≡ i → length ss ≡ i → Ascending 0 (bs ++ b ∷ []) → Has before 0 (part_body kind n bs ss)
      → Has after 0 (part_body kind n (bs ++ b ∷ []) (ss ++ slot ∷ []))
