-- What the tests of single things decide: "A good frame", as far as it speaks of one header, one Leaf, one Prefix.
use Rattle.std.specs.Prelude.{ℕ, ◌+◌, ◌<◌, ◌≤◌, ◌%◌, ◌≡◌, List, Option, Some, None, Bool, true, false, length, get_or}
use Rattle.layout.specs.Number.{le}
use Rattle.layout.specs.Place.{at_f, at_n, at_b, at_u, at_r, at_x, at_root, data_start}
use Rattle.model.specs.Strings.{has_zero}
use Rattle.model.specs.Edition.{Edition, Value}
use Rattle.model.specs.Tree.{extent_of}
use Rattle.model.specs.Body.{PrefixAt}
use Rattle.model.specs.Frame.{Numbers, FrameLength, SlotCapacity, Header, Begins, LeafOf}
use Rattle.keys.specs.Word.{ended}
use Rattle.shape.specs.declared.leaf.Extent.{Extent}

-- ---- the header

-- refusal 1: "the slice's length against F's limits, or against the stored F"
pub record LengthFits (f : List ℕ) : Type 0 where
  pub limits : FrameLength (length f)
  pub stored : le 4 f at_f ≡ length f

-- N, D, B and U of a frame of F bytes
pub record NumbersFit (F N D B U : ℕ) : Type 0 where
  pub slot_cap : SlotCapacity N
  pub data_is : D ≡ data_start N
  pub bump_in : (B % 8 ≡ 0) × (data_start N + 8 ≤ B) × (B ≤ F)
  pub given_in : (1 ≤ U) × (U ≤ N)

-- what the header's fields hold, for a frame that is looked at as one of an edition
abbrev pub numbers_of : Edition → List ℕ → Numbers
numbers_of E f =
    record {
      edition = E;
      F = le 4 f at_f;
      N = le 4 f at_n;
      B = le 4 f at_b;
      U = le 4 f at_u;
      R = le 4 f at_r;
      X = le 4 f at_x;
      root = le 2 f at_root;
    }

-- the header is a good one of every edition with the number of E, and its numbers are what its fields hold; or it is none, whatever the numbers
pub record HeaderTold (E : Edition) (f : List ℕ) (r : Bool) : Type 0 where
  pub holds : r ≡ true → (G : Edition) → G.number ≡ E.number → Header f (numbers_of G f)
  pub fails : r ≡ false → (h : Numbers) → Header f h → h.edition.number ≡ E.number → ⊥

-- ---- a Prefix

pub record PrefixHere (f : List ℕ) (o : ℕ) : Type 0 where
  pub bytes : List ℕ
  pub child : ℕ
  pub is : PrefixAt f o bytes child

-- ---- a Leaf

-- an extent of a number of bytes at e lies between d and b
pub record ExtentFits (e size d b : ℕ) : Type 0 where
  pub eights : e % 8 ≡ 0
  pub low : d ≤ e
  pub high : e + size ≤ b

-- the first depth bytes of a path are no more than k, or k and then a byte 0
pub record Ends (path : List ℕ) (k depth : ℕ) : Type 0 where
  pub short : depth ≤ k + 1
  pub end : k < depth → get_or path k 0 ≡ 0

-- a legal key whose walked string begins with the path
pub record Under (E : Edition) (path key : List ℕ) : Type 0 where
  pub legal : E.key_fault key ≡ 0
  pub begins : Begins (E.walked key) path

-- the same by edition 1: 1 to 112 bytes, none of them 0, which with the byte 0 at their end begin with the path
pub record PlainUnder (path key : List ℕ) : Type 0 where
  pub some : 1 ≤ length key
  pub most : length key ≤ 112
  pub clean : has_zero key ≡ false
  pub begins : Begins (ended key) path

-- a Leaf to which the path leads, with an extent of the size at e, between d and b
pub record LeafHere (E : Edition) (f path : List ℕ) (o d b e size : ℕ) : Type 0 where
  pub key : List ℕ
  pub value : Value
  pub is : LeafOf E f path o e key value
  pub long : size ≡ extent_of key value
  pub low : d ≤ e
  pub high : e + size ≤ b

-- such a Leaf stands at o, with the extent told; or none does, whatever the extent
pub record LeafTold (E : Edition) (f path : List ℕ) (o d b : ℕ) (r : Option Extent) : Type 0 where
  pub holds : (x : Extent) → r ≡ Some x → LeafHere E f path o d b x.place x.size
  pub fails : r ≡ None → (e n : ℕ) → LeafHere E f path o d b e n → ⊥
