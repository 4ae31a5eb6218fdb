-- What stands packed in the output: the entries of slots that follow one another, and bodies and extents that "follow one another .. a Leaf's
-- extent right after its body". The rest of the output is as it was.
use Rattle.std.specs.Prelude.{ℕ, ◌+◌, ◌<◌, ◌≤◌, ◌≡◌, List, [], ◌∷◌, ◌++◌, length}
use Rattle.layout.specs.Number.{byte_at}
use Rattle.layout.specs.Place.{entry_at}
use Rattle.layout.specs.Kind.{leaf_kind, prefix_kind, body_size, most}
use Rattle.layout.specs.Entry.{entry_of}
use Rattle.model.specs.Edition.{Value}
use Rattle.model.specs.Tree.Art.{leaf}
use Rattle.model.specs.Image.{digits, numbers, padded, size, entries, bodies}
use Rattle.model.specs.Body.{Has, LeafAt, PrefixAt}
use Rattle.moves.specs.Moved.{Only}
use Rattle.pack_body.specs.Part.{Ascending, part_body}
use Rattle.pack.specs.declared.bodies.Next.{Next}

-- room for n entries from the next slot on, and for m bytes from the next place on, which are still zero
pub record Room (n m : ℕ) (at : Next) (o : List ℕ) : Type 0 where
  pub first : 1 ≤ at.slot
  pub table : entry_at (at.slot + n) ≤ at.place
  pub fits : at.place + m ≤ length o
  pub limit : length o ≤ 524288
  pub zeros : (a : ℕ) → at.place ≤ a → a < at.place + m → byte_at o a ≡ 0

-- the entries es and the bytes bs stand where `at` said, the rest is as it was, and r says where to go on
pub record Laid (es bs : List ℕ) (at : Next) (o o' : List ℕ) (r : Next) : Type 0 where
  pub slot_is : r.slot ≡ at.slot + length es
  pub place_is : r.place ≡ at.place + length bs
  pub table : Has o' (entry_at at.slot) (numbers 4 es)
  pub text : Has o' at.place bs
  pub long : length o' ≡ length o
  pub below : (a : ℕ) → a < entry_at at.slot → byte_at o' a ≡ byte_at o a
  pub between : (a : ℕ) → entry_at (at.slot + length es) ≤ a → a < at.place → byte_at o' a ≡ byte_at o a
  pub above : (a : ℕ) → at.place + length bs ≤ a → byte_at o' a ≡ byte_at o a

-- ---- a Leaf and its extent

pub record LeafFits (f : List ℕ) (o : ℕ) (out : List ℕ) (at : Next) : Type 0 where
  pub extent : ℕ
  pub key : List ℕ
  pub value : Value
  pub inside : o + body_size leaf_kind ≤ length f
  pub stands : LeafAt f o extent key value
  pub room : Room 1 (size (leaf key value)) at out

pub record LeafLaid (f : List ℕ) (o : ℕ) (out : List ℕ) (at : Next) (out' : List ℕ) (r : Next) : Type 0 where
  pub of : (e : ℕ) (k : List ℕ) (v : Value) → LeafAt f o e k v → Laid (entries (leaf k v) at.place) (bodies (leaf k v) at.slot at.place) at out out' r

-- ---- a Prefix, whose child takes the next slot

pub record PrefixFits (f : List ℕ) (o : ℕ) (out : List ℕ) (at : Next) : Type 0 where
  pub bytes : List ℕ
  pub below : ℕ
  pub stands : PrefixAt f o bytes below
  pub room : Room 1 (body_size prefix_kind) at out

pub record PrefixLaid (f : List ℕ) (o : ℕ) (out : List ℕ) (at : Next) (out' : List ℕ) (r : Next) : Type 0 where
  pub of : (p : List ℕ) (below : ℕ) → PrefixAt f o p below
      → Laid (entry_of prefix_kind at.place ∷ []) (padded 16 (digits 4 (at.slot + 1) ++ digits 2 (length p)) ++ padded 112 p) at out out' r

-- ---- an inner node, before its children and with one more of them

pub record NodeFits (kind : ℕ) (out : List ℕ) (at : Next) : Type 0 where
  pub low : 4 ≤ kind
  pub high : kind ≤ 7
  pub room : Room 1 (body_size kind) at out

pub record ChildFits (out : List ℕ) (place kind i : ℕ) : Type 0 where
  pub low : 4 ≤ kind
  pub high : kind ≤ 7
  pub few : i < most kind
  pub inside : place + body_size kind ≤ length out

-- the i-th child stands in the body at `place`, at byte b
pub record ChildLaid (place kind i b slot : ℕ) (out out' : List ℕ) : Type 0 where
  pub only : Only out out' place (place + body_size kind)
  pub more : (n : ℕ) (bs ss : List ℕ) → length bs ≡ i → length ss ≡ i → Ascending 0 (bs ++ b ∷ []) → Has out place (part_body kind n bs ss)
      → Has out' place (part_body kind n (bs ++ b ∷ []) (ss ++ slot ∷ []))
