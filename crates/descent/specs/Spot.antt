-- Where a descent ends, and what stands there: read by look-up, put and erase.
use Rattle.std.specs.Prelude.{ℕ, ◌+◌, ◌<◌, ◌≤◌, ◌≡◌, List, [], ◌∷◌, ◌++◌, length, drop, eqb}
use Rattle.std.proofs.Math.Option.{none, some}
use Rattle.layout.specs.Place.{prefix_child}
use Rattle.layout.specs.Kind.{number_of}
use Rattle.layout.specs.declared.kind.Kind.{Kind}
use Rattle.layout.specs.declared.kind.Kind.TheVariants as kinds
use Rattle.model.specs.Strings.{pick, shared}
use Rattle.model.specs.Edition.{Edition, Lawful, Legal, Value}
use Rattle.model.specs.State.{State}
use Rattle.model.specs.Body.{PrefixAt, look_kid}
use Rattle.model.specs.Visits.{visits, visits_in}
use Rattle.model.specs.Frame.{Lay, LayKids, Below, Root, bare, tree, slot_of, art, root_art, pairs, NodeOf, LeafOf, Stands}
use Rattle.model.specs.Frame.Lay.{leaf, prefix, node}
use Rattle.between.specs.Hole.{Step, under, among, plug, path_of, Link}
use Rattle.between.specs.Lead.{Leads, NotUnder}
use Rattle.keys.specs.Word.{Spells}
use Rattle.descent.specs.declared.spot.End.{End}
use Rattle.descent.specs.declared.spot.End.TheVariants as end
use Rattle.descent.specs.declared.spot.Body.{Body}
use Rattle.descent.specs.declared.spot.Spot.{Spot}

-- ---- the struct, field by field

abbrev pub no_body : Body
no_body = record { slot = 0; place = 0; kind = kinds.EmptyRoot; link = 0 }

abbrev pub named : ℕ → ℕ → Body
named s l = record { slot = s; place = 0; kind = kinds.EmptyRoot; link = l }

abbrev pub start_at : ℕ → ℕ → Spot
start_at s l = record { end = end.Going; here = named s l; depth = 0; shared = 0; visited = 0; node = no_body; byte = 0; above = no_body; first = 0; first_link = 0 }

abbrev pub end_at : Spot → End → ℕ → Kind → ℕ → Spot
end_at s e o kind q = record {
  end = e;
  here = record { slot = s.here.slot; place = o; kind = kind; link = s.here.link };
  depth = s.depth;
  shared = q;
  visited = s.visited + 1;
  node = s.node;
  byte = s.byte;
  above = s.above;
  first = s.first;
  first_link = s.first_link;
}

-- the Prefix just above the body where s stands, and the top of the run of Prefixes that a Prefix there would end
abbrev pub over_of : Spot → Body
over_of s = pick (eqb s.node.slot 0) s.above no_body

abbrev pub top_of : Spot → ℕ
top_of s = pick (eqb (over_of s).slot 0) s.here.slot s.first

abbrev pub top_link_of : Spot → ℕ
top_link_of s = pick (eqb (over_of s).slot 0) s.here.link s.first_link

abbrev pub below_prefix : Spot → ℕ → ℕ → ℕ → Spot
below_prefix s o n c = record {
  end = end.Going;
  here = named c (o + prefix_child);
  depth = s.depth + n;
  shared = 0;
  visited = s.visited + 1;
  node = no_body;
  byte = 0;
  above = record { slot = s.here.slot; place = o; kind = kinds.Prefix; link = s.here.link };
  first = top_of s;
  first_link = top_link_of s;
}

abbrev pub below_node : Spot → ℕ → Kind → ℕ → ℕ → ℕ → Spot
below_node s o kind b c l = record {
  end = end.Going;
  here = named c l;
  depth = s.depth + 1;
  shared = 0;
  visited = s.visited + 1;
  node = record { slot = s.here.slot; place = o; kind = kind; link = s.here.link };
  byte = b;
  above = over_of s;
  first = s.first;
  first_link = s.first_link;
}

-- ---- what stands above

-- the Prefix that is the last of the steps
pub record Capped (xs : List Step) (b : Body) : Type 0 where
  pub bytes : List ℕ
  pub up : List Step
  pub is : xs ≡ under b.slot b.place bytes ∷ up
  pub link : Link up b.link

abbrev pub Prefixes : List Step → Type 0
Prefixes [] = Unit {0}
Prefixes (under s o p ∷ xs) = Prefixes xs
Prefixes (among s o kind ls b j rs ∷ xs) = ⊥

-- the steps end with a run of Prefixes and no more; its first has the slot `first`, which the field at `at` names
pub record Run (xs : List Step) (first at : ℕ) : Type 0 where
  pub run : List Step
  pub up : List Step
  pub is : xs ≡ run ++ up
  pub only : Prefixes run
  pub free : NotUnder up
  pub top : (t : Lay) → slot_of (plug run t) ≡ first
  pub link : Link up at

-- b is the Prefix just above, of slot 0 if there is none, and the last of a run
pub record Topped (xs : List Step) (b : Body) (first at : ℕ) : Type 0 where
  pub without : b.slot ≡ 0 → NotUnder xs
  pub capped : 1 ≤ b.slot → Capped xs b
  pub run : 1 ≤ b.slot → Run xs first at

-- the inner node n that holds the hole at byte b, and the Prefix u just above that
pub record Holder (xs : List Step) (n : Body) (b : ℕ) (u : Body) (first at : ℕ) : Type 0 where
  pub before : LayKids
  pub place : ℕ
  pub after : LayKids
  pub up : List Step
  pub is : xs ≡ among n.slot n.place (number_of n.kind) before b place after ∷ up
  pub link : Link up n.link
  pub top : Topped up u first at

abbrev pub NotAmong : List Step → Type 0
NotAmong [] = Unit {0}
NotAmong (under s o p ∷ xs) = Unit {0}
NotAmong (among s o kind ls b j rs ∷ xs) = ⊥

-- n holds the hole; if its slot is 0, none does, and u is the Prefix just above the hole
pub record Over (xs : List Step) (n : Body) (b : ℕ) (u : Body) (first at : ℕ) : Type 0 where
  pub free : n.slot ≡ 0 → NotAmong xs
  pub top : n.slot ≡ 0 → Topped xs u first at
  pub held : 1 ≤ n.slot → Holder xs n b u first at

-- ---- the ends, and the way to them

-- the Leaf of this key
pub record ThisKey (k : List ℕ) (s : Spot) (xs : List Step) (t : Lay) : Type 0 where
  pub extent : ℕ
  pub value : Value
  pub is : t ≡ leaf s.here.slot s.here.place extent k value
  pub kind : s.here.kind ≡ kinds.Leaf
  pub free : NotUnder xs

module _ (E : Edition) where
  -- steps from the root of a tree to a subtree: the key takes every one of them, and the field at `link` names the subtree's slot
  pub record Way (k : List ℕ) (l : Lay) (s : Spot) : Type 0 where
    pub steps : List Step
    pub sub : Lay
    pub rest : List ℕ
    pub whole : l ≡ plug steps sub
    pub leads : Leads E k steps rest
    pub deep : s.depth ≡ length (path_of steps)
    pub slot_is : slot_of sub ≡ s.here.slot
    pub link_is : Link steps s.here.link
    pub over : Over steps s.node s.byte s.above s.first s.first_link

  -- a Leaf of another key, and q walked bytes shared from there
  pub record OtherKey (k : List ℕ) (s : Spot) (xs : List Step) (t : Lay) : Type 0 where
    pub extent : ℕ
    pub key : List ℕ
    pub value : Value
    pub is : t ≡ leaf s.here.slot s.here.place extent key value
    pub kind : s.here.kind ≡ kinds.Leaf
    pub free : NotUnder xs
    pub differs : k ≡ key → ⊥
    pub shares : s.shared ≡ shared (drop s.depth (E.walked k)) (drop s.depth (E.walked key))

  -- an inner node without the byte
  pub record NoByte (k : List ℕ) (s : Spot) (t : Lay) : Type 0 where
    pub kids : LayKids
    pub is : t ≡ node s.here.slot s.here.place (number_of s.here.kind) kids
    pub short : s.depth < E.longest
    pub byte : ℕ
    pub after : List ℕ
    pub next : drop s.depth (E.walked k) ≡ byte ∷ after
    pub absent : look_kid byte (pairs kids) ≡ none

  -- a Prefix that matched for q of its bytes, and not for all
  pub record PartPrefix (k : List ℕ) (s : Spot) (t : Lay) : Type 0 where
    pub bytes : List ℕ
    pub below : Lay
    pub is : t ≡ prefix s.here.slot s.here.place bytes below
    pub kind : s.here.kind ≡ kinds.Prefix
    pub short : s.depth + length bytes < E.longest
    pub shares : s.shared ≡ shared bytes (drop s.depth (E.walked k))
    pub less : s.shared < length bytes

  pub record Spotted (k : List ℕ) (l : Lay) (s : Spot) : Type 0 where
    pub way : Way k l s
    pub range : (s.end ≡ end.Going → ⊥) × (s.end ≡ end.Empty → ⊥)
    pub found : s.end ≡ end.Found → ThisKey k s way.steps way.sub
    pub other : s.end ≡ end.Other → OtherKey k s way.steps way.sub
    pub missing : s.end ≡ end.Missing → NoByte k s way.sub
    pub parted : s.end ≡ end.Parted → PartPrefix k s way.sub

  -- the tree of a frame that is not empty
  pub record InTree (k : List ℕ) (r : Root) (s : Spot) : Type 0 where
    pub lay : Lay
    pub is : r ≡ tree lay
    pub spot : Spotted k lay s

  -- what the descent of key k through the root r ends with: an empty frame, or an end in the tree
  pub record SpotAt (k : List ℕ) (r : Root) (s : Spot) : Type 0 where
    -- a counter that is equal to the defined path's length
    pub visited : s.visited ≡ visits_in E (root_art r) k
    pub empty : s.end ≡ end.Empty → r ≡ bare s.here.slot s.here.place
    pub in_tree : (s.end ≡ end.Empty → ⊥) → InTree k r s

  -- ---- while it goes

  -- f is a good frame
  pub record Standing (f : List ℕ) : Type 0 where
    pub lawful : Lawful E
    pub st : State
    pub stands : Stands E f st

  -- k is a legal key, and w what is read of it on the way down
  pub record Sought (k w : List ℕ) : Type 0 where
    pub legal : Legal E k
    pub spells : Spells E k w

  -- f is a good frame with records, and the descent of k through it stands at s
  pub record Going (f k : List ℕ) (s : Spot) : Type 0 where
    pub st : State
    pub stands : Stands E f st
    pub lay : Lay
    pub is : stands.root ≡ tree lay
    pub way : Way k lay s

  -- of the path through l, the slots up to s are counted, and the subtree t is left: what is left gives what the whole gives
  pub record Counted (k : List ℕ) (s : Spot) (l t : Lay) : Type 0 where
    pub left : s.visited + visits E (art t) s.depth k ≡ visits E (art l) 0 k
    pub few : s.visited ≤ s.depth
    pub short : s.depth ≤ E.longest

  -- the descent goes on from s
  pub record Underway (f k : List ℕ) (s : Spot) : Type 0 where
    pub going : Going f k s
    pub count : Counted k s going.lay going.way.sub

  pub record AtLeaf (f k : List ℕ) (s : Spot) (o : ℕ) : Type 0 where
    pub lawful : Lawful E
    pub legal : Legal E k
    pub going : Going f k s
    pub count : Counted k s going.lay going.way.sub
    pub extent : ℕ
    pub key : List ℕ
    pub value : Value
    pub is : going.way.sub ≡ leaf s.here.slot o extent key value
    pub room : o + 16 ≤ length f
    pub at : LeafOf E f (path_of going.way.steps) o extent key value
    pub free : NotUnder going.way.steps

  pub record AtPrefix (f k w : List ℕ) (s : Spot) (o : ℕ) : Type 0 where
    pub lawful : Lawful E
    pub sought : Sought k w
    pub going : Going f k s
    pub count : Counted k s going.lay going.way.sub
    pub bytes : List ℕ
    pub below : Lay
    pub is : going.way.sub ≡ prefix s.here.slot o bytes below
    pub at : PrefixAt f o bytes (slot_of below)
    pub hangs : Below bytes below
    pub low : 1 ≤ s.here.slot
    pub short : s.depth + length bytes < E.longest

  pub record AtNode (f k w : List ℕ) (s : Spot) (o kind : ℕ) : Type 0 where
    pub lawful : Lawful E
    pub sought : Sought k w
    pub going : Going f k s
    pub count : Counted k s going.lay going.way.sub
    pub kids : LayKids
    pub is : going.way.sub ≡ node s.here.slot o kind kids
    pub at : NodeOf f o kind kids
    pub short : s.depth < E.longest
    pub live : (b : ℕ) → look_kid b (pairs kids) ≡ some 0 → ⊥
    pub low : 1 ≤ s.here.slot
    pub byte : ℕ
    pub after : List ℕ
    pub next : going.way.rest ≡ byte ∷ after

  -- it ended in the tree
  pub record Ended (f k : List ℕ) (s : Spot) : Type 0 where
    pub st : State
    pub stands : Stands E f st
    pub tree : InTree k stands.root s
    pub visited : s.visited ≡ visits_in E (root_art stands.root) k

  -- one step from s to r: deeper, or to the end
  pub record Stepped (f k : List ℕ) (s r : Spot) : Type 0 where
    pub goes : r.end ≡ end.Going → Underway f k r × (s.depth < r.depth) × (r.depth ≤ E.longest)
    pub ends : (r.end ≡ end.Going → ⊥) → Ended f k r

-- what holds of some edition and some key: all that is asked of code which looks at neither
pub record SomeDescent (P : Edition → List ℕ → Type 0) : Type 0 where
  pub edition : Edition
  pub key : List ℕ
  pub holds : P edition key
