-- A Node4 of two children, one of them the key's Leaf: the site of a join.
use Rattle.std.specs.Prelude.{ℕ, ◌+◌, ◌-◌, ◌<◌, ◌≤◌, ◌≡◌, List, [], ◌∷◌, ◌++◌, true, false, length}
use Rattle.std.proofs.Math.Option.{some}
use Rattle.layout.specs.Number.{le}
use Rattle.layout.specs.Place.{prefix_length, prefix_most}
use Rattle.layout.specs.Kind.{leaf_kind, node4_kind}
use Rattle.layout.specs.Entry.{high_of}
use Rattle.model.specs.Edition.{Edition, Lawful, Value}
use Rattle.model.specs.State.{State, erase_change}
use Rattle.model.specs.State as state
use Rattle.model.specs.Body.{InnerAt, look_kid}
use Rattle.model.specs.Frame.{Lay, LayKids, Root, tree, slot_of, art, Stands}
use Rattle.model.specs.Frame.Lay.{leaf, prefix, node}
use Rattle.model.specs.Frame.LayKids.{nil, kid}
use Rattle.model.specs.Touch.{has_byte}
use Rattle.between.specs.Hole.{app, Step, under, among, plug, Link}
use Rattle.between.specs.Lead.{Leads, NotUnder, NotLeaf}
use Rattle.chain.specs.Row.{Entered}
use Rattle.descent.specs.declared.spot.Body.{Body}
use Rattle.descent.specs.declared.spot.Spot.{Spot}
use Rattle.descent.specs.Spot.{Prefixes, Topped}
use Rattle.erase_join.specs.declared.lone.Lone.{Lone}

-- ---- what the child is

abbrev pub IsLeaf : Lay → Type 0
IsLeaf (leaf s o e k v) = Unit {0}
IsLeaf (prefix s o p t) = ⊥
IsLeaf (node s o kind ks) = ⊥

-- what the kind in its entry says
pub record Told (kind : ℕ) (t : Lay) : Type 0 where
  pub as_leaf : kind ≡ leaf_kind → IsLeaf t
  pub other : (kind ≡ leaf_kind → ⊥) → NotLeaf t

-- ---- the site

-- key k leads in the tree r to a Node4 in the hole xs, which has its Leaf and the child u
pub record Site (E : Edition) (k : List ℕ) (r : Root) (xs : List Step) (l : Lone) (u : Lay) : Type 0 where
  pub node_at : ℕ
  pub before : LayKids
  pub byte : ℕ
  pub place : ℕ
  pub after : LayKids
  pub extent : ℕ
  pub value : Value
  pub rest : List ℕ
  pub other : ℕ
  pub whole : r ≡ tree (plug xs (node l.node node_at node4_kind (app before (kid byte place (leaf l.leaf l.at extent k value) after))))
  pub leads : Leads E k xs (byte ∷ rest)
  pub first : has_byte byte before ≡ false
  pub left : app before after ≡ kid l.byte other u nil
  pub slot_is : slot_of u ≡ l.child

-- the tree there
abbrev pub pair_of : {E : Edition} {k : List ℕ} {r : Root} {xs : List Step} {l : Lone} {u : Lay} → Site E k r xs l u → Lay
pair_of {k} {l = l} P = node l.node P.node_at node4_kind (app P.before (kid P.byte P.place (leaf l.leaf l.at P.extent k P.value) P.after))

-- in a good frame with room for the erase; the key is not empty
pub record Ready (E : Edition) (f k : List ℕ) (xs : List Step) (l : Lone) (u : Lay) : Type 0 where
  pub lawful : Lawful E
  pub some : 1 ≤ length k
  pub st : State
  pub stands : Stands E f st
  pub site : Site E k stands.root xs l u
  pub room : state.room st (erase_change E (art (plug xs (pair_of site))) k) ≡ true

-- no Prefix stands just above the hole, or one that is full
abbrev pub Full : List Step → Type 0
Full [] = Unit {0}
Full (under s o p ∷ xs) = length p ≡ prefix_most
Full (among s o kind ls b j rs ∷ xs) = Unit {0}

-- with nothing above that the child joins
pub record Bare (E : Edition) (A : List Step → Type 0) (P : Lay → Type 0) (f k : List ℕ) (l : Lone) (link : ℕ) : Type 0 where
  pub steps : List Step
  pub child : Lay
  pub is : P child
  pub ready : Ready E f k steps l child
  pub free : A steps
  pub link_is : Link steps link

-- a Leaf is left, under a run of Prefixes whose first has the slot `first`, which the field at `link` names
pub record UnderRun (E : Edition) (f k : List ℕ) (l : Lone) (first link : ℕ) : Type 0 where
  pub run : List Step
  pub up : List Step
  pub only : Prefixes run
  pub free : NotUnder up
  pub top : (t : Lay) → slot_of (plug run t) ≡ first
  pub child : Lay
  pub is : IsLeaf child
  pub ready : Ready E f k (run ++ up) l child
  pub link_is : Link up link

-- under the Prefix b
pub record Capped (E : Edition) (P : Lay → Type 0) (f k : List ℕ) (l : Lone) (b : Body) : Type 0 where
  pub bytes : List ℕ
  pub up : List Step
  pub child : Lay
  pub is : P child
  pub ready : Ready E f k (under b.slot b.place bytes ∷ up) l child
  pub link_is : Link up b.link

-- which has room for a byte, and no Leaf is left
pub record Roomy (E : Edition) (f k : List ℕ) (l : Lone) (b : Body) : Type 0 where
  pub capped : Capped E NotLeaf f k l b
  pub room : le 2 f (b.place + prefix_length) < prefix_most

-- ---- what is read

-- a Node4 of two, one of them at byte b
pub record Couple (f : List ℕ) (o b : ℕ) : Type 0 where
  pub kids : List (ℕ × ℕ)
  pub node : InnerAt f o node4_kind kids
  pub two : length kids ≡ 2
  pub child : ℕ
  pub has : look_kid b kids ≡ some child

-- l was read at the spot p
pub record AtSpot (E : Edition) (f k : List ℕ) (p : Spot) (l : Lone) : Type 0 where
  pub steps : List Step
  pub child : Lay
  pub entered : Entered f l.child
  pub is : Told (high_of f l.child) child
  pub ready : Ready E f k steps l child
  pub link_is : Link steps p.node.link
  pub top : Topped steps p.above p.first p.first_link

-- the Prefix b, if there is one, and how many bytes more it has room for
abbrev pub Above : List ℕ → Body → Type 0
Above f b = (b.slot ≡ 0 → ⊥) → (b.place + 128 ≤ length f) × (le 2 f (b.place + prefix_length) ≤ prefix_most)

pub record HasRoom (f : List ℕ) (b : Body) (n : ℕ) : Type 0 where
  pub none : b.slot ≡ 0 → n ≡ 0
  pub some : (b.slot ≡ 0 → ⊥) → n ≡ prefix_most - le 2 f (b.place + prefix_length)
