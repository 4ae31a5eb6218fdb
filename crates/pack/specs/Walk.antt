-- What packing counts on at a slot of the frame, what it leaves, and how far the run of a node's children is.
use Rattle.std.specs.Prelude.{ℕ, ◌+◌, ◌≤◌, ◌≡◌, List, ◌∷◌, ◌++◌, length, drop}
use Rattle.layout.specs.Number.{Bytes}
use Rattle.layout.specs.Place.{entry_at}
use Rattle.layout.specs.Kind.{body_size}
use Rattle.layout.specs.Entry.{high_of, place_of, entry_of}
use Rattle.model.specs.Edition.{Edition, Lawful}
use Rattle.model.specs.Tree.{Art, Kids}
use Rattle.model.specs.Image.{smallest, packed, packed_kids, slots, slots_kids, size, size_kids, bytes_of, child_slots, entries, entries_kids, bodies, bodies_kids}
use Rattle.model.specs.Frame.{Lay, LayKids, slot_of, art, art_kids, pairs, NodeOf, Tree, Trees}
use Rattle.inside.specs.Inside.{Inside, InsideAll}
use Rattle.node.specs.Kids.{Reached}
use Rattle.pack_body.specs.Part.{part_body}
use Rattle.pack.specs.declared.bodies.Next.{Next}
use Rattle.pack.specs.Laid.{Room, Laid}

-- ---- the packed trees of a tree and of children of the frame

abbrev pub packed_lay : Lay → Art
packed_lay l = packed (art l)

abbrev pub packed_run : LayKids → Kids
packed_run ks = packed_kids (art_kids ks)

-- ---- the tree at slot s, where a path has so many bytes left

pub record TreeReady (E : Edition) (f : List ℕ) (s left : ℕ) (out : List ℕ) (at : Next) : Type 0 where
  pub lawful : Lawful E
  pub lay : Lay
  pub path : List ℕ
  pub tree : Tree E f path lay
  pub slot_is : slot_of lay ≡ s
  pub inside : Inside f lay
  pub bytes : Bytes f
  pub deep : length path + left ≡ E.longest
  pub room : Room (slots (packed_lay lay)) (size (packed_lay lay)) at out

pub record TreePacked (E : Edition) (f : List ℕ) (s : ℕ) (out : List ℕ) (at : Next) (out' : List ℕ) (r : Next) : Type 0 where
  pub lay : Lay
  pub path : List ℕ
  pub tree : Tree E f path lay
  pub slot_is : slot_of lay ≡ s
  pub laid : Laid (entries (packed_lay lay) at.place) (bodies (packed_lay lay) at.slot at.place) at out out' r

-- ---- the run of the children of the inner node at slot s

-- the kind that it is packed at
abbrev pub packed_kind : LayKids → ℕ
packed_kind ks = smallest (length (pairs ks))

-- its first i children are packed behind its body, which so far names just these: bytes bs, slots ss, entries es, bodies and extents ds
pub record Going (E : Edition) (f : List ℕ) (s left : ℕ) (out : List ℕ) (at : Next) (i from : ℕ) (out' : List ℕ) (here : Next) : Type 0 where
  pub lawful : Lawful E
  pub kids : LayKids
  pub path : List ℕ
  pub of : NodeOf f (place_of f s) (high_of f s) kids
  pub trees : Trees E f path kids
  pub bytes : Bytes f
  pub deep : length path + left ≡ E.longest
  pub most : i ≤ length (pairs kids)
  pub reached : Reached (pairs kids) i from
  pub low : from ≤ 256
  pub rest : LayKids
  pub rest_is : pairs rest ≡ drop i (pairs kids)
  pub rest_trees : Trees E f path rest
  pub rest_inside : InsideAll f rest
  pub bs : List ℕ
  pub ss : List ℕ
  pub es : List ℕ
  pub ds : List ℕ
  pub bytes_long : length bs ≡ i
  pub slots_long : length ss ≡ i
  pub bytes_are : bs ++ bytes_of (packed_run rest) ≡ bytes_of (packed_run kids)
  pub slots_are : ss ++ child_slots here.slot (packed_run rest) ≡ child_slots (at.slot + 1) (packed_run kids)
  pub entries_are : es ++ entries_kids (packed_run rest) here.place ≡ entries_kids (packed_run kids) (at.place + body_size (packed_kind kids))
  pub bodies_are : ds ++ bodies_kids (packed_run rest) here.slot here.place ≡ bodies_kids (packed_run kids) (at.slot + 1) (at.place + body_size (packed_kind kids))
  pub laid : Laid (entry_of (packed_kind kids) at.place ∷ es) (part_body (packed_kind kids) (length (pairs kids)) bs ss ++ ds) at out out' here
  pub table : entry_at (here.slot + slots_kids (packed_run rest)) ≤ at.place
  pub room : Room (slots_kids (packed_run rest)) (size_kids (packed_run rest)) here out'
