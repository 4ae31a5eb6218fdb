-- A tree in a frame of an edition, by its slot and how many bytes lead to it; its first Leaf.
use Rattle.std.specs.Prelude.{ℕ, ◌≤◌, ◌≡◌, List, length}
use Rattle.std.proofs.Math.Option.{Option, some}
use Rattle.layout.specs.Number.{Bytes}
use Rattle.model.specs.Edition.{Edition, Lawful}
use Rattle.model.specs.Frame.{Lay, slot_of, Tree}
use Rattle.inside.specs.Inside.{Inside}
use Rattle.listing.specs.Seek.{Leafy, leaves, first_leaf}

pub record Sub (E : Edition) (f : List ℕ) (s d : ℕ) : Type 0 where
  pub lawful : Lawful E
  pub lay : Lay
  pub path : List ℕ
  pub tree : Tree E f path lay
  pub slot_is : slot_of lay ≡ s
  pub inside : Inside f lay
  pub bytes : Bytes f
  pub deep : length path ≡ d
  pub short : d ≤ E.longest

-- it is a Leaf, whose body has this place
pub record Placed (o : Option Leafy) (r : ℕ) : Type 0 where
  pub leaf : Leafy
  pub is : o ≡ some leaf
  pub place : leaf.place ≡ r

abbrev pub FirstAt : Edition → List ℕ → ℕ → ℕ → Type 0
FirstAt E f s r = (path : List ℕ) (l : Lay) → Tree E f path l → slot_of l ≡ s → Placed (first_leaf (leaves l)) r

-- on the way: the first Leaf of the tree at slot s is that of the one at s', to which d bytes lead
pub record Down (E : Edition) (f : List ℕ) (s s' d : ℕ) : Type 0 where
  pub sub : Sub E f s' d
  pub same : (path : List ℕ) (l : Lay) → Tree E f path l → slot_of l ≡ s → first_leaf (leaves l) ≡ first_leaf (leaves sub.lay)
