-- What the plan of an erase counts on, and what it says.
use Rattle.layout.specs.Kind.{number_of}
use Rattle.std.specs.Prelude.{ℕ, ◌≤◌, ◌≡◌, List, length}
use Rattle.model.specs.Edition.{Edition, Lawful}
use Rattle.model.specs.Tree.{Art}
use Rattle.model.specs.Tree.Left.{kept}
use Rattle.model.specs.State.{State, erase_change}
use Rattle.model.specs.Body.{InnerAt}
use Rattle.model.specs.Frame.{Lay, tree, art, Stands}
use Rattle.room.specs.declared.fit.Needs.{Needs}
use Rattle.room.specs.Fit.{Small, Asks}
use Rattle.descent.specs.declared.spot.End.TheVariants as end
use Rattle.descent.specs.declared.spot.Spot.{Spot}
use Rattle.descent.specs.Spot.{SpotAt}

module _ (E : Edition) where
  -- f is a good frame, and the descent of key k through it ended at its Leaf, which an inner node holds
  pub record EraseFrom (f k : List ℕ) (s : Spot) : Type 0 where
    pub lawful : Lawful E
    pub st : State
    pub stands : Stands E f st
    pub spot : SpotAt E k stands.root s
    pub found : s.end ≡ end.Found
    pub held : 1 ≤ s.node.slot

  -- a Node4 of two
  pub record PairFrom (f k : List ℕ) (s : Spot) : Type 0 where
    pub from : EraseFrom f k s
    pub kind : number_of s.node.kind ≡ 4
    pub two : (ks : List (ℕ × ℕ)) → InnerAt f s.node.place (number_of s.node.kind) ks → length ks ≡ 2

  -- the erase of k from the tree a leaves a tree, and these are its needs
  pub record Erasing (k : List ℕ) (a : Art) (n : Needs) : Type 0 where
    pub left : Art
    pub leaves : (erase_change E a k).now ≡ kept left
    pub asks : let c = erase_change E a k in Asks n c.takes c.extent

  -- the needs are those of the erase
  pub record ErasePlan (f k : List ℕ) (s : Spot) (n : Needs) : Type 0 where
    pub small : Small n
    pub erasing : (st : State) (W : Stands E f st) → SpotAt E k W.root s → (l : Lay) → W.root ≡ tree l → Erasing k (art l) n
