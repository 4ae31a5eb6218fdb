-- By which rule a frame is good, the items of a root, and the sums that close a good frame.
use Rattle.std.specs.Prelude.{ℕ, ◌+◌, ◌≤◌, ◌≡◌, List, [], ◌∷◌, Option, Bool, true, false}
use Rattle.layout.specs.Number.{le, Bytes}
use Rattle.layout.specs.Place.{at_d, at_b, at_u, at_r, at_x}
use Rattle.layout.specs.Kind.{empty_root_kind}
use Rattle.model.specs.Edition.{Edition, edition_of}
use Rattle.model.specs.Item.{Item, body}
use Rattle.model.specs.Body.{Zero}
use Rattle.model.specs.Frame.{Root, RootAt, root_slot, root_items}
use Rattle.model.specs.Frame as frame
use Rattle.sweep.specs.Sweep.{Swept}
use Rattle.shape.specs.Shape.{numbers_of}
use Rattle.census.specs.declared.Sums.{Sums}
use Rattle.census.specs.Told.{Told}

-- an edition by the rule that what is freed is zero, or by the one from before
abbrev pub ruled : Bool → Edition → Edition
ruled wiped E = record { number = E.number; key_fault = E.key_fault; walked = E.walked; longest = E.longest; stamps = E.stamps; wiped = wiped }

-- the same of an edition's number: by the rule in force it is the edition itself, and edition 1 by the one from before is `before1`
abbrev pub by_rule : ℕ → Bool → Edition
by_rule n wiped = ruled wiped (edition_of n)

-- a slice of bytes with a good header of the edition: the rules differ in nothing there
pub record HeaderFits (E : Edition) (f : List ℕ) : Type 0 where
  pub bytes : Bytes f
  pub header : frame.Header f (numbers_of (ruled false E) f)

-- the items of the root at slot s
pub record RootItems (E : Edition) (f : List ℕ) (s : ℕ) (xs : List Item) : Type 0 where
  pub root : Root
  pub at : RootAt E f root
  pub slot : root_slot root ≡ s
  pub are : root_items root ≡ xs

-- those of an EmptyRoot at o
pub record EmptyItems (f : List ℕ) (s o : ℕ) (xs : List Item) : Type 0 where
  pub zeros : Zero f o 8
  pub are : body s empty_root_kind o ∷ [] ≡ xs

pub record EmptyTold (f : List ℕ) (o d u b : ℕ) (m : List ℕ) (t : Sums) (m' : List ℕ) (r : Option Sums) : Type 0 where
  pub of : (s : ℕ) → frame.Entry f s empty_root_kind o → 1 ≤ s → s ≤ u → Told (EmptyItems f s o) (EmptyItems f s o) f d u b m t m' r

-- what the rule asks of units that the map m has not marked
pub record Unmarked (wiped : Bool) (f m : List ℕ) (d b : ℕ) : Type 0 where
  pub swept : wiped ≡ true → Swept f m d b

-- U slots, R Leaves, and every byte accounted for
pub record Closed (f : List ℕ) (slots bytes leaves : ℕ) : Type 0 where
  pub slots_are : slots ≡ le 4 f at_u
  pub leaves_are : leaves ≡ le 4 f at_r
  pub accounted : le 4 f at_d + bytes + le 4 f at_x ≡ le 4 f at_b

pub record Closes (f : List ℕ) (slots bytes leaves : ℕ) (r : Bool) : Type 0 where
  pub holds : r ≡ true → Closed f slots bytes leaves
  pub fails : r ≡ false → Closed f slots bytes leaves → ⊥
