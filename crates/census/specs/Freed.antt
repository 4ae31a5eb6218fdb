-- The items of the lists of freed slots.
use Rattle.std.specs.Prelude.{ℕ, suc, ◌+◌, ◌≡◌, List, [], ◌∷◌, length}
use Rattle.layout.specs.Number.{le}
use Rattle.layout.specs.Place.{at_head}
use Rattle.layout.specs.Kind.{crossing_kind}
use Rattle.model.specs.Item.{Item}
use Rattle.model.specs.Frame.{Chain, list_items, freed}

-- those from a head on
pub record ChainItems (f : List ℕ) (kind head : ℕ) (xs : List Item) : Type 0 where
  pub slots : List (ℕ × ℕ)
  pub chain : Chain f head slots
  pub are : list_items kind slots ≡ xs

-- the list of a kind: "list 3 is empty"
pub record ListOf (f : List ℕ) (kind : ℕ) (slots : List (ℕ × ℕ)) : Type 0 where
  pub chain : Chain f (le 2 f (at_head kind)) slots
  pub third : kind ≡ crossing_kind → slots ≡ []

pub record ListItems (f : List ℕ) (kind : ℕ) (xs : List Item) : Type 0 where
  pub slots : List (ℕ × ℕ)
  pub list : ListOf f kind slots
  pub are : list_items kind slots ≡ xs

-- the lists from a kind on
unfoldable pub ListsOf : List ℕ → ℕ → List (List (ℕ × ℕ)) → Type 0
ListsOf f kind [] = Unit {0}
ListsOf f kind (l ∷ ls) = ListOf f kind l × ListsOf f (suc kind) ls

pub record FreedItems (f : List ℕ) (kind : ℕ) (xs : List Item) : Type 0 where
  pub lists : List (List (ℕ × ℕ))
  pub eight : length lists + kind ≡ 9
  pub are : ListsOf f kind lists
  pub items : freed kind lists ≡ xs
