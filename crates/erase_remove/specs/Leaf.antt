-- A Leaf goes: what the call counts on, and what it leaves of the work.
use Rattle.std.specs.Prelude.{ℕ, ◌+◌, ◌-◌, ◌≤◌, ◌≡◌, List, ◌∷◌, length}
use Rattle.layout.specs.Kind.{leaf_kind}
use Rattle.model.specs.Edition.{Edition, Value}
use Rattle.model.specs.Tree.{extent_of}
use Rattle.model.specs.Item.{Item, body, extent}
use Rattle.model.specs.Frame.{Lay, View}
use Rattle.model.specs.Frame.Lay.{leaf}
use Rattle.between.specs.Hole.{Step}
use Rattle.between.specs.Work.{Work}
use Rattle.between.specs.Since.{Since}
use Rattle.between.specs.Edit.{Booked}

-- a Leaf of this slot and place is a tree of the forest, its key is not empty, and there are records
pub record Drops (f : List ℕ) (slot place : ℕ) : Type 0 where
  pub edition : Edition
  pub view : View
  pub steps : List Step
  pub named : ℕ
  pub path : List ℕ
  pub extent : ℕ
  pub key : List ℕ
  pub value : Value
  pub trees : List (List ℕ × Lay)
  pub loose : List Item
  pub work : Work edition f view steps named ((path, leaf slot place extent key value) ∷ trees) loose
  pub some : 1 ≤ length key
  pub records : 1 ≤ view.nums.R

-- the Leaf n at o with its extent at e, of key k and value v, is gone: its body is freed, its extent died, and R is one less
pub record Dropped (E : Edition) (f g : List ℕ) (h : View) (xs : List Step) (s : ℕ) (ts : List (List ℕ × Lay)) (loose : List Item) (n o e : ℕ) (k : List ℕ) (v : Value) : Type 0 where
  pub view : View
  pub work : Work E g view xs s ts loose
  pub since : (f0 : List ℕ) (h0 : View) (takes rewrites frees extents : List Item) → Since f0 h0 f h takes rewrites frees extents → Since f0 h0 g view takes rewrites (extent e (extent_of k v) ∷ body n leaf_kind o ∷ frees) extents
  pub booked : (h0 : View) (takes frees : List ℕ) (x d d' r : ℕ) → d' ≡ d + extent_of k v → Booked h0 h takes frees x d r → Booked h0 view takes (leaf_kind ∷ frees) x d' (r - 1)
