-- The end that the joins share: the tree stands, the key's Leaf is a tree beside it, and the body of the Node4 is loose.
use Rattle.std.specs.Prelude.{ℕ, ◌-◌, ◌≤◌, List, [], ◌∷◌, length}
use Rattle.layout.specs.Kind.{leaf_kind, node4_kind}
use Rattle.model.specs.Edition.{Edition, Value}
use Rattle.model.specs.Tree.{extent_of}
use Rattle.model.specs.Item.{Item, body, extent}
use Rattle.model.specs.Frame.{Lay, View}
use Rattle.model.specs.Frame.Lay.{leaf}
use Rattle.between.specs.Work.{Work}
use Rattle.between.specs.Since.{Since}
use Rattle.between.specs.Edit.{Booked}

-- the tree t, and left over the Node4 of slot n at o and the Leaf of slot g at q
abbrev pub Over : Edition → List ℕ → View → ℕ → Lay → ℕ → ℕ → List ℕ → ℕ → ℕ → ℕ → List ℕ → Value → Type 0
Over E f h s t n o path g q e k v = Work E f h [] s (([], t) ∷ (path, leaf g q e k v) ∷ []) (body n node4_kind o ∷ [])

pub record Drops (f : List ℕ) (leaf node at : ℕ) : Type 0 where
  pub edition : Edition
  pub view : View
  pub slot : ℕ
  pub lay : Lay
  pub node_at : ℕ
  pub path : List ℕ
  pub extent : ℕ
  pub key : List ℕ
  pub value : Value
  pub work : Over edition f view slot lay node node_at path leaf at extent key value
  pub some : 1 ≤ length key
  pub records : 1 ≤ view.nums.R

-- they are given back: what the row of steps has changed, and its numbers
pub record Dropped (E : Edition) (f g : List ℕ) (h : View) (s : ℕ) (t : Lay) (node node_at leaf at e : ℕ) (k : List ℕ) (v : Value) : Type 0 where
  pub view : View
  pub work : Work E g view [] s (([], t) ∷ []) []
  pub since : (f0 : List ℕ) (h0 : View) (ts rs gs : List Item) → Since f0 h0 f h ts rs gs [] → Since f0 h0 g view ts rs (extent e (extent_of k v) ∷ body leaf leaf_kind at ∷ body node node4_kind node_at ∷ gs) []
  pub booked : (h0 : View) (ks fs : List ℕ) (r : ℕ) → Booked h0 h ks fs 0 0 r → Booked h0 view ks (leaf_kind ∷ node4_kind ∷ fs) 0 (extent_of k v) (r - 1)

pub record DropsAll (f g : List ℕ) (leaf node at : ℕ) : Type 0 where
  pub after : (E : Edition) (h : View) (s : ℕ) (t : Lay) (o : ℕ) (path : List ℕ) (e : ℕ) (k : List ℕ) (v : Value) → Over E f h s t node o path leaf at e k v → 1 ≤ h.nums.R → Dropped E f g h s t node o leaf at e k v
