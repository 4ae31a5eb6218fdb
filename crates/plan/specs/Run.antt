-- A chain of Prefixes is measured: the tree at a slot, or below a Prefix, is one of those of some work.
use Rattle.std.specs.Prelude.{ℕ, ◌+◌, ◌<◌, ◌≡◌, List, ◌∷◌, length}
use Rattle.model.specs.Edition.{Edition}
use Rattle.model.specs.Item.{Item}
use Rattle.model.specs.Body.{PrefixAt}
use Rattle.model.specs.Frame.{Lay, slot_of, Below, View}
use Rattle.between.specs.Hole.{Step}
use Rattle.between.specs.Work.{Work}
use Rattle.chain.specs.Row.{run_long}

-- of the tree t the Prefixes are opened down to the tree of slot s, and have n bytes
pub record Sunk (E : Edition) (f : List ℕ) (h : View) (xs : List Step) (top : ℕ) (t : Lay) (ts : List (List ℕ × Lay)) (n s : ℕ) : Type 0 where
  pub path : List ℕ
  pub tip : Lay
  pub loose : List Item
  pub work : Work E f h xs top ((path, tip) ∷ ts) loose
  pub slot : slot_of tip ≡ s
  pub longs : n + run_long tip ≡ run_long t

abbrev pub Sinks : List ℕ → ℕ → ℕ → ℕ → Type 0
Sinks f slot n s = (E : Edition) (h : View) (xs : List Step) (top : ℕ) (path : List ℕ) (t : Lay) (ts : List (List ℕ × Lay)) (loose : List Item) → Work E f h xs top ((path, t) ∷ ts) loose → slot_of t ≡ slot → Sunk E f h xs top t ts n s

-- whatever the work, the chain at this slot has n bytes
abbrev pub Measured : List ℕ → ℕ → ℕ → Type 0
Measured f slot n = (E : Edition) (h : View) (xs : List Step) (top : ℕ) (path : List ℕ) (t : Lay) (ts : List (List ℕ × Lay)) (loose : List Item) → Work E f h xs top ((path, t) ∷ ts) loose → slot_of t ≡ slot → n ≡ run_long t

-- some work, whose chain is not too long
pub record RunAt (f : List ℕ) (slot : ℕ) : Type 0 where
  pub edition : Edition
  pub view : View
  pub steps : List Step
  pub top : ℕ
  pub path : List ℕ
  pub tree : Lay
  pub trees : List (List ℕ × Lay)
  pub loose : List Item
  pub work : Work edition f view steps top ((path, tree) ∷ trees) loose
  pub slot_is : slot_of tree ≡ slot
  pub short : run_long tree < 65536

-- ---- from a Prefix on

-- whatever the work, the Prefix at o and the chain below it have n bytes
abbrev pub Begun : List ℕ → ℕ → ℕ → Type 0
Begun f o n =
    (E : Edition) (h : View) (xs : List Step) (top : ℕ) (path p : List ℕ) (l : Lay) (ts : List (List ℕ × Lay)) (loose : List Item) → Work E f h xs top ((path, l) ∷ ts) loose → PrefixAt f o p (slot_of l) → Below p l
    → n ≡ length p + run_long l

-- some work, whose chain is not too long
pub record BeginningAt (f : List ℕ) (o : ℕ) : Type 0 where
  pub edition : Edition
  pub view : View
  pub steps : List Step
  pub top : ℕ
  pub path : List ℕ
  pub bytes : List ℕ
  pub below : Lay
  pub trees : List (List ℕ × Lay)
  pub loose : List Item
  pub work : Work edition f view steps top ((path, below) ∷ trees) loose
  pub at : PrefixAt f o bytes (slot_of below)
  pub hangs : Below bytes below
  pub short : length bytes + run_long below < 65536
