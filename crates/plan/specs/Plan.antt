-- The bodies that a put takes besides the Leaf, by what stands at the end of the descent; what the plan of a put counts on.
use Rattle.std.specs.Prelude.{ℕ, ◌≤◌, List, [], ◌∷◌, length, ltb}
use Rattle.layout.specs.Kind.{leaf_kind, node4_kind, most, kind_up}
use Rattle.model.specs.Strings.{pick}
use Rattle.model.specs.Edition.{Edition, Lawful, Legal}
use Rattle.model.specs.Tree.{prefixes}
use Rattle.model.specs.State.{State, put_change}
use Rattle.model.specs.Frame.{Stands}
use Rattle.room.specs.declared.fit.Needs.{Needs}
use Rattle.room.specs.Fit.{Small, Asks}
use Rattle.descent.specs.declared.spot.Spot.{Spot}
use Rattle.descent.specs.Spot.{SpotAt}

-- a new record takes a Leaf
abbrev pub with_leaf : List ℕ → List ℕ
with_leaf takes = leaf_kind ∷ takes

-- two records part below n Prefixes more
abbrev pub fork_takes : ℕ → List ℕ
fork_takes n = node4_kind ∷ prefixes n

-- a node of n children gets one more
abbrev pub grow_takes : ℕ → ℕ → List ℕ
grow_takes n kind = pick (ltb n (most kind)) [] (kind_up kind ∷ [])

-- needs of these bodies and no extent
pub record Bodies (n : Needs) (takes : List ℕ) : Type 0 where
  pub asks : Asks n takes 0
  pub small : Small n

module _ (E : Edition) where
  -- f is a good frame, and the descent of a legal key through it ended at s
  pub record PutFrom (f k v : List ℕ) (s : Spot) : Type 0 where
    pub lawful : Lawful E
    pub st : State
    pub stands : Stands E f st
    pub spot : SpotAt E k stands.root s
    pub key : Legal E k
    pub value : length v ≤ 65535

  -- the needs are those of the put, whatever the stamp
  abbrev pub PutPlan : List ℕ → List ℕ → List ℕ → Spot → Needs → Type 0
  PutPlan f k v s n = (st : State) (W : Stands E f st) → SpotAt E k W.root s → (stamp : ℕ) → let c = put_change E st k (record { bytes = v; stamp = stamp }) in Asks n c.takes c.extent
