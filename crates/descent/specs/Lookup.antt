-- What a look-up gives: the place and length of the key's value, and its stamp, which the state's value is; none for an absent key; and the slots visited.
-- And the value itself, as that part of the frame.
use Rattle.std.specs.Prelude.{ℕ, ◌+◌, ◌≤◌, ◌≡◌, List, length, take, drop, Some, None, IfSome}
use Rattle.std.specs.Prelude.{Option as Maybe}
use Rattle.std.proofs.Math.Option.{Option, none, some}
use Rattle.model.specs.Edition.{Edition, Value}
use Rattle.model.specs.State.{State, find_in}
use Rattle.model.specs.Visits.{visits_in}
use Rattle.model.specs.Frame.{Root, root_art}
use Rattle.model.specs.Touch.{Part, find_at}
use Rattle.model.specs.Promise.{Found}
use Rattle.descent.specs.declared.lookup.Located.{Located}
use Rattle.descent.specs.declared.lookup.Held.{Held}

abbrev pub part_in : Maybe Located → Option Part
part_in None = none
part_in (Some v) = some (record { at = v.place; long = v.length; stamp = v.stamp })

abbrev pub part_of : Held → Option Part
part_of v = part_in v.value

-- the bytes of a part of f, and its stamp
abbrev pub value_in : List ℕ → Option Part → Option Value
value_in f none = none
value_in f (some p) = some (record { bytes = take p.long (drop p.at f); stamp = p.stamp })

-- n bytes on from a place in memory, which is a block and an offset in it (`ref_ptr` of a reference)
abbrev pub shifted : ℕ × ℕ → ℕ → ℕ × ℕ
shifted p n = (p.0, n + p.1)

-- of f, which starts at `start`, the part was handed back that the look-up tells: it starts `here`, and has these bytes
pub record Handed (f : List ℕ) (start : ℕ × ℕ) (g : Found) (here : ℕ × ℕ) (part : List ℕ) : Type 0 where
  pub stands : here ≡ shifted start g.place
  pub bytes : part ≡ take g.long (drop g.place f)

module _ (E : Edition) where
  -- key k was looked up in f, which stands for st with the root r
  pub record Looked (f k : List ℕ) (st : State) (r : Root) (v : Held) : Type 0 where
    pub at : part_of v ≡ find_at E r k
    pub value : find_in E st.tree k ≡ value_in f (part_of v)
    pub inside : IfSome v.value (λ w. w.place + w.length ≤ length f)
    pub visited : v.slots ≡ visits_in E (root_art r) k
