-- "How many slots does a look-up read?", over the promise of look-up alone: never more than one for each walked byte of the key and the last one;
-- worked paths; and the wrong counters that this shuts out.
use Rattle.std.specs.Prelude.{ℕ, ◌+◌, ◌≤◌, ◌≡◌, List, [], ◌∷◌, length}
use Rattle.model.specs.Strings.{All, Byte}
use Rattle.model.specs.Edition.{unstamped, Edition, edition1, Legal, Lawful}
use Rattle.model.specs.State.{State, formatted}
use Rattle.model.specs.Visits.{visits_in}
use Rattle.model.specs.Frame.{Stands, Good}
use Rattle.model.specs.Promise.{Found, LookUpPromise}
use Rattle.model.specs.Call.{put, on_call}

-- ---- the bound

-- over the walked length, of whatever bytes are lent as frame and key
abbrev pub Within : Edition → Type 0
Within E = (f k : List ℕ) (g : Found) → All Byte k → LookUpPromise E f k g → g.slots ≤ length (E.walked k) + 1

-- "at most the key's length plus 2 for every good frame"
abbrev pub Allowance : Type 0
Allowance = (f k : List ℕ) (g : Found) → All Byte k → LookUpPromise edition1 f k g → g.slots ≤ length k + 2

-- ---- worked paths

-- these keys put into a fresh frame of F 1,024 and N 8, and the slots that a look-up of `key` reports then
pub record Path : Type 0 where
  pub keys : List (List ℕ)
  pub key : List ℕ
  pub slots : ℕ

abbrev pub made : State → List (List ℕ) → State
made s [] = s
made s (k ∷ ks) = made (on_call edition1 s (put k (unstamped (49 ∷ [])))).state ks

abbrev pub path : List (List ℕ) → List ℕ → ℕ → Path
path ks k n = record { keys = ks; key = k; slots = n }

-- a = 97, b = 98, c = 99
abbrev pub a : List ℕ
a = 97 ∷ []

abbrev pub b : List ℕ
b = 98 ∷ []

abbrev pub ab : List ℕ
ab = 97 ∷ 98 ∷ []

-- zz and a third byte: they share the Prefix zz
abbrev pub zz : ℕ → List ℕ
zz x = 122 ∷ 122 ∷ x ∷ []

abbrev pub paths : List Path
paths =
    -- W1: EmptyRoot
    path [] a 1
    -- W2: the Leaf of a, whatever the key
    ∷ path (a ∷ []) a 1
    ∷ path (a ∷ []) b 1
    -- W3: Node4, Leaf; Node4 without the byte
    ∷ path (a ∷ b ∷ []) a 2
    ∷ path (a ∷ b ∷ []) b 2
    ∷ path (a ∷ b ∷ []) (99 ∷ []) 1
    -- W4: Node4, Node4, Leaf, which is a's length and 2; Node4, Leaf; Node4, Node4 without the byte; the Leaf of ab
    ∷ path (a ∷ b ∷ ab ∷ []) a 3
    ∷ path (a ∷ b ∷ ab ∷ []) ab 3
    ∷ path (a ∷ b ∷ ab ∷ []) b 2
    ∷ path (a ∷ b ∷ ab ∷ []) (97 ∷ 99 ∷ []) 2
    ∷ path (a ∷ b ∷ ab ∷ []) (97 ∷ 98 ∷ 99 ∷ []) 3
    -- Prefix, Node4, Leaf; a Prefix that does not match
    ∷ path (zz 49 ∷ zz 50 ∷ []) (zz 49) 3
    ∷ path (zz 49 ∷ zz 50 ∷ []) (122 ∷ 97 ∷ []) 1
    ∷ []

-- in whatever frame stands for what the puts make
abbrev pub Reported : Path → Type 0
Reported p = (f : List ℕ) (g : Found) → Stands edition1 f (made (formatted 1024 8) p.keys) → LookUpPromise edition1 f p.key g → g.slots ≡ p.slots

abbrev pub AllPaths : (Path → Type 0) → List Path → Type 0
AllPaths P [] = Unit {0}
AllPaths P (p ∷ ps) = P p × AllPaths P ps

-- ---- wrong counters, each as what such a store would have to prove of its look-up

-- one that reports nothing for a key that is not there
abbrev pub AbsentUncounted : Type 0
AbsentUncounted = (f k : List ℕ) → Good edition1 f → Legal edition1 k → (g : Found) × LookUpPromise edition1 f k g × (g.number ≡ 8 → g.slots ≡ 0)

-- one that leaves out the last slot
abbrev pub LastUncounted : Type 0
LastUncounted = (f k : List ℕ) (s : State) → Stands edition1 f s → Legal edition1 k → (g : Found) × LookUpPromise edition1 f k g × (g.slots + 1 ≡ visits_in edition1 s.tree k)

-- one that gets by with less than the allowance: the bound is reached
abbrev pub Tighter : Type 0
Tighter = (f k : List ℕ) → Good edition1 f → Legal edition1 k → (g : Found) × LookUpPromise edition1 f k g × (g.slots ≤ length k + 1)

pub record Slots : Type 0 where
  pub within : (E : Edition) → Lawful E → Within E
  pub allowance : Allowance
  pub worked : AllPaths Reported paths
  pub absent_uncounted : AbsentUncounted → ⊥
  pub last_uncounted : LastUncounted → ⊥
  pub tighter : Tighter → ⊥
