-- Puts, replacements and erases made one after another: by their promises, and on a state. Two sequences "hold the same puts, replacements and erases,
-- in which calls on one key stand in the same order" (02) exactly if for every key they have the same calls on it, in the same order: a call stands
-- on one key, so nothing is left out and nothing counted twice.
use Rattle.std.specs.Prelude.{ℕ, ◌≡◌, List, [], ◌∷◌}
use Rattle.model.specs.Strings.{pick, same}
use Rattle.model.specs.Edition.{Edition}
use Rattle.model.specs.State.{State}
use Rattle.model.specs.Call.{Call, key_of, on_call, Called}

-- the calls were made one after another from the frame f, each as promised; they gave these numbers and left g
abbrev pub Made : Edition → List ℕ → List Call → List ℕ → List ℕ → Type 0
Made E f [] [] g = f ≡ g
Made E f [] (n ∷ ns) g = ⊥
Made E f (c ∷ cs) [] g = ⊥
Made E f (c ∷ cs) (n ∷ ns) g = (f' : List ℕ) × Called E f c n f' × Made E f' cs ns g

-- ---- by key

-- the calls on the key k, and the numbers that they gave
abbrev pub on_key : List ℕ → List Call → List Call
on_key k [] = []
on_key k (c ∷ cs) = pick (same k (key_of c)) (c ∷ on_key k cs) (on_key k cs)

abbrev pub told_key : List ℕ → List Call → List ℕ → List ℕ
told_key k [] ns = []
told_key k (c ∷ cs) [] = []
told_key k (c ∷ cs) (n ∷ ns) = pick (same k (key_of c)) (n ∷ told_key k cs ns) (told_key k cs ns)

-- the same calls, those on one key in the same order
abbrev pub SameCalls : List Call → List Call → Type 0
SameCalls cs ds = (k : List ℕ) → on_key k cs ≡ on_key k ds

-- "every call answers the same": as the one that stands at its place among the calls on its key
abbrev pub SameAnswers : List Call → List ℕ → List Call → List ℕ → Type 0
SameAnswers cs ns ds ms = (k : List ℕ) → told_key k cs ns ≡ told_key k ds ms

-- ---- on a state: the numbers, and the state after

abbrev pub call_numbers : Edition → State → List Call → List ℕ
call_numbers E s [] = []
call_numbers E s (c ∷ cs) = (on_call E s c).answer ∷ call_numbers E (on_call E s c).state cs

abbrev pub state_after : Edition → State → List Call → State
state_after E s [] = s
state_after E s (c ∷ cs) = state_after E (on_call E s c).state cs
