-- Any order (document 02, Q-14) of calls that were made: three on a frame, and on its copy the last of them first. `f` and `o` are a lent frame and
-- output at entry, `g` and `p` a second pair; `f'`, `o'`, `g'`, `p'` are they at exit.
use Rattle.std.specs.Prelude.{ℕ, ◌≡◌, List, [], ◌∷◌, Option, Some, None, ◌≢◌, length}
use Rattle.model.specs.Edition.{Edition}
use Rattle.model.specs.Promise.{PackPromise}
use Rattle.model.specs.Call.{Call}
use Rattle.sequence.specs.Sequence as sequence
use Rattle.sequence.specs.Sequence.{SameCalls, SameAnswers}
use Rattle.demands.specs.Words.{NotRefused}
use Rattle.demands.specs.AnyOrder.{NoneRefused}
use Rattle.answers.specs.Number.{done_number}
use Rattle.demanded.specs.Orders.{told}
use Rattle.demanded.specs.declared.sequences.Three.{Three}

abbrev pub numbers : Three → List ℕ
numbers r = told r.first ∷ told r.second ∷ told r.third ∷ []

-- the calls were made on f one after another, and what they left was packed
pub record InRow (E : Edition) (f o : List ℕ) (cs : List Call) (r : Three) (f' o' : List ℕ) : Type 0 where
  pub made : sequence.Made E f cs (numbers r) f'
  pub packed : PackPromise E f' o (done_number r.packed) o'

-- cs on f, and ds on a copy of f
pub record InTwoOrders (E : Edition) (f o p : List ℕ) (cs ds : List Call) (x y : Three) (f' o' g' p' : List ℕ) : Type 0 where
  pub forth : InRow E f o cs x f' o'
  pub back : InRow E f p ds y g' p'
  pub same : SameCalls cs ds → NoneRefused (numbers x) → NoneRefused (numbers y) → NotRefused (done_number x.packed) → NotRefused (done_number y.packed) → SameAnswers cs (numbers x) ds (numbers y) × (o' ≡ p')

-- a copy is made exactly if there are as many bytes for it; else nothing changes
abbrev pub InAnyOrder : Edition → (f o g p : List ℕ) → Call → Call → Call → Option (Three × Three) → (f' o' g' p' : List ℕ) → Type 0
InAnyOrder E f o g p a b c (Some r) f' o' g' p' = (length g ≡ length f) × InTwoOrders E f o p (a ∷ b ∷ c ∷ []) (c ∷ a ∷ b ∷ []) r.0 r.1 f' o' g' p'
InAnyOrder E f o g p a b c None f' o' g' p' = (length g ≢ length f) × (f' ≡ f) × (o' ≡ o) × (g' ≡ g) × (p' ≡ p)
