-- Demand 3 of calls that were made: which calls, by their own promises, and what is demanded of them. `f` and `o` are a lent frame and output
-- at entry, `g` and `p` a second pair; `f'`, `o'`, `g'`, `p'` are they at exit.
use Rattle.std.specs.Prelude.{ℕ, ◌≡◌, List, Option, Some, None, Result, ◌↔◌, ◌≢◌, length}
use Rattle.model.specs.Edition.{Edition, Value}
use Rattle.model.specs.Records.{Record}
use Rattle.model.specs.Promise.{PackPromise}
use Rattle.model.specs.Call.{Call, put, replace, erase, key_of, Called}
use Rattle.demands.specs.Words.{NotRefused, Holds, slots_of}
use Rattle.store.specs.Write.{value_for}
use Rattle.answers.specs.declared.Refusal.{Refusal}
use Rattle.answers.specs.Number.{number_of, done_number, written_number, erased_number}
use Rattle.demanded.specs.declared.change.Answer.{Answer}
use Rattle.demanded.specs.declared.change.Answer.TheVariants as answer
use Rattle.demanded.specs.declared.change.Kind.{Kind}
use Rattle.demanded.specs.declared.change.Kind.TheVariants.{Put, Replace, Erase}
use Rattle.demanded.specs.declared.change.Change.{Change}
use Rattle.demanded.specs.declared.orders.Given.{Given}
use Rattle.demanded.specs.declared.orders.Packs.{Packs}

abbrev pub answer_number : Answer → ℕ
answer_number (answer.Written w) = written_number w
answer_number (answer.Erased e) = erased_number e

-- the number of what a change answered
abbrev pub told : Result Answer Refusal → ℕ
told r = number_of answer_number r

abbrev pub call_at : Kind → List ℕ → Value → Call
call_at Put k v = put k v
call_at Replace k v = replace k v
call_at Erase k v = erase k

abbrev pub call_of : Edition → Change → Call
call_of E c = call_at c.kind c.key.now (value_for E c.value.now c.stamp)

-- c and then d were made on f, and what they left was packed
pub record InOrder (E : Edition) (f o : List ℕ) (c d : Call) (r : Given) (f' o' : List ℕ) : Type 0 where
  pub between : List ℕ
  pub first : Called E f c (told r.first) between
  pub second : Called E between d (told r.second) f'
  pub packed : PackPromise E f' o (done_number r.packed) o'

abbrev pub NoneRefused : Given → Type 0
NoneRefused r = NotRefused (told r.first) × NotRefused (told r.second) × NotRefused (done_number r.packed)

-- c and then d on f; d and then c on a copy of f
pub record InBothOrders (E : Edition) (f o p : List ℕ) (c d : Call) (x y : Given) (f' o' g' p' : List ℕ) : Type 0 where
  pub forth : InOrder E f o c d x f' o'
  pub back : InOrder E f p d c y g' p'
  pub same : key_of c ≢ key_of d → NoneRefused x → NoneRefused y → (told x.first ≡ told y.second) × (told x.second ≡ told y.first) × (o' ≡ p')

-- a copy is made exactly if there are as many bytes for it; else nothing changes
abbrev pub Ordered : Edition → (f o g p : List ℕ) → Call → Call → Option (Given × Given) → (f' o' g' p' : List ℕ) → Type 0
Ordered E f o g p c d (Some r) f' o' g' p' = (length g ≡ length f) × InBothOrders E f o p c d r.0 r.1 f' o' g' p'
Ordered E f o g p c d None f' o' g' p' = (length g ≢ length f) × (f' ≡ f) × (o' ≡ o) × (g' ≡ g) × (p' ≡ p)

pub record PackedBoth (E : Edition) (f o g p : List ℕ) (r : Packs) (o' p' : List ℕ) : Type 0 where
  pub first : PackPromise E f o (done_number r.first) o'
  pub second : PackPromise E g p (done_number r.second) p'
  pub same : (rs qs : List Record) → length f ≡ length g → slots_of f ≡ slots_of g → Holds E f rs → Holds E g qs → NotRefused (done_number r.first) → NotRefused (done_number r.second)
      → (o' ≡ p') ↔ (rs ≡ qs)
