-- (02) "A returned modem gave up an old subscriber password from a dead extent. Whatever frees a body or an extent now writes zero over it. In a
-- good frame freed bodies, dead extents and bytes from B on are zero": what the promises make of that.
use Rattle.std.specs.Prelude.{ℕ, ◌+◌, ◌<◌, ◌≤◌, ◌≡◌, List, ◌++◌, length}
use Rattle.layout.specs.Number.{le, byte_at}
use Rattle.layout.specs.Place.{at_d, at_b}
use Rattle.model.specs.Edition.{Edition, edition1, before1, Value, text_of}
use Rattle.model.specs.Tree.{up8}
use Rattle.model.specs.State.{State, Write}
use Rattle.model.specs.Item.{cover, sum}
use Rattle.model.specs.Frame.{Root, root_items, freed, Stands}
use Rattle.model.specs.Promise.{Found, LookUpPromise, WritePromise, ErasePromise}

-- a frame with this root and these lists is zero in its freed bodies, in its dead extents, which nothing covers, and from B on
pub record ZeroWhereFree (f : List ℕ) (r : Root) (ls : List (List (ℕ × ℕ))) : Type 0 where
  pub bodies : (a : ℕ) → 1 ≤ sum (cover a) (freed 1 ls) → byte_at f a ≡ 0
  pub extents : (a : ℕ) → le 4 f at_d ≤ a → a < le 4 f at_b → sum (cover a) (root_items r ++ freed 1 ls) ≡ 0 → byte_at f a ≡ 0
  pub from_b : (a : ℕ) → le 4 f at_b ≤ a → byte_at f a ≡ 0

-- the good frames are document 01's that are so
pub record NewRule : Type 0 where
  pub forth : (f : List ℕ) (s : State) (w : Stands edition1 f s) → Stands before1 f s × ZeroWhereFree f w.root w.lists
  pub back : (f : List ℕ) (s : State) (w : Stands before1 f s) → ZeroWhereFree f w.root w.lists → Stands edition1 f s

-- where look-up of k found a value, f' is zero: from the key's first byte to the end of the padding
abbrev pub Gone : List ℕ → List ℕ → Found → Type 0
Gone f' k g = (a : ℕ) → g.place ≤ a + length k → a + length k < g.place + up8 (length k + g.long) → byte_at f' a ≡ 0

-- look-up of k had found a value; then it was erased, or replaced by one of another length
pub record Wiped (E : Edition) : Type 0 where
  pub erase : (f k : List ℕ) (g : Found) (n : ℕ) (f' : List ℕ) → LookUpPromise E f k g → g.number ≡ 0 → ErasePromise E f k n f' → n ≡ 0 → Gone f' k g
  pub replace : (a : Write) (f k : List ℕ) (v : Value) (g : Found) (n : ℕ) (f' : List ℕ) → LookUpPromise E f k g → g.number ≡ 0 → WritePromise E a f k v n f' → n ≡ 9 → (length (text_of v) ≡ g.long → ⊥) → Gone f' k g
