-- What the functions on a frame's heap count on and promise: the frame after has the heap that the change of the view says, and which
-- bytes changed.
use Rattle.std.specs.Prelude.{ℕ, ◌+◌, ◌<◌, ◌≤◌, ◌≡◌, List, ◌∷◌, length, get_or}
use Rattle.layout.specs.Number.{byte_at}
use Rattle.layout.specs.Place.{at_b, at_spare, entry_at}
use Rattle.layout.specs.Kind.{Kind, body_size}
use Rattle.layout.specs.Entry.{place_of}
use Rattle.model.specs.Tree.{up8}
use Rattle.model.specs.Item.{Item, body, extent, touch, sum, Same}
use Rattle.model.specs.Frame.{View, Heap, Entry}
use Rattle.moves.specs.Moved.{Only}
use Rattle.room.specs.View.{list_of, slot_from, place_from, taken, Roomy, released, extended, retired}

-- ---- which bytes changed

-- g is f but for B, U, R, X, the root slot and the list heads (16 up to 50) and the bytes from lo up to hi
pub record But (f g : List ℕ) (lo hi : ℕ) : Type 0 where
  pub size : length g ≡ length f
  pub first : (a : ℕ) → a < at_b → byte_at g a ≡ byte_at f a
  pub keep : (a : ℕ) → at_spare ≤ a → (lo ≤ a → a < hi → ⊥) → byte_at g a ≡ byte_at f a

-- g has f's bytes wherever the items stand
pub record Kept (f g : List ℕ) (is : List Item) : Type 0 where
  pub size : length g ≡ length f
  pub keep : (a : ℕ) → 1 ≤ sum (touch a) is → byte_at g a ≡ byte_at f a

-- ---- take

pub record Takes (f : List ℕ) (k : ℕ) : Type 0 where
  pub view : View
  pub heap : Heap f view
  pub kind : Kind k
  pub room : Roomy view k

-- a body of kind k was taken, with slot s
pub record Took (f g : List ℕ) (h : View) (k s : ℕ) : Type 0 where
  pub heap : Heap g (taken h k)
  pub slot : s ≡ slot_from h (list_of h k)
  pub entry : Entry g s k (place_from h (list_of h k))
  pub but : But f g (entry_at s) (entry_at s + 4)
  pub kept : Kept f g h.owned

-- ---- release

-- the slot s is one of kind k that is given out and not freed
pub record Frees (f : List ℕ) (s k : ℕ) : Type 0 where
  pub view : View
  pub heap : Heap f view
  pub kind : Kind k
  pub place : ℕ
  pub rest : List Item
  pub owns : Same view.owned (body s k place ∷ rest)
  pub place_is : place_of f s ≡ place

-- the body of slot s, kind k and place o was freed; `rest` was owned besides. Zero was written over it, then its entry changed
pub record Freed (f g : List ℕ) (h : View) (s k o : ℕ) (rest : List Item) : Type 0 where
  pub heap : Heap g (released h s k o rest)
  pub middle : List ℕ
  pub wiped : Only f middle o (o + body_size k)
  pub but : But middle g (entry_at s) (entry_at s + 4)
  pub kept : Kept f g rest

-- ---- extend

-- an extent of n bytes, before it is rounded
pub record Extends (f : List ℕ) (n : ℕ) : Type 0 where
  pub view : View
  pub heap : Heap f view
  pub room : view.nums.B + up8 n ≤ view.nums.F

-- "An extent is key then value, its size rounded up to a multiple of 8": it was written at B, which is e
pub record Extended (f g : List ℕ) (h : View) (k v : List ℕ) (e : ℕ) : Type 0 where
  pub place : e ≡ h.nums.B
  pub heap : Heap g (extended h (up8 (length k + length v)))
  pub key : (a i : ℕ) → i < length k → a ≡ e + i → byte_at g a ≡ get_or k i 0
  pub value : (a i : ℕ) → i < length v → a ≡ e + length k + i → byte_at g a ≡ get_or v i 0
  pub but : But f g e (e + up8 (length k + length v))
  pub kept : Kept f g h.owned

-- ---- retire

-- an extent of n bytes at o is given out
pub record Retires (f : List ℕ) (o n : ℕ) : Type 0 where
  pub view : View
  pub heap : Heap f view
  pub rest : List Item
  pub owns : Same view.owned (extent o n ∷ rest)
  pub some : 1 ≤ n

-- it died; `rest` was owned besides. Zero was written over it, then X changed
pub record Died (f g : List ℕ) (h : View) (o n : ℕ) (rest : List Item) : Type 0 where
  pub heap : Heap g (retired h n rest)
  pub middle : List ℕ
  pub wiped : Only f middle o (o + n)
  pub but : But middle g 0 0
  pub kept : Kept f g rest

-- ---- set_records, set_root: fields alone

-- the view h became h', and no byte from 50 on changed
pub record Renumbered (f g : List ℕ) (h h' : View) : Type 0 where
  pub heap : Heap g h'
  pub but : But f g 0 0
  pub kept : Kept f g h.owned
