-- A row of Prefix bodies, and the chain that they become.
use Rattle.std.specs.Prelude.{ℕ, ◌+◌, ◌-◌, ◌*◌, ◌<◌, ◌≤◌, ◌≡◌, List, [], ◌∷◌, ◌++◌, length, get_or, take, drop, Option, MatchOption}
use Rattle.layout.specs.Place.{entry_at}
use Rattle.layout.specs.Kind.{prefix_kind}
use Rattle.layout.specs.Entry.{place_of, high_of}
use Rattle.model.specs.Edition.{Edition}
use Rattle.model.specs.Tree.{chain, prefixes, as_prefix}
use Rattle.model.specs.Item.{Item, body, cover, sum}
use Rattle.model.specs.Frame.{Lay, slot_of, Below, art, items, View}
use Rattle.model.specs.Frame.Lay.{leaf, prefix, node}
use Rattle.model.specs.Mark.{Mark, marks, count}
use Rattle.model.specs.Touch.{find_lay}
use Rattle.room.specs.Book.{taken_all, RoomFor}
use Rattle.between.specs.Hole.{Step}
use Rattle.between.specs.Work.{Work}
use Rattle.between.specs.Since.{Changed, Since}
use Rattle.between.specs.Edit.{Booked}

-- ---- a slot

-- its entry stands in the frame, and names a kind
pub record Entered (f : List ℕ) (s : ℕ) : Type 0 where
  pub some : 1 ≤ s
  pub entry : entry_at s + 4 ≤ length f
  pub least : 1 ≤ high_of f s
  pub most : high_of f s ≤ 8

-- where a Prefix stands, if the entry says so
abbrev pub PrefixThere : List ℕ → ℕ → Option ℕ → Type 0
PrefixThere f s r = MatchOption r (high_of f s ≡ prefix_kind → ⊥) (λ o. (high_of f s ≡ prefix_kind) × (o ≡ place_of f s))

-- ---- the row: slots and places, the last one first, as it is taken, opened and freed

-- as loose items
abbrev pub row_items : List (ℕ × ℕ) → List Item → List Item
row_items [] is = is
row_items (x ∷ rs) is = body x.0 prefix_kind x.1 ∷ row_items rs is

-- a slice names their slots, each after those before it
abbrev pub Named : List ℕ → List (ℕ × ℕ) → Type 0
Named row [] = Unit {0}
Named row (x ∷ rs) = (get_or row (length rs) 0 ≡ x.0) × Named row rs

-- those of a row go on top of others, the last of them first
abbrev pub unwound : List (ℕ × ℕ) → List (ℕ × ℕ) → List (ℕ × ℕ)
unwound [] left = left
unwound (x ∷ gone) left = unwound gone (x ∷ left)

-- ---- the run of Prefixes on top of a tree

-- its bodies, slots and places from the top on; its bytes; and what stands below it
abbrev pub bodies_of : Lay → List (ℕ × ℕ)
bodies_of (leaf s o e k v) = []
bodies_of (prefix s o p l) = (s, o) ∷ bodies_of l
bodies_of (node s o kind ks) = []

abbrev pub bytes_of : Lay → List ℕ
bytes_of (leaf s o e k v) = []
bytes_of (prefix s o p l) = p ++ bytes_of l
bytes_of (node s o kind ks) = []

abbrev pub tip_of : Lay → Lay
tip_of (leaf s o e k v) = leaf s o e k v
tip_of (prefix s o p l) = tip_of l
tip_of (node s o kind ks) = node s o kind ks

-- ---- the chain

-- as many loose bodies as the string p asks for, above the node t
pub record Ready (E : Edition) (f : List ℕ) (h : View) (xs : List Step) (s : ℕ) (path p : List ℕ) (t : Lay) (ts : List (List ℕ × Lay)) (all : List (ℕ × ℕ)) (loose : List Item) (row : List ℕ) (c : ℕ) : Type 0 where
  pub work : Work E f h xs s ((path ++ p, t) ∷ ts) (row_items all loose)
  pub named : Named row all
  pub many : length all ≡ chain (length p)
  pub slot : slot_of t ≡ c
  pub node : (q : List ℕ) → Below q t

-- the bytes of p from `to` on stand as a chain of slot r above t; i bodies are left
pub record Raised (E : Edition) (f g : List ℕ) (h : View) (xs : List Step) (s : ℕ) (path p : List ℕ) (t : Lay) (ts : List (List ℕ × Lay)) (all : List (ℕ × ℕ)) (loose : List Item) (row : List ℕ) (i to r : ℕ) : Type 0 where
  pub left : List (ℕ × ℕ)
  pub lay : Lay
  pub named : Named row left
  pub many : length left ≡ i
  pub work : Work E g h xs s ((path ++ take to p, lay) ∷ ts) (row_items left loose)
  pub slot : slot_of lay ≡ r
  pub slot_in : (1 ≤ slot_of t) × (slot_of t < 65536) → (1 ≤ r) × (r < 65536)
  -- what may stand above it: anything where no piece is written yet, else a full Prefix
  pub hangs : (q : List ℕ) → (to < length p → length q ≡ 112) → Below q lay
  pub art_is : art lay ≡ as_prefix (drop to p) (art t)
  -- its run: the bodies that were written, and that of t
  pub run : ◌≡◌ {A = List (ℕ × ℕ)} (unwound left (bodies_of lay)) (unwound all (bodies_of t))
  pub string : bytes_of lay ≡ drop to p ++ bytes_of t
  pub tip : tip_of lay ≡ tip_of t
  pub sums : (w : Item → ℕ) → sum w (items lay) + sum w (row_items left []) ≡ sum w (row_items all []) + sum w (items t)
  pub within : (w : Item → ℕ) → sum w (row_items left []) ≤ sum w (row_items all [])
  -- the bodies of t stand where they stood
  pub stands : (w : Mark → ℕ) → count w (marks (path ++ p) t) ≤ count w (marks (path ++ take to p) lay)
  pub look : (k : List ℕ) (d : ℕ) (rest : List ℕ) → drop d (E.walked k) ≡ drop to p ++ rest → find_lay E lay d k ≡ find_lay E t (d + length (drop to p)) k
  pub changed : Changed f g (λ a. sum (cover a) (row_items all []))

-- whatever else the work is
abbrev pub RowWritten : List ℕ → List ℕ → List ℕ → List ℕ → ℕ → ℕ → ℕ → ℕ → Type 0
RowWritten f g row p c i to r =
    (E : Edition) (h : View) (xs : List Step) (s : ℕ) (path : List ℕ) (t : Lay) (ts : List (List ℕ × Lay)) (all : List (ℕ × ℕ)) (loose : List Item) → Ready E f h xs s path p t ts all loose row c
    → Raised E f g h xs s path p t ts all loose row i to r

-- some work in which the row is ready
pub record Writes (f row p : List ℕ) (c : ℕ) : Type 0 where
  pub edition : Edition
  pub view : View
  pub steps : List Step
  pub top : ℕ
  pub path : List ℕ
  pub tree : Lay
  pub trees : List (List ℕ × Lay)
  pub all : List (ℕ × ℕ)
  pub loose : List Item
  pub ready : Ready edition f view steps top path p tree trees all loose row c
  pub long : chain (length p) ≤ length row
  pub short : length p < 65536
  pub low : c < 4294967296

-- ---- the row is taken

-- n bodies were taken and are loose, before those of rs
pub record Grown (E : Edition) (f g : List ℕ) (h : View) (xs : List Step) (s : ℕ) (ts : List (List ℕ × Lay)) (rs : List (ℕ × ℕ)) (loose : List Item) (row : List ℕ) (n : ℕ) : Type 0 where
  pub new : List (ℕ × ℕ)
  pub many : length new ≡ n
  pub named : Named row (new ++ rs)
  pub work : Work E g (taken_all h (prefixes n)) xs s ts (row_items new (row_items rs loose))
  pub since : (f0 : List ℕ) (h0 : View) (bs ws es : List Item) → Since f0 h0 f h bs ws [] es → Since f0 h0 g (taken_all h (prefixes n)) (row_items new bs) ws [] es

-- the bodies of rs are loose, and there is room for n more
pub record Grows (E : Edition) (f : List ℕ) (h : View) (xs : List Step) (s : ℕ) (ts : List (List ℕ × Lay)) (rs : List (ℕ × ℕ)) (loose : List Item) (row : List ℕ) (have n : ℕ) (ks : List ℕ) (x : ℕ) : Type 0 where
  pub work : Work E f h xs s ts (row_items rs loose)
  pub named : Named row rs
  pub many : length rs ≡ have
  pub room : RoomFor h (prefixes n ++ ks) x

abbrev pub RowTaken : List ℕ → List ℕ → List ℕ → List ℕ → ℕ → ℕ → ℕ → Type 0
RowTaken f g row row' have n i =
    (E : Edition) (h : View) (xs : List Step) (s : ℕ) (ts : List (List ℕ × Lay)) (rs : List (ℕ × ℕ)) (loose : List Item) (ks : List ℕ) (x : ℕ) → Grows E f h xs s ts rs loose row have n ks x
    → Grown E f g h xs s ts rs loose row' i

pub record Takes (f row : List ℕ) (have need : ℕ) : Type 0 where
  pub edition : Edition
  pub view : View
  pub steps : List Step
  pub top : ℕ
  pub trees : List (List ℕ × Lay)
  pub held : List (ℕ × ℕ)
  pub loose : List Item
  pub kinds : List ℕ
  pub extent : ℕ
  pub grows : Grows edition f view steps top trees held loose row have (need - have) kinds extent
  pub long : need ≤ length row
  pub short : need < 65536

-- ---- the row is freed

-- of the row rs i bodies are left, and the others were freed
pub record Shrunk (E : Edition) (f g : List ℕ) (h : View) (xs : List Step) (s : ℕ) (ts : List (List ℕ × Lay)) (rs : List (ℕ × ℕ)) (loose : List Item) (row : List ℕ) (i : ℕ) : Type 0 where
  pub view : View
  pub left : List (ℕ × ℕ)
  pub gone : List (ℕ × ℕ)
  pub whole : unwound gone left ≡ rs
  pub many : length left ≡ i
  pub named : Named row left
  pub work : Work E g view xs s ts (row_items left loose)
  pub booked : (h0 : View) (ks fs : List ℕ) (x d r : ℕ) → Booked h0 h ks fs x d r → Booked h0 view ks (prefixes (length gone) ++ fs) x d r
  pub since : (f0 : List ℕ) (h0 : View) (bs ws gs es : List Item) → Since f0 h0 f h bs ws gs es → Since f0 h0 g view bs ws (row_items gone gs) es

abbrev pub RowFreed : List ℕ → List ℕ → List ℕ → ℕ → ℕ → Type 0
RowFreed f g row have i =
    (E : Edition) (h : View) (xs : List Step) (s : ℕ) (ts : List (List ℕ × Lay)) (rs : List (ℕ × ℕ)) (loose : List Item) → Work E f h xs s ts (row_items rs loose) → Named row rs → length rs ≡ have
    → Shrunk E f g h xs s ts rs loose row i

pub record Frees (f row : List ℕ) (have : ℕ) : Type 0 where
  pub edition : Edition
  pub view : View
  pub steps : List Step
  pub top : ℕ
  pub trees : List (List ℕ × Lay)
  pub held : List (ℕ × ℕ)
  pub loose : List Item
  pub work : Work edition f view steps top trees (row_items held loose)
  pub named : Named row held
  pub many : length held ≡ have
  pub long : have ≤ length row

-- ---- the row is read

-- the bytes and the bodies of a chain, from its top on
abbrev pub run_long : Lay → ℕ
run_long (leaf s o e k v) = 0
run_long (prefix s o p l) = length p + run_long l
run_long (node s o kind ks) = 0

abbrev pub run_many : Lay → ℕ
run_many (leaf s o e k v) = 0
run_many (prefix s o p l) = run_many l + 1
run_many (node s o kind ks) = 0

-- of the tree t the bodies of its chain are loose, down to the tree of slot r; their bytes p follow the first `long` bytes
pub record Opened (E : Edition) (f : List ℕ) (h : View) (xs : List Step) (s : ℕ) (path : List ℕ) (t : Lay) (ts : List (List ℕ × Lay)) (rs : List (ℕ × ℕ)) (loose : List Item) (row bytes bytes' : List ℕ) (long count n r : ℕ) : Type 0 where
  pub more : List (ℕ × ℕ)
  pub p : List ℕ
  pub tip : Lay
  pub work : Work E f h xs s ((path ++ p, tip) ∷ ts) (row_items more (row_items rs loose))
  pub named : Named row (more ++ rs)
  pub many : length more + length rs ≡ count
  pub text : take n bytes' ≡ take long bytes ++ p
  pub ends : n ≡ long + length p
  pub slot : slot_of tip ≡ r
  pub longs : length p + run_long tip ≡ run_long t
  pub bodies : length more + run_many tip ≡ run_many t
  pub full : 1 ≤ run_many tip → length p ≡ 112 * length more
  pub chained : length more ≡ chain (length p)
  pub run : ◌≡◌ {A = List (ℕ × ℕ)} (unwound more (bodies_of tip)) (bodies_of t)
  pub string : p ++ bytes_of tip ≡ bytes_of t
  pub tips : tip_of tip ≡ tip_of t

abbrev pub RowRead : List ℕ → List ℕ → List ℕ → List ℕ → List ℕ → ℕ → ℕ → ℕ → ℕ → ℕ → ℕ → Type 0
RowRead f row row' bytes bytes' slot have long count n r =
    (E : Edition) (h : View) (xs : List Step) (s : ℕ) (path : List ℕ) (t : Lay) (ts : List (List ℕ × Lay)) (rs : List (ℕ × ℕ)) (loose : List Item)
    → Work E f h xs s ((path, t) ∷ ts) (row_items rs loose) → Named row rs → length rs ≡ have → slot_of t ≡ slot → Opened E f h xs s path t ts rs loose row' bytes bytes' long count n r

pub record Reads (f row bytes : List ℕ) (slot have long : ℕ) : Type 0 where
  pub edition : Edition
  pub view : View
  pub steps : List Step
  pub top : ℕ
  pub path : List ℕ
  pub tree : Lay
  pub trees : List (List ℕ × Lay)
  pub held : List (ℕ × ℕ)
  pub loose : List Item
  pub work : Work edition f view steps top ((path, tree) ∷ trees) (row_items held loose)
  pub named : Named row held
  pub many : length held ≡ have
  pub slot_is : slot_of tree ≡ slot
  pub row_fits : have + run_many tree ≤ length row
  pub bytes_fit : long + run_long tree ≤ length bytes
  pub low : length row < 65536
  pub short : length bytes < 65536
