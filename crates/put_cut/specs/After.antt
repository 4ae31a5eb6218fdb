-- The part after of a cut Prefix, for chains of any length.
use Rattle.std.specs.Prelude.{ℕ, zero, suc, ◌+◌, ◌-◌, ◌<◌, ◌≤◌, ◌≡◌, List, [], ◌∷◌, ◌++◌, length, take, drop}
use Rattle.model.specs.Edition.{Edition}
use Rattle.model.specs.Tree.{chain, prefixes}
use Rattle.model.specs.Item.{Item, cover, sum}
use Rattle.model.specs.Body.{PrefixAt}
use Rattle.model.specs.Frame.{Lay, slot_of, Below, View}
use Rattle.model.specs.Frame.Lay.{prefix}
use Rattle.room.specs.Book.{taken_all, RoomFor}
use Rattle.between.specs.Hole.{Step, under, path_of}
use Rattle.between.specs.Work.{Work}
use Rattle.between.specs.Since.{Changed, Since}
use Rattle.chain.specs.Row.{row_items, Named, unwound, bodies_of, bytes_of, tip_of, run_long, run_many}

-- ---- the bytes of a Prefix from q on and those below it

-- the tree l stands below the Prefix at o, of bytes p
pub record Gathering (E : Edition) (f : List ℕ) (h : View) (xs : List Step) (s : ℕ) (path p : List ℕ) (l : Lay) (ts : List (List ℕ × Lay)) (rs : List (ℕ × ℕ)) (loose : List Item) (row : List ℕ) (o q have : ℕ) : Type 0 where
  pub work : Work E f h xs s ((path ++ p, l) ∷ ts) (row_items rs loose)
  pub at : PrefixAt f o p (slot_of l)
  pub some : q ≤ length p
  pub named : Named row rs
  pub many : length rs ≡ have

-- of l the bodies of its chain are loose, down to the tree of slot r, which is no Prefix
pub record Gathered (E : Edition) (f : List ℕ) (h : View) (xs : List Step) (s : ℕ) (path p : List ℕ) (l : Lay) (ts : List (List ℕ × Lay)) (rs : List (ℕ × ℕ)) (loose : List Item) (row bytes : List ℕ) (q count n r : ℕ) : Type 0 where
  pub more : List (ℕ × ℕ)
  pub tip : Lay
  pub work : Work E f h xs s (((path ++ p) ++ bytes_of l, tip) ∷ ts) (row_items more (row_items rs loose))
  pub named : Named row (more ++ rs)
  pub many : length more + length rs ≡ count
  pub slot : slot_of tip ≡ r
  pub tip_is : tip ≡ tip_of l
  pub run : ◌≡◌ {A = List (ℕ × ℕ)} (unwound more []) (bodies_of l)
  pub text : take n bytes ≡ drop q p ++ bytes_of l
  pub long : n ≡ length (drop q p ++ bytes_of l)
  pub in_row : n ≤ length bytes

abbrev pub RunGathered : List ℕ → List ℕ → List ℕ → List ℕ → ℕ → ℕ → ℕ → ℕ → ℕ → ℕ → Type 0
RunGathered f row row' bytes o q have count n r =
    (E : Edition) (h : View) (xs : List Step) (s : ℕ) (path p : List ℕ) (l : Lay) (ts : List (List ℕ × Lay)) (rs : List (ℕ × ℕ)) (loose : List Item)
    → Gathering E f h xs s path p l ts rs loose row o q have → Gathered E f h xs s path p l ts rs loose row' bytes q count n r

-- some work in which it is so, with room in the row and for the bytes
pub record Gathers (f row bytes : List ℕ) (o q have : ℕ) : Type 0 where
  pub edition : Edition
  pub view : View
  pub steps : List Step
  pub top : ℕ
  pub path : List ℕ
  pub string : List ℕ
  pub below : Lay
  pub trees : List (List ℕ × Lay)
  pub held : List (ℕ × ℕ)
  pub loose : List Item
  pub gathering : Gathering edition f view steps top path string below trees held loose row o q have
  pub row_fits : have + run_many below ≤ length row
  pub bytes_fit : length string - q + run_long below ≤ length bytes
  pub low : length row < 65536
  pub short : length bytes < 65536

-- ---- the first byte goes

-- the body of slot n at o, if j is not 0
abbrev pub own_row : ℕ → ℕ → ℕ → List (ℕ × ℕ)
own_row n o zero = []
own_row n o (suc j) = (n, o) ∷ []

-- the shared beginning from the Prefix of slot n at o on has lost its first byte: what is left has slot r, and j tells whether n is spare
pub record Dropped (E : Edition) (f g : List ℕ) (h : View) (xs : List Step) (s : ℕ) (path : List ℕ) (n o : ℕ) (p : List ℕ) (l : Lay) (ts : List (List ℕ × Lay)) (loose : List Item) (r j : ℕ) : Type 0 where
  pub lay : Lay
  pub work : Work E g h xs s ((path ++ take 1 p, lay) ∷ ts) (row_items (own_row n o j) loose)
  pub slot : slot_of lay ≡ r
  pub few : j ≤ 1
  -- the bodies stand in the order that they had
  pub run : ◌≡◌ {A = List (ℕ × ℕ)} (own_row n o j ++ bodies_of lay) ((n, o) ∷ bodies_of l)
  pub string : bytes_of lay ≡ drop 1 p ++ bytes_of l
  pub tip : tip_of lay ≡ tip_of l
  pub changed : Changed f g (λ a. sum (cover a) (row_items ((n, o) ∷ bodies_of l) []))

-- whatever else the work is
abbrev pub FirstDropped : List ℕ → List ℕ → ℕ → ℕ → ℕ → ℕ → Type 0
FirstDropped f g n o r j =
    (E : Edition) (h : View) (xs : List Step) (s : ℕ) (path p : List ℕ) (l : Lay) (ts : List (List ℕ × Lay)) (loose : List Item)
    → Work E f h xs s ((path, prefix n o p l) ∷ ts) loose → Dropped E f g h xs s path n o p l ts loose r j

-- some work in which the Prefix stands; its chain has no more bodies than a row
pub record Drops (f : List ℕ) (n o : ℕ) : Type 0 where
  pub edition : Edition
  pub view : View
  pub steps : List Step
  pub top : ℕ
  pub path : List ℕ
  pub bytes : List ℕ
  pub below : Lay
  pub trees : List (List ℕ × Lay)
  pub loose : List Item
  pub work : Work edition f view steps top ((path, prefix n o bytes below) ∷ trees) loose
  pub few : length (bodies_of below) < 5

-- ---- the first bytes stay

-- how many Prefixes more the bytes from q on and those below need
abbrev pub lacking : List ℕ → Lay → ℕ → ℕ
lacking p l q = chain (length (drop q p ++ bytes_of l)) - length (bodies_of l)

-- the tree l stands below the Prefix of slot n at o, and there is room for what is needed more
pub record Splitting (E : Edition) (f : List ℕ) (h : View) (xs : List Step) (n o : ℕ) (p : List ℕ) (l : Lay) (ts : List (List ℕ × Lay)) (loose : List Item) (q : ℕ) (ks : List ℕ) (x : ℕ) : Type 0 where
  pub work : Work E f h (under n o p ∷ xs) (slot_of l) ((path_of xs ++ p, l) ∷ ts) loose
  pub hangs : Below p l
  pub some : q ≤ length p
  pub room : RoomFor h (prefixes (lacking p l q) ++ ks) x

-- a tree of slot r has the bytes from q on, in the bodies below and then in those of `new`, which were taken
pub record Split (E : Edition) (f g : List ℕ) (h : View) (xs : List Step) (n o : ℕ) (p : List ℕ) (l : Lay) (ts : List (List ℕ × Lay)) (loose : List Item) (q r : ℕ) : Type 0 where
  pub new : List (ℕ × ℕ)
  pub lay : Lay
  pub many : length new ≡ lacking p l q
  pub work : Work E g (taken_all h (prefixes (lacking p l q))) (under n o p ∷ xs) (slot_of l) ((path_of xs ++ take q p, lay) ∷ ts) loose
  pub slot : slot_of lay ≡ r
  pub run : ◌≡◌ {A = List (ℕ × ℕ)} (bodies_of lay) (bodies_of l ++ unwound new [])
  pub string : bytes_of lay ≡ drop q p ++ bytes_of l
  pub tip : tip_of lay ≡ tip_of l
  pub since : (f0 : List ℕ) (h0 : View) (bs ws es : List Item) → Since f0 h0 f h bs ws [] es → ((a : ℕ) → sum (cover a) (row_items (bodies_of l) []) ≤ sum (cover a) ws)
      → Since f0 h0 g (taken_all h (prefixes (lacking p l q))) (row_items new bs) ws [] es

abbrev pub SplitOff : List ℕ → List ℕ → ℕ → ℕ → ℕ → Type 0
SplitOff f g o q r =
    (E : Edition) (h : View) (xs : List Step) (n : ℕ) (p : List ℕ) (l : Lay) (ts : List (List ℕ × Lay)) (loose : List Item) (ks : List ℕ) (x : ℕ) → Splitting E f h xs n o p l ts loose q ks x
    → Split E f g h xs n o p l ts loose q r

pub record Splits (f : List ℕ) (o q : ℕ) : Type 0 where
  pub edition : Edition
  pub view : View
  pub steps : List Step
  pub number : ℕ
  pub bytes : List ℕ
  pub below : Lay
  pub trees : List (List ℕ × Lay)
  pub loose : List Item
  pub kinds : List ℕ
  pub extent : ℕ
  pub splitting : Splitting edition f view steps number o bytes below trees loose q kinds extent
  pub few : length (bodies_of below) < 5
