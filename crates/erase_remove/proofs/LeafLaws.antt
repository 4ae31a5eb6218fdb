-- A Leaf of the forest goes: what the calls of `drop_leaf` ask, and what they leave. Assumes nothing.
use Prim.Native.Nat.{ℕ, ◌+◌, ◌-◌, ◌≤◌}
use mathlib.Core.Path.{◌≡◌, refl, ap, ◌∙◌}
use mathlib.Core.List.{List, ◌∷◌, ◌++◌}
use native.Mathlib.Omega.{arith}
use lib.ListN.{length}
use Rattle.layout.specs.Number.{le}
use Rattle.layout.specs.Place.{at_r, leaf_extent, leaf_key, leaf_value}
use Rattle.layout.specs.Kind.{leaf_kind, Kind}
use Rattle.layout.specs.Entry.{place_of}
use Rattle.model.specs.Edition.{Edition, Value}
use Rattle.model.specs.Tree.{up8, extent_of}
use Rattle.model.specs.Item.{Item, body, extent, Same}
use Rattle.model.specs.Frame.{Lay, View, Heap}
use Rattle.model.specs.Frame.Lay.{leaf}
use Rattle.room.specs.View.{released, retired, recorded}
use Rattle.room.specs.Step.{Frees, Freed, Retires, Died, Renumbered}
use Rattle.room.proofs.HeapLaws.{lies}
use Rattle.between.specs.Hole.{Step, steps_items}
use Rattle.between.specs.Work.{forest_items, Work}
use Rattle.between.proofs.WorkLaws.{open_leaf, first_owns, entries_first, work_free, work_retire, work_count}
use Rattle.between.proofs.EditLaws.{extent_some}
use Rattle.between.proofs.BookedLaws.{booked_free, booked_retire, booked_count}
use Rattle.between.proofs.SinceLaws.{since_free, since_retire, since_count}
use Rattle.erase_remove.specs.Leaf.{Drops, Dropped}

-- what `drop_leaf` says
abbrev pub DropLeaf : List ℕ → List ℕ → ℕ → ℕ → Type 0
DropLeaf f g n o = (E : Edition) (h : View) (xs : List Step) (s : ℕ) (path : List ℕ) (e : ℕ) (k : List ℕ) (v : Value) (ts : List (List ℕ × Lay)) (loose : List Item)
    → Work E f h xs s ((path, leaf n o e k v) ∷ ts) loose → Dropped E f g h xs s ts loose n o e k v

pub leaf_kind_lem : Kind leaf_kind
leaf_kind_lem = (omega arith, omega arith, λ z. omega arith)

module _ {E : Edition} {f : List ℕ} {h : View} {xs : List Step} {s : ℕ} (n o : ℕ) (path : List ℕ) (e : ℕ) (k : List ℕ) (v : Value) (ts : List (List ℕ × Lay)) (loose : List Item)
    (W : Work E f h xs s ((path, leaf n o e k v) ∷ ts) loose) where
  abbrev size : ℕ
  size = extent_of k v

  abbrev W1 : Work E f h xs s ts (body n leaf_kind o ∷ extent e size ∷ loose)
  W1 = (open_leaf path ts loose n o e k v W).0

  -- its bytes
  pub leaf_room : o + 16 ≤ length f
  leaf_room = let I = lies n leaf_kind o _ W1.heap (first_owns W1) (omega arith) (omega arith) in omega (arith, I.ends, W1.heap.header.size)

  pub leaf_extent_lem : {x : ℕ} → x ≡ le 4 f (o + leaf_extent) → x ≡ e
  leaf_extent_lem ee = ee ∙ (open_leaf path ts loose n o e k v W).1.at.extent

  pub leaf_size : {a b m : ℕ} → a ≡ le 2 f (o + leaf_key) → b ≡ le 2 f (o + leaf_value) → m ≡ up8 (a + b) → m ≡ size
  leaf_size ea eb em =
      let L = (open_leaf path ts loose n o e k v W).1.at in
      let ka = ea ∙ L.key_length in
      let vb = eb ∙ L.value_length in
      em ∙ rw (ka, vb) refl

  abbrev rest1 : List Item
  rest1 = (extent e size ∷ loose) ++ (steps_items xs ++ forest_items ts)

  placed : place_of f n ≡ o
  placed = (entries_first f n leaf_kind o (extent e size ∷ loose) W1.entries).0.place_is

  pub leaf_frees : Frees f n leaf_kind
  leaf_frees = record { view = h; heap = W1.heap; kind = leaf_kind_lem; place = o; rest = rest1; owns = first_owns W1; place_is = placed }

  module _ {f1 : List ℕ} (release : (h : View) (o : ℕ) (rest : List Item) → Heap f h → Same h.owned (body n leaf_kind o ∷ rest) → place_of f n ≡ o → Freed f f1 h n leaf_kind o rest) where
    abbrev h1 : View
    h1 = released h n leaf_kind o rest1

    F1 : Freed f f1 h n leaf_kind o rest1
    F1 = release h o rest1 W1.heap (first_owns W1) placed

    W2 : Work E f1 h1 xs s ts (extent e size ∷ loose)
    W2 = work_free W1 F1

    abbrev rest2 : List Item
    rest2 = loose ++ (steps_items xs ++ forest_items ts)

    pub leaf_retires : {x m : ℕ} → 1 ≤ length k → x ≡ e → m ≡ size → Retires f1 x m
    leaf_retires some ex em = rw (ex, em) (record { view = h1; heap = W2.heap; rest = rest2; owns = first_owns W2; some = extent_some k v some })

    module _ {f2 : List ℕ} {x m : ℕ} (ex : x ≡ e) (em : m ≡ size) (retire : (h : View) (rest : List Item) → Heap f1 h → Same h.owned (extent x m ∷ rest) → Died f1 f2 h x m rest) where
      abbrev h2 : View
      h2 = retired h1 size rest2

      C2 : Died f1 f2 h1 e size rest2
      C2 = rw (ex, em) at (retire h1 rest2 W2.heap (rw (ex, em) (first_owns W2)))

      W3 : Work E f2 h2 xs s ts loose
      W3 = work_retire W2 C2

      pub leaf_records : le 4 f2 at_r ≡ h.nums.R
      leaf_records = W3.heap.header.records_at

      pub leaf_dropped : {f3 : List ℕ} {r : ℕ} → r ≡ le 4 f2 at_r → ((h : View) → Heap f2 h → Renumbered f2 f3 h (recorded h (r - 1))) → Dropped E f f3 h xs s ts loose n o e k v
      leaf_dropped {f3} {r} er count =
          let C3 = count h2 W3.heap in
          record {
            view = recorded h2 (r - 1);
            work = work_count W3 (r - 1) C3;
            since = λ f0 h0 takes rewrites frees extents Z. since_count (since_retire e size (first_owns W2) (since_free leaf_kind_lem W1.heap (first_owns W1) Z F1) C2) C3;
            booked = λ h0 takes frees x d d' t ed Z. booked_count (booked_retire (booked_free Z n leaf_kind o rest1 leaf_kind_lem) size d' rest2 ed) (r - 1) (t - 1) (ap (λ i. i - 1) (er ∙ leaf_records ∙ Z.R));
          }

-- the same of the witness
module _ {f : List ℕ} {n o : ℕ} (D : Drops f n o) where
  pub drops_room : o + 16 ≤ length f
  drops_room = leaf_room n o D.path D.extent D.key D.value D.trees D.loose D.work

  pub drops_frees : Frees f n leaf_kind
  drops_frees = leaf_frees n o D.path D.extent D.key D.value D.trees D.loose D.work

  module _ {f1 : List ℕ} (release : (h : View) (o : ℕ) (rest : List Item) → Heap f h → Same h.owned (body n leaf_kind o ∷ rest) → place_of f n ≡ o → Freed f f1 h n leaf_kind o rest)
      {a b x m : ℕ} (ea : a ≡ le 2 f (o + leaf_key)) (eb : b ≡ le 2 f (o + leaf_value)) (ex : x ≡ le 4 f (o + leaf_extent)) (em : m ≡ up8 (a + b)) where
    extent_is : x ≡ D.extent
    extent_is = leaf_extent_lem n o D.path D.extent D.key D.value D.trees D.loose D.work ex

    size_is : m ≡ extent_of D.key D.value
    size_is = leaf_size n o D.path D.extent D.key D.value D.trees D.loose D.work ea eb em

    pub drops_retires : Retires f1 x m
    drops_retires = leaf_retires n o D.path D.extent D.key D.value D.trees D.loose D.work release D.some extent_is size_is

    pub drops_records : {f2 : List ℕ} → ((h : View) (rest : List Item) → Heap f1 h → Same h.owned (extent x m ∷ rest) → Died f1 f2 h x m rest) → 1 ≤ le 4 f2 at_r
    drops_records retire = omega (arith, leaf_records n o D.path D.extent D.key D.value D.trees D.loose D.work release extent_is size_is retire, D.records)

-- and of any work
pub drop_law : {f f1 f2 f3 : List ℕ} {n o a b x m r : ℕ} → ((h : View) (o : ℕ) (rest : List Item) → Heap f h → Same h.owned (body n leaf_kind o ∷ rest) → place_of f n ≡ o → Freed f f1 h n leaf_kind o rest)
    → a ≡ le 2 f (o + leaf_key) → b ≡ le 2 f (o + leaf_value) → x ≡ le 4 f (o + leaf_extent) → m ≡ up8 (a + b) → ((h : View) (rest : List Item) → Heap f1 h → Same h.owned (extent x m ∷ rest) → Died f1 f2 h x m rest)
    → r ≡ le 4 f2 at_r → ((h : View) → Heap f2 h → Renumbered f2 f3 h (recorded h (r - 1)))
    → DropLeaf f f3 n o
drop_law {n = n} {o = o} release ea eb ex em retire er count E h xs s path e k v ts loose W =
    leaf_dropped n o path e k v ts loose W release (leaf_extent_lem n o path e k v ts loose W ex) (leaf_size n o path e k v ts loose W ea eb em) retire er count
