-- What the calls of `new_leaf` and `count_record` ask, and what they come to. Assumes nothing.
use Prim.Native.Nat.{ℕ, ◌+◌, ◌<◌, ◌≤◌}
use mathlib.Core.Path.{◌≡◌, ◌∙◌}
use mathlib.Core.List.{List, [], ◌∷◌}
use native.Mathlib.Omega.{arith}
use lib.ListN.{length}
use Rattle.layout.specs.Number.{le}
use Rattle.layout.specs.Place.{entry_at, at_r}
use Rattle.layout.specs.Kind.{leaf_kind, Kind}
use Rattle.layout.specs.Entry.{place_of}
use Rattle.fields.specs.Body.{put_leaf_body}
use Rattle.model.specs.Edition.{Edition, Value, text_of}
use Rattle.model.specs.Tree.{up8}
use Rattle.model.specs.State.{State}
use Rattle.model.specs.Frame.{View, Heap, Stands}
use Rattle.room.specs.View.{taken, Roomy, recorded}
use Rattle.room.specs.Step.{Takes, Took, Extends, Extended, Renumbered}
use Rattle.room.specs.Book.{RoomFor}
use Rattle.room.proofs.HeapLaws.{took_lies}
use Rattle.room.proofs.BookLaws.{room_first, room_next, room_last}
use Rattle.between.proofs.WorkLaws.{records_few}
use Rattle.between.proofs.EditLaws.{leaf_written, leaf_made}
use Rattle.leaf_new.specs.Make.{Makes, NewLeaf, Counts, Counted}

pub leaf_kind_lem : Kind leaf_kind
leaf_kind_lem = (omega arith, omega arith, λ z. omega arith)

-- room for a Leaf and an extent, call by call
module _ {f : List ℕ} {h : View} {x : ℕ} (H : Heap f h) (R : RoomFor h (leaf_kind ∷ []) x) where
  pub roomy_leaf : Roomy h leaf_kind
  roomy_leaf = room_first h leaf_kind [] x leaf_kind_lem H.lists.eight R

  pub bytes_after : (taken h leaf_kind).nums.B + x ≤ (taken h leaf_kind).nums.F
  bytes_after = room_last (taken h leaf_kind) x (room_next h leaf_kind [] x leaf_kind_lem H.lists.eight R)

pub makes_takes : {f k : List ℕ} {v : Value} → Makes f k v → Takes f leaf_kind
makes_takes M = record { view = M.view; heap = M.heap; kind = leaf_kind_lem; room = roomy_leaf M.heap M.room }

module _ {f k : List ℕ} {v : Value} (M : Makes f k v) {f1 : List ℕ} {s : ℕ} (took : (h : View) → Heap f h → Roomy h leaf_kind → Took f f1 h leaf_kind s) where
  T : Took f f1 M.view leaf_kind s
  T = took M.view M.heap (roomy_leaf M.heap M.room)

  pub makes_entry : (1 ≤ s) × (entry_at s + 4 ≤ length f1)
  makes_entry =
      let L = took_lies T leaf_kind_lem in
      let b = T.heap.header.bump_in in
      (L.low, omega (arith, L.table, T.heap.header.size))

  pub makes_extends : Extends f1 (length k + length (text_of v))
  makes_extends = record { view = taken M.view leaf_kind; heap = T.heap; room = bytes_after M.heap M.room }

  pub makes_writes : {f2 : List ℕ} {e o : ℕ} → ((h : View) → Heap f1 h → h.nums.B + up8 (length k + length (text_of v)) ≤ h.nums.F → Extended f1 f2 h k (text_of v) e) → o ≡ place_of f1 s → (o + 16 ≤ length f2) × (e < 4294967296)
  makes_writes ext eo =
      let X = ext (taken M.view leaf_kind) T.heap (bytes_after M.heap M.room) in
      let L = took_lies T leaf_kind_lem in
      let b = T.heap.header.bump_in in
      let l = T.heap.header.limits in
      let ee = X.place in
      (omega (arith, T.entry.place_is, L.ends, T.heap.header.size, X.but.size), omega arith)

  -- the whole
  pub leaf_law : {f2 f3 : List ℕ} {e o : ℕ} → ((h : View) → Heap f1 h → h.nums.B + up8 (length k + length (text_of v)) ≤ h.nums.F → Extended f1 f2 h k (text_of v) e) → o ≡ place_of f1 s → f3 ≡ put_leaf_body f2 o e (length k) (length (text_of v)) v.stamp
      → NewLeaf f f3 k v s
  leaf_law {e = e} ext eo eg E h xs n ts loose path W R legal begins held =
      let T' = took h W.heap (roomy_leaf W.heap R) in
      let w = makes_writes ext eo in
      leaf_made path W T' (ext (taken h leaf_kind) T'.heap (bytes_after W.heap R)) eo (leaf_written e (length k) (length (text_of v)) v.stamp eg w.0 w.1 M.key_fits M.value_fits M.stamp_fits) legal begins held

-- ---- R grows

pub counts_of : {E : Edition} {f g : List ℕ} {s : State} {h : View} (w : Stands E f s) → Heap g h → h.nums.R ≡ w.nums.R → Counts g
counts_of {h = h} w H e = record { view = h; heap = H; few = omega (arith, records_few w) }

pub count_law : {f g : List ℕ} {r : ℕ} → r ≡ le 4 f at_r → ((h : View) → Heap f h → Renumbered f g h (recorded h (r + 1))) → Counted f g
count_law e C h H = let q = e ∙ H.header.records_at in rw q at (C h H)
