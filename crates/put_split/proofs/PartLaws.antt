-- The bodies that a split writes: a Node4 of two children, and the Node4 with a new Leaf. Assumes nothing.
use Prim.Native.Nat.{ℕ, ◌+◌, ◌<◌, ◌≤◌}
use mathlib.Core.Path.{◌≡◌, refl, sym, ap, ◌∙◌}
use mathlib.Core.List.{List, [], ◌∷◌}
use mathlib.Core.Option.{none}
use native.Mathlib.Omega.{arith}
use lib.ListN.{length, get_or, take, drop}
use borrow.Author.Tests.{ne_eqb}
use Rattle.layout.specs.Number.{le}
use Rattle.layout.specs.Place.{entry_at, leaf_extent, leaf_key}
use Rattle.layout.specs.Kind.{leaf_kind, node4_kind}
use Rattle.layout.specs.Entry.{place_of}
use Rattle.model.specs.Edition.{Edition, Value, text_of}
use Rattle.model.specs.Item.{body}
use Rattle.model.specs.Body.{InnerAt, LeafAt, look_kid}
use Rattle.model.proofs.UniqueLaws.{look_nil}
use Rattle.node.specs.Kids.{insert_kid}
use Rattle.node.proofs.KidsLaws.{look_insert}
use Rattle.inner.specs.Inner.{NodeOpen, Emptied, Added}
use Rattle.room.specs.View.{list_of, place_from, taken}
use Rattle.moves.proofs.MoveLaws.{only_then}
use Rattle.room.proofs.HeapLaws.{lies, Lies}
use Rattle.keys.proofs.KeyLaws.{text_part}
use Rattle.descent.proofs.SeatLaws.{text_left}
use Rattle.between.specs.Edit.{leaf_view, MadeLeaf}
use Rattle.between.proofs.WorkLaws.{entries_first, first_owns, open_leaf}
use Rattle.leaf_new.specs.Make.{Makes, NewLeaf}
use Rattle.put_split.specs.Parts.{ForkWritten, Forks, Forked}

-- ---- a Node4 of two children

one_kid : (c y : ℕ) → length (insert_kid c y []) ≡ 1
unfolding insert_kid
one_kid c y = refl

other_kid : (b c y : ℕ) → (b ≡ c → ⊥) → look_kid b (insert_kid c y []) ≡ none
other_kid b c y n = look_insert c y b [] (look_nil c) ∙ rw (ne_eqb c b (λ q. n (sym q))) (look_nil b)

module _ {f f1 f2 : List ℕ} {o c y : ℕ} (E : Emptied f f1 o node4_kind) (A : Added f1 f2 o node4_kind c y) where
  one_in : InnerAt f2 o node4_kind (insert_kid c y [])
  one_in = A.inner [] E.inner (look_nil c)

  pub open_one : NodeOpen f2 o node4_kind
  open_one = record { kids = insert_kid c y []; node = one_in; few = omega (arith, one_kid c y) }

  pub fork_law : {g : List ℕ} {b x : ℕ} → (b ≡ c → ⊥) → Added f2 g o node4_kind b x → ForkWritten f g o b x c y
  fork_law {g} {b} {x} n B =
      record {
        only = only_then o (o + 24) (only_then o (o + 24) E.only A.only (omega arith) (omega arith) (omega arith) (omega arith)) B.only
            (omega arith) (omega arith) (omega arith) (omega arith);
        inner = B.inner (insert_kid c y []) one_in (other_kid b c y n);
      }

pub open_none : {f f1 : List ℕ} {o : ℕ} → Emptied f f1 o node4_kind → NodeOpen f1 o node4_kind
open_none E = record { kids = []; node = E.inner; few = omega arith }

-- ---- a byte of the old key

module _ {f : List ℕ} {o from m : ℕ} (ee : from ≡ le 4 f (o + leaf_extent)) (en : m ≡ le 2 f (o + leaf_key)) where
  -- its bytes in the frame
  pub key_part : (e : ℕ) (k : List ℕ) (v : Value) → LeafAt f o e k v → take m (drop from f) ≡ k
  key_part e k v L =
      let q : from ≡ e = ee ∙ L.extent in
      let l : m ≡ length k = en ∙ L.key_length in
      rw (q, l) (text_part f e k (omega (arith, L.room)) (text_left f e k (text_of v) L.text))

  pub byte_of : (E : Edition) (d : ℕ) {r : ℕ} → r ≡ get_or (E.walked (take m (drop from f))) d 0 → (e : ℕ) (k : List ℕ) (v : Value) → LeafAt f o e k v → r ≡ get_or (E.walked k) d 0
  byte_of E d er e k v L = er ∙ ap (λ y. get_or (E.walked y) d 0) (key_part e k v L)

-- ---- the Node4 with a new Leaf

module _ {f k : List ℕ} {v : Value} {n : ℕ} (P : Forks f k v n) where
  pub fork_makes : Makes f k v
  fork_makes = record { view = P.view; heap = P.work.heap; room = P.room; key_fits = omega (arith, P.lawful.fields.keys k P.legal); value_fits = omega (arith, P.short); stamp_fits = let a = P.stamped in let b = P.lawful.fields.stamps in omega arith }

  module _ {mid : List ℕ} {leaf : ℕ} (M : NewLeaf f mid k v leaf) where
    made : MadeLeaf P.edition f mid P.view P.steps P.top P.trees (body n node4_kind P.place ∷ P.loose) [] leaf k v
    made = M P.edition P.view P.steps P.top P.trees (body n node4_kind P.place ∷ P.loose) [] P.work P.room P.legal.passes refl P.stamped

    fork_lies : Lies (leaf_view P.view k v) n node4_kind P.place
    fork_lies = lies n node4_kind P.place _ made.work.heap (first_owns made.work) (omega arith) (omega arith)

    pub fork_entry : (1 ≤ n) × (entry_at n + 4 ≤ length mid)
    fork_entry =
        let H = made.work.heap.header in
        let b = H.bump_in in
        let L = fork_lies in
        (L.low, omega (arith, L.table, H.size))

    pub fork_room : {o : ℕ} → o ≡ place_of mid n → o + 24 ≤ length mid
    fork_room e = omega (arith, (entries_first mid n node4_kind P.place P.loose made.work.entries).0.place_is, fork_lies.ends, made.work.heap.header.size)

    pub leaf_slot : (1 ≤ leaf) × (leaf < 4294967296)
    leaf_slot =
        let H = made.work.heap.header in
        let W = (open_leaf [] P.trees (body n node4_kind P.place ∷ P.loose) leaf (place_from P.view (list_of P.view leaf_kind)) (taken P.view leaf_kind).nums.B k v made.work).0 in
        let L = lies leaf leaf_kind (place_from P.view (list_of P.view leaf_kind)) _ W.heap (first_owns W) (omega arith) (omega arith) in
        let c = H.slot_cap in
        (L.low, omega (arith, L.table))

    pub forked : {g : List ℕ} {o b c y : ℕ} → o ≡ place_of mid n → ForkWritten mid g o b leaf c y → Forked f g k v n b c y
    forked eo W = record { mid = mid; leaf = leaf; made = M; written = rw (← eo) W }
