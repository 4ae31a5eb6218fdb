-- `split_leaf`, call by call: what each asks, and what all of them leave. Assumes nothing.
use Prim.Native.Nat.{ℕ, ◌+◌, ◌-◌, ◌<◌, ◌≤◌}
use mathlib.Core.Path.{◌≡◌, sym, ap, subst, ◌∙◌}
use mathlib.Core.List.{List, [], ◌∷◌, ◌++◌}
use native.Mathlib.Omega.{arith}
use lib.ListN.{length, get_or, take, drop}
use Rattle.layout.specs.Number.{Bytes}
use Rattle.layout.specs.Kind.{leaf_kind, node4_kind}
use Rattle.model.specs.Strings.{Parted, Byte, shared}
use Rattle.model.specs.Edition.{Edition, Legal, Value, text_of}
use Rattle.model.specs.Tree.{extent_of, chain, prefixes}
use Rattle.model.specs.State.{State}
use Rattle.model.specs.Item.{Item, body}
use Rattle.model.specs.Body.{LeafAt}
use Rattle.model.specs.Frame.{Lay, LeafOf, View, Heap, tree, Stands}
use Rattle.model.specs.Frame.Lay.{leaf}
use Rattle.model.proofs.StringLaws.{all_left}
use Rattle.keys.proofs.WordLaws.{spells_at, word_fits}
use Rattle.model.proofs.WellLaws.{parted_from}
use Rattle.model.proofs.StandsGood.{bytes_text}
use Rattle.room.specs.View.{list_of, place_from, Roomy}
use Rattle.room.specs.Step.{Takes, Took}
use Rattle.room.specs.Book.{RoomFor}
use Rattle.between.specs.Hole.{Step, plug, path_of, Link}
use Rattle.between.specs.Work.{Work}
use Rattle.between.specs.Edit.{leaf_view}
use Rattle.between.proofs.TreeLaws.{begins_word}
use Rattle.between.proofs.LinkLaws.{link_room, relinked}
use Rattle.between.proofs.WorkLaws.{stands_view}
use Rattle.between.proofs.BookedLaws.{room_same}
use Rattle.descent.specs.declared.spot.Spot.{Spot}
use Rattle.room.specs.Link.{Relinked}
use Rattle.leaf_new.specs.Make.{Counts, Counted}
use Rattle.leaf_new.specs.Put.{PutStep}
use Rattle.leaf_new.proofs.LeafLaws.{counts_of}
use Rattle.leaf_new.proofs.OpenLaws.{leaf_loose, leaf_lies, leaf_room}
use Rattle.leaf_new.proofs.DoneLaws.{any_root, any_room, change_is, room_is, put_done}
use Rattle.chain.specs.Row as chain_row
use Rattle.chain.specs.Row.{Ready, Raised, RowWritten, Writes, Grown, Grows, RowTaken}
use Rattle.put_split.specs.Parts.{LeafHere, Forks, Forked}
use Rattle.put_split.specs.Split.{AtOther, Beside}
use Rattle.put_split.proofs.PartedLaws.{shared_is, byte_here, byte_there, part_low, part_short, part_is}
use Rattle.put_split.proofs.EndLaws.{node4_kind_lem, took_slot}
use Rattle.put_split.proofs.SplitLaws.{split_kinds, split_tally, node_view, row_view, booked_all, made, put_made, room_node, grows, taken_row, room_leaf, knot, ready, raised, top_fits, split_all}

-- what a relink and a count ask, from the work before them
pub relink_ok : {E : Edition} {f : List ℕ} {h : View} {xs : List Step} {s : ℕ} {ts : List (List ℕ × Lay)} {loose : List Item} (at : ℕ) → Link xs at → Work E f h xs s ts loose → (64 ≤ length f) × (at + 4 ≤ length f)
relink_ok {E} {f} {xs = xs} {s = s} at L W =
    let l = W.heap.header.limits in
    let z : 1024 ≤ length f = omega (arith, W.heap.header.size) in
    (omega arith, link_room E f xs at s L W.around z)

pub count_ok : {E : Edition} {f0 f f' : List ℕ} {st : State} {h : View} {xs : List Step} {s : ℕ} {ts : List (List ℕ × Lay)} {loose : List Item} {at m : ℕ} (w : Stands E f0 st) → Link xs at → Work E f h xs s ts loose
    → (1 ≤ m) × (m < 65536) → Relinked f f' at m → h.nums.R ≡ w.nums.R → Counts f'
count_ok {xs = xs} {at = at} {m = m} w L W fits R e = counts_of w (relinked m fits.0 fits.1 at xs L W R).heap e

module _ {E : Edition} {f k word : List ℕ} {v : Value} {p : Spot} (A : AtOther E f k word v p) where
  abbrev xs : List Step
  xs = A.put.way.steps

  abbrev old : Lay
  old = leaf p.here.slot p.here.place A.other.extent A.other.key A.other.value

  root_at : (s : State) (w : Stands E f s) → w.root ≡ tree (plug xs old)
  root_at s w = any_root A.put s w ∙ ap (λ (t : Lay). tree (plug xs t)) A.other.is

  held : v.stamp < E.stamps
  held = A.put.ready.legal_value.stamp

  abbrev w0 : Stands E f A.put.ready.st
  w0 = A.put.ready.stands

  leaf_of : LeafOf E f (path_of xs) p.here.place A.other.extent A.other.key A.other.value
  leaf_of = (leaf_loose w0 xs p.here.slot p.here.place A.other.extent A.other.key A.other.value (root_at A.put.ready.st w0)).1

  pub leaf_here : LeafHere f p.here.place
  leaf_here =
      record {
        extent = A.other.extent;
        key = A.other.key;
        value = A.other.value;
        room = leaf_room w0 xs p.here.slot p.here.place A.other.extent A.other.key A.other.value (root_at A.put.ready.st w0);
        at = leaf_of.at;
      }

  old_legal : Legal E A.other.key
  old_legal = record { passes = leaf_of.legal; bytes = all_left Byte A.other.key (text_of A.other.value) (bytes_text f A.other.extent (A.other.key ++ text_of A.other.value) w0.bytes leaf_of.at.text) }

  old_word : E.walked A.other.key ≡ path_of xs ++ drop (length (path_of xs)) (E.walked A.other.key)
  old_word = begins_word (E.walked A.other.key) (path_of xs) leaf_of.begins

  Q : Parted A.put.way.rest (drop (length (path_of xs)) (E.walked A.other.key))
  Q = parted_from A.put.ready.lawful (path_of xs) k A.other.key A.put.way.rest (drop (length (path_of xs)) (E.walked A.other.key)) A.put.ready.legal old_legal A.other.differs A.put.way.leads.word old_word

  abbrev beside : (s : State) (w : Stands E f s) → Beside w k xs p.here.slot p.here.place A.other.extent A.other.key A.other.value p.here.link
  beside s w =
      record {
        is = root_at s w;
        legal = A.put.ready.legal.passes;
        rest = A.put.way.rest;
        rest' = drop (length (path_of xs)) (E.walked A.other.key);
        word = A.put.way.leads.word;
        word' = old_word;
        parted = Q;
        differs = A.other.differs;
        link = A.put.way.link_is;
      }

  -- ---- the bytes

  shares : p.shared ≡ length Q.w
  shares =
      A.other.shares ∙ ap (λ d. shared (drop d (E.walked k)) (drop d (E.walked A.other.key))) A.put.way.deep
      ∙ shared_is E k A.other.key (path_of xs) A.put.way.leads.word old_word Q

  pub to_short : p.depth + p.shared ≤ length word
  to_short = let a = shares in let d = A.put.way.deep in omega (arith, part_short E k (path_of xs) A.put.way.leads.word Q A.spells)

  -- "each full but the last": five Prefixes hold what two walked strings share
  pub to_low : p.depth + p.shared < 512
  to_low = let a = shares in let d = A.put.way.deep in omega (arith, part_low E k (path_of xs) A.put.way.leads.word Q, word_fits A.put.ready.lawful k A.put.ready.legal)

  module _ {b c : ℕ} (eb : b ≡ get_or word (p.depth + p.shared) 0) (ec : (e : ℕ) (k' : List ℕ) (v' : Value) → LeafAt f p.here.place e k' v' → c ≡ get_or (E.walked k') (p.depth + p.shared) 0) where
    new_byte : b ≡ Q.b
    new_byte =
        eb ∙ spells_at A.spells (p.depth + p.shared) ∙ ap (λ i. get_or (E.walked k) (i + p.shared) 0) A.put.way.deep ∙ ap (λ i. get_or (E.walked k) (length (path_of xs) + i) 0) shares
        ∙ byte_here E k (path_of xs) A.put.way.leads.word Q

    old_byte : c ≡ Q.c
    old_byte =
        ec A.other.extent A.other.key A.other.value leaf_of.at ∙ ap (λ i. get_or (E.walked A.other.key) (i + p.shared) 0) A.put.way.deep
        ∙ ap (λ i. get_or (E.walked A.other.key) (length (path_of xs) + i) 0) shares ∙ byte_there E k A.other.key (path_of xs) A.put.way.leads.word old_word Q

    bytes_differ : b ≡ c → ⊥
    bytes_differ z = Q.apart (sym new_byte ∙ z ∙ old_byte)

    forked_as : {g h : List ℕ} {m y : ℕ} → Forked g h k v m b c y → Forked g h k v m Q.b Q.c y
    forked_as {g} {h} {m} {y} F = subst (λ x. Forked g h k v m Q.b x y) old_byte (subst (λ x. Forked g h k v m x c y) new_byte F)

    -- the old Leaf's slot
    slot_in : (1 ≤ p.here.slot) × (p.here.slot < 4294967296)
    slot_in =
        let L = leaf_lies w0 xs p.here.slot p.here.place A.other.extent A.other.key A.other.value (root_at A.put.ready.st w0) in
        let c = w0.heap.header.slot_cap in
        (L.low, omega (arith, L.table))

    -- ---- the calls

    abbrev many : ℕ
    many = chain (length Q.w)

    abbrev place4 : (s : State) (w : Stands E f s) → ℕ
    place4 s w = place_from (stands_view w) (list_of (stands_view w) node4_kind)

    room_of : (s : State) (w : Stands E f s) → RoomFor (stands_view w) (split_kinds many) (extent_of k v)
    room_of s w =
        room_same (stands_view w) (leaf_kind ∷ node4_kind ∷ prefixes many) (split_kinds many) (λ j. sym (split_tally many j)) (extent_of k v)
        (room_is k v w (made (beside s w) v held) xs (change_is k v w xs old (root_at s w) A.put.way.leads (put_made (beside s w) v held)) (any_room A.put s w))

    pub takes_node : Takes f node4_kind
    takes_node = let s0 = A.put.ready.st in record { view = stands_view w0; heap = w0.heap; kind = node4_kind_lem; room = room_node (beside s0 w0) v held (room_of s0 w0) }

    pub shared_short : p.shared < 65536
    shared_short = let t = to_low in omega arith

    module _ {f1 : List ℕ} {m : ℕ} (took : (h : View) → Heap f h → Roomy h node4_kind → Took f f1 h node4_kind m) where
      took_node : (s : State) (w : Stands E f s) → Took f f1 (stands_view w) node4_kind m
      took_node s w = took (stands_view w) w.heap (room_node (beside s w) v held (room_of s w))

      module _ {need : ℕ} (en : need ≡ chain p.shared) where
        same_many : need - 0 ≡ many
        same_many = omega (arith, shares)

        pub takes_row : {row : List ℕ} → length row ≡ 5 → chain_row.Takes f1 row 0 need
        takes_row {row} l =
            let s0 = A.put.ready.st in
            let t = to_low in
            record {
              edition = E;
              view = node_view (stands_view w0);
              steps = xs;
              top = p.here.slot;
              trees = (path_of xs, old) ∷ [];
              held = [];
              loose = body m node4_kind (place4 s0 w0) ∷ [];
              kinds = leaf_kind ∷ [];
              extent = extent_of k v;
              grows = subst (λ y. Grows E f1 (node_view (stands_view w0)) xs p.here.slot ((path_of xs, old) ∷ []) [] (body m node4_kind (place4 s0 w0) ∷ []) row 0 y (leaf_kind ∷ []) (extent_of k v)) (sym same_many)
                  (grows (beside s0 w0) v held (room_of s0 w0) (took_node s0 w0) row);
              long = omega arith;
              short = omega arith;
            }

        module _ {f2 row0 row : List ℕ} (Z : RowTaken f1 f2 row0 row 0 (need - 0) (need - 0)) where
          grown : (s : State) (w : Stands E f s) → Grown E f1 f2 (node_view (stands_view w)) xs p.here.slot ((path_of xs, old) ∷ []) [] (body m node4_kind (place4 s w) ∷ []) row many
          grown s w =
              let Z' = subst (λ y. RowTaken f1 f2 row0 row 0 y y) same_many Z in
              Z' E (node_view (stands_view w)) xs p.here.slot ((path_of xs, old) ∷ []) [] (body m node4_kind (place4 s w) ∷ []) (leaf_kind ∷ []) (extent_of k v) (grows (beside s w) v held (room_of s w) (took_node s w) row0)

          pub forks : Forks f2 k v m × (b ≡ c → ⊥) × (1 ≤ p.here.slot) × (p.here.slot < 4294967296)
          forks =
              let s0 = A.put.ready.st in (
                record {
                  edition = E;
                  lawful = A.put.ready.lawful;
                  view = row_view (stands_view w0) many;
                  steps = xs;
                  top = p.here.slot;
                  trees = _;
                  loose = _;
                  place = _;
                  work = taken_row (beside s0 w0) v held (room_of s0 w0) (took_node s0 w0) (grown s0 w0);
                  room = room_leaf (beside s0 w0) v held (room_of s0 w0) (took_node s0 w0) (grown s0 w0);
                  legal = A.put.ready.legal;
                  short = A.put.ready.legal_value.passes;
                  stamped = held;
                },
                bytes_differ,
                slot_in.0,
                slot_in.1,
              )

          module _ {f3 : List ℕ} (G : Forked f2 f3 k v m b c p.here.slot) {to : ℕ} (et : to ≡ p.depth + p.shared) where
            part : take (to - p.depth) (drop p.depth word) ≡ Q.w
            part =
                let q : to - p.depth ≡ length Q.w = omega (arith, shares) in
                ap (λ i. take i (drop p.depth word)) q ∙ ap (λ i. take (length Q.w) (drop i word)) A.put.way.deep
                ∙ part_is E k (path_of xs) A.put.way.leads.word Q A.spells

            -- the Node4 and what stands below it
            abbrev tip : (s : State) (w : Stands E f s) → Lay
            tip s w = knot (beside s w) v held (room_of s w) (took_node s w) (grown s w) (forked_as G)

            readied : (s : State) (w : Stands E f s) → Ready E f3 (leaf_view (row_view (stands_view w) many) k v) xs p.here.slot (path_of xs) Q.w (tip s w) [] (grown s w).new [] row m
            readied s w = ready (beside s w) v held (room_of s w) (took_node s w) (grown s w) (forked_as G)

            pub writes : length row ≡ 5 → Writes f3 row (take (to - p.depth) (drop p.depth word)) m
            writes l =
                let s0 = A.put.ready.st in
                let a = shares in
                let t = to_low in
                subst (λ y. Writes f3 row y m) (sym part)
                (record {
                  edition = E;
                  view = _;
                  steps = xs;
                  top = p.here.slot;
                  path = path_of xs;
                  tree = _;
                  trees = [];
                  all = _;
                  loose = [];
                  ready = readied s0 w0;
                  long = omega arith;
                  short = omega arith;
                  low = omega (arith, (took_slot (took_node s0 w0) node4_kind_lem).1);
                })

            module _ {f4 : List ℕ} {top : ℕ} (Y : RowWritten f3 f4 row (take (to - p.depth) (drop p.depth word)) m 0 0 top) where
              written_row : (s : State) (w : Stands E f s) → Raised E f3 f4 (leaf_view (row_view (stands_view w) many) k v) xs p.here.slot (path_of xs) Q.w (tip s w) [] (grown s w).new [] row 0 0 top
              written_row s w =
                  let Y' = subst (λ y. RowWritten f3 f4 row y m 0 0 top) part Y in
                  Y' E (leaf_view (row_view (stands_view w) many) k v) xs p.here.slot (path_of xs) (tip s w) [] (grown s w).new [] (readied s w)

              written_work : (s : State) (w : Stands E f s) → Work E f4 (leaf_view (row_view (stands_view w) many) k v) xs p.here.slot ((path_of xs, (written_row s w).lay) ∷ []) []
              written_work s w = raised (beside s w) v held (room_of s w) (took_node s w) (grown s w) (forked_as G) (written_row s w)

              pub relinks : (64 ≤ length f4) × (p.here.link + 4 ≤ length f4)
              relinks = relink_ok p.here.link A.put.way.link_is (written_work A.put.ready.st w0)

              module _ {f5 : List ℕ} (R : Relinked f4 f5 p.here.link top) where
                pub counts : Counts f5
                counts =
                    let s0 = A.put.ready.st in
                    count_ok w0 A.put.way.link_is (written_work s0 w0) (top_fits (beside s0 w0) v held (room_of s0 w0) (took_node s0 w0) (grown s0 w0) (forked_as G) (written_row s0 w0)) R
                    (booked_all (stands_view w0) many k v w0.heap.lists.eight).R

                pub ends : {g : List ℕ} → Counted f5 g → Bytes g → PutStep E f k v g
                ends {g} C by =
                    record {
                      after = λ s w.
                          put_done f g k v w xs old (root_at s w) A.put.way.leads
                          (split_all (beside s w) v held (room_of s w) (took_node s w) (grown s w) (forked_as G) (written_row s w) R C by) (any_room A.put s w);
                    }
