-- A full node becomes one of the next kind, with the Leaf: what the calls of `grow` ask, and that they make the model's put. One argument
-- for all three kinds. Assumes nothing.
use Prim.Native.Nat.{ℕ, ◌+◌, ◌<◌, ◌≤◌}
use mathlib.Core.Path.{◌≡◌, refl, sym, ap, ◌∙◌}
use mathlib.Core.List.{List, [], ◌∷◌, ◌++◌}
use mathlib.Core.Bool.{true}
use mathlib.Core.Option.{none}
use native.Mathlib.Omega.{arith}
use lib.ListN.{length, get_or}
use borrow.Author.Tests.{le-ltb}
use Rattle.layout.specs.Number.{Bytes}
use Rattle.layout.specs.Kind.{leaf_kind, Kind, body_size, most, kind_up, prefix_kind, number_of, number_or_zero}
use Rattle.layout.specs.declared.kind.Kind.{Kind as Named}
use Rattle.std.specs.Prelude.{Option as Maybe, Some, None, IsSome}
use Rattle.layout.specs.Entry.{place_of}
use Rattle.layout.proofs.KindLaws.{size_least}
use Rattle.model.specs.Edition.{Edition, Value}
use Rattle.model.specs.Tree.{Art, extent_of, new_key, join, place_in, carried}
use Rattle.model.specs.State.{State, room, put_change}
use Rattle.model.specs.Item.{Item, body, extent, on_slot, cover, leafy, sum, Same}
use Rattle.model.specs.Body.{look_kid}
use Rattle.model.specs.Frame.{Lay, LayKids, slot_of, art_kids, items_all, pairs, root_items, NodeOf, View, Heap, freed, Stands}
use Rattle.model.specs.Frame.Lay.{node}
use Rattle.model.specs.Mark.{is}
use Rattle.model.specs.Touch.{Touch, touch, put_touch, holder, size}
use Rattle.model.proofs.ItemLaws.{sum_app, sum_cons}
use Rattle.model.proofs.MarkLaws.{node_marks, is_gone, stay_more}
use Rattle.inner.specs.Inner.{place_at, Emptied, Carried, Added}
use Rattle.inner.proofs.InnerLaws.{inner_asc}
use Rattle.room.specs.View.{list_of, place_from, taken, Roomy, released, recorded, rooted}
use Rattle.room.specs.Step.{Takes, Took, Frees, Freed, Renumbered}
use Rattle.room.specs.Book.{RoomFor, nil, cons, taken_all}
use Rattle.room.proofs.HeapLaws.{cover_body, lies, Lies, two_apart}
use Rattle.room.proofs.BookLaws.{room_first, room_next}
use Rattle.between.specs.Hole.{join_lay, carried_lay, Step, plug, path_of, art_in, steps_items, holder_of, Link}
use Rattle.between.specs.Work.{Work, root_of, forest_items, kid_trees}
use Rattle.between.specs.Edit.{leaf_view, leaf_in, MadeLeaf, Booked}
use Rattle.between.proofs.TreeLaws.{sum_none, node_sum}
use Rattle.between.proofs.HoleLaws.{plug_sum, art_plug, is_node}
use Rattle.between.proofs.KidsLaws.{look_none, join_sum, join_art, size_is, carried_sum, carried_pairs, carried_trees, carried_art}
use Rattle.put_add.proofs.FirstLaws.{leafy_kind}
use Rattle.between.proofs.WorkLaws.{stands_view, work_sum, work_take, work_write, work_turn, work_swap, work_close, work_free, work_count, work_kids, open_leaf, open_node, make_node, first_owns, forest_kids, kids_sum, entries_first, stands_sum, leafy_leaf}
use Rattle.inner.proofs.PlaceLaws.{added_place}
use Rattle.between.proofs.EditLaws.{join_made, carried_node}
use Rattle.between.proofs.LinkLaws.{relinked, link_room}
use Rattle.between.proofs.LeadLaws.{leads_byte, leads_on, plug_touch, plug_look, join_look, leaf_look, node_grow}
use Rattle.between.proofs.BookedLaws.{booked_row, booked_as, booked_extend, booked_root, booked_free, booked_count, room_of, room_same}
use Rattle.between.proofs.SinceLaws.{since_start, since_take, since_leaf, since_write, since_link, since_free, since_count}
use Rattle.between.proofs.OutsideLaws.{among_here, among_there, among_not}
use Rattle.between.proofs.StayLaws.{join_marks, carried_marks, stay_plug}
use Rattle.keys.proofs.WordLaws.{spells_at}
use Rattle.descent.specs.declared.spot.Spot.{Spot}
use Rattle.room.specs.Link.{Relinked}
use Rattle.leaf_new.specs.Make.{NewLeaf, Makes, Counts, Counted}
use Rattle.leaf_new.specs.Put.{Stepped, PutStep}
use Rattle.leaf_new.proofs.LeafLaws.{leaf_kind_lem, counts_of}
use Rattle.leaf_new.proofs.DoneLaws.{same_room, new_key_lem}
use Rattle.put_add.specs.Missing.{Full, Lacks}
use Rattle.put_add.specs.Grown.{Fills, Filled}
use Rattle.put_add.proofs.SpotLaws.{lacks_of, byte_is, lacks_byte, lacks_put, lacks_work, ready_makes}
use Rattle.put_add.proofs.UpLaws.{Grows, grows, inner_kind, not_256, all_byte, tally_turn, kids_live, holder_in, holder_some}

some_kind : (o : Maybe Named) → 1 ≤ number_or_zero o → IsSome o
some_kind None h = absurd (omega arith)
some_kind (Some k) h = refl

pub kind_is : (o : Maybe Named) (u : Named) {n : ℕ} → o ≡ Some u → number_or_zero o ≡ n → number_of u ≡ n
kind_is o u e q = sym (ap number_or_zero e) ∙ q

two_row : (h : View) (k : ℕ) → Kind k → length h.lists ≡ 8 → Booked h (taken (taken h k) leaf_kind) (leaf_kind ∷ k ∷ []) [] 0 0 h.nums.R
unfolding taken_all
two_row h k K e = booked_as (booked_row h (k ∷ leaf_kind ∷ []) (cons K (cons leaf_kind_lem nil)) e) (leaf_kind ∷ k ∷ []) [] (tally_turn k leaf_kind) (λ j. refl)

module _ {E : Edition} {f : List ℕ} {st : State} {S : Stands E f st} {k : List ℕ} {xs : List Step} {n o kind : ℕ} {ks : LayKids} {b : ℕ} {r : List ℕ} (P : Lacks S k xs n o kind ks b r) (v : Value) (held : v.stamp < E.stamps)
    (full : most kind ≤ length (pairs ks)) (fits : room st (put_change E st k v) ≡ true) where
  old_node : NodeOf f o kind ks
  old_node = (open_node (path_of xs) [] [] n o kind ks (lacks_work P)).1

  byte_in : b < 256
  byte_in = all_byte (path_of xs) b r (rw P.leads.word at (P.lawful.bytes k P.legal))

  pub grow_kind : (4 ≤ kind) × (kind ≤ 6)
  grow_kind =
      let R = old_node.inner.range in
      (R.0, omega (arith, R.1, not_256 kind b (pairs ks) (inner_asc (pairs ks) old_node.inner) P.absent byte_in full))

  module _ {up : ℕ} (eu : up ≡ kind_up kind) where
    abbrev new_art : Art
    new_art = art_in xs (Art.node up (join b (place_in up (carried up (art_kids ks))) (Art.leaf k v) (carried up (art_kids ks))))

    change_is : put_change E st k v ≡ new_key k v new_art (up ∷ []) (kind ∷ [])
    change_is = rw eu (lacks_put P v (node_grow E k v (length (path_of xs)) b kind ks (leads_byte P.leads) (lacks_byte P) full))

    G : Grows kind up
    G = rw eu (grows kind grow_kind.0 grow_kind.1)

    K : Kind up
    K = inner_kind up (omega (arith, G.low)) G.high

    K0 : Kind kind
    K0 = inner_kind kind grow_kind.0 (omega (arith, grow_kind.1))

    count_is : length (pairs ks) ≡ most kind
    count_is = omega (arith, old_node.at_most)

    room2 : RoomFor (stands_view S) (up ∷ leaf_kind ∷ []) (extent_of k v)
    room2 = room_same (stands_view S) (leaf_kind ∷ up ∷ []) (up ∷ leaf_kind ∷ []) (tally_turn leaf_kind up) (extent_of k v) (room_of S (new_key k v new_art (up ∷ []) (kind ∷ [])) (rw change_is at fits))

    roomy : Roomy (stands_view S) up
    roomy = room_first (stands_view S) up (leaf_kind ∷ []) (extent_of k v) K S.heap.lists.eight room2

    pub grow_takes : Takes f up
    grow_takes = record { view = stands_view S; heap = S.heap; kind = K; room = roomy }

    module _ {f1 : List ℕ} {m : ℕ} (took : (h : View) → Heap f h → Roomy h up → Took f f1 h up m) where
      T : Took f f1 (stands_view S) up m
      T = took (stands_view S) S.heap roomy

      abbrev h1 : View
      h1 = taken (stands_view S) up

      abbrev q : ℕ
      q = place_from (stands_view S) (list_of (stands_view S) up)

      W1 : Work E f1 h1 xs n ((path_of xs, node n o kind ks) ∷ []) (body m up q ∷ [])
      W1 = work_take (lacks_work P) T

      pub grow_room : RoomFor h1 (leaf_kind ∷ []) (extent_of k v)
      grow_room = room_next (stands_view S) up (leaf_kind ∷ []) (extent_of k v) K S.heap.lists.eight room2

      pub grow_heap : Heap f1 h1
      grow_heap = T.heap

      module _ {f2 : List ℕ} {l : ℕ} (make : NewLeaf f1 f2 k v l) where
        abbrev t1 : Lay
        t1 = leaf_in h1 l k v

        abbrev h2 : View
        h2 = leaf_view h1 k v

        M : MadeLeaf E f1 f2 h1 xs n ((path_of xs, node n o kind ks) ∷ []) (body m up q ∷ []) (path_of xs ++ b ∷ []) l k v
        M = make E h1 xs n ((path_of xs, node n o kind ks) ∷ []) (body m up q ∷ []) (path_of xs ++ b ∷ []) W1 grow_room P.legal.passes (leads_on (b ∷ []) r P.leads) held

        -- the node is opened, in whichever frame the work stands
        opened : {g : List ℕ} → Work E g h2 xs n ((path_of xs ++ b ∷ [], t1) ∷ (path_of xs, node n o kind ks) ∷ []) (body m up q ∷ [])
            → Work E g h2 xs n (kid_trees (path_of xs) ks ((path_of xs ++ b ∷ [], t1) ∷ [])) (body n kind o ∷ body m up q ∷ []) × NodeOf g o kind ks
        opened W = open_node (path_of xs) ((path_of xs ++ b ∷ [], t1) ∷ []) (body m up q ∷ []) n o kind ks (work_swap (path_of xs ++ b ∷ []) t1 (path_of xs) (node n o kind ks) [] W)

        place_is : place_of f2 m ≡ q
        place_is = (entries_first f2 m up q [] M.work.entries).0.place_is

        lies_new : Lies h2 m up q
        lies_new = lies m up q _ M.work.heap (first_owns M.work) K.0 K.1

        pub grow_fills : Fills f2 o kind m up l
        grow_fills =
            let O = opened M.work in
            let H = O.0.heap in
            let W = (open_leaf (path_of xs ++ b ∷ []) ((path_of xs, node n o kind ks) ∷ []) (body m up q ∷ []) l (place_from h1 (list_of h1 leaf_kind)) (taken h1 leaf_kind).nums.B k v M.work).0 in
            let I = lies l leaf_kind (place_from h1 (list_of h1 leaf_kind)) _ W.heap (first_owns W) (omega arith) (omega arith) in
            let c = H.header.slot_cap in
            let d = H.header.bump_in in
            let D : (w : Item → ℕ) → sum w (h2.owned ++ freed 1 h2.lists) ≡ sum w h2.owned + sum w (freed 1 h2.lists) = λ w. sum_app w h2.owned (freed 1 h2.lists) in
            let A : (w : Item → ℕ) → sum w h2.owned ≡ w (body n kind o) + (w (body m up q) + (sum w (steps_items xs) + (sum w (items_all ks) + sum w (forest_items ((path_of xs ++ b ∷ [], t1) ∷ []))))) = λ w.
            omega (arith, work_sum O.0 w, sum_cons w (body n kind o) (body m up q ∷ []), sum_cons w (body m up q) [], sum_none w, kids_sum w (path_of xs) ks ((path_of xs ++ b ∷ [], t1) ∷ [])) in
            let pl = place_is in
            record {
              kids = pairs ks;
              node = O.1.inner;
              slots = kids_live ks (omega (arith, H.sound.zeroth, D (on_slot 0), A (on_slot 0)));
              range = (omega (arith, G.low), G.high);
              fits = omega (arith, count_is, G.more);
              low = lies_new.low;
              table = omega (arith, lies_new.table, H.header.size);
              room = omega (arith, lies_new.ends, H.header.size);
              apart = rw pl (two_apart H.sound n kind o m up q (λ w. omega (arith, D w, A w)) (omega (arith, size_least kind K0.0 K0.1)) (omega (arith, size_least up K.0 K.1)));
              live = I.low;
              small = omega (arith, I.table);
            }

        module _ {f3 : List ℕ} (F : Filled f2 f3 o kind m up b l) where
          abbrev ks0 : LayKids
          ks0 = carried_lay up ks

          abbrev ks1 : LayKids
          ks1 = join_lay b (place_at f3 q up b) t1 ks0

          abbrev T1 : Lay
          T1 = plug xs (node m q up ks1)

          Y : Emptied f2 F.zeroed q up
          Y = rw place_is at F.emptied

          C : Carried F.zeroed F.carried o kind q up
          C = rw place_is at F.moved

          A : Added F.carried f3 q up b l
          A = rw place_is at F.added

          W3 : Work E F.zeroed h2 xs n ((path_of xs ++ b ∷ [], t1) ∷ (path_of xs, node n o kind ks) ∷ []) (body m up q ∷ [])
          W3 = work_write M.work K.0 K.1 Y.only (omega arith) (omega arith)

          W4 : Work E F.carried h2 xs n ((path_of xs ++ b ∷ [], t1) ∷ (path_of xs, node n o kind ks) ∷ []) (body m up q ∷ [])
          W4 = work_write W3 K.0 K.1 C.only (omega arith) (omega arith)

          len_is : length (pairs ks0) ≡ most kind
          len_is = ap length (carried_pairs up ks) ∙ count_is

          -- the new node with the old children
          node_new : NodeOf F.carried q up ks0
          node_new = carried_node ks C (opened W3).1.inner (omega (arith, count_is, G.least)) (omega (arith, count_is, G.more))

          W5 : Work E F.carried h2 xs n ((path_of xs ++ b ∷ [], t1) ∷ (path_of xs, node m q up ks0) ∷ []) (body n kind o ∷ [])
          W5 =
              let us : List (List ℕ × Lay) = (path_of xs ++ b ∷ [], t1) ∷ [] in
              let O = work_turn (opened W4).0 refl in
              let X = forest_kids E F.carried (path_of xs) ks us O.trees in
              let X1 = work_kids (path_of xs) us (body m up q ∷ body n kind o ∷ []) ks0 O (carried_trees E F.carried (path_of xs) up ks X.0) X.1
              (λ w. omega (arith, kids_sum w (path_of xs) ks us, carried_sum w up ks)) in
              work_swap (path_of xs) (node m q up ks0) (path_of xs ++ b ∷ []) t1 [] (make_node (path_of xs) us (body n kind o ∷ []) m q up ks0 X1 node_new)

          absent0 : look_kid b (pairs ks0) ≡ none
          absent0 = rw (carried_pairs up ks) P.absent

          -- and with the Leaf
          W6 : Work E f3 h2 xs n ((path_of xs, node m q up ks1) ∷ []) (body n kind o ∷ [])
          W6 = join_made (path_of xs) [] m q up b t1 ks0 W5 A absent0 (omega (arith, len_is, G.more))

          module _ (at : ℕ) (lk : Link xs at) where
            pub grow_link : (64 ≤ length f3) × (at + 4 ≤ length f3)
            grow_link =
                let z = W6.heap.header.size in
                let y = W6.heap.header.limits in
                (omega arith, link_room E f3 xs at n lk W6.around (omega arith))

            module _ {f4 : List ℕ} (link : Relinked f3 f4 at m) where
              abbrev h4 : View
              h4 = rooted h2 (root_of xs m)

              small : m < 65536
              small = let c = M.work.heap.header.slot_cap in omega (arith, lies_new.table)

              W7 : Work E f4 h4 [] (slot_of T1) (([], T1) ∷ []) (body n kind o ∷ [])
              W7 = work_close xs (node m q up ks1) [] (relinked m lies_new.low small at xs lk W6 link) refl (is_node xs m q up ks1)

              abbrev rest : List Item
              rest = steps_items [] ++ forest_items (([], T1) ∷ [])

              pub grow_frees : Frees f4 n kind
              grow_frees = record { view = h4; heap = W7.heap; kind = K0; place = o; rest = rest; owns = first_owns W7; place_is = (entries_first f4 n kind o [] W7.entries).0.place_is }

              module _ {f5 : List ℕ} (free : (h : View) (o : ℕ) (rest : List Item) → Heap f4 h → Same h.owned (body n kind o ∷ rest) → place_of f4 n ≡ o → Freed f4 f5 h n kind o rest) where
                R : Freed f4 f5 h4 n kind o rest
                R = free h4 o rest W7.heap (first_owns W7) (entries_first f4 n kind o [] W7.entries).0.place_is

                abbrev h5 : View
                h5 = released h4 n kind o rest

                W8 : Work E f5 h5 [] (slot_of T1) (([], T1) ∷ []) []
                W8 = work_free W7 R

                booked : Booked (stands_view S) h5 (leaf_kind ∷ up ∷ []) (kind ∷ []) (extent_of k v) 0 S.nums.R
                booked =
                    booked_free (booked_root (booked_extend (two_row (stands_view S) up K S.heap.lists.eight) (extent_of k v) (extent_of k v) (omega arith)) (root_of xs m)) n kind o rest K0

                pub grow_counts : Counts f5
                grow_counts = counts_of S W8.heap booked.R

                module _ {f6 : List ℕ} (count : Counted f5 f6) (bytes : Bytes f6) where
                  N : Renumbered f5 f6 h5 (recorded h5 (h5.nums.R + 1))
                  N = count h5 W8.heap

                  node_touch : put_touch E S.root k v ≡ touch (holder (holder_of xs)) (n ∷ [])
                  node_touch =
                      ap (λ x. put_touch E x k v) P.is ∙ plug_touch P.leads v (node n o kind ks)
                      ∙ rw (rw (← leads_byte P.leads) at (lacks_byte P), le-ltb (size ks) (most kind) (rw (size_is ks) full)) refl

                  pub grow_put : Stepped E f k v f6 st S
                  grow_put =
                      let h0 = stands_view S in
                      let d = length (path_of xs) in
                      let p = place_from h1 (list_of h1 leaf_kind) in
                      let e = (taken h1 leaf_kind).nums.B in
                      let i = place_at f3 q up b in
                      let bn = body n kind o in
                      let bm = body m up q in
                      let bl = body l leaf_kind p in
                      let U : (a : ℕ) → q ≤ a → a < q + body_size up → 1 ≤ sum (cover a) (bl ∷ bm ∷ []) + (sum (cover a) [] + sum (cover a) (extent e (extent_of k v) ∷ [])) = λ a x y.
                      omega (arith, sum_cons (cover a) bl (bm ∷ []), sum_cons (cover a) bm [], cover_body a m up q x y) in
                      let Z1 = since_leaf T.heap (since_take K S.heap (since_start S.heap) T) M in
                      let Z2 = since_write A.only U (since_write C.only U (since_write Y.only U Z1)) in
                      let Z3 = since_link m at xs lk W6 link Z2 in
                      let Z4 = since_free K0 W7.heap (first_owns W7) Z3 R in
                      let old : (w : Item → ℕ) → sum w (root_items S.root) ≡ sum w (steps_items xs) + (w bn + sum w (items_all ks)) = λ w.
                      omega (arith, stands_sum S (plug xs (node n o kind ks)) P.is w, plug_sum w xs (node n o kind ks), node_sum w n o kind ks) in
                      new_key_lem S k v change_is fits T1 (work_count W8 (h5.nums.R + 1) N) refl bytes
                      (booked_count booked (h5.nums.R + 1) (st.R + 1) (ap (λ x. x + 1) (booked.R ∙ sym (ap (λ s. s.R) S.state))))
                      (art_plug xs (node m q up ks1) ∙ ap (λ x. art_in xs (Art.node up x)) (join_art b i t1 ks0 ∙ ap (λ j. join b j (Art.leaf k v) (art_kids ks0)) (added_place ks0 A node_new.inner node_new.places)
                      ∙ ap (λ z. join b (place_in up z) (Art.leaf k v) z) (carried_art up ks)))
                      (omega (
                        arith,
                        old leafy,
                        plug_sum leafy xs (node m q up ks1),
                        node_sum leafy m q up ks1,
                        join_sum leafy b i t1 ks0,
                        carried_sum leafy up ks,
                        leafy_leaf l p e k v,
                        leafy_kind n kind o (omega (arith, grow_kind.0)),
                        leafy_kind m up q (omega (arith, G.low)),
                      ))
                      (since_count Z4 N)
                      (rw node_touch (record {
                        takes = tt;
                        frees = λ s. refl;
                        kinds_in = (among_there kind leaf_kind (up ∷ kind ∷ []) (among_there kind up (kind ∷ []) (among_here kind [])), tt);
                        slots_in = holder_in n xs (omega (arith, S.heap.sound.zeroth, sum_app (on_slot 0) (root_items S.root) (freed 1 S.lists), old (on_slot 0)));
                        frees_in = λ w. omega (arith, sum_cons w bn [], sum_none w, old w);
                        rewrites_in = λ w. omega (arith, holder_some w xs, old w);
                      }))
                      (stay_plug xs (node n o kind ks) (node m q up ks1) (stay_more (λ x z. omega (
                        arith,
                        node_marks (is x) (path_of xs) n o kind ks,
                        node_marks (is x) (path_of xs) m q up ks1,
                        join_marks (is x) (path_of xs) b i t1 ks0,
                        carried_marks (is x) (path_of xs) up ks,
                        is_gone x (n ∷ []) n kind (path_of xs) (path_of xs) z (among_here n []),
                      ))) (ap (λ (z : Touch). z.goes) node_touch) P.is)
                      (among_not prefix_kind up [] (λ z. omega (arith, G.low)))
                      (omega (arith, (two_row h0 up K S.heap.lists.eight).B))
                      (plug_look P.leads (node m q up ks1) ∙ join_look E k d b i t1 ks0 (leads_byte P.leads) (look_none b ks0 absent0) ∙ leaf_look E l p e k v (d + 1))

-- ---- at a spot

module _ {E : Edition} {f k w : List ℕ} {v : Value} {p : Spot} (A : Full E f k w v p) where
  P0 : Lacks A.put.ready.stands k A.put.way.steps p.here.slot p.here.place (number_of p.here.kind) A.missing.kids A.missing.byte A.missing.after
  P0 = lacks_of A.put A.missing A.put.ready.stands

  fits0 : room A.put.ready.st (put_change E A.put.ready.st k v) ≡ true
  fits0 = A.put.ready.room

  -- there is a next kind
  pub full_up : (o : Maybe Named) → number_or_zero o ≡ kind_up (number_of p.here.kind) → IsSome o
  full_up o e =
      let K = grow_kind P0 v A.put.ready.legal_value.stamp A.full fits0 in
      some_kind o (omega (arith, e, (grows (number_of p.here.kind) K.0 K.1).low))

  module _ {up : ℕ} (eu : up ≡ kind_up (number_of p.here.kind)) where
    pub full_takes : Takes f up
    full_takes = grow_takes P0 v A.put.ready.legal_value.stamp A.full fits0 eu

    module _ {f1 : List ℕ} {m : ℕ} (took : (h : View) → Heap f h → Roomy h up → Took f f1 h up m) where
      pub full_makes : Makes f1 k v
      full_makes = ready_makes A.put.ready (grow_heap P0 v A.put.ready.legal_value.stamp A.full fits0 eu took) (grow_room P0 v A.put.ready.legal_value.stamp A.full fits0 eu took)

      module _ {f2 : List ℕ} {l : ℕ} (make : NewLeaf f1 f2 k v l) where
        pub full_fills : Fills f2 p.here.place (number_of p.here.kind) m up l
        full_fills = grow_fills P0 v A.put.ready.legal_value.stamp A.full fits0 eu took make

        module _ {f3 : List ℕ} {b : ℕ} (eb : b ≡ get_or w p.depth 0) (F : Filled f2 f3 p.here.place (number_of p.here.kind) m up b l) where
          filled : Filled f2 f3 p.here.place (number_of p.here.kind) m up A.missing.byte l
          filled = rw (eb ∙ spells_at A.spells p.depth ∙ byte_is A.put A.missing) at F

          pub full_link : (64 ≤ length f3) × (p.here.link + 4 ≤ length f3)
          full_link = grow_link P0 v A.put.ready.legal_value.stamp A.full fits0 eu took make filled p.here.link A.put.way.link_is

          module _ {f4 : List ℕ} (link : Relinked f3 f4 p.here.link m) where
            pub full_frees : Frees f4 p.here.slot (number_of p.here.kind)
            full_frees = grow_frees P0 v A.put.ready.legal_value.stamp A.full fits0 eu took make filled p.here.link A.put.way.link_is link

            module _ {f5 : List ℕ} (free : (h : View) (o : ℕ) (rest : List Item) → Heap f4 h → Same h.owned (body p.here.slot (number_of p.here.kind) o ∷ rest) → place_of f4 p.here.slot ≡ o
                → Freed f4 f5 h p.here.slot (number_of p.here.kind) o rest) where
              pub full_counts : Counts f5
              full_counts = grow_counts P0 v A.put.ready.legal_value.stamp A.full fits0 eu took make filled p.here.link A.put.way.link_is link free

              pub full_put : {f6 : List ℕ} → Counted f5 f6 → Bytes f6 → PutStep E f k v f6
              full_put count bytes =
                  record {
                    after = λ s S. grow_put (lacks_of A.put A.missing S) v A.put.ready.legal_value.stamp A.full (same_room A.put.ready.stands S k v A.put.ready.room) eu took make filled p.here.link A.put.way.link_is link free count bytes;
                  }
