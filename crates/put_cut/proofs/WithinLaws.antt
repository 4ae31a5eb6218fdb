-- A part before: the Prefix keeps it, above the Node4. `cut_within`, call by call, from what the calls leave to the model's put. Assumes nothing.
use Prim.Native.Nat.{ℕ, suc, ◌+◌, ◌-◌, ◌<◌, ◌≤◌}
use mathlib.Core.Path.{◌≡◌, refl, sym, ap, subst, ◌∙◌}
use mathlib.Core.List.{List, [], ◌∷◌, ◌++◌, append_assoc}
use native.Mathlib.Omega.{arith}
use lib.ListN.{length, get_or, take, length-append}
use Rattle.layout.specs.Number.{Bytes, byte_at}
use Rattle.layout.specs.Place.{prefix_bytes}
use Rattle.layout.specs.Kind.{leaf_kind, prefix_kind, node4_kind}
use Rattle.model.specs.Edition.{Edition, Value}
use Rattle.model.specs.Tree.{Art, Change, chain, prefixes, as_prefix, extent_of, fork, new_key, put_tree}
use Rattle.model.specs.State.{State}
use Rattle.model.specs.Item.{Item, body, cover, leafy}
use Rattle.model.specs.Body.{PrefixAt}
use Rattle.model.specs.Frame.{Lay, Tree, slot_of, IsNode, art, View, Heap, tree, Stands}
use Rattle.model.specs.Frame.Lay.{prefix, node}
use Rattle.model.proofs.ItemLaws.{sum_cons}
use Rattle.moves.specs.Moved.{Only}
use Rattle.room.specs.View.{list_of, place_from, taken, Roomy, recorded}
use Rattle.room.specs.Step.{Takes, Took}
use Rattle.room.specs.Book.{RoomFor}
use Rattle.room.proofs.BookLaws.{room_next}
use Rattle.room.proofs.HeapLaws.{cover_body}
use Rattle.between.specs.Hole.{under, plug, path_of}
use Rattle.between.specs.Work.{Work}
use Rattle.between.specs.Since.{Since}
use Rattle.between.specs.Edit.{Booked, leaf_view, leaf_in}
use Rattle.between.proofs.TreeLaws.{prefix_sum}
use Rattle.between.proofs.HoleLaws.{plug_under, path_under, suits_any}
use Rattle.between.proofs.LeadLaws.{leaf_look}
use Rattle.between.proofs.WorkLaws.{stands_view, work_of, work_open, work_path, work_take, work_above, work_write, work_count, work_close, make_prefix, forest_first}
use Rattle.between.proofs.SinceLaws.{since_take, since_write, since_count}
use Rattle.between.proofs.BookedLaws.{room_same, booked_count}
use Rattle.descent.specs.declared.spot.Spot.{Spot}
use Rattle.leaf_new.specs.Make.{Counts, Counted}
use Rattle.leaf_new.specs.Put.{PutStep}
use Rattle.leaf_new.proofs.LeafLaws.{counts_of}
use Rattle.leaf_new.proofs.DoneLaws.{any_room, change_is, room_is, Edited, put_done}
use Rattle.prefix_body.specs.Prefix.{Longer}
use Rattle.chain.specs.Row.{row_items, bodies_of, bytes_of, tip_of, unwound}
use Rattle.chain.proofs.RowLaws.{through, row_bodies, leafy_not}
use Rattle.chain.proofs.TakeLaws.{room_past}
use Rattle.chain.proofs.ReadLaws.{tree_stood}
use Rattle.chain.proofs.RunLaws.{run_art}
use Rattle.put_split.specs.Parts.{Forks, Forked}
use Rattle.put_split.proofs.ForkLaws.{fork_kids, fork_art, fork_look, fork_work, fork_since}
use Rattle.put_split.proofs.EndLaws.{node4_kind_lem, took_slot}
use Rattle.put_split.proofs.SplitLaws.{split_kinds, split_tally, node_view, row_view, booked_all, from_all}
use Rattle.put_split.proofs.PartedLaws.{begins_here, byte_here}
use Rattle.put_cut.specs.Cut.{AtPart, SomeBefore}
use Rattle.put_cut.specs.After.{lacking, Splitting, Split, SplitOff, Splits}
use Rattle.put_cut.proofs.RunLists.{tip_not_leaf, sum_row, since_rows}
use Rattle.put_cut.proofs.ModelLaws.{made_within, here_left}
use Rattle.put_cut.proofs.SpotLaws.{takes_of, took_of, run_leaves, fork_leaves, xs, text, below, old, own, w0, root_at, opened, parts, old_run, old_many, cut, left, all_cut, spelt, shares, old_put, past_is, upto_is, before_is, few_bodies, prefix_room, bytes_differ, forks_of}
use Rattle.put_cut.proofs.CutLaws.{within_accounts, within_stays, within_last}

module _ {E : Edition} {f k word : List ℕ} {v : Value} {p : Spot} (N : SomeBefore E f k word v p) where
  abbrev A : AtPart E f k word v p
  A = N.at

  abbrev n : ℕ
  n = p.here.slot

  abbrev o : ℕ
  o = p.here.place

  abbrev path : List ℕ
  path = path_of (xs A)

  abbrev q : ℕ
  q = p.shared + 1

  front : (1 ≤ length (cut A).w) × (length (cut A).w < 112)
  front = (omega (arith, shares A, N.before), omega (arith, shares A, (prefix_room A).1))

  pub within_room : (o + 128 ≤ length f) × (p.shared < 112)
  within_room = prefix_room A

  -- ---- what put makes of it, with i Prefixes more

  abbrev lacks : ℕ
  lacks = lacking (text A) (below A) q

  string_long : length (left A) + (p.shared + 1) ≡ length (bytes_of (old A))
  string_long = omega (arith, shares A, ap length (all_cut A).right, length-append (cut A).w ((cut A).c ∷ left A))

  more : chain (length (left A)) + 1 ≡ chain (length (cut A).w + suc (length (left A))) + lacks
  more =
      let e : lacks ≡ chain (length (left A)) - length (bodies_of (below A)) = ap (λ y. chain (length (y ++ bytes_of (below A))) - length (bodies_of (below A))) (past_is A q refl) in
      let z : length (cut A).w + suc (length (left A)) ≡ length (bytes_of (old A)) = omega (arith, shares A, string_long) in
      let m = old_many A in
      let c = (old_run A).1 in
      let l = length-append (cut A).t (bytes_of (below A)) in
      rw z (omega arith)

  abbrev within_change : Change Art
  within_change = new_key k v (Art.prefix (cut A).w (fork (cut A).b (Art.leaf k v) (cut A).c (as_prefix (left A) (art (tip_of (below A)))))) (node4_kind ∷ prefixes lacks) []

  puts : put_tree E (art (old A)) (length path) k v ≡ within_change
  puts = old_put A ∙ made_within k v (cut A).b (cut A).c (art (tip_of (below A))) (cut A).w (left A) lacks front.0 front.1 more

  room : {s : State} (w : Stands E f s) → RoomFor (stands_view w) (split_kinds lacks) (extent_of k v)
  room {s} w =
      room_same (stands_view w) (leaf_kind ∷ node4_kind ∷ prefixes lacks) (split_kinds lacks) (λ j. sym (split_tally lacks j)) (extent_of k v)
      (room_is k v w within_change (xs A) (change_is k v w (xs A) (old A) (root_at A w) A.put.way.leads puts) (any_room A.put s w))

  pub within_takes : Takes f node4_kind
  within_takes = takes_of node4_kind (prefixes lacks ++ leaf_kind ∷ []) (extent_of k v) node4_kind_lem (w0 A).heap (room (w0 A))

  -- ---- the tree opened below the Prefix, which stays where it is

  opened_below : {s : State} (w : Stands E f s) → Work E f (stands_view w) (under n o (text A) ∷ xs A) (slot_of (below A)) ((path ++ text A, below A) ∷ []) []
  opened_below w =
      let e : w.root ≡ tree (plug (under n o (text A) ∷ xs A) (below A)) = root_at A w ∙ ap tree (sym (plug_under n o (text A) (xs A) (below A))) in
      work_path (below A) (path_under n o (text A) (xs A)) (work_open (under n o (text A) ∷ xs A) (below A) [] (work_of w (plug (under n o (text A) ∷ xs A) (below A)) e) refl).0

  module _ {f1 : List ℕ} {m : ℕ} (take4 : (h : View) → Heap f h → Roomy h node4_kind → Took f f1 h node4_kind m) where
    took : {s : State} (w : Stands E f s) → Took f f1 (stands_view w) node4_kind m
    took w = took_of (prefixes lacks ++ leaf_kind ∷ []) (extent_of k v) node4_kind_lem take4 w.heap (room w)

    abbrev place4 : {s : State} → Stands E f s → ℕ
    place4 w = place_from (stands_view w) (list_of (stands_view w) node4_kind)

    abbrev b4 : {s : State} → Stands E f s → Item
    b4 w = body m node4_kind (place4 w)

    abbrev view1 : {s : State} → Stands E f s → View
    view1 w = node_view (stands_view w)

    abbrev view2 : {s : State} → Stands E f s → View
    view2 w = row_view (stands_view w) lacks

    room_row : {s : State} (w : Stands E f s) → RoomFor (view1 w) (prefixes lacks ++ leaf_kind ∷ []) (extent_of k v)
    room_row w = room_next (stands_view w) node4_kind (prefixes lacks ++ leaf_kind ∷ []) (extent_of k v) node4_kind_lem w.heap.lists.eight (room w)

    room_leaf : {s : State} (w : Stands E f s) → RoomFor (view2 w) (leaf_kind ∷ []) (extent_of k v)
    room_leaf w = room_past lacks 0 lacks (view1 w) (leaf_kind ∷ []) (extent_of k v) (took w).heap.lists.eight (omega arith) (room_row w)

    splitting : {s : State} (w : Stands E f s) → Splitting E f1 (view1 w) (xs A) n o (text A) (below A) [] (b4 w ∷ []) q (leaf_kind ∷ []) (extent_of k v)
    splitting w = record { work = work_take (opened_below w) (took w); hangs = (parts A w).2; some = omega (arith, A.part.less); room = room_row w }

    pub within_splits : Splits f1 o q
    within_splits = record { edition = E; view = _; steps = _; number = _; bytes = _; below = _; trees = _; loose = _; kinds = _; extent = _; splitting = splitting (w0 A); few = few_bodies A }

    module _ {f2 : List ℕ} {r : ℕ} (D : SplitOff f1 f2 o q r) where
      split : {s : State} (w : Stands E f s) → Split E f1 f2 (view1 w) (xs A) n o (text A) (below A) [] (b4 w ∷ []) q r
      split w = D E (view1 w) (xs A) n (text A) (below A) [] (b4 w ∷ []) (leaf_kind ∷ []) (extent_of k v) (splitting w)

      abbrev rest : {s : State} → Stands E f s → Lay
      rest w = (split w).lay

      abbrev low : List ℕ
      low = (path ++ (cut A).w) ++ (cut A).c ∷ []

      string : {s : State} (w : Stands E f s) → bytes_of (rest w) ≡ left A
      string w = (split w).string ∙ ap (λ y. y ++ bytes_of (below A)) (past_is A q refl)

      ready : {s : State} (w : Stands E f s) → Work E f2 (view2 w) (under n o (text A) ∷ xs A) (slot_of (below A)) ((low, rest w) ∷ []) (b4 w ∷ [])
      ready w = work_path (rest w) (ap (λ y. path ++ y) (upto_is A q refl) ∙ sym (append_assoc path (cut A).w ((cut A).c ∷ []))) (split w).work

      rest_node : {s : State} (w : Stands E f s) → IsNode (tip_of (rest w))
      rest_node w = subst IsNode (sym (split w).tip) (old_run A).0

      rest_tree : {s : State} (w : Stands E f s) → Tree E f2 low (rest w)
      rest_tree w = (forest_first E f2 low (rest w) [] (ready w).trees).0

      rest_art : {s : State} (w : Stands E f s) → art (rest w) ≡ as_prefix (left A) (art (tip_of (below A)))
      rest_art w =
          (run_art E f2 low (rest w) (forest_first E f2 low (rest w) [] (ready w).trees).0 (tip_not_leaf (rest w) (rest_node w))).0
          ∙ ap (λ y. as_prefix y (art (tip_of (rest w)))) (string w) ∙ ap (λ y. as_prefix (left A) (art y)) (split w).tip

      pub within_forks : {b c : ℕ} → b ≡ get_or word (p.depth + p.shared) 0 → c ≡ byte_at f (o + prefix_bytes + p.shared) → Forks f2 k v m × (b ≡ c → ⊥) × (1 ≤ r) × (r < 4294967296)
      within_forks eb ec =
          let w = w0 A in
          let S = tree_stood low [] (b4 w ∷ []) (rest w) (ready w) in
          let e = (split w).slot in
          (forks_of A (ready w) (room_leaf w), bytes_differ A refl refl eb ec, omega (arith, S.low), omega (arith, S.small))

      module _ {f3 : List ℕ} (G : Forked f2 f3 k v m (cut A).b (cut A).c r) where
        abbrev new : {s : State} → Stands E f s → Lay
        new w = leaf_in (view2 w) G.leaf k v

        abbrev knot : {s : State} → Stands E f s → Lay
        knot w = node m (place4 w) node4_kind (fork_kids (cut A).b (new w) (cut A).c (rest w))

        abbrev view3 : {s : State} → Stands E f s → View
        view3 w = leaf_view (view2 w) k v

        forked : {s : State} (w : Stands E f s) → Work E f3 (view3 w) (under n o (text A) ∷ xs A) (slot_of (below A)) ((path ++ (cut A).w, knot w) ∷ []) []
        forked w = fork_work (path ++ (cut A).w) [] (place4 w) (rest w) (ready w) G (sym (split w).slot) (room_leaf w) A.put.ready.legal.passes (begins_here E k path (spelt A) (cut A)) A.put.ready.legal_value.stamp

        -- the Prefix's own body, as it was
        loosed : {s : State} (w : Stands E f s) → Work E f3 (view3 w) (xs A) n ((path ++ (cut A).w, knot w) ∷ []) (own A ∷ []) × PrefixAt f3 o (text A) (slot_of (below A))
        loosed w = let L = work_above n o (text A) (xs A) ((path ++ (cut A).w, knot w) ∷ []) (forked w) in (L.0, L.1)

        fits : {s : State} (w : Stands E f s) → (1 ≤ m) × (m < 65536)
        fits w = took_slot (took w) node4_kind_lem

        pub within_keeps : Longer f3 o p.shared × (1 ≤ p.shared) × (m < 4294967296)
        within_keeps = (record { bytes = text A; below = slot_of (below A); at = (loosed (w0 A)).1; more = A.part.less }, N.before, omega (arith, (fits (w0 A)).1))

        module _ {f4 : List ℕ} (Y : Only f3 f4 o (o + 128) × ((u : List ℕ) (c : ℕ) → PrefixAt f3 o u c → PrefixAt f4 o (take p.shared u) m)) where
          abbrev crown : {s : State} → Stands E f s → Lay
          crown w = prefix n o (cut A).w (knot w)

          topped : {s : State} (w : Stands E f s) → Work E f4 (view3 w) (xs A) n ((path, crown w) ∷ []) []
          topped w =
              let at : PrefixAt f4 o (cut A).w m = subst (λ y. PrefixAt f4 o y m) (before_is A) (Y.1 (text A) (slot_of (below A)) (loosed w).1) in
              make_prefix path [] [] n o (cut A).w (knot w) (work_write (loosed w).0 (omega arith) (omega arith) Y.0 (omega arith) (omega arith)) at tt

          closed : {s : State} (w : Stands E f s) → Work E f4 (view3 w) [] (slot_of (plug (xs A) (crown w))) (([], plug (xs A) (crown w)) ∷ []) []
          closed w = work_close (xs A) (crown w) [] (topped w) refl (suits_any (xs A) (old A) (crown w) (λ u z. z) (opened A w).1)

          booked : {s : State} (w : Stands E f s) → Booked (stands_view w) (view3 w) (leaf_kind ∷ node4_kind ∷ prefixes lacks) [] (extent_of k v) 0 w.nums.R
          booked w = booked_all (stands_view w) lacks k v w.heap.lists.eight

          pub within_counts : Counts f4
          within_counts = counts_of (w0 A) (closed (w0 A)).heap (booked (w0 A)).R

          -- the bodies that were taken, and the new extent
          abbrev b1 : {s : State} → Stands E f s → Item
          b1 w = body G.leaf leaf_kind (place_from (view2 w) (list_of (view2 w) leaf_kind))

          abbrev taken_bs : {s : State} → Stands E f s → List Item
          taken_bs w = b1 w ∷ row_items (split w).new (b4 w ∷ [])

          abbrev rewritten : List Item
          rewritten = row_items (bodies_of (old A)) []

          since : {s : State} (w : Stands E f s) → Since f (stands_view w) f4 (view3 w) (taken_bs w) rewritten [] (Item.extent (taken (view2 w) leaf_kind).nums.B (extent_of k v) ∷ [])
          since w =
              let Z1 = since_take node4_kind_lem w.heap (since_rows w.heap (bodies_of (old A))) (took w) in
              let Z2 = (split w).since f (stands_view w) (b4 w ∷ []) rewritten [] Z1 (λ a. omega (arith, sum_cons (cover a) (own A) (row_items (bodies_of (below A)) []))) in
              let Z3 = fork_since (path ++ (cut A).w) [] (place4 w) (rest w) (ready w) G (sym (split w).slot) (room_leaf w) A.put.ready.legal.passes (begins_here E k path (spelt A) (cut A)) A.put.ready.legal_value.stamp Z2
              (λ a. omega (arith, sum_row (cover a) (split w).new (b4 w ∷ []), sum_cons (cover a) (b4 w) [])) in
              since_write Y.0 (λ a l u. omega (arith, cover_body a n prefix_kind o (omega arith) (omega arith), sum_cons (cover a) (own A) (row_items (bodies_of (below A)) []))) Z3

          edited : {g : List ℕ} → Counted f4 g → Bytes g → {s : State} (w : Stands E f s) → Edited f g k v w (xs A) (old A)
          edited {g} C by w =
              let d = length path in
              let h3 = view3 w in
              let C4 = C h3 (closed w).heap in
              record {
                change = within_change;
                puts = puts;
                lay = crown w;
                art_is = ap (Art.prefix (cut A).w) (fork_art m (place4 w) (cut A).b (new w) (cut A).c (rest w) ∙ ap (fork (cut A).b (Art.leaf k v) (cut A).c) (rest_art w));
                view = recorded h3 (h3.nums.R + 1);
                slot = slot_of (plug (xs A) (crown w));
                work = work_count (closed w) (h3.nums.R + 1) C4;
                slot_is = refl;
                bytes = by;
                records = w.nums.R + 1;
                booked = booked_count (booked w) (h3.nums.R + 1) (w.nums.R + 1) (omega (arith, (booked w).R));
                counts = refl;
                leaves = omega (
                  arith,
                  prefix_sum leafy n o (cut A).w (knot w),
                  leafy_not n prefix_kind o (omega arith),
                  fork_leaves (view2 w) k v G.leaf m (place4 w) (cut A).b (cut A).c (rest w),
                  run_leaves (rest w) (old A) (split w).tip,
                );
                takes = taken_bs w;
                rewrites = rewritten;
                frees = [];
                place = (taken (view2 w) leaf_kind).nums.B;
                dies = λ a. refl;
                since = since_count (since w) C4;
                accounts = within_accounts A N.before (within_change.takes ++ []) (taken_bs w) (row_bodies (split w).new (b4 w ∷ []) tt) w;
                stays = within_stays A N.before f2 (rest w) (unwound (split w).new []) (string w) (split w).tip (rest_tree w) (split w).run m (place4 w) G.leaf (place_from (view2 w) (list_of (view2 w) leaf_kind)) (taken (view2 w) leaf_kind).nums.B v _;
                last = λ c. within_last A N.before f2 (rest w) (unwound (split w).new []) (string w) (split w).tip (rest_tree w) (split w).run m (place4 w) G.leaf (place_from (view2 w) (list_of (view2 w) leaf_kind)) (taken (view2 w) leaf_kind).nums.B v;
                look = through E k (cut A).w ((cut A).b ∷ (cut A).s) d n o (knot w) (here_left E k path (spelt A) (cut A))
                    ∙ fork_look E k (d + length (cut A).w) m (place4 w) (cut A).b (new w) (cut A).c (rest w) (byte_here E k path (spelt A) (cut A)) (cut A).apart
                    ∙ leaf_look E G.leaf (place_from (view2 w) (list_of (view2 w) leaf_kind)) (taken (view2 w) leaf_kind).nums.B k v (d + length (cut A).w + 1);
                from_b = λ z. from_all (stands_view w) lacks k v w.heap.lists.eight;
              }

          pub within_put : {g : List ℕ} → Counted f4 g → Bytes g → PutStep E f k v g
          within_put {g} C by = record { after = λ s w. put_done f g k v w (xs A) (old A) (root_at A w) A.put.way.leads (edited C by w) (any_room A.put s w) }
