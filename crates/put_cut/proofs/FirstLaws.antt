-- No part before: the Node4 takes the place of the Prefix. `cut_first`, call by call, from what the calls leave to the model's put. Assumes nothing.
use Prim.Native.Nat.{ℕ, zero, suc, ◌+◌, ◌-◌, ◌<◌, ◌≤◌}
use mathlib.Core.Path.{◌≡◌, refl, sym, ap, subst, ◌∙◌}
use mathlib.Core.List.{List, [], ◌∷◌, ◌++◌, append-nil}
use native.Mathlib.Omega.{arith}
use lib.ListN.{length, get_or, take, length-append}
use Rattle.layout.specs.Number.{Bytes, byte_at}
use Rattle.layout.specs.Place.{prefix_bytes}
use Rattle.layout.specs.Kind.{leaf_kind, node4_kind}
use Rattle.model.specs.Edition.{Edition, Value}
use Rattle.model.specs.Tree.{Art, Change, chain, prefixes, as_prefix, extent_of, fork, new_key, put_tree}
use Rattle.model.specs.State.{State}
use Rattle.model.specs.Item.{Item, body, cover}
use Rattle.model.specs.Frame.{Lay, Tree, slot_of, IsNode, art, View, Heap, Stands, Begins}
use Rattle.model.specs.Frame.Lay.{node}
use Rattle.model.proofs.ItemLaws.{sum_cons}
use Rattle.model.proofs.StringLaws.{clash}
use Rattle.room.specs.View.{list_of, place_from, taken, Roomy, recorded, rooted}
use Rattle.room.specs.Step.{Takes, Took}
use Rattle.room.specs.Book.{RoomFor}
use Rattle.room.specs.Link.{Relinked}
use Rattle.room.proofs.BookLaws.{room_next}
use Rattle.between.specs.Hole.{plug, path_of}
use Rattle.between.specs.Work.{root_of, Work}
use Rattle.between.specs.Since.{Since, holder_items}
use Rattle.between.specs.Edit.{Booked, leaf_view, leaf_in}
use Rattle.between.proofs.HoleLaws.{is_node}
use Rattle.between.proofs.LinkLaws.{relinked}
use Rattle.between.proofs.LeadLaws.{leaf_look}
use Rattle.between.proofs.WorkLaws.{stands_view, work_path, work_take, work_count, work_close, forest_first}
use Rattle.between.proofs.SinceLaws.{since_take, since_link, since_count}
use Rattle.between.proofs.BookedLaws.{room_same, booked_root, booked_count}
use Rattle.descent.specs.declared.spot.Spot.{Spot}
use Rattle.leaf_new.specs.Make.{Counts, Counted}
use Rattle.leaf_new.specs.Put.{PutStep}
use Rattle.leaf_new.proofs.LeafLaws.{counts_of}
use Rattle.leaf_new.proofs.DoneLaws.{any_room, change_is, room_is, Edited, put_done}
use Rattle.chain.specs.Row as chain_row
use Rattle.chain.specs.Row.{row_items, Named, unwound, bodies_of, bytes_of, tip_of, Shrunk, RowFreed}
use Rattle.chain.proofs.TakeLaws.{work_behind}
use Rattle.chain.proofs.ReadLaws.{tree_stood}
use Rattle.chain.proofs.RunLaws.{run_art, run_chained}
use Rattle.put_split.specs.Parts.{Forks, Forked}
use Rattle.put_split.proofs.ForkLaws.{fork_kids, fork_art, fork_look, fork_work, fork_since}
use Rattle.put_split.proofs.EndLaws.{node4_kind_lem, tally_two, took_slot}
use Rattle.put_split.proofs.SplitLaws.{booked_two, from_two}
use Rattle.put_split.proofs.OtherLaws.{relink_ok}
use Rattle.put_split.proofs.PartedLaws.{begins_here, byte_here}
use Rattle.put_cut.specs.Cut.{AtPart, NoneBefore}
use Rattle.put_cut.specs.After.{own_row, Dropped, FirstDropped, Drops}
use Rattle.put_cut.proofs.RunLists.{no_bytes, unwound_long, tip_not_leaf, since_rows, since_changed}
use Rattle.put_cut.proofs.ModelLaws.{made_of, made_first}
use Rattle.put_cut.proofs.SpotLaws.{takes_of, took_of, run_leaves, fork_leaves, xs, text, below, old, w0, root_at, opened, old_run, old_many, cut, left, all_cut, spelt, shares, old_put, past_is, upto_is, few_bodies, prefix_room, bytes_differ, forked_as, forks_of}
use Rattle.put_cut.proofs.CutLaws.{first_accounts, first_stays}

-- the spare body as a row of one
own_long : (n o j : ℕ) → j ≤ 1 → length (own_row n o j) ≡ j
own_long n o zero l = refl
own_long n o (suc j) l = omega arith

own_named : (row : List ℕ) (n o j : ℕ) → get_or row 0 0 ≡ n → Named row (own_row n o j)
own_named row n o zero e = tt
own_named row n o (suc j) e = (e, tt)

-- what was freed of it is all of it
own_gone : (n o j : ℕ) (gone left : List (ℕ × ℕ)) → j ≤ 1 → length left ≡ 0 → ◌≡◌ {A = List (ℕ × ℕ)} (unwound gone left) (own_row n o j) → ◌≡◌ {A = List (ℕ × ℕ)} gone (own_row n o j)
own_gone n o j gone (x ∷ left) l e u = absurd (omega arith)
own_gone n o j [] [] l e u = u
own_gone n o j (x ∷ []) [] l e u = u
own_gone n o j (x ∷ y ∷ gone) [] l e u = absurd (omega (arith, ap length u, unwound_long gone (y ∷ x ∷ []), own_long n o j l))

module _ {E : Edition} {f k word : List ℕ} {v : Value} {p : Spot} (N : NoneBefore E f k word v p) where
  abbrev A : AtPart E f k word v p
  A = N.at

  abbrev n : ℕ
  n = p.here.slot

  abbrev o : ℕ
  o = p.here.place

  abbrev path : List ℕ
  path = path_of (xs A)

  no_front : (cut A).w ≡ []
  no_front = no_bytes (cut A).w (sym (shares A) ∙ N.before)

  pub first_room : (o + 128 ≤ length f) × (0 < 112)
  first_room = ((prefix_room A).0, omega arith)

  pub first_forked : {b c : ℕ} {g h : List ℕ} {m y : ℕ} → b ≡ get_or word p.depth 0 → c ≡ byte_at f (o + prefix_bytes + 0) → Forked g h k v m b c y → Forked g h k v m (cut A).b (cut A).c y
  first_forked eb ec F = forked_as A (omega (arith, N.before)) (sym N.before) eb ec F

  -- ---- what put makes of it, with j Prefixes fewer

  abbrev first_change : ℕ → Change Art
  first_change j = new_key k v (fork (cut A).b (Art.leaf k v) (cut A).c (as_prefix (left A) (art (tip_of (below A))))) (node4_kind ∷ []) (prefixes j)

  puts : (j : ℕ) → chain (length (left A)) + j ≡ chain (suc (length (left A))) → put_tree E (art (old A)) (length path) k v ≡ first_change j
  puts j e = old_put A ∙ ap (λ x. made_of k v (cut A).b (cut A).c (art (tip_of (below A))) x (left A)) no_front ∙ made_first k v (cut A).b (cut A).c (art (tip_of (below A))) (left A) j e

  room : {s : State} (w : Stands E f s) → RoomFor (stands_view w) (node4_kind ∷ leaf_kind ∷ []) (extent_of k v)
  room {s} w =
      let j = chain (suc (length (left A))) - chain (length (left A)) in
      room_same (stands_view w) (leaf_kind ∷ node4_kind ∷ []) (node4_kind ∷ leaf_kind ∷ []) (λ i. tally_two leaf_kind node4_kind i) (extent_of k v)
      (room_is k v w (first_change j) (xs A) (change_is k v w (xs A) (old A) (root_at A w) A.put.way.leads (puts j (omega arith))) (any_room A.put s w))

  pub first_takes : Takes f node4_kind
  first_takes = takes_of node4_kind (leaf_kind ∷ []) (extent_of k v) node4_kind_lem (w0 A).heap (room (w0 A))

  module _ {f1 : List ℕ} {m : ℕ} (take4 : (h : View) → Heap f h → Roomy h node4_kind → Took f f1 h node4_kind m) where
    took : {s : State} (w : Stands E f s) → Took f f1 (stands_view w) node4_kind m
    took w = took_of (leaf_kind ∷ []) (extent_of k v) node4_kind_lem take4 w.heap (room w)

    abbrev place4 : {s : State} → Stands E f s → ℕ
    place4 w = place_from (stands_view w) (list_of (stands_view w) node4_kind)

    abbrev b4 : {s : State} → Stands E f s → Item
    b4 w = body m node4_kind (place4 w)

    abbrev view1 : {s : State} → Stands E f s → View
    view1 w = taken (stands_view w) node4_kind

    begun : {s : State} (w : Stands E f s) → Work E f1 (view1 w) (xs A) n ((path, old A) ∷ []) (b4 w ∷ [])
    begun w = work_take (opened A w).0 (took w)

    room_leaf : {s : State} (w : Stands E f s) → RoomFor (view1 w) (leaf_kind ∷ []) (extent_of k v)
    room_leaf w = room_next (stands_view w) node4_kind (leaf_kind ∷ []) (extent_of k v) node4_kind_lem w.heap.lists.eight (room w)

    pub first_drops : Drops f1 n o
    first_drops = record { edition = E; view = _; steps = _; top = _; path = _; bytes = text A; below = below A; trees = _; loose = _; work = begun (w0 A); few = few_bodies A }

    module _ {f2 : List ℕ} {r j : ℕ} (D : FirstDropped f1 f2 n o r j) where
      dropped : {s : State} (w : Stands E f s) → Dropped E f1 f2 (view1 w) (xs A) n path n o (text A) (below A) [] (b4 w ∷ []) r j
      dropped w = D E (view1 w) (xs A) n path (text A) (below A) [] (b4 w ∷ []) (begun w)

      abbrev rest : {s : State} → Stands E f s → Lay
      rest w = (dropped w).lay

      one : 1 ≡ p.shared + 1
      one = omega (arith, N.before)

      string : {s : State} (w : Stands E f s) → bytes_of (rest w) ≡ left A
      string w = (dropped w).string ∙ ap (λ y. y ++ bytes_of (below A)) (past_is A 1 one)

      path_first : path ++ take 1 (text A) ≡ path ++ (cut A).c ∷ []
      path_first = ap (λ y. path ++ y) (upto_is A 1 one ∙ ap (λ y. y ++ (cut A).c ∷ []) no_front)

      ready : {s : State} (w : Stands E f s) → Work E f2 (view1 w) (xs A) n ((path ++ (cut A).c ∷ [], rest w) ∷ []) (b4 w ∷ row_items (own_row n o j) [])
      ready w = work_path (rest w) path_first (work_behind (b4 w) [] (own_row n o j) (dropped w).work)

      -- the run that is left: how many bodies it has, and what it is without slots and places
      rest_node : {s : State} (w : Stands E f s) → IsNode (tip_of (rest w))
      rest_node w = subst IsNode (sym (dropped w).tip) (old_run A).0

      fewer : chain (length (left A)) + j ≡ chain (suc (length (left A)))
      fewer =
          let w = w0 A in
          let d = dropped w in
          let T = (forest_first E f2 (path ++ (cut A).c ∷ []) (rest w) [] (ready w).trees).0 in
          omega (
            arith,
            run_chained E f2 (path ++ (cut A).c ∷ []) (rest w) T,
            ap length (string w),
            ap length d.run,
            length-append (own_row n o j) (bodies_of (rest w)),
            own_long n o j d.few,
            old_many A,
            ap length (all_cut A).right,
            ap length no_front,
            length-append (cut A).w ((cut A).c ∷ left A),
          )

      rest_tree : {s : State} (w : Stands E f s) → Tree E f2 ((path ++ (cut A).w) ++ (cut A).c ∷ []) (rest w)
      rest_tree w = subst (λ y. Tree E f2 (y ++ (cut A).c ∷ []) (rest w)) (sym (append-nil path) ∙ ap (λ y. path ++ y) (sym no_front)) (forest_first E f2 (path ++ (cut A).c ∷ []) (rest w) [] (ready w).trees).0

      rest_art : {s : State} (w : Stands E f s) → art (rest w) ≡ as_prefix (left A) (art (tip_of (below A)))
      rest_art w =
          (run_art E f2 (path ++ (cut A).c ∷ []) (rest w) (forest_first E f2 (path ++ (cut A).c ∷ []) (rest w) [] (ready w).trees).0 (tip_not_leaf (rest w) (rest_node w))).0
          ∙ ap (λ y. as_prefix y (art (tip_of (rest w)))) (string w) ∙ ap (λ y. as_prefix (left A) (art y)) (dropped w).tip

      pub first_forks : {b c : ℕ} → b ≡ get_or word p.depth 0 → c ≡ byte_at f (o + prefix_bytes + 0) → Forks f2 k v m × (b ≡ c → ⊥) × (1 ≤ r) × (r < 4294967296)
      first_forks eb ec =
          let w = w0 A in
          let S = tree_stood (path ++ (cut A).c ∷ []) [] (b4 w ∷ row_items (own_row n o j) []) (rest w) (ready w) in
          let e = (dropped w).slot in
          (forks_of A (ready w) (room_leaf w), bytes_differ A (omega (arith, N.before)) (sym N.before) eb ec, omega (arith, S.low), omega (arith, S.small))

      module _ {f3 : List ℕ} (G : Forked f2 f3 k v m (cut A).b (cut A).c r) where
        abbrev new : {s : State} → Stands E f s → Lay
        new w = leaf_in (view1 w) G.leaf k v

        abbrev knot : {s : State} → Stands E f s → Lay
        knot w = node m (place4 w) node4_kind (fork_kids (cut A).b (new w) (cut A).c (rest w))

        abbrev view3 : {s : State} → Stands E f s → View
        view3 w = leaf_view (view1 w) k v

        begins : Begins (E.walked k) (path ++ (cut A).b ∷ [])
        begins = subst (λ y. Begins (E.walked k) (y ++ (cut A).b ∷ [])) (ap (λ y. path ++ y) no_front ∙ append-nil path) (begins_here E k path (spelt A) (cut A))

        forked : {s : State} (w : Stands E f s) → Work E f3 (view3 w) (xs A) n ((path, knot w) ∷ []) (row_items (own_row n o j) [])
        forked w = fork_work path [] (place4 w) (rest w) (ready w) G (sym (dropped w).slot) (room_leaf w) A.put.ready.legal.passes begins A.put.ready.legal_value.stamp

        pub first_relinks : (64 ≤ length f3) × (p.here.link + 4 ≤ length f3)
        first_relinks = relink_ok p.here.link A.put.way.link_is (forked (w0 A))

        module _ {f4 : List ℕ} (R : Relinked f3 f4 p.here.link m) where
          fits : {s : State} (w : Stands E f s) → (1 ≤ m) × (m < 65536)
          fits w = took_slot (took w) node4_kind_lem

          abbrev view4 : {s : State} → Stands E f s → View
          view4 w = rooted (view3 w) (root_of (xs A) m)

          named : {s : State} (w : Stands E f s) → Work E f4 (view4 w) (xs A) m ((path, knot w) ∷ []) (row_items (own_row n o j) [])
          named w = relinked m (fits w).0 (fits w).1 p.here.link (xs A) A.put.way.link_is (forked w) R

          module _ (row : List ℕ) (er : get_or row 0 0 ≡ n) {i : ℕ} (ei : i ≡ j) where
            pub first_frees : length row ≡ 1 → chain_row.Frees f4 row i × (0 ≤ i)
            first_frees l =
                let w = w0 A in
                let d = (dropped w).few in (
                  record {
                    edition = E;
                    view = _;
                    steps = _;
                    top = _;
                    trees = _;
                    held = own_row n o j;
                    loose = [];
                    work = named w;
                    named = own_named row n o j er;
                    many = own_long n o j d ∙ sym ei;
                    long = omega arith;
                  },
                  omega arith,
                )

            module _ {f5 : List ℕ} (Z : RowFreed f4 f5 row i 0) where
              shrunk : {s : State} (w : Stands E f s) → Shrunk E f4 f5 (view4 w) (xs A) m ((path, knot w) ∷ []) (own_row n o j) [] row 0
              shrunk w = Z E (view4 w) (xs A) m ((path, knot w) ∷ []) (own_row n o j) [] (named w) (own_named row n o j er) (own_long n o j (dropped w).few ∙ sym ei)

              gone_is : {s : State} (w : Stands E f s) → ◌≡◌ {A = List (ℕ × ℕ)} (shrunk w).gone (own_row n o j)
              gone_is w = let S = shrunk w in own_gone n o j S.gone S.left (dropped w).few S.many S.whole

              freed : {s : State} (w : Stands E f s) → Work E f5 (shrunk w).view (xs A) m ((path, knot w) ∷ []) []
              freed w = subst (λ (y : List (ℕ × ℕ)). Work E f5 (shrunk w).view (xs A) m ((path, knot w) ∷ []) (row_items y [])) (none_of (shrunk w).left (shrunk w).many) (shrunk w).work
                where
                  none_of : (a : List (ℕ × ℕ)) → length a ≡ 0 → ◌≡◌ {A = List (ℕ × ℕ)} a []
                  none_of [] e = refl
                  none_of (x ∷ a) e = absurd (omega arith)

              closed : {s : State} (w : Stands E f s) → Work E f5 (shrunk w).view [] (slot_of (plug (xs A) (knot w))) (([], plug (xs A) (knot w)) ∷ []) []
              closed w = work_close (xs A) (knot w) [] (freed w) refl (is_node (xs A) m (place4 w) node4_kind (fork_kids (cut A).b (new w) (cut A).c (rest w)))

              booked : {s : State} (w : Stands E f s) → Booked (stands_view w) (shrunk w).view (leaf_kind ∷ node4_kind ∷ []) (prefixes j) (extent_of k v) 0 w.nums.R
              booked w =
                  let e : prefixes (length (shrunk w).gone) ++ [] ≡ prefixes j = append-nil (prefixes (length (shrunk w).gone)) ∙ ap prefixes (ap length (gone_is w) ∙ own_long n o j (dropped w).few) in
                  subst (λ y. Booked (stands_view w) (shrunk w).view (leaf_kind ∷ node4_kind ∷ []) y (extent_of k v) 0 w.nums.R) e
                  ((shrunk w).booked (stands_view w) (leaf_kind ∷ node4_kind ∷ []) [] (extent_of k v) 0 w.nums.R (booked_root (booked_two (stands_view w) k v w.heap.lists.eight) (root_of (xs A) m)))

              pub first_counts : Counts f5
              first_counts = counts_of (w0 A) (closed (w0 A)).heap (booked (w0 A)).R

              -- the bodies that were taken, and the new extent
              abbrev taken_bs : {s : State} → Stands E f s → List Item
              taken_bs w = body G.leaf leaf_kind (place_from (view1 w) (list_of (view1 w) leaf_kind)) ∷ b4 w ∷ []

              abbrev rewritten : List Item
              rewritten = holder_items (xs A) ++ row_items (bodies_of (old A)) []

              abbrev extents : {s : State} → Stands E f s → List Item
              extents w = Item.extent (taken (view1 w) leaf_kind).nums.B (extent_of k v) ∷ []

              since : {s : State} (w : Stands E f s) → Since f (stands_view w) f5 (shrunk w).view (taken_bs w) rewritten (row_items (own_row n o j) []) (extents w)
              since w =
                  let Z1 = since_changed (dropped w).changed (λ a. omega arith) (since_take node4_kind_lem w.heap (since_rows w.heap (bodies_of (old A))) (took w)) in
                  let Z3 = fork_since path [] (place4 w) (rest w) (ready w) G (sym (dropped w).slot) (room_leaf w) A.put.ready.legal.passes begins A.put.ready.legal_value.stamp Z1 (λ a. omega (arith, sum_cons (cover a) (b4 w) [])) in
                  let Z4 = since_link m p.here.link (xs A) A.put.way.link_is (forked w) R Z3 in
                  subst (λ (y : List (ℕ × ℕ)). Since f (stands_view w) f5 (shrunk w).view (taken_bs w) rewritten (row_items y []) (extents w)) (gone_is w)
                  ((shrunk w).since f (stands_view w) (taken_bs w) rewritten [] (extents w) Z4)

              edited : {g : List ℕ} → Counted f5 g → Bytes g → {s : State} (w : Stands E f s) → Edited f g k v w (xs A) (old A)
              edited {g} C by w =
                  let d = length path in
                  let h1 = view1 w in
                  let h5 = (shrunk w).view in
                  let C5 = C h5 (closed w).heap in
                  record {
                    change = first_change j;
                    puts = puts j fewer;
                    lay = knot w;
                    art_is = fork_art m (place4 w) (cut A).b (new w) (cut A).c (rest w) ∙ ap (fork (cut A).b (Art.leaf k v) (cut A).c) (rest_art w);
                    view = recorded h5 (h5.nums.R + 1);
                    slot = slot_of (plug (xs A) (knot w));
                    work = work_count (closed w) (h5.nums.R + 1) C5;
                    slot_is = refl;
                    bytes = by;
                    records = w.nums.R + 1;
                    booked = booked_count (booked w) (h5.nums.R + 1) (w.nums.R + 1) (omega (arith, (booked w).R));
                    counts = refl;
                    leaves = omega (arith, fork_leaves h1 k v G.leaf m (place4 w) (cut A).b (cut A).c (rest w), run_leaves (rest w) (old A) (dropped w).tip);
                    takes = taken_bs w;
                    rewrites = rewritten;
                    frees = row_items (own_row n o j) [];
                    place = (taken h1 leaf_kind).nums.B;
                    dies = λ a. refl;
                    since = since_count (since w) C5;
                    accounts = first_accounts A N.before j (dropped w).few fewer (taken_bs w) tt w;
                    stays = first_stays A N.before f2 (rest w) (string w) (dropped w).tip (rest_tree w) m (place4 w) (new w) j (dropped w).few fewer (dropped w).run;
                    last = λ c. clash (cc);
                    look = fork_look E k d m (place4 w) (cut A).b (new w) (cut A).c (rest w) byte (cut A).apart ∙ leaf_look E G.leaf (place_from h1 (list_of h1 leaf_kind)) (taken h1 leaf_kind).nums.B k v (d + 1);
                    from_b = λ z. from_two (stands_view w) k v w.heap.lists.eight;
                  }
                where
                  byte : get_or (E.walked k) (length path) 0 ≡ (cut A).b
                  byte = ap (λ i. get_or (E.walked k) i 0) (omega (arith, ap length no_front)) ∙ byte_here E k path (spelt A) (cut A)

              pub first_put : {g : List ℕ} → Counted f5 g → Bytes g → PutStep E f k v g
              first_put {g} C by = record { after = λ s w. put_done f g k v w (xs A) (old A) (root_at A w) A.put.way.leads (edited C by w) (any_room A.put s w) }
