-- The node that holds the Leaf falls to its mark: what the calls of `shrink` ask, and what they leave. One argument for the three kinds.
-- Assumes nothing.
use Prim.Native.Nat.{ℕ, zero, suc, ◌+◌, ◌-◌, ◌<◌, ◌≤◌}
use mathlib.Core.Path.{◌≡◌, refl, sym, ap, subst, ◌∙◌}
use mathlib.Core.List.{List, [], ◌∷◌, ◌++◌}
use mathlib.Core.Logic.{◌⊎◌, ⊎_elim}
use mathlib.Core.Bool.{false}
use native.Mathlib.Omega.{arith}
use native.Mathlib.Decide.{dec_lt}
use lib.ListN.{length}
use Rattle.layout.specs.Number.{Bytes, put}
use Rattle.layout.specs.Place.{at_root, entry_at}
use Rattle.layout.specs.Kind.{number_of, leaf_kind, body_size, Kind, fewest, most, shrink_mark, kind_down, prefix_kind}
use Rattle.layout.specs.Entry.{place_of}
use Rattle.layout.proofs.KindLaws.{size_least, shrunk_enough, shrunk_fits}
use Rattle.model.specs.Edition.{Edition}
use Rattle.model.specs.Tree.{Art, Change, Left, extent_of, carried, erase_tree}
use Rattle.model.specs.State.{State, call_erase}
use Rattle.model.specs.Item.{Item, body, on_slot, cover, leafy, sum, Same}
use Rattle.model.specs.Body.{child_in, InnerAt}
use Rattle.model.specs.Frame.{Lay, LayKids, slot_of, art, items, items_all, pairs, freed, View, Heap, Stands}
use Rattle.model.specs.Frame.Lay.{leaf, prefix, node}
use Rattle.model.specs.Frame.LayKids.{nil, kid}
use Rattle.model.specs.Touch as model
use Rattle.model.specs.Mark.{is}
use Rattle.model.specs.Touch.{Touch, touch, touch_erase}
use Rattle.model.proofs.ItemLaws.{in_yes, sum_app, sum_cons}
use Rattle.model.proofs.StandsGood.{leafy_other}
use Rattle.model.proofs.MarkLaws.{node_marks, is_gone, stay_more}
use Rattle.moves.specs.Moved.{Only}
use Rattle.inner.specs.Inner.{NodeHas, Emptied, Removed, Carry, Carried}
use Rattle.inner.proofs.InnerLaws.{inner_keeps}
use Rattle.room.specs.View.{list_of, place_from, taken, Roomy, released, rooted}
use Rattle.room.specs.Step.{Takes, Took, Frees, Freed}
use Rattle.room.specs.Book as book
use Rattle.room.specs.Book.{taken_all}
use Rattle.room.proofs.HeapLaws.{cover_body, lies, took_lies, two_apart}
use Rattle.room.proofs.BookLaws.{room_first}
use Rattle.between.specs.Hole.{carried_lay, Step, plug, steps_items}
use Rattle.between.specs.Work.{root_of, kid_trees, forest_items, Work}
use Rattle.between.specs.Lead.{above_of}
use Rattle.between.specs.Since.{holder_items, Accounts}
use Rattle.between.specs.Hole as hole
use Rattle.between.specs.Edit.{Lost, Booked}
use Rattle.between.proofs.TreeLaws.{sum_none, leaf_sum, prefix_sum, node_sum, kid_sum}
use Rattle.between.proofs.KidsLaws.{carried_sum, carried_trees, carried_art, size_is}
use Rattle.between.proofs.HoleLaws.{is_node}
use Rattle.between.proofs.WorkLaws.{stands_view, work_take, work_write, work_turn, work_swap, work_free, work_close, work_sum, first_owns, entries_first, forest_kids, kids_sum, work_kids, make_node}
use Rattle.between.proofs.LinkLaws.{relinked, link_room}
use Rattle.between.proofs.EditLaws.{removed, carried_node}
use Rattle.between.proofs.EraseLaws.{less_shrinks, lost_shrinks}
use Rattle.between.proofs.BookedLaws.{room_of, booked_row, booked_root, booked_free, booked_as, tally_turn}
use Rattle.between.proofs.SinceLaws.{since_start, since_take, since_write, since_also, since_link, since_free}
use Rattle.between.proofs.OutsideLaws.{among_here, among_there, slots_later, slots_app, holder_slots, holder_sum, next_above, among_not}
use Rattle.between.proofs.StayLaws.{carried_marks}
use Rattle.descent.specs.declared.spot.Spot.{Spot}
use Rattle.erase_remove.specs.Leaf.{Drops, Dropped}
use Rattle.erase_remove.specs.Erase.{Falls}
use Rattle.erase_remove.proofs.LeafLaws.{DropLeaf}
use Rattle.erase_remove.proofs.DoneLaws.{Result, fits_is, erase_done_lem}
use Rattle.erase_remove.proofs.SpotLaws.{was_is, mark_down, held, xs, path, gone, kids, left, holder, root_is, fits, W0, N0, count_is, records_some, left_art, bare, bare_count, node_found, node_erased, node_touched, items_are, left_marks, leaf_fewer, has_byte_lem}

-- ---- slots of children are slots

none_self : (s k o : ℕ) → on_slot 0 (body s k o) ≡ 0 → 1 ≤ s
unfolding on_slot
none_self s k o h = elim (dec_lt 0 s) [ yes p ↦ p | no p ↦ absurd (omega (arith, in_yes s 1 0 (omega arith) (omega arith))) ]

slot_live : (t : Lay) → sum (on_slot 0) (items t) ≡ 0 → 1 ≤ slot_of t
slot_live (leaf s o e k v) h = none_self s leaf_kind o (omega (arith, leaf_sum (on_slot 0) s o e k v))
slot_live (prefix s o p t) h = none_self s 2 o (omega (arith, prefix_sum (on_slot 0) s o p t))
slot_live (node s o kind ks) h = none_self s kind o (omega (arith, node_sum (on_slot 0) s o kind ks))

kids_live : (ks : LayKids) → sum (on_slot 0) (items_all ks) ≡ 0 → (i : ℕ) → i < length (pairs ks) → 1 ≤ child_in (pairs ks) i
unfolding pairs
kids_live nil h i l = absurd (omega arith)
kids_live (kid b j t ks) h zero l = slot_live t (omega (arith, kid_sum (on_slot 0) b j t ks))
kids_live (kid b j t ks) h (suc i) l = kids_live ks (omega (arith, kid_sum (on_slot 0) b j t ks)) i (omega arith)

one_row : (h : View) (k : ℕ) → Kind k → length h.lists ≡ 8 → Booked h (taken h k) (k ∷ []) [] 0 0 h.nums.R
unfolding taken_all
one_row h k K e = booked_row h (k ∷ []) (book.cons K book.nil) e

-- ---- the edit

pub large : {E : Edition} {f k : List ℕ} {p : Spot} (P : Falls E f k p) → (5 ≤ number_of p.node.kind) × (number_of p.node.kind ≤ 7)
large P = (P.large, (N0 P.erase P.erase.st P.erase.stands).inner.range.1)

module _ {E : Edition} {f k : List ℕ} {p : Spot} (P : Falls E f k p) (s : State) (w : Stands E f s) {kd : ℕ} (ekd : kd ≡ kind_down (number_of p.node.kind)) where
  abbrev n : ℕ
  n = p.node.slot

  abbrev o : ℕ
  o = p.node.place

  abbrev kind : ℕ
  kind = number_of p.node.kind

  abbrev ys : List Step
  ys = xs P.erase s w

  abbrev way : List ℕ
  way = path P.erase s w

  abbrev rest : LayKids
  rest = left P.erase s w

  abbrev dead : ℕ
  dead = extent_of k (held P.erase).value

  abbrev h0 : View
  h0 = stands_view w

  down : (2 ≤ shrink_mark kind) × (4 ≤ kd) × (kd ≤ 6)
  down = rw ekd (mark_down kind (large P).0 (large P).1)

  kd_kind : Kind kd
  kd_kind = let d = down in (omega arith, omega arith, λ z. omega arith)

  kind_kind : Kind kind
  kind_kind = let l = large P in (omega arith, omega arith, λ z. omega arith)

  at_mark : length (pairs rest) ≡ shrink_mark kind
  at_mark = omega (arith, count_is P.erase s w, P.mark)

  -- the model's change
  abbrev new_art : Art
  new_art = Art.node kd (carried kd (bare P.erase s w))

  abbrev change : Change Left
  change = record { now = Left.kept new_art; takes = kd ∷ []; frees = kind ∷ leaf_kind ∷ []; extent = 0; dead = dead; fresh = false }

  erased : erase_tree E (art (holder P.erase s w)) (length way) k ≡ change
  erased =
      let e = bare_count P.erase s w in
      node_erased P.erase s w ∙ less_shrinks kind (bare P.erase s w) _ (omega (arith, at_mark, down.0)) (e ∙ at_mark)
      ∙ ap (λ d. record { now = Left.kept (Art.node d (carried d (bare P.erase s w))); takes = d ∷ []; frees = kind ∷ leaf_kind ∷ []; extent = 0; dead = dead; fresh = false }) (sym ekd)

  marks : (fewest kd ≤ length (pairs rest)) × (length (pairs rest) ≤ most kd)
  marks = rw (ekd, at_mark) (shrunk_enough kind (large P).0 (large P).1, shrunk_fits kind (large P).0 (large P).1)

  new_art_lem : (m q : ℕ) → change.now ≡ Left.kept (art (node m q kd (carried_lay kd rest)))
  new_art_lem m q = ap (λ x. Left.kept (Art.node kd x)) (sym (carried_art kd rest ∙ ap (carried kd) (left_art P.erase s w)))

  roomy : Roomy h0 kd
  roomy =
      let t = holder P.erase s w in
      let c = fits_is w ys t (root_is P.erase s w) (held P.erase).leads change (node 0 0 kd (carried_lay kd rest)) (held P.erase).value erased (new_art_lem 0 0) (λ p h. tt) (fits P.erase s w) in
      room_first h0 kd [] 0 kd_kind w.heap.lists.eight (room_of w change c)

  pub shrink_takes : Takes f kd
  shrink_takes = record { view = h0; heap = w.heap; kind = kd_kind; room = roomy }

  -- ---- the calls: take

  module _ {f1 : List ℕ} {m : ℕ} (take : (h : View) → Heap f h → Roomy h kd → Took f f1 h kd m) where
    abbrev h1 : View
    h1 = taken h0 kd

    abbrev q1 : ℕ
    q1 = place_from h0 (list_of h0 kd)

    T : Took f f1 h0 kd m
    T = take h0 w.heap roomy

    W1 : Work E f1 h1 ys n ((way, holder P.erase s w) ∷ []) (body m kd q1 ∷ [])
    W1 = work_take (W0 P.erase s w) T

    pub shrink_entry : (1 ≤ m) × (entry_at m + 4 ≤ length f1) × (m < 65536)
    shrink_entry =
        let I = took_lies T kd_kind in
        let b = T.heap.header.bump_in in
        let c = T.heap.header.slot_cap in
        (I.low, omega (arith, I.table, T.heap.header.size), omega (arith, I.table))

    pub shrink_has : NodeHas f1 o kind p.byte
    shrink_has = has_byte_lem P.erase s w W1

    -- remove
    module _ {q : ℕ} (eq : q ≡ place_of f1 m) {f2 : List ℕ} (D : Removed f1 f2 o kind p.byte) where
      place_is : q ≡ q1
      place_is = eq ∙ T.entry.place_is

      R2 : Lost E f2 h1 ys n way [] (body m kd q1 ∷ []) n o kind p.byte (gone P.erase s w) rest
      R2 = let H = held P.erase in removed way [] n o kind p.byte H.place (gone P.erase s w) H.before H.after W1 D

      abbrev us : List (List ℕ × Lay)
      us = (way ++ p.byte ∷ [], gone P.erase s w) ∷ []

      W2 : Work E f2 h1 ys n (kid_trees way rest us) (body m kd q1 ∷ body n kind o ∷ [])
      W2 = work_turn R2.work refl

      new_ends : q1 + body_size kd ≤ length f2
      new_ends = let I = lies m kd q1 _ W2.heap (first_owns W2) kd_kind.0 kd_kind.1 in omega (arith, I.ends, W2.heap.header.size)

      two : (o + body_size kind ≤ q1) ⊎ (q1 + body_size kd ≤ o)
      two =
          two_apart W2.heap.sound n kind o m kd q1
          (λ v. omega (arith, sum_app v h1.owned (freed 1 h1.lists), work_sum W2 v, sum_cons v (body m kd q1) (body n kind o ∷ []), sum_cons v (body n kind o) [], sum_none v))
          (omega (arith, size_least kind kind_kind.0 kind_kind.1)) (omega (arith, size_least kd kd_kind.0 kd_kind.1))

      pub shrink_empties : (4 ≤ kd) × (kd ≤ 7) × (q + body_size kd ≤ length f2)
      shrink_empties = let e = place_is in let d = down in (omega arith, omega arith, rw e new_ends)

      -- empty
      module _ {f3 : List ℕ} (Z : Emptied f2 f3 q kd) where
        abbrev O3 : Only f2 f3 q1 (q1 + body_size kd)
        O3 = rw place_is at Z.only

        I3 : InnerAt f3 o kind (pairs rest)
        I3 =
            inner_keeps (record {
              size = O3.size;
              bytes = λ a l u. ⊎_elim (λ t. O3.below a (omega arith)) (λ t. O3.above a (omega arith)) two;
            }) R2.inner

        W3 : Work E f3 h1 ys n (kid_trees way rest us) (body m kd q1 ∷ body n kind o ∷ [])
        W3 = work_write W2 kd_kind.0 kd_kind.1 O3 (omega arith) (omega arith)

        pub shrink_carries : Carry f3 o kind q kd
        shrink_carries =
            let d = down in
            rw place_is (record {
              kids = pairs rest;
              node = I3;
              slots = kids_live rest (omega (
                arith,
                W3.heap.sound.zeroth,
                sum_app (on_slot 0) h1.owned (freed 1 h1.lists),
                work_sum W3 (on_slot 0),
                kids_sum (on_slot 0) way rest us,
              ));
              range = (omega arith, omega arith);
              fits = marks.1;
              room = omega (arith, new_ends, O3.size);
              zeros = rw place_is at Z.zeros;
              apart = two;
            })

        -- carry
        module _ {f4 : List ℕ} (C : Carried f3 f4 o kind q kd) where
          abbrev C4 : Carried f3 f4 o kind q1 kd
          C4 = rw place_is at C

          abbrev ks1 : LayKids
          ks1 = carried_lay kd rest

          abbrev new : Lay
          new = node m q1 kd ks1

          W4 : Work E f4 h1 ys n (kid_trees way rest us) (body m kd q1 ∷ body n kind o ∷ [])
          W4 = work_write W3 kd_kind.0 kd_kind.1 C4.only (omega arith) (omega arith)

          W4' : Work E f4 h1 ys n ((way, new) ∷ us) (body n kind o ∷ [])
          W4' =
              let F = forest_kids E f4 way rest us W4.trees in
              make_node way us (body n kind o ∷ []) m q1 kd ks1
              (work_kids way us (body m kd q1 ∷ body n kind o ∷ []) ks1 W4 (carried_trees E f4 way kd rest F.0) F.1 (λ v. omega (arith, kids_sum v way rest us, carried_sum v kd rest)))
              (carried_node rest C4 I3 marks.0 marks.1)

          pub shrink_links : (64 ≤ length f4) × (p.node.link + 4 ≤ length f4)
          shrink_links =
              let l = W4.heap.header.limits in
              let z : 1024 ≤ length f4 = omega (arith, W4.heap.header.size) in
              (omega arith, link_room E f4 ys p.node.link n (held P.erase).link W4.around z)

          -- relink
          module _ {f5 : List ℕ} (G : (p.node.link ≡ at_root → f5 ≡ put 2 f4 at_root m) × ((p.node.link ≡ at_root → ⊥) → f5 ≡ put 4 f4 p.node.link m)) where
            abbrev h5 : View
            h5 = rooted h1 (root_of ys m)

            abbrev T1 : Lay
            T1 = plug ys new

            W5 : Work E f5 h5 [] (slot_of T1) (([], T1) ∷ us) (body n kind o ∷ [])
            W5 = work_close ys new us (relinked m shrink_entry.0 shrink_entry.2 p.node.link ys (held P.erase).link W4' G) refl (is_node ys m q1 kd ks1)

            abbrev rest5 : List Item
            rest5 = [] ++ (steps_items [] ++ forest_items (([], T1) ∷ us))

            pub shrink_frees : Frees f5 n kind
            shrink_frees = record { view = h5; heap = W5.heap; kind = kind_kind; place = o; rest = rest5; owns = first_owns W5; place_is = (entries_first f5 n kind o [] W5.entries).0.place_is }

            -- release
            module _ {f6 : List ℕ} (release : (h : View) (o : ℕ) (rest : List Item) → Heap f5 h → Same h.owned (body n kind o ∷ rest) → place_of f5 n ≡ o → Freed f5 f6 h n kind o rest) where
              abbrev h6 : View
              h6 = released h5 n kind o rest5

              F6 : Freed f5 f6 h5 n kind o rest5
              F6 = release h5 o rest5 W5.heap (first_owns W5) (entries_first f5 n kind o [] W5.entries).0.place_is

              W6 : Work E f6 h6 [] (slot_of T1) ((way ++ p.byte ∷ [], gone P.erase s w) ∷ ([], T1) ∷ []) []
              W6 = work_swap [] T1 (way ++ p.byte ∷ []) (gone P.erase s w) [] (work_free W5 F6)

              book6 : Booked h0 h6 (kd ∷ []) (kind ∷ []) 0 0 w.nums.R
              book6 = booked_free (booked_root (one_row h0 kd kd_kind w.heap.lists.eight) (root_of ys m)) n kind o rest5 kind_kind

              pub shrink_drops : Drops f6 p.here.slot p.here.place
              shrink_drops =
                  record {
                    edition = E;
                    view = h6;
                    steps = [];
                    named = slot_of T1;
                    path = way ++ p.byte ∷ [];
                    extent = (held P.erase).extent;
                    key = k;
                    value = (held P.erase).value;
                    trees = ([], T1) ∷ [];
                    loose = [];
                    work = W6;
                    some = P.erase.some;
                    records = omega (arith, book6.R, records_some P.erase s w);
                  }

              -- drop_leaf
              module _ {f7 : List ℕ} (drop : DropLeaf f6 f7 p.here.slot p.here.place) (bytes : Bytes f7) where
                abbrev l : ℕ
                l = p.here.slot

                abbrev gs : List Item
                gs = body l leaf_kind p.here.place ∷ body n kind o ∷ []

                abbrev rs : List Item
                rs = holder_items ys ++ (body n kind o ∷ [])

                X : Dropped E f6 f7 h6 [] (slot_of T1) (([], T1) ∷ []) [] l p.here.place (held P.erase).extent k (held P.erase).value
                X = drop E h6 [] (slot_of T1) (way ++ p.byte ∷ []) (held P.erase).extent k (held P.erase).value (([], T1) ∷ []) [] W6

                abbrev touches : Touch
                touches = touch (model.holder (hole.holder_of ys)) (l ∷ n ∷ [])

                touched : touch_erase E (holder P.erase s w) (above_of ys) (length way) k ≡ touches
                touched =
                    node_touched P.erase s w ∙ lost_shrinks (above_of ys) n kind l rest (omega (arith, size_is rest, at_mark, down.0)) (size_is rest ∙ at_mark)
                    ∙ ap (λ x. touch (model.holder x) (l ∷ n ∷ [])) (next_above ys)

                accounts : Accounts w.root touches (kd ∷ kind ∷ leaf_kind ∷ []) (body m kd q1 ∷ []) rs gs
                accounts =
                    record {
                      takes = tt;
                      frees = λ i. refl;
                      kinds_in = (among_there leaf_kind kd (kind ∷ leaf_kind ∷ []) (among_there leaf_kind kind (leaf_kind ∷ []) refl), (among_there kind kd (kind ∷ leaf_kind ∷ []) (among_here kind (leaf_kind ∷ [])), tt));
                      slots_in = slots_app (l ∷ n ∷ [] ++ model.holder (hole.holder_of ys)) (holder_items ys) (body n kind o ∷ [])
                          (slots_later (l ∷ n ∷ []) (model.holder (hole.holder_of ys)) (holder_items ys) (holder_slots W4'))
                          (among_there n l (n ∷ [] ++ model.holder (hole.holder_of ys)) (among_here n (model.holder (hole.holder_of ys))), tt);
                      frees_in = λ v. omega (arith, items_are P.erase s w v, sum_cons v (body l leaf_kind p.here.place) (body n kind o ∷ []), sum_cons v (body n kind o) [], sum_none v);
                      rewrites_in = λ v. omega (arith, items_are P.erase s w v, sum_app v (holder_items ys) (body n kind o ∷ []), holder_sum v ys, sum_cons v (body n kind o) [], sum_none v);
                    }

                books : Booked h0 X.view (kd ∷ []) (kind ∷ leaf_kind ∷ []) 0 dead (w.nums.R - 1)
                books = booked_as (X.booked h0 (kd ∷ []) (kind ∷ []) 0 0 dead w.nums.R (omega arith) book6) (kd ∷ []) (kind ∷ leaf_kind ∷ []) (λ i. refl) (tally_turn leaf_kind kind [])

                fewer : sum leafy (items new) + 1 ≡ sum leafy (items (holder P.erase s w))
                fewer =
                    let g = large P in
                    let d = down in
                    omega (
                      arith,
                      node_sum leafy m q1 kd ks1,
                      node_sum leafy n o kind (kids P.erase s w),
                      carried_sum leafy kd rest,
                      leaf_fewer P.erase s w,
                      leafy_other n kind o (omega arith),
                      leafy_other m kd q1 (omega arith),
                    )

                pub shrink_done : Result f f7 k w (call_erase E s k)
                shrink_done =
                    let t = holder P.erase s w in
                    let er = root_is P.erase s w in
                    let L = (held P.erase).leads in
                    let v = (held P.erase).value in
                    let el = new_art_lem m q1 in
                    let B1 = body m kd q1 in
                    let Z1 = since_take kd_kind w.heap (since_start w.heap) T in
                    let Z2 = since_write D.only (λ a x u. omega (arith, sum_cons (cover a) (body n kind o) [], cover_body a n kind o x u)) (since_also (body n kind o ∷ []) Z1) in
                    let Z3 = since_write O3 (λ a x u. omega (arith, sum_cons (cover a) B1 [], cover_body a m kd q1 x u)) Z2 in
                    let Z4 = since_write C4.only (λ a x u. omega (arith, sum_cons (cover a) B1 [], cover_body a m kd q1 x u)) Z3 in
                    let Z5 = since_link m p.node.link ys (held P.erase).link W4' G Z4 in
                    let Z6 = since_free kind_kind W5.heap (first_owns W5) Z5 F6 in
                    erase_done_lem w ys t er L change new v erased el (λ p h. tt) (node_found P.erase s w) (fits_is w ys t er L change new v erased el (λ p h. tt) (fits P.erase s w)) P.erase.lawful tt
                    X.work refl bytes books fewer (was_is P.erase s w) (X.since f h0 (B1 ∷ []) rs (body n kind o ∷ []) [] Z6)
                    (subst (λ (z : Touch). Accounts w.root z (kd ∷ kind ∷ leaf_kind ∷ []) (B1 ∷ []) rs gs) (sym touched) accounts)
                    (stay_more (λ x z. omega (
                      arith,
                      node_marks (is x) way n o kind (kids P.erase s w),
                      node_marks (is x) way m q1 kd ks1,
                      carried_marks (is x) way kd rest,
                      left_marks P.erase s w (is x) way,
                      is_gone x (l ∷ n ∷ []) l leaf_kind k k (rw touched at z) (among_here l (n ∷ [])),
                      is_gone x (l ∷ n ∷ []) n kind way way (rw touched at z) (among_there n l (n ∷ []) (among_here n [])),
                    ))) (let d = down in among_not prefix_kind kd [] (λ z. omega arith))
