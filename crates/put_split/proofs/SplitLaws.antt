-- "a Leaf with another key, q walked bytes shared from there: a Node4, and a Prefix if q > 0", a row of them if a longer beginning is shared: from
-- what the calls leave to the model's put.
-- Assumes nothing.
use Prim.Native.Nat.{ℕ, ◌+◌, ◌<◌, ◌≤◌}
use mathlib.Core.Path.{◌≡◌, refl, sym, ap, subst, ◌∙◌}
use mathlib.Core.List.{List, [], ◌∷◌, ◌++◌, append-nil}
use native.Mathlib.Omega.{arith}
use lib.ListN.{length, drop}
use lib.Seq.{drop-append_seam}
use Rattle.layout.specs.Number.{Bytes}
use Rattle.layout.specs.Kind.{leaf_kind, node4_kind}
use Rattle.model.specs.Edition.{Edition, Value}
use Rattle.model.specs.Tree.{Art, extent_of, Change, as_prefix, fork, new_key, chain, prefixes, put_tree}
use Rattle.model.specs.State.{State, tally}
use Rattle.model.specs.Item.{Item, body, cover, leafy, sum}
use Rattle.model.specs.Frame.{Lay, slot_of, View, Stands}
use Rattle.model.specs.Frame.Lay.{leaf, node}
use Rattle.model.specs.Mark.{is, marks}
use Rattle.model.specs.Touch.{Touch, touch, holder, touch_put}
use Rattle.model.proofs.ItemLaws.{sum_cons}
use Rattle.model.proofs.MarkLaws.{leaf_marks, stay_more}
use Rattle.room.specs.View.{list_of, place_from, taken, Roomy}
use Rattle.room.specs.Step.{Took}
use Rattle.room.specs.Book.{taken_all, RoomFor, Kinds}
use Rattle.room.proofs.BookLaws.{room_first, room_next}
use Rattle.between.specs.Hole.{Step, plug, path_of, holder_of}
use Rattle.between.specs.Work.{Work}
use Rattle.between.specs.Since.{Accounts, holder_items}
use Rattle.between.specs.Edit.{Booked, leaf_view, leaf_in}
use Rattle.between.proofs.TreeLaws.{sum_none}
use Rattle.between.proofs.HoleLaws.{suits_any}
use Rattle.between.proofs.LeadLaws.{leaf_look}
use Rattle.between.proofs.WorkLaws.{stands_view, work_take, leafy_leaf}
use Rattle.between.proofs.SinceLaws.{since_start, since_take}
use Rattle.between.proofs.BookedLaws.{booked_row, booked_as, booked_extend}
use Rattle.between.proofs.StayLaws.{last_leaf}
use Rattle.room.specs.Link.{Relinked}
use Rattle.leaf_new.specs.Make.{Counted}
use Rattle.leaf_new.proofs.OpenLaws.{leaf_opened}
use Rattle.leaf_new.proofs.DoneLaws.{Edited}
use Rattle.chain.specs.Row.{row_items, Named, Ready, Raised, Grown, Grows}
use Rattle.chain.proofs.RowLaws.{raised_work, raised_sum, raised_marks, raised_since, row_leafy, row_bodies, leafy_not}
use Rattle.chain.proofs.TakeLaws.{row_behind, work_behind, room_past, taken_app, tally_app, kinds_row}
use Rattle.put_split.specs.Parts.{Forked}
use Rattle.put_split.specs.Split.{Beside}
use Rattle.put_split.proofs.PartedLaws.{byte_here, begins_here, begins_there, put_leaf_lem, touch_leaf}
use Rattle.put_split.proofs.ForkLaws.{work_under, fork_kids, fork_marks, fork_sum, fork_art, fork_look, fork_work, fork_since}
use Rattle.put_split.proofs.EndLaws.{node4_kind_lem, leaf_kind_lem, tally_two, took_slot, end_work, end_since, end_booked, holders_in, holders_some}

-- the kinds of what is taken, in the order of the takes
pub two_kinds : Kinds (node4_kind ∷ leaf_kind ∷ [])
two_kinds = Kinds.cons node4_kind_lem (Kinds.cons leaf_kind_lem Kinds.nil)

module _ (h : View) (k : List ℕ) (v : Value) (e8 : length h.lists ≡ 8) where
  row_two : Booked h (taken (taken h node4_kind) leaf_kind) (node4_kind ∷ leaf_kind ∷ []) [] 0 0 h.nums.R
  unfolding taken_all
  row_two = booked_row h (node4_kind ∷ leaf_kind ∷ []) two_kinds e8

  pub booked_two : Booked h (leaf_view (taken h node4_kind) k v) (leaf_kind ∷ node4_kind ∷ []) [] (extent_of k v) 0 h.nums.R
  booked_two = booked_extend (booked_as row_two (leaf_kind ∷ node4_kind ∷ []) [] (λ j. tally_two node4_kind leaf_kind j) (λ j. refl)) (extent_of k v) (extent_of k v) (omega arith)

  pub from_two : h.nums.B ≤ (taken (taken h node4_kind) leaf_kind).nums.B
  from_two = omega (arith, row_two.B)

-- the order of the takes: a Node4, a row of n Prefixes, a Leaf
abbrev pub split_kinds : ℕ → List ℕ
split_kinds n = node4_kind ∷ (prefixes n ++ leaf_kind ∷ [])

split_kinds_lem : (n : ℕ) → Kinds (split_kinds n)
split_kinds_lem n = Kinds.cons node4_kind_lem (kinds_row n (Kinds.cons leaf_kind_lem Kinds.nil))

pub split_tally : (n j : ℕ) → tally (split_kinds n) j ≡ tally (leaf_kind ∷ node4_kind ∷ prefixes n) j
split_tally n j = omega (arith, tally_app (node4_kind ∷ prefixes n) (leaf_kind ∷ []) j, tally_app (leaf_kind ∷ []) (node4_kind ∷ prefixes n) j)

-- the views after the Node4, and after the row
abbrev pub node_view : View → View
node_view h = taken h node4_kind

abbrev pub row_view : View → ℕ → View
row_view h n = taken_all (node_view h) (prefixes n)

module _ (h : View) (n : ℕ) (k : List ℕ) (v : Value) (e8 : length h.lists ≡ 8) where
  row_all : Booked h (taken (row_view h n) leaf_kind) (split_kinds n) [] 0 0 h.nums.R
  unfolding taken_all
  row_all = subst (λ y. Booked h y (split_kinds n) [] 0 0 h.nums.R) (taken_app (prefixes n) (leaf_kind ∷ []) (node_view h)) (booked_row h (split_kinds n) (split_kinds_lem n) e8)

  pub booked_all : Booked h (leaf_view (row_view h n) k v) (leaf_kind ∷ node4_kind ∷ prefixes n) [] (extent_of k v) 0 h.nums.R
  booked_all = booked_extend (booked_as row_all (leaf_kind ∷ node4_kind ∷ prefixes n) [] (split_tally n) (λ j. refl)) (extent_of k v) (extent_of k v) (omega arith)

  pub from_all : h.nums.B ≤ (taken (row_view h n) leaf_kind).nums.B
  from_all = omega (arith, row_all.B)

-- ---- at a Leaf of another key

module _ {E : Edition} {f : List ℕ} {st : State} {w : Stands E f st} {k : List ℕ} {xs : List Step} {n o e : ℕ} {k' : List ℕ} {v' : Value} {at : ℕ} (P : Beside w k xs n o e k' v' at) (v : Value) (held : v.stamp < E.stamps) where
  abbrev many : ℕ
  many = chain (length P.parted.w)

  abbrev old : Lay
  old = leaf n o e k' v'

  pub opened : Work E f (stands_view w) xs n ((path_of xs, old) ∷ []) []
  opened = (leaf_opened w xs n o e k' v' P.is).0

  accounts : (kinds : List ℕ) (bs : List Item) → Accounts w.root (touch (holder (holder_of xs)) []) kinds bs (holder_items xs ++ []) [] → Accounts w.root (touch_put E old (holder_of xs) (length (path_of xs)) k v) kinds bs (holder_items xs ++ []) []
  accounts kinds bs A = subst (λ (t : Touch). Accounts w.root t kinds bs (holder_items xs ++ []) []) (sym (touch_leaf E k k' (path_of xs) P.word P.word' P.parted v v' P.differs n o e (holder_of xs))) A

  abbrev pub made : Change Art
  made = new_key k v (as_prefix P.parted.w (fork P.parted.b (Art.leaf k v) P.parted.c (Art.leaf k' v'))) (node4_kind ∷ prefixes many) []

  pub put_made : put_tree E (Art.leaf k' v') (length (path_of xs)) k v ≡ made
  put_made = put_leaf_lem E k k' (path_of xs) P.word P.word' P.parted v v' P.differs

  abbrev place4 : ℕ
  place4 = place_from (stands_view w) (list_of (stands_view w) node4_kind)

  module _ (room : RoomFor (stands_view w) (split_kinds many) (extent_of k v)) where
    pub room_node : Roomy (stands_view w) node4_kind
    room_node = room_first (stands_view w) node4_kind (prefixes many ++ leaf_kind ∷ []) (extent_of k v) node4_kind_lem w.heap.lists.eight room

    module _ {f1 : List ℕ} {m : ℕ} (T : Took f f1 (stands_view w) node4_kind m) where
      room_row : RoomFor (node_view (stands_view w)) (prefixes many ++ leaf_kind ∷ []) (extent_of k v)
      room_row = room_next (stands_view w) node4_kind (prefixes many ++ leaf_kind ∷ []) (extent_of k v) node4_kind_lem w.heap.lists.eight room

      pub grows : (row : List ℕ) → Grows E f1 (node_view (stands_view w)) xs n ((path_of xs, old) ∷ []) [] (body m node4_kind place4 ∷ []) row 0 many (leaf_kind ∷ []) (extent_of k v)
      grows row = record { work = work_take opened T; named = tt; many = refl; room = room_row }

      module _ {f2 row : List ℕ} (Z : Grown E f1 f2 (node_view (stands_view w)) xs n ((path_of xs, old) ∷ []) [] (body m node4_kind place4 ∷ []) row many) where
        abbrev view2 : View
        view2 = row_view (stands_view w) many

        pub taken_row : Work E f2 view2 xs n (((path_of xs ++ P.parted.w) ++ P.parted.c ∷ [], old) ∷ []) (body m node4_kind place4 ∷ row_items Z.new [])
        taken_row =
            work_under (path_of xs) ((path_of xs ++ P.parted.w) ++ P.parted.c ∷ []) n o e k' v' (work_behind (body m node4_kind place4) [] Z.new Z.work)
            (begins_there E k k' (path_of xs) P.word P.word' P.parted)

        pub room_leaf : RoomFor view2 (leaf_kind ∷ []) (extent_of k v)
        room_leaf = room_past many 0 many (node_view (stands_view w)) (leaf_kind ∷ []) (extent_of k v) T.heap.lists.eight (omega arith) room_row

        module _ {f3 : List ℕ} (G : Forked f2 f3 k v m P.parted.b P.parted.c n) where
          abbrev new : Lay
          new = leaf_in view2 G.leaf k v

          abbrev pub knot : Lay
          knot = node m place4 node4_kind (fork_kids P.parted.b new P.parted.c old)

          forked_node : Work E f3 (leaf_view view2 k v) xs n ((path_of xs ++ P.parted.w, knot) ∷ []) (row_items Z.new [])
          forked_node = fork_work (path_of xs ++ P.parted.w) [] place4 old taken_row G refl room_leaf P.legal (begins_here E k (path_of xs) P.word P.parted) held

          pub ready : Ready E f3 (leaf_view view2 k v) xs n (path_of xs) P.parted.w knot [] Z.new [] row m
          ready = record { work = forked_node; named = subst (Named row) (append-nil Z.new) Z.named; many = Z.many; slot = refl; node = λ q. tt }

          module _ {f4 : List ℕ} {top : ℕ} (Y : Raised E f3 f4 (leaf_view view2 k v) xs n (path_of xs) P.parted.w knot [] Z.new [] row 0 0 top) where
            pub raised : Work E f4 (leaf_view view2 k v) xs n ((path_of xs, Y.lay) ∷ []) []
            raised = raised_work Y

            pub top_fits : (1 ≤ top) × (top < 65536)
            top_fits = Y.slot_in (took_slot T node4_kind_lem)

            pub split_all : {f5 g : List ℕ} → Relinked f4 f5 at top → Counted f5 g → Bytes g → Edited f g k v w xs old
            split_all {f5} {g} R C by =
                let d = length (path_of xs) in
                let h0 = stands_view w in
                let b4 = body m node4_kind place4 in
                let b1 = body G.leaf leaf_kind (place_from view2 (list_of view2 leaf_kind)) in
                let row_bs : List Item = row_items Z.new (b4 ∷ []) in
                let bs : List Item = b1 ∷ row_bs in
                let e8 = w.heap.lists.eight in
                let et : top ≡ slot_of Y.lay = sym Y.slot in
                let suits = suits_any xs old Y.lay (λ q z. absurd z) (leaf_opened w xs n o e k' v' P.is).1 in
                let deep : drop d (E.walked k) ≡ P.parted.w ++ (P.parted.b ∷ P.parted.s) = ap (drop d) P.word ∙ drop-append_seam (path_of xs) P.rest ∙ P.parted.left in
                let split_sum : (z : Item → ℕ) → sum z row_bs ≡ z b4 + sum z (row_items Z.new []) = λ z. omega (arith, row_behind z b4 [] Z.new, sum_cons z b4 (row_items Z.new [])) in
                let Z2 = Z.since f h0 (b4 ∷ []) [] [] (since_take node4_kind_lem w.heap (since_start w.heap) T) in
                let Z3 = fork_since (path_of xs ++ P.parted.w) [] place4 old taken_row G refl room_leaf P.legal (begins_here E k (path_of xs) P.word P.parted) held Z2
                (λ a. omega (arith, split_sum (cover a))) in
                let Z4 = raised_since Y Z3 (λ a. omega (arith, sum_cons (cover a) b1 row_bs, split_sum (cover a))) in
                record {
                  change = made;
                  puts = put_made;
                  lay = Y.lay;
                  art_is = Y.art_is ∙ ap (as_prefix P.parted.w) (fork_art m place4 P.parted.b new P.parted.c old);
                  view = _;
                  slot = slot_of (plug xs Y.lay);
                  work = end_work Y.lay raised P.link top_fits et suits R C;
                  slot_is = refl;
                  bytes = by;
                  records = w.nums.R + 1;
                  booked = end_booked Y.lay raised P.link top_fits et suits R C (booked_all h0 many k v e8);
                  counts = refl;
                  leaves = omega (
                    arith,
                    raised_sum Y leafy,
                    row_leafy Z.new,
                    fork_sum leafy m place4 P.parted.b new P.parted.c old,
                    leafy_not m node4_kind place4 (omega arith),
                    leafy_leaf G.leaf (place_from view2 (list_of view2 leaf_kind)) (taken view2 leaf_kind).nums.B k v,
                  );
                  takes = bs;
                  rewrites = holder_items xs ++ [];
                  frees = [];
                  place = (taken view2 leaf_kind).nums.B;
                  dies = λ a. refl;
                  since = end_since Y.lay raised P.link top_fits et suits R C Z4;
                  accounts = accounts (made.takes ++ []) bs
                      (record { takes = row_bodies Z.new (b4 ∷ []) tt; frees = λ s. refl; kinds_in = tt; slots_in = holders_in w xs old P.is opened; frees_in = λ z. omega (arith, sum_none z); rewrites_in = holders_some w xs old P.is });
                  stays = stay_more (λ x z. omega (
                    arith,
                    leaf_marks (is x) (path_of xs) n o e k' v',
                    leaf_marks (is x) ((path_of xs ++ P.parted.w) ++ P.parted.c ∷ []) n o e k' v',
                    raised_marks Y (is x),
                    fork_marks (is x) (path_of xs ++ P.parted.w) m place4 P.parted.b new P.parted.c old,
                  ));
                  last = λ q. last_leaf (path_of xs) n o e k' v' (marks (path_of xs) Y.lay);
                  look = Y.look k d (P.parted.b ∷ P.parted.s) deep
                      ∙ fork_look E k (d + length P.parted.w) m place4 P.parted.b new P.parted.c old (byte_here E k (path_of xs) P.word P.parted) P.parted.apart
                      ∙ leaf_look E G.leaf (place_from view2 (list_of view2 leaf_kind)) (taken view2 leaf_kind).nums.B k v (d + length P.parted.w + 1);
                  from_b = λ z. from_all h0 many k v e8;
                }
