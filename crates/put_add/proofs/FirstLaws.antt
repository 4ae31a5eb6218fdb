-- The first record: what the calls of `first_record` ask, and that they make the model's put. Assumes nothing.
use Prim.Native.Nat.{ℕ, ◌+◌, ◌<◌, ◌≤◌}
use mathlib.Core.Path.{◌≡◌, refl, sym, ap, ◌∙◌}
use mathlib.Core.List.{List, [], ◌∷◌, ◌++◌}
use mathlib.Core.Bool.{true}
use native.Mathlib.Omega.{arith}
use Rattle.layout.specs.Number.{le, Bytes}
use Rattle.layout.specs.Place.{at_root}
use Rattle.layout.specs.Kind.{leaf_kind, empty_root_kind, Kind}
use Rattle.layout.specs.Entry.{place_of}
use Rattle.model.specs.Edition.{Edition, Legal, Value}
use Rattle.model.specs.Tree.{Art, extent_of, new_key}
use Rattle.model.specs.State.{State, room, put_change, put_in}
use Rattle.model.specs.Item.{Item, body, leafy, sum, Same}
use Rattle.model.specs.Frame.{Lay, bare, tree, root_art, root_items, root_slot, View, Heap, Stands}
use Rattle.model.specs.Touch.{put_touch}
use Rattle.model.specs.Mark.{root_marks, is}
use Rattle.model.proofs.ItemLaws.{sum_cons, in_over}
use Rattle.model.proofs.MarkLaws.{bare_marks, is_gone, stay_of, stay_more}
use Rattle.room.specs.View.{list_of, place_from, taken, released, rooted}
use Rattle.room.specs.Step.{Frees, Freed}
use Rattle.room.specs.Book.{RoomFor}
use Rattle.room.proofs.HeapLaws.{lies, Lies}
use Rattle.between.specs.Hole.{Link, steps_items}
use Rattle.between.specs.Work.{Work, root_of, forest_items}
use Rattle.between.specs.Edit.{leaf_view, leaf_in, MadeLeaf, Booked}
use Rattle.between.proofs.TreeLaws.{sum_none}
use Rattle.between.proofs.WorkLaws.{stands_view, work_bare, bare_items, open_leaf, first_owns, work_free, work_count, entries_first, leafy_leaf}
use Rattle.between.proofs.LinkLaws.{relinked}
use Rattle.between.proofs.LeadLaws.{leaf_look}
use Rattle.between.proofs.BookedLaws.{booked_extend, booked_root, booked_free, booked_count, room_of}
use Rattle.between.proofs.SinceLaws.{since_start, since_leaf, since_link, since_free, since_count}
use Rattle.between.proofs.StayLaws.{stay_at}
use Rattle.between.proofs.OutsideLaws.{among_here}
use Rattle.room.specs.Link.{Relinked}
use Rattle.leaf_new.specs.Make.{NewLeaf, Makes, Counts, Counted}
use Rattle.leaf_new.specs.Put.{Stepped, PutStep}
use Rattle.leaf_new.proofs.LeafLaws.{counts_of}
use Rattle.leaf_new.proofs.DoneLaws.{same_root, same_room, new_key_lem}
use Rattle.put_add.specs.Missing.{Vacant}
use Rattle.put_add.proofs.SpotLaws.{ready_makes}
use Rattle.put_add.proofs.AddLaws.{one_row}

-- a body that is no Leaf's
pub leafy_kind : (s k o : ℕ) → 2 ≤ k → leafy (body s k o) ≡ 0
unfolding leafy
leafy_kind s k o l = in_over 1 1 k (omega arith)

bare_kind : Kind empty_root_kind
bare_kind = (omega arith, omega arith, λ z. omega arith)

root_link : Link [] at_root
unfolding Link
root_link = refl

module _ {E : Edition} {f : List ℕ} {st : State} (S : Stands E f st) {k : List ℕ} {n o : ℕ} (er : S.root ≡ bare n o) (legal : Legal E k) (v : Value) (held : v.stamp < E.stamps) (fits : room st (put_change E st k v) ≡ true) where
  change_is : put_change E st k v ≡ new_key k v (Art.leaf k v) [] (empty_root_kind ∷ [])
  change_is = ap (λ t. put_in E t k v) (ap (λ s. s.tree) S.state ∙ ap root_art er)

  pub first_room : RoomFor (stands_view S) (leaf_kind ∷ []) (extent_of k v)
  first_room = room_of S (new_key k v (Art.leaf k v) [] (empty_root_kind ∷ [])) (rw change_is at fits)

  module _ {f1 : List ℕ} {l : ℕ} (make : NewLeaf f f1 k v l) where
    abbrev t1 : Lay
    t1 = leaf_in (stands_view S) l k v

    abbrev h1 : View
    h1 = leaf_view (stands_view S) k v

    M : MadeLeaf E f f1 (stands_view S) [] n [] (body n empty_root_kind o ∷ []) [] l k v
    M = make E (stands_view S) [] n [] (body n empty_root_kind o ∷ []) [] (work_bare S n o er) first_room legal.passes refl held

    leaf_lies : Lies h1 l leaf_kind (place_from (stands_view S) (list_of (stands_view S) leaf_kind))
    leaf_lies =
        let W = (open_leaf [] [] (body n empty_root_kind o ∷ []) l (place_from (stands_view S) (list_of (stands_view S) leaf_kind)) (taken (stands_view S) leaf_kind).nums.B k v M.work).0 in
        lies l leaf_kind (place_from (stands_view S) (list_of (stands_view S) leaf_kind)) _ W.heap (first_owns W) (omega arith) (omega arith)

    module _ {f2 : List ℕ} (link : Relinked f1 f2 at_root l) where
      abbrev h2 : View
      h2 = rooted h1 (root_of [] l)

      W2 : Work E f2 h2 [] l (([], t1) ∷ []) (body n empty_root_kind o ∷ [])
      W2 = let c = M.work.heap.header.slot_cap in relinked l leaf_lies.low (omega (arith, leaf_lies.table)) at_root [] root_link M.work link

      abbrev rest : List Item
      rest = steps_items [] ++ forest_items (([], t1) ∷ [])

      pub first_frees : Frees f2 n empty_root_kind
      first_frees = record { view = h2; heap = W2.heap; kind = bare_kind; place = o; rest = rest; owns = first_owns W2; place_is = (entries_first f2 n empty_root_kind o [] W2.entries).0.place_is }

      module _ {f3 : List ℕ} (free : (h : View) (o : ℕ) (rest : List Item) → Heap f2 h → Same h.owned (body n empty_root_kind o ∷ rest) → place_of f2 n ≡ o → Freed f2 f3 h n empty_root_kind o rest) where
        R : Freed f2 f3 h2 n empty_root_kind o rest
        R = free h2 o rest W2.heap (first_owns W2) (entries_first f2 n empty_root_kind o [] W2.entries).0.place_is

        abbrev h3 : View
        h3 = released h2 n empty_root_kind o rest

        W3 : Work E f3 h3 [] l (([], t1) ∷ []) []
        W3 = work_free W2 R

        booked : Booked (stands_view S) h3 (leaf_kind ∷ []) (empty_root_kind ∷ []) (extent_of k v) 0 S.nums.R
        booked = booked_free (booked_root (booked_extend (one_row (stands_view S) S.heap.lists.eight) (extent_of k v) (extent_of k v) (omega arith)) (root_of [] l)) n empty_root_kind o rest bare_kind

        pub first_counts : Counts f3
        first_counts = counts_of S W3.heap booked.R

        pub first_put : {f4 : List ℕ} → Counted f3 f4 → Bytes f4 → Stepped E f k v f4 st S
        first_put count bytes =
            let h0 = stands_view S in
            let q = place_from h0 (list_of h0 leaf_kind) in
            let e = (taken h0 leaf_kind).nums.B in
            let N = count h3 W3.heap in
            let Z1 = since_leaf S.heap (since_start S.heap) M in
            let Z2 = since_free bare_kind W2.heap (first_owns W2) (since_link l at_root [] root_link M.work link Z1) R in
            let old : (w : Item → ℕ) → sum w (root_items S.root) ≡ w (body n empty_root_kind o) = λ w.
            ap (λ x. sum w (root_items x)) er ∙ ap (sum w) (bare_items n o) ∙ omega (arith, sum_cons w (body n empty_root_kind o) [], sum_none w) in
            new_key_lem S k v change_is fits t1 (work_count W3 (h3.nums.R + 1) N) refl bytes
            (booked_count booked (h3.nums.R + 1) (st.R + 1) (ap (λ x. x + 1) (booked.R ∙ sym (ap (λ s. s.R) S.state))))
            refl
            (omega (arith, old leafy, leafy_leaf l q e k v, leafy_kind n empty_root_kind o (omega arith)))
            (since_count Z2 N)
            (rw (ap (λ x. put_touch E x k v) er) (record {
              takes = tt;
              frees = λ s. refl;
              kinds_in = (refl, tt);
              slots_in = tt;
              frees_in = λ w. omega (arith, sum_cons w (body n empty_root_kind o) [], sum_none w, old w);
              rewrites_in = λ w. omega (arith, sum_none w);
            }))
            (stay_at (root_marks (tree t1)) (ap (λ x. (put_touch E x k v).goes) er) er (stay_of (n ∷ []) (root_marks (bare n o)) (root_marks (tree t1)) (stay_more (λ x z. omega (arith, bare_marks (is x) n o, is_gone x (n ∷ []) n empty_root_kind [] [] z (among_here n []))))))
            refl
            (omega (arith, (one_row h0 S.heap.lists.eight).B))
            (leaf_look E l q e k v 0)

-- ---- of an empty frame

module _ {E : Edition} {f k : List ℕ} {v : Value} (A : Vacant E f k v) where
  fits0 : room A.ready.st (put_change E A.ready.st k v) ≡ true
  fits0 = A.ready.room

  pub vacant_makes : Makes f k v
  vacant_makes = ready_makes A.ready A.ready.stands.heap (first_room A.ready.stands A.is A.ready.legal v A.ready.legal_value.stamp fits0)

  module _ {f1 : List ℕ} {l : ℕ} (make : NewLeaf f f1 k v l) where
    module _ {f2 : List ℕ} (link : Relinked f1 f2 at_root l) {n : ℕ} (en : n ≡ le 2 f at_root) where
      slot_is : n ≡ A.slot
      slot_is = en ∙ A.ready.stands.heap.header.root_at ∙ A.ready.stands.root_is ∙ ap root_slot A.is

      pub vacant_frees : Frees f2 n empty_root_kind
      vacant_frees = rw slot_is (first_frees A.ready.stands A.is A.ready.legal v A.ready.legal_value.stamp fits0 make link)

      module _ {f3 : List ℕ} (free : (h : View) (o : ℕ) (rest : List Item) → Heap f2 h → Same h.owned (body n empty_root_kind o ∷ rest) → place_of f2 n ≡ o → Freed f2 f3 h n empty_root_kind o rest) where
        freed : (h : View) (o : ℕ) (rest : List Item) → Heap f2 h → Same h.owned (body A.slot empty_root_kind o ∷ rest) → place_of f2 A.slot ≡ o → Freed f2 f3 h A.slot empty_root_kind o rest
        freed = rw slot_is at free

        pub vacant_counts : Counts f3
        vacant_counts = first_counts A.ready.stands A.is A.ready.legal v A.ready.legal_value.stamp fits0 make link freed

        pub vacant_put : {f4 : List ℕ} → Counted f3 f4 → Bytes f4 → PutStep E f k v f4
        vacant_put count bytes =
            record { after = λ s w. first_put w (same_root A.ready.stands w A.is) A.ready.legal v A.ready.legal_value.stamp (same_room A.ready.stands w k v A.ready.room) make link freed count bytes }
