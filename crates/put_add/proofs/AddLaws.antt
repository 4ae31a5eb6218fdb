-- The Leaf joins a node that is not full: what the calls of `add_child` ask, and that they make the model's put. Assumes nothing.
use Prim.Native.Nat.{ℕ, ◌+◌, ◌<◌, ◌≤◌}
use mathlib.Core.Path.{◌≡◌, refl, sym, ap, ◌∙◌}
use mathlib.Core.List.{List, [], ◌∷◌, ◌++◌}
use mathlib.Core.Bool.{true}
use native.Mathlib.Omega.{arith}
use lib.ListN.{length, get_or}
use borrow.Author.Tests.{lt-ltb}
use Rattle.layout.specs.Number.{Bytes}
use Rattle.layout.specs.Kind.{leaf_kind, most, number_of}
use Rattle.model.specs.Edition.{Edition, Value}
use Rattle.model.specs.Tree.{Art, extent_of, new_key, join, place_in}
use Rattle.model.specs.State.{State, room, put_change}
use Rattle.model.specs.Item.{body, cover, leafy}
use Rattle.model.specs.Frame.{Lay, LayKids, slot_of, art_kids, pairs, NodeOf, View, Stands}
use Rattle.model.specs.Frame.Lay.{node}
use Rattle.model.specs.Mark.{is}
use Rattle.model.specs.Touch.{Touch, touch, put_touch, size}
use Rattle.model.proofs.ItemLaws.{sum_cons}
use Rattle.model.proofs.MarkLaws.{node_marks, stay_more}
use Rattle.inner.specs.Inner.{place_at, NodeOpen, Added}
use Rattle.room.specs.View.{list_of, place_from, taken, recorded}
use Rattle.room.specs.Step.{Renumbered}
use Rattle.room.specs.Book.{RoomFor, nil, cons, taken_all}
use Rattle.room.proofs.HeapLaws.{cover_body, lies}
use Rattle.between.specs.Hole.{join_lay, Step, plug, path_of, art_in}
use Rattle.between.specs.Work.{Work}
use Rattle.between.specs.Edit.{leaf_view, leaf_in, MadeLeaf, Booked}
use Rattle.between.proofs.TreeLaws.{sum_none, node_sum}
use Rattle.between.proofs.HoleLaws.{plug_sum, art_plug, is_node}
use Rattle.between.proofs.KidsLaws.{join_sum, join_art, size_is}
use Rattle.between.proofs.WorkLaws.{stands_view, work_close, work_count, work_swap, open_leaf, open_node, first_owns, stands_sum, leafy_leaf}
use Rattle.inner.proofs.PlaceLaws.{added_place}
use Rattle.between.proofs.EditLaws.{join_made}
use Rattle.between.proofs.LeadLaws.{leads_byte, leads_on, plug_touch, plug_look, join_look, leaf_look, node_put}
use Rattle.between.proofs.BookedLaws.{booked_row, booked_extend, booked_count, room_of}
use Rattle.between.proofs.SinceLaws.{since_start, since_leaf, since_also, since_write, since_count}
use Rattle.between.proofs.OutsideLaws.{among_here}
use Rattle.between.proofs.StayLaws.{join_marks, stay_plug}
use Rattle.keys.proofs.WordLaws.{spells_at}
use Rattle.descent.specs.declared.spot.Spot.{Spot}
use Rattle.leaf_new.specs.Make.{NewLeaf, Makes, Counts, Counted}
use Rattle.leaf_new.specs.Put.{Stepped, PutStep}
use Rattle.leaf_new.proofs.LeafLaws.{leaf_kind_lem, counts_of}
use Rattle.leaf_new.proofs.DoneLaws.{same_room, new_key_lem}
use Rattle.put_add.specs.Missing.{Open, Lacks}
use Rattle.put_add.proofs.SpotLaws.{lacks_of, byte_is, lacks_byte, lacks_put, lacks_work, ready_makes}

-- a Leaf's body alone is taken
pub one_row : (h : View) → length h.lists ≡ 8 → Booked h (taken h leaf_kind) (leaf_kind ∷ []) [] 0 0 h.nums.R
unfolding taken_all
one_row h e = booked_row h (leaf_kind ∷ []) (cons leaf_kind_lem nil) e

module _ {E : Edition} {f : List ℕ} {st : State} {S : Stands E f st} {k : List ℕ} {xs : List Step} {n o kind : ℕ} {ks : LayKids} {b : ℕ} {r : List ℕ} (P : Lacks S k xs n o kind ks b r) (v : Value) (held : v.stamp < E.stamps)
    (few : length (pairs ks) < most kind) (fits : room st (put_change E st k v) ≡ true) where
  abbrev new_art : Art
  new_art = art_in xs (Art.node kind (join b (place_in kind (art_kids ks)) (Art.leaf k v) (art_kids ks)))

  change_is : put_change E st k v ≡ new_key k v new_art [] []
  change_is = lacks_put P v (node_put E k v (length (path_of xs)) b kind ks (leads_byte P.leads) (lacks_byte P) few)

  pub add_room : RoomFor (stands_view S) (leaf_kind ∷ []) (extent_of k v)
  add_room = room_of S (new_key k v new_art [] []) (rw change_is at fits)

  module _ {f1 : List ℕ} {l : ℕ} (make : NewLeaf f f1 k v l) where
    abbrev t1 : Lay
    t1 = leaf_in (stands_view S) l k v

    M : MadeLeaf E f f1 (stands_view S) xs n ((path_of xs, node n o kind ks) ∷ []) [] (path_of xs ++ b ∷ []) l k v
    M = make E (stands_view S) xs n ((path_of xs, node n o kind ks) ∷ []) [] (path_of xs ++ b ∷ []) (lacks_work P) add_room P.legal.passes (leads_on (b ∷ []) r P.leads) held

    node_is : NodeOf f1 o kind ks
    node_is = (open_node (path_of xs) ((path_of xs ++ b ∷ [], t1) ∷ []) [] n o kind ks (work_swap (path_of xs ++ b ∷ []) t1 (path_of xs) (node n o kind ks) [] M.work)).1

    pub add_open : NodeOpen f1 o kind × (1 ≤ l) × (l < 4294967296)
    add_open =
        let W = (open_leaf (path_of xs ++ b ∷ []) ((path_of xs, node n o kind ks) ∷ []) [] l (place_from (stands_view S) (list_of (stands_view S) leaf_kind)) (taken (stands_view S) leaf_kind).nums.B k v M.work).0 in
        let I = lies l leaf_kind (place_from (stands_view S) (list_of (stands_view S) leaf_kind)) _ W.heap (first_owns W) (omega arith) (omega arith) in
        let c = W.heap.header.slot_cap in
        (record { kids = pairs ks; node = node_is.inner; few = few }, I.low, omega (arith, I.table))

    module _ {f2 : List ℕ} (A : Added f1 f2 o kind b l) where
      abbrev ks1 : LayKids
      ks1 = join_lay b (place_at f2 o kind b) t1 ks

      abbrev T1 : Lay
      T1 = plug xs (node n o kind ks1)

      W2 : Work E f2 (leaf_view (stands_view S) k v) [] (slot_of T1) (([], T1) ∷ []) []
      W2 = work_close xs (node n o kind ks1) [] (join_made (path_of xs) [] n o kind b t1 ks M.work A P.absent few) refl (is_node xs n o kind ks1)

      booked : Booked (stands_view S) (leaf_view (stands_view S) k v) (leaf_kind ∷ []) [] (extent_of k v) 0 S.nums.R
      booked = booked_extend (one_row (stands_view S) S.heap.lists.eight) (extent_of k v) (extent_of k v) (omega arith)

      pub add_counts : Counts f2
      add_counts = counts_of S W2.heap booked.R

      module _ {f3 : List ℕ} (count : Counted f2 f3) (bytes : Bytes f3) where
        C : Renumbered f2 f3 (leaf_view (stands_view S) k v) (recorded (leaf_view (stands_view S) k v) ((leaf_view (stands_view S) k v).nums.R + 1))
        C = count (leaf_view (stands_view S) k v) W2.heap

        node_touch : put_touch E S.root k v ≡ touch (n ∷ []) []
        node_touch =
            ap (λ x. put_touch E x k v) P.is ∙ plug_touch P.leads v (node n o kind ks)
            ∙ rw (rw (← leads_byte P.leads) at (lacks_byte P), lt-ltb (size ks) (most kind) (rw (size_is ks) few)) refl

        pub add_put : Stepped E f k v f3 st S
        add_put =
            let h0 = stands_view S in
            let d = length (path_of xs) in
            let q = place_from h0 (list_of h0 leaf_kind) in
            let e = (taken h0 leaf_kind).nums.B in
            let i = place_at f2 o kind b in
            let Z1 = since_also (body n kind o ∷ []) (since_leaf S.heap (since_start S.heap) M) in
            let Z2 = since_write A.only (λ a p u. omega (arith, sum_cons (cover a) (body n kind o) [], cover_body a n kind o p u)) Z1 in
            new_key_lem S k v change_is fits T1 (work_count W2 ((leaf_view h0 k v).nums.R + 1) C) refl bytes
            (booked_count booked ((leaf_view h0 k v).nums.R + 1) (st.R + 1) (ap (λ x. x + 1) (booked.R ∙ sym (ap (λ s. s.R) S.state))))
            (art_plug xs (node n o kind ks1) ∙ ap (λ x. art_in xs (Art.node kind x)) (join_art b i t1 ks ∙ ap (λ j. join b j (Art.leaf k v) (art_kids ks)) (added_place ks A node_is.inner node_is.places)))
            (omega (
              arith,
              stands_sum S (plug xs (node n o kind ks)) P.is leafy,
              plug_sum leafy xs (node n o kind ks),
              plug_sum leafy xs (node n o kind ks1),
              node_sum leafy n o kind ks,
              node_sum leafy n o kind ks1,
              join_sum leafy b i t1 ks,
              leafy_leaf l q e k v,
            ))
            (since_count Z2 C)
            (rw node_touch (record {
              takes = tt;
              frees = λ s. refl;
              kinds_in = tt;
              slots_in = (among_here n [], tt);
              frees_in = λ w. omega (arith, sum_none w);
              rewrites_in = λ w. omega (arith, sum_cons w (body n kind o) [], sum_none w, stands_sum S (plug xs (node n o kind ks)) P.is w, plug_sum w xs (node n o kind ks), node_sum w n o kind ks);
            }))
            (stay_plug xs (node n o kind ks) (node n o kind ks1) (stay_more (λ m z. omega (arith, node_marks (is m) (path_of xs) n o kind ks, node_marks (is m) (path_of xs) n o kind ks1, join_marks (is m) (path_of xs) b i t1 ks)))
            (ap (λ (z : Touch). z.goes) node_touch) P.is)
            refl
            (omega (arith, (one_row h0 S.heap.lists.eight).B))
            (plug_look P.leads (node n o kind ks1) ∙ join_look E k d b i t1 ks (leads_byte P.leads) (lacks_byte P) ∙ leaf_look E l q e k v (d + 1))

-- ---- at a spot

module _ {E : Edition} {f k w : List ℕ} {v : Value} {p : Spot} (A : Open E f k w v p) where
  P0 : Lacks A.put.ready.stands k A.put.way.steps p.here.slot p.here.place (number_of p.here.kind) A.missing.kids A.missing.byte A.missing.after
  P0 = lacks_of A.put A.missing A.put.ready.stands

  pub open_makes : Makes f k v
  open_makes = ready_makes A.put.ready A.put.ready.stands.heap (add_room P0 v A.put.ready.legal_value.stamp A.few A.put.ready.room)

  module _ {f1 : List ℕ} {l : ℕ} (make : NewLeaf f f1 k v l) where
    pub open_adds : NodeOpen f1 p.here.place (number_of p.here.kind) × (1 ≤ l) × (l < 4294967296)
    open_adds = add_open P0 v A.put.ready.legal_value.stamp A.few A.put.ready.room make

    module _ {f2 : List ℕ} {b : ℕ} (eb : b ≡ get_or w p.depth 0) (D : Added f1 f2 p.here.place (number_of p.here.kind) b l) where
      added : Added f1 f2 p.here.place (number_of p.here.kind) A.missing.byte l
      added = rw (eb ∙ spells_at A.spells p.depth ∙ byte_is A.put A.missing) at D

      pub open_counts : Counts f2
      open_counts = add_counts P0 v A.put.ready.legal_value.stamp A.few A.put.ready.room make added

      pub open_put : {f3 : List ℕ} → Counted f2 f3 → Bytes f3 → PutStep E f k v f3
      open_put count bytes =
          record { after = λ s S. add_put (lacks_of A.put A.missing S) v A.put.ready.legal_value.stamp A.few (same_room A.put.ready.stands S k v A.put.ready.room) make added count bytes }
