-- The node that holds the Leaf keeps its kind: what the calls of `remove_child` ask, and what they leave. Assumes nothing.
use Prim.Native.Nat.{ℕ, ◌+◌, ◌<◌, ◌≤◌}
use mathlib.Core.Path.{◌≡◌, refl, sym, ap, subst, ◌∙◌}
use mathlib.Core.List.{List, [], ◌∷◌, ◌++◌}
use mathlib.Core.Bool.{false}
use native.Mathlib.Omega.{arith}
use native.Mathlib.Decide.{ℕ_discrete}
use lib.ListN.{length}
use Rattle.layout.specs.Number.{Bytes}
use Rattle.layout.specs.Kind.{number_of, leaf_kind, fewest, shrink_mark}
use Rattle.layout.proofs.KindLaws.{fewest_mark}
use Rattle.model.specs.Edition.{Edition}
use Rattle.model.specs.Tree.{Art, Change, Left, extent_of, erase_tree}
use Rattle.model.specs.State.{State, call_erase}
use Rattle.model.specs.Item.{body, cover, leafy}
use Rattle.model.specs.Frame.{Lay, LayKids, art, pairs, View, Stands}
use Rattle.model.specs.Frame.Lay.{node}
use Rattle.model.specs.Mark.{is}
use Rattle.model.specs.Touch.{Touch, touch, touch_erase}
use Rattle.model.proofs.ItemLaws.{sum_cons}
use Rattle.model.proofs.MarkLaws.{node_marks, is_gone, stay_more}
use Rattle.inner.specs.Inner.{Removed}
use Rattle.room.specs.Book.{taken_all, nil}
use Rattle.room.proofs.HeapLaws.{cover_body}
use Rattle.between.specs.Work.{Work}
use Rattle.between.specs.Lead.{above_of}
use Rattle.between.specs.Since.{Accounts}
use Rattle.between.specs.Edit.{Booked}
use Rattle.between.proofs.TreeLaws.{sum_none, node_sum}
use Rattle.between.proofs.KidsLaws.{size_is}
use Rattle.between.proofs.HoleLaws.{is_node}
use Rattle.between.proofs.WorkLaws.{stands_view, work_swap, work_close}
use Rattle.between.proofs.EditLaws.{remove_made}
use Rattle.between.proofs.EraseLaws.{less_stays, lost_stays}
use Rattle.between.proofs.BookedLaws.{booked_row}
use Rattle.between.proofs.SinceLaws.{since_start, since_also, since_write}
use Rattle.between.proofs.OutsideLaws.{among_here, among_there}
use Rattle.descent.specs.declared.spot.Spot.{Spot}
use Rattle.erase_remove.specs.Leaf.{Drops, Dropped}
use Rattle.erase_remove.specs.Erase.{Stays}
use Rattle.erase_remove.proofs.LeafLaws.{DropLeaf}
use Rattle.erase_remove.proofs.DoneLaws.{Result, fits_is, erase_done_lem}
use Rattle.erase_remove.proofs.SpotLaws.{was_is, mark_least, held, xs, path, gone, kids, left, holder, root_is, fits, W0, N0, kids_length, count_is, records_some, left_art, bare, bare_count, node_found, node_erased, node_touched, items_are, left_marks, leaf_fewer}

-- nothing was taken or freed yet
pub booked_none : (h : View) → length h.lists ≡ 8 → Booked h h [] [] 0 0 h.nums.R
unfolding taken_all
booked_none h e = booked_row h [] nil e

module _ {E : Edition} {f k : List ℕ} {p : Spot} (P : Stays E f k p) (s : State) (w : Stands E f s) where
  abbrev n : ℕ
  n = p.node.slot

  abbrev o : ℕ
  o = p.node.place

  abbrev kind : ℕ
  kind = number_of p.node.kind

  abbrev rest : LayKids
  rest = left P.erase s w

  abbrev new : Lay
  new = node n o kind rest

  abbrev dead : ℕ
  dead = extent_of k (held P.erase).value

  enough : (fewest kind ≤ length (pairs rest)) × (2 ≤ length (pairs rest)) × (length (pairs rest) ≡ shrink_mark kind → ⊥)
  enough =
      let N = N0 P.erase s w in
      let rg = N.inner.range in
      let m = fewest_mark kind rg.0 rg.1 in
      let l = mark_least kind rg.0 rg.1 in
      let a : length (pairs rest) ≡ shrink_mark kind → ⊥ = λ z. P.more (count_is P.erase s w ∙ ap (λ i. i + 1) z) in
      let b : shrink_mark kind < length (pairs rest) = elim (ℕ_discrete (length (pairs rest)) (shrink_mark kind)) [ yes z ↦ absurd (a z) | no z ↦ omega (arith, N.least, kids_length P.erase s w) ] in
      (omega arith, omega arith, a)

  -- ---- the calls

  module _ {f1 : List ℕ} (D : Removed f f1 o kind p.byte) where
    abbrev h0 : View
    h0 = stands_view w

    abbrev after : List (List ℕ × Lay)
    after = (path P.erase s w, new) ∷ []

    W1 : Work E f1 h0 (xs P.erase s w) n ((path P.erase s w ++ p.byte ∷ [], gone P.erase s w) ∷ after) []
    W1 =
        let H = held P.erase in
        work_swap (path P.erase s w) new (path P.erase s w ++ p.byte ∷ []) (gone P.erase s w) []
        (remove_made (path P.erase s w) [] n o kind p.byte H.place (gone P.erase s w) H.before H.after (W0 P.erase s w) D enough.0)

    pub remove_drops : Drops f1 p.here.slot p.here.place
    remove_drops =
        record {
          edition = E;
          view = h0;
          steps = xs P.erase s w;
          named = n;
          path = path P.erase s w ++ p.byte ∷ [];
          extent = (held P.erase).extent;
          key = k;
          value = (held P.erase).value;
          trees = after;
          loose = [];
          work = W1;
          some = P.erase.some;
          records = records_some P.erase s w;
        }

    module _ {f2 : List ℕ} (drop : DropLeaf f1 f2 p.here.slot p.here.place) (bytes : Bytes f2) where
      X : Dropped E f1 f2 h0 (xs P.erase s w) n after [] p.here.slot p.here.place (held P.erase).extent k (held P.erase).value
      X = drop E h0 (xs P.erase s w) n (path P.erase s w ++ p.byte ∷ []) (held P.erase).extent k (held P.erase).value after [] W1

      abbrev change : Change Left
      change = record { now = Left.kept (Art.node kind (bare P.erase s w)); takes = []; frees = leaf_kind ∷ []; extent = 0; dead = dead; fresh = false }

      abbrev touches : Touch
      touches = touch (n ∷ []) (p.here.slot ∷ [])

      touched : touch_erase E (holder P.erase s w) (above_of (xs P.erase s w)) (length (path P.erase s w)) k ≡ touches
      touched =
          node_touched P.erase s w
          ∙ lost_stays (above_of (xs P.erase s w)) n kind p.here.slot rest (omega (arith, size_is rest, enough.1)) (λ z. enough.2 (sym (size_is rest) ∙ z))

      erased : erase_tree E (art (holder P.erase s w)) (length (path P.erase s w)) k ≡ change
      erased =
          let e = bare_count P.erase s w in
          node_erased P.erase s w ∙ less_stays kind (bare P.erase s w) _ (omega (arith, enough.1)) (λ z. enough.2 (sym e ∙ z))

      accounts : Accounts w.root touches (leaf_kind ∷ []) [] (body n kind o ∷ []) (body p.here.slot leaf_kind p.here.place ∷ [])
      accounts =
          record {
            takes = tt;
            frees = λ i. refl;
            kinds_in = (refl, tt);
            slots_in = (among_there n p.here.slot (n ∷ []) (among_here n []), tt);
            frees_in = λ v. omega (arith, items_are P.erase s w v, sum_cons v (body p.here.slot leaf_kind p.here.place) [], sum_none v);
            rewrites_in = λ v. omega (arith, items_are P.erase s w v, sum_cons v (body n kind o) [], sum_none v);
          }

      pub remove_done : Result f f2 k w (call_erase E s k)
      remove_done =
          let ys = xs P.erase s w in
          let t = holder P.erase s w in
          let er = root_is P.erase s w in
          let L = (held P.erase).leads in
          let v = (held P.erase).value in
          let el : change.now ≡ Left.kept (art new) = ap (λ x. Left.kept (Art.node kind x)) (sym (left_art P.erase s w)) in
          let Z0 = since_also (body n kind o ∷ []) (since_start w.heap) in
          let Z1 = since_write D.only (λ a l u. omega (arith, sum_cons (cover a) (body n kind o) [], cover_body a n kind o l u)) Z0 in
          erase_done_lem w ys t er L change new v erased el (λ p h. tt) (node_found P.erase s w) (fits_is w ys t er L change new v erased el (λ p h. tt) (fits P.erase s w)) P.erase.lawful tt
          (work_close ys new [] X.work refl (is_node ys n o kind rest)) refl bytes (X.booked h0 [] [] 0 0 dead w.nums.R (omega arith) (booked_none h0 w.heap.lists.eight))
          (omega (arith, node_sum leafy n o kind rest, node_sum leafy n o kind (kids P.erase s w), leaf_fewer P.erase s w))
          (was_is P.erase s w) (X.since f h0 [] (body n kind o ∷ []) [] [] Z1) (subst (λ (z : Touch). Accounts w.root z (leaf_kind ∷ []) [] (body n kind o ∷ []) (body p.here.slot leaf_kind p.here.place ∷ [])) (sym touched) accounts)
          (stay_more (λ x z. omega (
            arith,
            node_marks (is x) (path P.erase s w) n o kind (kids P.erase s w),
            node_marks (is x) (path P.erase s w) n o kind rest,
            left_marks P.erase s w (is x) (path P.erase s w),
            is_gone x (p.here.slot ∷ []) p.here.slot leaf_kind k k (rw touched at z) (among_here p.here.slot []),
          ))) refl
