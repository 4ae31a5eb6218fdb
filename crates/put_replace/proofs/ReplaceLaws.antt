-- Put of a key that is there: the Leaf in the hole gets another value. Assumes nothing.
use Prim.Native.Nat.{ℕ, ◌+◌, ◌<◌, ◌≤◌}
use mathlib.Core.Path.{◌≡◌, refl, sym, ap, subst, ◌∙◌}
use mathlib.Core.List.{List, [], ◌∷◌, ◌++◌}
use mathlib.Core.Bool.{false}
use native.Mathlib.Omega.{arith}
use native.Mathlib.Decide.{ℕ_discrete}
use lib.ListN.{length, length-append, get_or-append}
use lib.Dec.{eqb}
use borrow.Author.Tests.{eq-eqb, ne_eqb}
use Rattle.layout.specs.Number.{byte_at, le, put, Bytes}
use Rattle.layout.proofs.NumberLaws.{le_lt, le_put}
use Rattle.fields.specs.Body.{put_leaf_body}
use Rattle.layout.specs.Place.{leaf_extent, leaf_key, leaf_value, leaf_stamp}
use Rattle.layout.specs.Kind.{leaf_kind}
use Rattle.model.specs.Edition.{Edition, Value, text_of}
use Rattle.model.specs.Tree.{Art, Change, up8, extent_of, put_tree}
use Rattle.model.specs.State.{State}
use Rattle.model.specs.Item.{Item, body, extent, cover, sum, Same}
use Rattle.model.specs.Item as item
use Rattle.model.specs.Frame.{Lay, slot_of, LeafOf, View, Heap, tree, Stands}
use Rattle.model.specs.Frame.Lay.{leaf}
use Rattle.model.specs.Mark.{is}
use Rattle.model.specs.Touch.{Touch, touch, restamped, touch_put, find_at, extent_at}
use Rattle.model.proofs.StringLaws.{same_refl, clash}
use Rattle.model.proofs.ItemLaws.{sum_app, sum_cons}
use Rattle.model.proofs.MarkLaws.{leaf_marks, stay_more}
use Rattle.moves.specs.Moved.{Keeps}
use Rattle.moves.proofs.MoveLaws.{only_none, only_put, le_keeps}
use Rattle.room.specs.View.{extended, retired}
use Rattle.moves.specs.Pasted.{Pasted}
use Rattle.room.specs.Step.{Extends, Extended, Retires, Died}
use Rattle.room.specs.Book.{taken_all, Kinds}
use Rattle.room.proofs.HeapLaws.{le_below, any_write, touch_extent, cover_body, cover_extent}
use Rattle.room.proofs.BookLaws.{room_last}
use Rattle.descent.specs.declared.spot.Spot.{Spot}
use Rattle.between.specs.Hole.{Step, plug, path_of, steps_items, holder_of}
use Rattle.between.specs.Work.{forest_items, Work}
use Rattle.between.specs.Since.{written, Since, Accounts}
use Rattle.between.specs.Edit.{LeafWritten, Booked}
use Rattle.between.proofs.TreeLaws.{sum_none, leaf_sum, body_kept}
use Rattle.between.proofs.HoleLaws.{suits_any, plug_sum}
use Rattle.between.proofs.LeadLaws.{leaf_look, plug_extent}
use Rattle.between.proofs.WorkLaws.{stands_view, stands_sum, work_close, work_extend, work_turn, work_write, work_paste, work_retire, first_owns, make_leaf, leafy_leaf}
use Rattle.between.proofs.EditLaws.{leaf_written, text_of_lem, up8_is, extent_some}
use Rattle.between.proofs.ChangeLaws.{changed_only}
use Rattle.between.proofs.SinceLaws.{stepped_start, since_start, since_also, since_extend, since_write, since_retire}
use Rattle.between.proofs.OutsideLaws.{among_here}
use Rattle.between.proofs.BookedLaws.{booked_row, booked_extend, booked_retire}
use Rattle.leaf_new.specs.Put.{PutStep}
use Rattle.leaf_new.proofs.OpenLaws.{leaf_opened, leaf_loose, leaf_room}
use Rattle.leaf_new.proofs.DoneLaws.{any_root, any_room, Edited, EditedOver, change_is, room_is, put_done, put_done_over}
use Rattle.put_replace.specs.Put.{Present, Restamped}

-- ---- the stamp alone

module _ (f : List ℕ) (o t : ℕ) where
  pub stamp_stays : le 8 f (o + leaf_stamp) ≡ t → Restamped f f o t
  stamp_stays e = record { only = only_none f (o + leaf_stamp) (o + leaf_stamp + 8); stamp = e; same = λ z. refl }

  pub stamp_put : o + 16 ≤ length f → t < 18446744073709551616 → (le 8 f (o + leaf_stamp) ≡ t → ⊥) → Restamped f (put 8 f (o + leaf_stamp) t) o t
  stamp_put h l n = record { only = only_put 8 f (o + leaf_stamp) t; stamp = le_put 8 f (o + leaf_stamp) t (omega arith) l; same = λ z. absurd (n z) }

-- ---- what put makes of the Leaf

put_same : (E : Edition) (d : ℕ) (k : List ℕ) (v v' : Value) → length (text_of v) ≡ length (text_of v') → put_tree E (Art.leaf k v') d k v ≡ record { now = Art.leaf k v; takes = []; frees = []; extent = 0; dead = 0; fresh = false }
put_same E d k v v' e = rw (same_refl k, eq-eqb (length (text_of v)) (length (text_of v')) e) refl

pub put_other : (E : Edition) (d : ℕ) (k : List ℕ) (v v' : Value) → (length (text_of v) ≡ length (text_of v') → ⊥) → put_tree E (Art.leaf k v') d k v ≡ record { now = Art.leaf k v; takes = []; frees = []; extent = extent_of k v; dead = extent_of k v'; fresh = false }
put_other E d k v v' n = rw (same_refl k, ne_eqb (length (text_of v)) (length (text_of v')) n) refl

touch_same : (E : Edition) (n o e : ℕ) (k : List ℕ) (v v' : Value) (h d : ℕ) → length (text_of v) ≡ length (text_of v') → touch_put E (leaf n o e k v') h d k v ≡ touch (restamped E n) []
touch_same E n o e k v v' h d q = rw (same_refl k, eq-eqb (length (text_of v)) (length (text_of v')) q) refl

touch_other : (E : Edition) (n o e : ℕ) (k : List ℕ) (v v' : Value) (h d : ℕ) → (length (text_of v) ≡ length (text_of v') → ⊥) → touch_put E (leaf n o e k v') h d k v ≡ touch (n ∷ []) []
touch_other E n o e k v v' h d q = rw (same_refl k, ne_eqb (length (text_of v)) (length (text_of v')) q) refl

-- ---- the hole at the Leaf

module _ {E : Edition} {f : List ℕ} {s : State} (w : Stands E f s) (xs : List Step) (n o e : ℕ) (k : List ℕ) (v' : Value) (er : w.root ≡ tree (plug xs (leaf n o e k v'))) where
  loose : Work E f (stands_view w) xs n [] (body n leaf_kind o ∷ extent e (extent_of k v') ∷ []) × LeafOf E f (path_of xs) o e k v'
  loose = leaf_loose w xs n o e k v' er

  close : {g : List ℕ} {h : View} (e' : ℕ) (v : Value) → Work E g h xs n ((path_of xs, leaf n o e' k v) ∷ []) [] → Work E g h [] (slot_of (plug xs (leaf n o e' k v))) (([], plug xs (leaf n o e' k v)) ∷ []) []
  close e' v W = work_close xs (leaf n o e' k v) [] W refl (suits_any xs (leaf n o e k v') (leaf n o e' k v) (λ q z. z) (leaf_opened w xs n o e k v' er).1)

  -- ---- with the same length

  module _ (g g2 : List ℕ) (v : Value) (len : length (text_of v) ≡ length (text_of v')) (stamped : v.stamp < E.stamps) (G : Pasted f g (e + length k) (length (text_of v)) (text_of v)) (S : Restamped g g2 o v.stamp) where
    size_is : extent_of k v' ≡ extent_of k v
    size_is = ap (λ i. up8 (length k + i)) (sym len)

    turned : Work E f (stands_view w) xs n [] (extent e (extent_of k v') ∷ body n leaf_kind o ∷ [])
    turned = work_turn loose.0 refl

    pasted : Work E g (stands_view w) xs n [] (body n leaf_kind o ∷ extent e (extent_of k v') ∷ [])
    pasted = let U = (up8_is (length k + length (text_of v'))).0 in work_turn (work_paste turned G.only (omega arith) (omega arith)) refl

    body_keeps : Keeps f g o (o + 16)
    body_keeps =
        let x = extent e (extent_of k v') in
        let rest = (body n leaf_kind o ∷ []) ++ (steps_items xs ++ forest_items []) in
        let U = (up8_is (length k + length (text_of v'))).0 in
        let R = any_write x rest turned.heap (first_owns turned) G.only (λ a p q. cover_extent a e (extent_of k v') (omega arith) (omega arith)) in
        body_kept n leaf_kind o R.kept (λ a. omega (arith, sum_cons (item.touch a) (body n leaf_kind o) (steps_items xs ++ forest_items [])))

    marked : Work E g2 (stands_view w) xs n [] (body n leaf_kind o ∷ extent e (extent_of k v') ∷ [])
    marked = work_write pasted (omega arith) (omega arith) S.only (omega arith) (omega arith)

    extent_keeps : (a : ℕ) → e ≤ a → a < e + extent_of k v' → byte_at g2 a ≡ byte_at g a
    extent_keeps a l u =
        let m = extent_of k v' in
        let x = extent e m in
        let rest = (x ∷ []) ++ (steps_items xs ++ forest_items []) in
        let R = any_write (body n leaf_kind o) rest pasted.heap (first_owns pasted) S.only (λ b p q. cover_body b n leaf_kind o (omega arith) (omega arith)) in
        R.kept.keep a (omega (arith, sum_cons (item.touch a) x (steps_items xs ++ forest_items []), touch_extent a e m l u))

    leaf_of : LeafOf E g2 (path_of xs) o e k v
    leaf_of =
        let L = loose.1 in
        let A = L.at in
        let K = body_keeps in
        let O = S.only in
        let U = (up8_is (length k + length (text_of v'))).0 in
        record {
          at = record {
            room = omega (arith, A.room, G.only.size, O.size);
            extent = le_below 4 (o + leaf_extent) O (omega arith) ∙ le_keeps 4 (o + leaf_extent) K (omega arith) (omega arith) ∙ A.extent;
            key_length = le_below 2 (o + leaf_key) O (omega arith) ∙ le_keeps 2 (o + leaf_key) K (omega arith) (omega arith) ∙ A.key_length;
            value_length = le_below 2 (o + leaf_value) O (omega arith) ∙ le_keeps 2 (o + leaf_value) K (omega arith) (omega arith) ∙ A.value_length ∙ sym len;
            stamp = S.stamp;
            text = text_of_lem g2 e k (text_of v)
                (λ a i l q. extent_keeps a (omega arith) (omega arith) ∙ G.only.below a (omega arith) ∙ ap (byte_at f) q ∙ A.text i (omega (arith, length-append k (text_of v'))) ∙ get_or-append k (text_of v') 0 i l)
                (λ a i l q. extent_keeps a (omega arith) (omega arith) ∙ G.text a i l q);
          };
          eights = L.eights;
          legal = L.legal;
          begins = L.begins;
          stamped = stamped;
        }

    -- the Leaf's body is rewritten if it gets another stamp, which an edition with one stamp cannot ask
    record Rewritten : Type 0 where
      pub rewrites : List Item
      pub since : Since f (stands_view w) g2 (stands_view w) [] rewrites [] (extent e (extent_of k v) ∷ [])
      pub accounts : Accounts w.root (touch (restamped E n) []) [] [] rewrites []

    pasted_since : Since f (stands_view w) g (stands_view w) [] [] [] (extent e (extent_of k v) ∷ [])
    pasted_since =
        let x = extent e (extent_of k v) in
        let U = (up8_is (length k + length (text_of v))).0 in
        record {
          changed = changed_only (written [] [] [] (x ∷ [])) G.only (λ a p q. omega (arith, sum_cons (cover a) x [], cover_extent a e (extent_of k v) (omega arith) (omega arith)));
          stepped = stepped_start w.heap;
        }

    stamp_was : le 8 g (o + leaf_stamp) ≡ v'.stamp
    stamp_was = le_keeps 8 (o + leaf_stamp) body_keeps (omega arith) (omega arith) ∙ loose.1.at.stamp

    rewritten : Rewritten
    rewritten = elim (ℕ_discrete v'.stamp v.stamp) [
      | yes q ↦ record {
        rewrites = [];
        since = subst (λ (z : List ℕ). Since f (stands_view w) z (stands_view w) [] [] [] (extent e (extent_of k v) ∷ [])) (sym (S.same (stamp_was ∙ q))) pasted_since;
        accounts = record { takes = tt; frees = λ z. refl; kinds_in = tt; slots_in = tt; frees_in = λ z. omega (arith, sum_none z); rewrites_in = λ z. omega (arith, sum_none z) };
      }
      | no m ↦
          let b = body n leaf_kind o in
          let many : eqb E.stamps 1 ≡ false = ne_eqb E.stamps 1 (λ z. let y = loose.1.stamped in m (omega arith)) in
          record {
            rewrites = b ∷ [];
            since = since_write S.only (λ a l u. omega (arith, sum_cons (cover a) b [], cover_body a n leaf_kind o (omega arith) (omega arith))) (since_also (b ∷ []) pasted_since);
            accounts = rw many (record {
              takes = tt;
              frees = λ z. refl;
              kinds_in = tt;
              slots_in = (among_here n [], tt);
              frees_in = λ z. omega (arith, sum_none z);
              rewrites_in = λ z. omega (arith, sum_cons z b [], sum_none z, stands_sum w (plug xs (leaf n o e k v')) er z, plug_sum z xs (leaf n o e k v'), leaf_sum z n o e k v');
            });
          }
    ]

    none_booked : Booked (stands_view w) (stands_view w) [] [] 0 0 w.nums.R
    unfolding taken_all
    none_booked = booked_row (stands_view w) [] Kinds.nil w.heap.lists.eight

    pub overwritten : Bytes g2 → Edited f g2 k v w xs (leaf n o e k v')
    overwritten by =
        let d = length (path_of xs) in
        let R = rewritten in
        record {
          change = record { now = Art.leaf k v; takes = []; frees = []; extent = 0; dead = 0; fresh = false };
          puts = put_same E d k v v' len;
          lay = leaf n o e k v;
          art_is = refl;
          view = stands_view w;
          slot = slot_of (plug xs (leaf n o e k v));
          work = close e v (make_leaf (path_of xs) [] [] n o e k v (subst (λ m. Work E g2 (stands_view w) xs n [] (body n leaf_kind o ∷ extent e m ∷ [])) size_is marked) leaf_of);
          slot_is = refl;
          bytes = by;
          records = w.nums.R;
          booked = none_booked;
          counts = refl;
          leaves = omega (arith, leafy_leaf n o e k v, leafy_leaf n o e k v');
          takes = [];
          rewrites = R.rewrites;
          frees = [];
          place = e;
          dies = λ a. refl;
          since = R.since;
          accounts = subst (λ (t : Touch). Accounts w.root t [] [] R.rewrites []) (sym (touch_same E n o e k v v' (holder_of xs) d len)) R.accounts;
          stays = stay_more (λ m z. omega (arith, leaf_marks (is m) (path_of xs) n o e k v', leaf_marks (is m) (path_of xs) n o e k v));
          last = λ q. clash (cc);
          look = leaf_look E n o e k v d;
          from_b = λ q. absurd (let z : ◌≡◌ {A = ℕ} 0 1 = cc in omega arith);
        }

  -- ---- with another length: a new extent at e', the Leaf's body written anew, the old extent dead

  module _ (f1 f2 : List ℕ) (v : Value) (e' : ℕ) (diff : length (text_of v) ≡ length (text_of v') → ⊥) (stamped : v.stamp < E.stamps) (X : Extended f f1 (stands_view w) k (text_of v) e') (Y : LeafWritten f1 f2 o e' (length k) (length (text_of v)) v.stamp) where
    written_work : Work E f2 (extended (stands_view w) (extent_of k v)) xs n [] (body n leaf_kind o ∷ extent e' (extent_of k v) ∷ extent e (extent_of k v') ∷ [])
    written_work = work_write (work_turn (work_extend loose.0 X) refl) (omega arith) (omega arith) Y.only (omega arith) (omega arith)

    new_leaf_of : LeafOf E f2 (path_of xs) o e' k v
    new_leaf_of =
        let m = extent_of k v in
        let x = extent e' m in
        let left = x ∷ extent e (extent_of k v') ∷ [] in
        let W = work_turn (work_extend loose.0 X) refl in
        let rest = left ++ (steps_items xs ++ forest_items []) in
        let R = any_write (body n leaf_kind o) rest W.heap (first_owns W) Y.only (λ a l u. cover_body a n leaf_kind o (omega arith) (omega arith)) in
        let KE : (a : ℕ) → e' ≤ a → a < e' + m → byte_at f2 a ≡ byte_at f1 a = λ a l u.
        R.kept.keep a (omega (arith, sum_app (item.touch a) left (steps_items xs ++ forest_items []), sum_cons (item.touch a) x (extent e (extent_of k v') ∷ []), touch_extent a e' m l u)) in
        let U = up8_is (length k + length (text_of v)) in
        let U0 = U.0 in
        let ee = X.place in
        let B0 = w.heap.header.bump_in in
        let B1 = X.heap.header.bump_in in
        let L = loose.1 in
        record {
          at = record {
            room = omega (arith, Y.only.size, X.heap.header.size);
            extent = Y.extent;
            key_length = Y.key_length;
            value_length = Y.value_length;
            stamp = Y.stamp;
            text = text_of_lem f2 e' k (text_of v) (λ a i l ea. KE a (omega arith) (omega arith) ∙ X.key a i l ea) (λ a i l ea. KE a (omega arith) (omega arith) ∙ X.value a i l ea);
          };
          eights = omega arith;
          legal = L.legal;
          begins = L.begins;
          stamped = stamped;
        }

    pub renewed_work : Work E f2 (extended (stands_view w) (extent_of k v)) xs n ((path_of xs, leaf n o e' k v) ∷ []) (extent e (extent_of k v') ∷ [])
    renewed_work = make_leaf (path_of xs) [] (extent e (extent_of k v') ∷ []) n o e' k v written_work new_leaf_of

    abbrev pub others : List Item
    others = [] ++ (steps_items xs ++ forest_items ((path_of xs, leaf n o e' k v) ∷ []))

    abbrev pub last_view : View
    last_view = retired (extended (stands_view w) (extent_of k v)) (extent_of k v') others

    module _ (f3 : List ℕ) (C : Died f2 f3 (extended (stands_view w) (extent_of k v)) e (extent_of k v') others) where
      book : Booked (stands_view w) last_view [] [] (extent_of k v) (extent_of k v') w.nums.R
      unfolding taken_all
      book = booked_retire (booked_extend (booked_row (stands_view w) [] Kinds.nil w.heap.lists.eight) (extent_of k v) (extent_of k v) (omega arith)) (extent_of k v') (extent_of k v') others (omega arith)

      -- the extent was the key's
      pub renewed : extent_at (length k) (find_at E w.root k) ≡ extent e (extent_of k v') ∷ [] → 1 ≤ extent_of k v' → Bytes f3 → EditedOver (extent e (extent_of k v') ∷ []) f f3 k v w xs (leaf n o e k v')
      renewed was some by =
          let d = length (path_of xs) in
          let b = body n leaf_kind o in
          let Z0 = since_also (b ∷ []) (since_start w.heap) in
          let Z1 = since_extend Z0 X in
          let Z2 = since_write Y.only (λ a l u. omega (arith, sum_cons (cover a) b [], cover_body a n leaf_kind o (omega arith) (omega arith))) Z1 in
          record {
            change = record { now = Art.leaf k v; takes = []; frees = []; extent = extent_of k v; dead = extent_of k v'; fresh = false };
            puts = put_other E d k v v' diff;
            lay = leaf n o e' k v;
            art_is = refl;
            view = last_view;
            slot = slot_of (plug xs (leaf n o e' k v));
            work = close e' v (work_retire renewed_work C);
            slot_is = refl;
            bytes = by;
            records = w.nums.R;
            booked = book;
            counts = refl;
            leaves = omega (arith, leafy_leaf n o e' k v, leafy_leaf n o e k v');
            takes = [];
            rewrites = b ∷ [];
            frees = [];
            place = e';
            dies = λ a. rw (ne_eqb (extent_of k v') 0 (λ z. omega arith)) (ap (sum (cover a)) (sym was));
            since = since_retire e (extent_of k v') (first_owns renewed_work) Z2 C;
            accounts = subst (λ (t : Touch). Accounts w.root t [] [] (b ∷ []) []) (sym (touch_other E n o e k v v' (holder_of xs) d diff))
                (record {
                  takes = tt;
                  frees = λ z. refl;
                  kinds_in = tt;
                  slots_in = (among_here n [], tt);
                  frees_in = λ z. omega (arith, sum_none z);
                  rewrites_in = λ z. omega (arith, sum_cons z b [], sum_none z, stands_sum w (plug xs (leaf n o e k v')) er z, plug_sum z xs (leaf n o e k v'), leaf_sum z n o e k v');
                });
            stays = stay_more (λ m z. omega (arith, leaf_marks (is m) (path_of xs) n o e k v', leaf_marks (is m) (path_of xs) n o e' k v));
            last = λ q. clash (cc);
            look = leaf_look E n o e' k v d;
            from_b = λ q. omega (arith, X.place);
          }

-- ---- what the calls ask, and what they leave

module _ {E : Edition} {f k : List ℕ} {v : Value} {p : Spot} (P : Present E f k v p) where
  module _ (s : State) (w : Stands E f s) where
    root_at : w.root ≡ tree (plug P.put.way.steps (leaf p.here.slot p.here.place P.found.extent k P.found.value))
    root_at = any_root P.put s w ∙ ap (λ (t : Lay). tree (plug P.put.way.steps t)) P.found.is

    -- the hole at the Leaf
    here : Work E f (stands_view w) P.put.way.steps p.here.slot [] (body p.here.slot leaf_kind p.here.place ∷ extent P.found.extent (extent_of k P.found.value) ∷ [])
        × LeafOf E f (path_of P.put.way.steps) p.here.place P.found.extent k P.found.value
    here = loose w P.put.way.steps p.here.slot p.here.place P.found.extent k P.found.value root_at

  pub body_room : p.here.place + 16 ≤ length f
  body_room = leaf_room P.put.ready.stands P.put.way.steps p.here.slot p.here.place P.found.extent k P.found.value (root_at P.put.ready.st P.put.ready.stands)

  -- the stamp is one of the edition's, and fits its field
  stamp_legal : v.stamp < E.stamps
  stamp_legal = P.put.ready.legal_value.stamp

  pub stamp_fits : v.stamp < 18446744073709551616
  stamp_fits = let a = stamp_legal in let b = P.put.ready.lawful.fields.stamps in omega arith

  module _ {old : ℕ} (eo : old ≡ le 2 f (p.here.place + leaf_value)) where
    old_is : old ≡ length (text_of P.found.value)
    old_is = eo ∙ (here P.put.ready.st P.put.ready.stands).1.at.value_length

    pub lengths : (length k < 65536) × (length (text_of v) < 65536) × (length k + old ≤ 524288)
    lengths =
        let L = (here P.put.ready.st P.put.ready.stands).1.at in
        let l = P.put.ready.stands.heap.header.limits in
        let z = P.put.ready.legal_value.passes in
        let q = old_is in (
          omega (arith, le_lt 2 f (p.here.place + leaf_key) P.put.ready.stands.bytes, L.key_length),
          omega arith,
          omega (arith, L.room, P.put.ready.stands.heap.header.size),
        )

    extent_is : {e : ℕ} → e ≡ le 4 f (p.here.place + leaf_extent) → e ≡ P.found.extent
    extent_is ee = ee ∙ (here P.put.ready.st P.put.ready.stands).1.at.extent

    -- the value has the old length
    module _ {e : ℕ} (ee : e ≡ le 4 f (p.here.place + leaf_extent)) (len : length (text_of v) ≡ old) where
      pub paste_ok : e + length k + length (text_of v) ≤ length f
      paste_ok = let q = old_is in let x = extent_is ee in omega (arith, (here P.put.ready.st P.put.ready.stands).1.at.room)

      module _ {g : List ℕ} (G : Pasted f g (e + length k) (length (text_of v)) (text_of v)) where
        pub restamp_ok : p.here.place + 16 ≤ length g
        restamp_ok = omega (arith, body_room, G.only.size)

        pub ends_same : {g2 : List ℕ} → Restamped g g2 p.here.place v.stamp → Bytes g2 → PutStep E f k v g2
        ends_same {g2} S by =
            let xs = P.put.way.steps in
            let n = p.here.slot in
            let o = p.here.place in
            let x = P.found.extent in
            let v' = P.found.value in
            let G' : Pasted f g (x + length k) (length (text_of v)) (text_of v) = subst (λ i. Pasted f g (i + length k) (length (text_of v)) (text_of v)) (extent_is ee) G in
            record {
              after = λ s w.
                  put_done f g2 k v w xs (leaf n o x k v') (root_at s w) P.put.way.leads (overwritten w xs n o x k v' (root_at s w) g g2 v (len ∙ old_is) stamp_legal G' S by) (any_room P.put s w);
            }

    -- it has another
    module _ (diff : length (text_of v) ≡ old → ⊥) where
      other_length : length (text_of v) ≡ length (text_of P.found.value) → ⊥
      other_length z = diff (z ∙ sym old_is)

      extend_room : (s : State) (w : Stands E f s) → w.nums.B + extent_of k v ≤ w.nums.F
      extend_room s w =
          let xs = P.put.way.steps in
          let c : Change Art = record { now = Art.leaf k v; takes = []; frees = []; extent = extent_of k v; dead = extent_of k P.found.value; fresh = false } in
          room_last (stands_view w) (extent_of k v)
          (room_is k v w c xs (change_is k v w xs (leaf p.here.slot p.here.place P.found.extent k P.found.value) (root_at s w) P.put.way.leads (put_other E (length (path_of xs)) k v P.found.value other_length))
          (any_room P.put s w))

      pub extend_ok : Extends f (length k + length (text_of v))
      extend_ok = record { view = stands_view P.put.ready.stands; heap = P.put.ready.stands.heap; room = extend_room P.put.ready.st P.put.ready.stands }

      module _ {f1 : List ℕ} {e : ℕ} (ext : (h : View) → Heap f h → h.nums.B + up8 (length k + length (text_of v)) ≤ h.nums.F → Extended f f1 h k (text_of v) e) where
        extended_at : (s : State) (w : Stands E f s) → Extended f f1 (stands_view w) k (text_of v) e
        extended_at s w = ext (stands_view w) w.heap (extend_room s w)

        pub write_ok : p.here.place + 16 ≤ length f1
        write_ok = omega (arith, body_room, (extended_at P.put.ready.st P.put.ready.stands).but.size)

        module _ {f2 : List ℕ} (eg : f2 ≡ put_leaf_body f1 p.here.place e (length k) (length (text_of v)) v.stamp) where
          leaf_at : LeafWritten f1 f2 p.here.place e (length k) (length (text_of v)) v.stamp
          leaf_at =
              let X = extended_at P.put.ready.st P.put.ready.stands in
              let b = P.put.ready.stands.heap.header.bump_in in
              let l = P.put.ready.stands.heap.header.limits in
              leaf_written e (length k) (length (text_of v)) v.stamp eg write_ok (omega (arith, X.place)) lengths.0 lengths.1 stamp_fits

          work_at : (s : State) (w : Stands E f s) → Work E f2 (extended (stands_view w) (extent_of k v)) P.put.way.steps p.here.slot
              ((path_of P.put.way.steps, leaf p.here.slot p.here.place e k v) ∷ []) (extent P.found.extent (extent_of k P.found.value) ∷ [])
          work_at s w = renewed_work w P.put.way.steps p.here.slot p.here.place P.found.extent k P.found.value (root_at s w) f1 f2 v e other_length stamp_legal (extended_at s w) leaf_at

          module _ {m : ℕ} (em : m ≡ up8 (length k + old)) where
            size_old : m ≡ extent_of k P.found.value
            size_old = em ∙ ap (λ i. up8 (length k + i)) old_is

            size_some : 1 ≤ extent_of k P.found.value
            size_some = extent_some k P.found.value P.put.ready.some

            module _ {was : ℕ} (ee : was ≡ le 4 f (p.here.place + leaf_extent)) where
              pub retire_ok : Retires f2 was m
              retire_ok =
                  let W = work_at P.put.ready.st P.put.ready.stands in
                  rw (size_old, extent_is ee) (record { view = extended (stands_view P.put.ready.stands) (extent_of k v); heap = W.heap; rest = _; owns = first_owns W; some = size_some })

              pub ends_other : {g : List ℕ} → ((h : View) (rest : List Item) → Heap f2 h → Same h.owned (extent was m ∷ rest) → Died f2 g h was m rest) → Bytes g → PutStep E f k v g
              ends_other {g} C by =
                  let xs = P.put.way.steps in
                  let n = p.here.slot in
                  let o = p.here.place in
                  let x = P.found.extent in
                  let v' = P.found.value in
                  let C1 : (h : View) (rest : List Item) → Heap f2 h → Same h.owned (extent was (extent_of k v') ∷ rest) → Died f2 g h was (extent_of k v') rest
                  = subst (λ i. (h : View) (rest : List Item) → Heap f2 h → Same h.owned (extent was i ∷ rest) → Died f2 g h was i rest) size_old C in
                  let C' : (h : View) (rest : List Item) → Heap f2 h → Same h.owned (extent x (extent_of k v') ∷ rest) → Died f2 g h x (extent_of k v') rest
                  = subst (λ i. (h : View) (rest : List Item) → Heap f2 h → Same h.owned (extent i (extent_of k v') ∷ rest) → Died f2 g h i (extent_of k v') rest) (extent_is ee) C1 in
                  record {
                    after = λ s w.
                        let W = work_at s w in
                        put_done_over f g k v w xs (leaf n o x k v') (root_at s w) P.put.way.leads
                        (renewed w xs n o x k v' (root_at s w) f1 f2 v e other_length stamp_legal (extended_at s w) leaf_at g (C' (extended (stands_view w) (extent_of k v)) _ W.heap (first_owns W))
                        (plug_extent P.put.way.leads w.root n o x v' (root_at s w)) size_some by) tt
                        (any_room P.put s w);
                  }
