-- The end that all edits of put share: what an edit has made of a good frame is what the model's put makes of its state, and touches what the
-- promise lets it touch. Assumes nothing.
use Prim.Native.Nat.{ℕ, ◌+◌, ◌≤◌}
use mathlib.Core.Path.{◌≡◌, refl, sym, ap, subst, ◌∙◌}
use mathlib.Core.List.{List, [], ◌∷◌, ◌++◌}
use mathlib.Core.Bool.{true, false}
use mathlib.Core.Option.{Option, some}
use native.Mathlib.Omega.{arith}
use lib.ListN.{length}
use lib.Dec.{ltb}
use Rattle.layout.specs.Number.{Bytes}
use Rattle.layout.specs.Kind.{leaf_kind, prefix_kind}
use Rattle.model.specs.Strings.{pick}
use Rattle.model.specs.Edition.{Edition, Value, text_of}
use Rattle.model.specs.Tree.{Art, Change, over, extent_of, new_key, put_tree}
use Rattle.model.specs.State.{State, put_in, put_change, room, after, done}
use Rattle.model.specs.Item.{Item, extent, cover, leafy, sum}
use Rattle.model.specs.Frame.{Lay, slot_of, art, items, Root, tree, root_art, root_items, View, state_of, Stands}
use Rattle.model.specs.Touch.{Touch, Outside, among, stay, Last, touch_put, put_touch, find_lay, find_at, extent_at, dying}
use Rattle.model.specs.Mark.{marks, root_marks}
use Rattle.model.proofs.UniqueLaws.{root_unique, stands_unique}
use Rattle.model.proofs.StringLaws.{clash}
use Rattle.model.proofs.MarkLaws.{Stay}
use Rattle.model.proofs.ExtentLaws.{dying_less}
use Rattle.descent.specs.declared.spot.Spot.{Spot}
use Rattle.room.specs.Book.{RoomFor}
use Rattle.between.specs.Hole.{Step, plug, path_of, holder_of, art_in}
use Rattle.between.specs.Work.{Work}
use Rattle.between.specs.Lead.{Leads}
use Rattle.between.specs.Since.{Since, Extents, kinds_of, Accounts}
use Rattle.between.specs.Edit.{Booked}
use Rattle.between.proofs.HoleLaws.{art_plug, plug_sum}
use Rattle.between.proofs.LeadLaws.{hangs_in, plug_put, plug_look, plug_touch, found_extent}
use Rattle.between.proofs.WorkLaws.{stands_tree, stands_view, stands_sum, stands_of, root_owns}
use Rattle.between.proofs.BookedLaws.{book_of, room_of}
use Rattle.between.proofs.OutsideLaws.{found_covers, outside_of, extent_from}
use Rattle.between.proofs.StayLaws.{stay_plug, last_plug, LastIn}
use Rattle.leaf_new.specs.Put.{PutAt, Stepped}

-- ---- a good frame stands for one state

module _ {E : Edition} {f : List ℕ} {s t : State} (S : Stands E f s) (T : Stands E f t) where
  pub same_root : {r : Root} → S.root ≡ r → T.root ≡ r
  same_root e = sym (root_unique E f s t S T) ∙ e

  pub same_room : (k : List ℕ) (v : Value) → room s (put_change E s k v) ≡ true → room t (put_change E t k v) ≡ true
  same_room k v e = subst (λ (x : State). room x (put_change E x k v) ≡ true) (stands_unique E f s t S T) e

-- so the witness at a spot serves for all
module _ {E : Edition} {f k : List ℕ} {v : Value} {p : Spot} (P : PutAt E f k v p) (s : State) (w : Stands E f s) where
  pub any_root : w.root ≡ tree (plug P.way.steps P.way.sub)
  any_root = same_root P.ready.stands w (P.is ∙ ap tree P.way.whole)

  pub any_room : room s (put_change E s k v) ≡ true
  any_room = same_room P.ready.stands w k v P.ready.room

-- ---- the end of any edit

-- the extent that dies by a change
abbrev dead : {E : Edition} {f : List ℕ} (k : List ℕ) {s : State} → Stands E f s → Change Art → List Item
dead {E} k w c = dying c.dead (extent_at (length k) (find_at E w.root k))

-- the clause of `Stepped`, for any change
abbrev Result : {E : Edition} (f g k : List ℕ) (v : Value) {s : State} → Stands E f s → Change Art → Type 0
Result {E} f g k v {s} w c =
    (w' : Stands E g (pick (room s c) (done (pick c.fresh 0 9) (after s c (pick c.fresh (s.R + 1) s.R) (some c.now))) (done 6 s)).state)
    × Outside f g w.root w'.root w.lists w'.lists (c.takes ++ c.frees) (put_touch E w.root k v) (extent_at (length k) (find_at E w'.root k)) (dead k w c) (ltb 0 c.extent)

-- An edit of the good frame f: in g the tree `whole` stands, the numbers are those of the model's change, and the bodies `takes`, `rewrites` and
-- `frees` were taken, rewritten and freed; the key's extent stands at `place`, and the extents `gone` died.
record Ended {E : Edition} (f g k : List ℕ) (v : Value) {s : State} (w : Stands E f s) (change : Change Art) : Type 0 where
  pub whole : Lay
  pub art_is : art whole ≡ change.now
  pub view : View
  pub slot : ℕ
  pub work : Work E g view [] slot (([], whole) ∷ []) []
  pub slot_is : slot ≡ slot_of whole
  pub bytes : Bytes g
  pub records : ℕ
  pub booked : Booked (stands_view w) view change.takes change.frees change.extent change.dead records
  pub counts : records ≡ pick change.fresh (w.nums.R + 1) w.nums.R
  pub leaves : sum leafy (items whole) ≡ records
  pub takes : List Item
  pub rewrites : List Item
  pub frees : List Item
  pub place : ℕ
  pub gone : List Item
  pub extents : Extents gone
  pub dies : (a : ℕ) → sum (cover a) gone ≡ sum (cover a) (dead k w change)
  pub since : Since f (stands_view w) g view takes rewrites (gone ++ frees) (extent place (extent_of k v) ∷ [])
  pub accounts : Accounts w.root (put_touch E w.root k v) (change.takes ++ change.frees) takes rewrites frees
  pub stays : stay (put_touch E w.root k v).goes (root_marks w.root) (root_marks (tree whole)) ≡ true
  pub last : among prefix_kind (kinds_of takes) ≡ true → Last (root_marks w.root) (root_marks (tree whole))
  pub look : find_at E (tree whole) k ≡ some (record { at = place + length k; long = length (text_of v); stamp = v.stamp })
  pub from_b : ltb 0 change.extent ≡ true → w.nums.B ≤ place

module _ {E : Edition} (f g k : List ℕ) (v : Value) {s : State} (w : Stands E f s) (c : Change Art) (D : Ended f g k v w c) where
  state_is : room s c ≡ true → (pick (room s c) (done (pick c.fresh 0 9) (after s c (pick c.fresh (s.R + 1) s.R) (some c.now))) (done 6 s)).state ≡ state_of D.view.nums D.view.lists (tree D.whole)
  state_is q =
      let en : pick c.fresh (s.R + 1) s.R ≡ D.records = ap (λ (z : State). pick c.fresh (z.R + 1) z.R) w.state ∙ sym D.counts in
      rw q (ap (λ i. after s c i (some c.now)) en ∙ book_of w c D.whole c.now D.booked D.art_is)

  outside : Outside f g w.root (tree D.whole) w.lists D.view.lists (c.takes ++ c.frees) (put_touch E w.root k v) (extent_at (length k) (find_at E (tree D.whole) k)) (dead k w c) (ltb 0 c.extent)
  outside =
      let e : extent_at (length k) (find_at E (tree D.whole) k) ≡ extent D.place (extent_of k v) ∷ [] = ap (extent_at (length k)) D.look ∙ found_extent D.place k v in
      subst (λ (z : List Item). Outside f g w.root (tree D.whole) w.lists D.view.lists (c.takes ++ c.frees) (put_touch E w.root k v) z (dead k w c) (ltb 0 c.extent)) (sym e)
      (outside_of w.nums w.lists w.root (tree D.whole) D.gone D.extents D.since w.heap D.work.heap (root_owns D.whole D.work)
      (put_touch E w.root k v) (c.takes ++ c.frees) D.accounts D.stays D.last (dead k w c)
      (λ a. (D.dies a, omega (arith, dying_less (cover a) c.dead (extent_at (length k) (find_at E w.root k)), found_covers E k w.root a))) (ltb 0 c.extent)
      (λ q a h. omega (arith, D.from_b q, extent_from D.place (extent_of k v) a h)))

  result : room s c ≡ true → Result f g k v w c
  result q = (stands_of _ D.whole D.work D.slot_is D.bytes (D.booked.edition ∙ w.edition_is) (omega (arith, D.booked.R, D.leaves)) (state_is q), outside)

  ended : put_change E s k v ≡ c → room s (put_change E s k v) ≡ true → Stepped E f k v g s w
  ended e q = subst (λ (x : Change Art). Result f g k v w x) (sym e) (result (subst (λ (x : Change Art). room s x ≡ true) e q))

-- ---- a new key: the tree T stands in f'

module _ {E : Edition} {f : List ℕ} {st : State} (S : Stands E f st) (k : List ℕ) (v : Value) {A : Art} {takes frees : List ℕ} (change : put_change E st k v ≡ new_key k v A takes frees)
    (fits : room st (put_change E st k v) ≡ true) {f' : List ℕ} {h : View} {s e : ℕ} (T : Lay) {ts rs gs : List Item} (W : Work E f' h [] s (([], T) ∷ []) []) (es : s ≡ slot_of T) (bytes : Bytes f')
    (Z : Booked (stands_view S) h (leaf_kind ∷ takes) frees (extent_of k v) 0 (st.R + 1)) (ea : art T ≡ A) (more : sum leafy (items T) ≡ sum leafy (root_items S.root) + 1)
    (C : Since f (stands_view S) f' h ts rs gs (extent e (extent_of k v) ∷ [])) (N : Accounts S.root (put_touch E S.root k v) ((leaf_kind ∷ takes) ++ frees) ts rs gs)
    (stays : stay (put_touch E S.root k v).goes (root_marks S.root) (root_marks (tree T)) ≡ true) (plain : among prefix_kind (kinds_of ts) ≡ false) (le : S.nums.B ≤ e) (look : find_at E (tree T) k ≡ some (record { at = e + length k; long = length (text_of v); stamp = v.stamp })) where
  pub new_key_lem : Stepped E f k v f' st S
  new_key_lem =
      let er : st.R ≡ S.nums.R = ap (λ (x : State). x.R) S.state in
      ended f f' k v S (new_key k v A takes frees) (record {
        whole = T;
        art_is = ea;
        view = h;
        slot = s;
        work = W;
        slot_is = es;
        bytes = bytes;
        records = st.R + 1;
        booked = Z;
        counts = ap (λ i. i + 1) er;
        leaves = omega (arith, S.counted);
        takes = ts;
        rewrites = rs;
        frees = gs;
        place = e;
        gone = [];
        extents = tt;
        dies = λ a. refl;
        since = C;
        accounts = N;
        stays = stays;
        last = λ q. clash (cc);
        look = look;
        from_b = λ q. le;
      }) change fits

-- ---- the model's change is made in the hole

pub change_is : {E : Edition} {f : List ℕ} (k : List ℕ) (v : Value) {s : State} (w : Stands E f s) (xs : List Step) (t : Lay) {r : List ℕ} {c : Change Art} → w.root ≡ tree (plug xs t) → Leads E k xs r
    → put_tree E (art t) (length (path_of xs)) k v ≡ c → put_change E s k v ≡ over (art_in xs) c
change_is {E} {f} k v {s} w xs t {c = c} er L puts =
    let e : s.tree ≡ some (art_in xs (art t)) = ap (λ (z : State). z.tree) w.state ∙ ap root_art er ∙ ap some (art_plug xs t) in
    ap (λ (o : Option Art). put_in E o k v) e ∙ plug_put L v (art t) (hangs_in E f xs t (stands_tree w (plug xs t) er)) ∙ ap (over (art_in xs)) puts

-- and the frame has the room that the model has
pub room_is : {E : Edition} {f : List ℕ} (k : List ℕ) (v : Value) {s : State} (w : Stands E f s) (c : Change Art) (xs : List Step) → put_change E s k v ≡ over (art_in xs) c → room s (put_change E s k v) ≡ true → RoomFor (stands_view w) c.takes c.extent
room_is k v {s} w c xs e q = room_of w (over (art_in xs) c) (subst (λ (x : Change Art). room s x ≡ true) e q)

-- An edit of the good frame f with the tree t in the hole xs: in g the tree `lay` stands there, the numbers are those of the model's change,
-- and the bodies `takes`, `rewrites` and `frees` were taken, rewritten and freed; the key's extent stands at `place`, and the extents `gone` died.
pub record EditedOver {E : Edition} (gone : List Item) (f g k : List ℕ) (v : Value) {s : State} (w : Stands E f s) (xs : List Step) (t : Lay) : Type 0 where
  pub change : Change Art
  pub puts : put_tree E (art t) (length (path_of xs)) k v ≡ change
  pub lay : Lay
  pub art_is : art lay ≡ change.now
  pub view : View
  pub slot : ℕ
  pub work : Work E g view [] slot (([], plug xs lay) ∷ []) []
  pub slot_is : slot ≡ slot_of (plug xs lay)
  pub bytes : Bytes g
  pub records : ℕ
  pub booked : Booked (stands_view w) view change.takes change.frees change.extent change.dead records
  pub counts : records ≡ pick change.fresh (w.nums.R + 1) w.nums.R
  pub leaves : sum leafy (items lay) + w.nums.R ≡ sum leafy (items t) + records
  pub takes : List Item
  pub rewrites : List Item
  pub frees : List Item
  pub place : ℕ
  pub dies : (a : ℕ) → sum (cover a) gone ≡ sum (cover a) (dead k w change)
  pub since : Since f (stands_view w) g view takes rewrites (gone ++ frees) (extent place (extent_of k v) ∷ [])
  pub accounts : Accounts w.root (touch_put E t (holder_of xs) (length (path_of xs)) k v) (change.takes ++ change.frees) takes rewrites frees
  pub stays : Stay (touch_put E t (holder_of xs) (length (path_of xs)) k v).goes (marks (path_of xs) t) (marks (path_of xs) lay)
  pub last : among prefix_kind (kinds_of takes) ≡ true → LastIn (marks (path_of xs) t) (marks (path_of xs) lay)
  pub look : find_lay E lay (length (path_of xs)) k ≡ some (record { at = place + length k; long = length (text_of v); stamp = v.stamp })
  pub from_b : ltb 0 change.extent ≡ true → w.nums.B ≤ place

-- and no extent died
abbrev pub Edited : {E : Edition} (f g k : List ℕ) (v : Value) {s : State} → Stands E f s → List Step → Lay → Type 0
Edited f g k v w xs t = EditedOver [] f g k v w xs t

module _ {E : Edition} (f g k : List ℕ) (v : Value) {s : State} (w : Stands E f s) (xs : List Step) (t : Lay) {r : List ℕ} (er : w.root ≡ tree (plug xs t)) (L : Leads E k xs r) {gone : List Item} (D : EditedOver gone f g k v w xs t)
    (extents : Extents gone) where
  touch_is : put_touch E w.root k v ≡ touch_put E t (holder_of xs) (length (path_of xs)) k v
  touch_is = ap (λ (z : Root). put_touch E z k v) er ∙ plug_touch L v t

  whole_ended : Ended f g k v w (over (art_in xs) D.change)
  whole_ended =
      record {
        whole = plug xs D.lay;
        art_is = art_plug xs D.lay ∙ ap (art_in xs) D.art_is;
        view = D.view;
        slot = D.slot;
        work = D.work;
        slot_is = D.slot_is;
        bytes = D.bytes;
        records = D.records;
        booked = D.booked;
        counts = D.counts;
        leaves = omega (arith, D.leaves, plug_sum leafy xs D.lay, plug_sum leafy xs t, stands_sum w (plug xs t) er leafy, w.counted);
        takes = D.takes;
        rewrites = D.rewrites;
        frees = D.frees;
        place = D.place;
        gone = gone;
        extents = extents;
        dies = D.dies;
        since = D.since;
        accounts = subst (λ (z : Touch). Accounts w.root z (D.change.takes ++ D.change.frees) D.takes D.rewrites D.frees) (sym touch_is) D.accounts;
        stays = stay_plug xs t D.lay D.stays (ap (λ (z : Touch). z.goes) touch_is) er;
        last = λ q. last_plug xs t D.lay w er D.work (D.last q);
        look = plug_look L D.lay ∙ D.look;
        from_b = D.from_b;
      }

  pub put_done_over : room s (put_change E s k v) ≡ true → Stepped E f k v g s w
  put_done_over q = ended f g k v w (over (art_in xs) D.change) whole_ended (change_is k v w xs t er L D.puts) q

pub put_done : {E : Edition} (f g k : List ℕ) (v : Value) {s : State} (w : Stands E f s) (xs : List Step) (t : Lay) {r : List ℕ} → w.root ≡ tree (plug xs t) → Leads E k xs r → Edited f g k v w xs t
    → room s (put_change E s k v) ≡ true → Stepped E f k v g s w
put_done f g k v w xs t er L D q = put_done_over f g k v w xs t er L D tt q
