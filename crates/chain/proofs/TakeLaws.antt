-- Bodies are taken for a row, one after the other. Assumes nothing.
use Prim.Native.Nat.{ℕ, zero, suc, ◌+◌, ◌-◌, ◌<◌, ◌≤◌}
use mathlib.Core.Path.{◌≡◌, refl, sym, ap, subst, ◌∙◌}
use mathlib.Core.List.{List, [], ◌∷◌, ◌++◌}
use native.Mathlib.Omega.{arith}
use lib.Dec.{eqb}
use mathlib.Core.Bool.{Bool, true, false}
use Rattle.model.specs.Strings.{pick}
use Rattle.model.specs.State.{tally}
use lib.ListN.{length, get_or, set, length-append}
use lib.Seq.{get_or-set_same, get_or-set_other}
use Rattle.layout.specs.Kind.{prefix_kind, Kind}
use Rattle.model.specs.Edition.{Edition}
use Rattle.model.specs.Tree.{prefixes}
use Rattle.model.specs.Item.{Item, body, sum}
use Rattle.model.specs.Frame.{Lay, View, Heap}
use Rattle.model.proofs.ItemLaws.{sum_cons}
use Rattle.room.specs.View.{list_of, place_from, taken, Roomy}
use Rattle.room.specs.Step as step
use Rattle.room.specs.Step.{Took}
use Rattle.room.specs.Book.{taken_all, RoomFor, Kinds}
use Rattle.room.proofs.BookLaws.{take_one, room_first, room_next}
use Rattle.between.specs.Hole.{Step}
use Rattle.between.specs.Work.{Entries, Work}
use Rattle.between.specs.Since.{Since}
use Rattle.between.proofs.WorkLaws.{entries_first, entries_body, entries_swap, work_as, work_take}
use Rattle.between.proofs.SinceLaws.{since_take}
use Rattle.chain.specs.Row.{row_items, Named, Grown, Grows, RowTaken, Takes}

pub prefix_kind_lem : Kind prefix_kind
prefix_kind_lem = (omega arith, omega arith, λ z. omega arith)

-- ---- names

named_set : (row : List ℕ) (rs : List (ℕ × ℕ)) (i v : ℕ) → length rs ≤ i → Named row rs → Named (set row i v) rs
named_set row [] i v l N = tt
named_set row (x ∷ rs) i v l N = (get_or-set_other row i (length rs) v 0 (λ z. omega arith) ∙ N.0, named_set row rs i v (omega arith) N.1)

pub named_push : (row : List ℕ) (rs : List (ℕ × ℕ)) (i s o : ℕ) → i ≡ length rs → i < length row → Named row rs → Named (set row i s) ((s, o) ∷ rs)
named_push row rs i s o e l N = (ap (λ n. get_or (set row i s) n 0) (sym e) ∙ get_or-set_same row i s 0 l, named_set row rs i s (omega arith) N)

-- ---- an item that was loose before the row was taken

pub row_behind : (w : Item → ℕ) (i : Item) (loose : List Item) (rs : List (ℕ × ℕ)) → sum w (row_items rs (i ∷ loose)) ≡ sum w (i ∷ row_items rs loose)
row_behind w i loose [] = refl
row_behind w i loose (x ∷ rs) =
    let b = body x.0 prefix_kind x.1 in
    omega (arith, row_behind w i loose rs, sum_cons w b (row_items rs (i ∷ loose)), sum_cons w i (row_items rs loose), sum_cons w i (b ∷ row_items rs loose), sum_cons w b (row_items rs loose))

entries_behind : (f : List ℕ) (i : Item) (loose : List Item) (rs : List (ℕ × ℕ)) → Entries f (row_items rs (i ∷ loose)) → Entries f (i ∷ row_items rs loose)
entries_behind f i loose [] N = N
entries_behind f i loose (x ∷ rs) N =
    let e = entries_first f x.0 prefix_kind x.1 (row_items rs (i ∷ loose)) N in
    entries_swap f (body x.0 prefix_kind x.1) i (row_items rs loose) (entries_body f x.0 prefix_kind x.1 (i ∷ row_items rs loose) e.0 (entries_behind f i loose rs e.1))

pub work_behind : {E : Edition} {f : List ℕ} {h : View} {xs : List Step} {s : ℕ} {ts : List (List ℕ × Lay)} (i : Item) (loose : List Item) (rs : List (ℕ × ℕ)) → Work E f h xs s ts (row_items rs (i ∷ loose))
    → Work E f h xs s ts (i ∷ row_items rs loose)
work_behind {f = f} i loose rs W = work_as W (λ w. omega (arith, row_behind w i loose rs)) W.trees (entries_behind f i loose rs W.entries)

-- ---- views and room

taken_none : (h : View) → taken_all h [] ≡ h
unfolding taken_all
taken_none h = refl

taken_first : (h : View) (n : ℕ) → taken_all h (prefixes (suc n)) ≡ taken_all (taken h prefix_kind) (prefixes n)
unfolding taken_all
taken_first h n = refl

taken_last : (n : ℕ) (h : View) → taken_all h (prefixes (suc n)) ≡ taken (taken_all h (prefixes n)) prefix_kind
unfolding taken_all
taken_last zero h = refl
taken_last (suc n) h = taken_last n (taken h prefix_kind)

pub room_past : (n d m : ℕ) (h : View) (ks : List ℕ) (x : ℕ) → length h.lists ≡ 8 → m ≡ n + d → RoomFor h (prefixes m ++ ks) x → RoomFor (taken_all h (prefixes n)) (prefixes d ++ ks) x
room_past zero d m h ks x e l R = let z : m ≡ d = omega arith in subst (λ y. RoomFor y (prefixes d ++ ks) x) (sym (taken_none h)) (subst (λ y. RoomFor h (prefixes y ++ ks) x) z R)
room_past (suc n) d m h ks x e l R =
    let z : m ≡ suc (n + d) = omega arith in
    let A : RoomFor h (prefix_kind ∷ (prefixes (n + d) ++ ks)) x = subst (λ y. RoomFor h (prefixes y ++ ks) x) z R in
    subst (λ y. RoomFor y (prefixes d ++ ks) x) (sym (taken_first h n))
    (room_past n d (n + d) (taken h prefix_kind) ks x (take_one h prefix_kind prefix_kind_lem e).eight refl (room_next h prefix_kind (prefixes (n + d) ++ ks) x prefix_kind_lem e A))

room_at : (n m : ℕ) (h : View) (ks : List ℕ) (x : ℕ) → length h.lists ≡ 8 → length (taken_all h (prefixes n)).lists ≡ 8 → n < m → RoomFor h (prefixes m ++ ks) x → Roomy (taken_all h (prefixes n)) prefix_kind
room_at n m h ks x e e' l R =
    let B : RoomFor (taken_all h (prefixes n)) (prefix_kind ∷ (prefixes (m - n - 1) ++ ks)) x = room_past n (suc (m - n - 1)) m h ks x e (omega arith) R in
    room_first (taken_all h (prefixes n)) prefix_kind (prefixes (m - n - 1) ++ ks) x prefix_kind_lem e' B

-- ---- the loop

grown_start : {E : Edition} {f : List ℕ} {h : View} {xs : List Step} {s : ℕ} {ts : List (List ℕ × Lay)} {rs : List (ℕ × ℕ)} {loose : List Item} {row : List ℕ} {have n : ℕ} {ks : List ℕ} {x : ℕ}
    → Grows E f h xs s ts rs loose row have n ks x → Grown E f f h xs s ts rs loose row 0
grown_start {E} {f} {h} {xs} {s} {ts} {rs} {loose} R =
    let e = sym (taken_none h) in
    record {
      new = [];
      many = refl;
      named = R.named;
      work = subst (λ y. Work E f y xs s ts (row_items rs loose)) e R.work;
      since = λ f0 h0 bs ws es Z. subst (λ y. Since f0 h0 f y bs ws [] es) e Z;
    }

module _ {E : Edition} {f0 f : List ℕ} {h : View} {xs : List Step} {s : ℕ} {ts : List (List ℕ × Lay)} {rs : List (ℕ × ℕ)} {loose : List Item} {row row' : List ℕ} {have m : ℕ} {ks : List ℕ} {x n : ℕ}
    (R : Grows E f0 h xs s ts rs loose row have m ks x) (G : Grown E f0 f h xs s ts rs loose row' n) where
  pub grown_room : n < m → Roomy (taken_all h (prefixes n)) prefix_kind
  grown_room l = room_at n m h ks x R.work.heap.lists.eight G.work.heap.lists.eight l R.room

  grown_step : {g : List ℕ} {v : ℕ} (i : ℕ) → i ≡ n + have → i < length row' → Took f g (taken_all h (prefixes n)) prefix_kind v → Grown E f0 g h xs s ts rs loose (set row' i v) (suc n)
  grown_step {g} {v} i ei l T =
      let h1 = taken_all h (prefixes n) in
      let o = place_from h1 (list_of h1 prefix_kind) in
      let e = sym (taken_last n h) in
      let many = G.many in
      let held = R.many in
      record {
        new = (v, o) ∷ G.new;
        many = omega arith;
        named = named_push row' (G.new ++ rs) i v o (omega (arith, length-append G.new rs)) l G.named;
        work = subst (λ y. Work E g y xs s ts (row_items ((v, o) ∷ G.new) (row_items rs loose))) e (work_take G.work T);
        since = λ a b bs ws es Z. subst (λ y. Since a b g y (row_items ((v, o) ∷ G.new) bs) ws [] es) e (since_take prefix_kind_lem G.work.heap (G.since a b bs ws es Z) T);
      }

pub taken_start : (f row : List ℕ) (have n i : ℕ) → i ≡ have → RowTaken f f row row have n (i - have)
taken_start f row have n i e E h xs s ts rs loose ks x R = let z : i - have ≡ 0 = omega arith in rw z (grown_start R)

module _ {f0 f row row' : List ℕ} {have need i : ℕ} (low : have ≤ i) (more : i < need) (Z : RowTaken f0 f row row' have (need - have) (i - have)) where
  pub taken_takes : Takes f0 row have need → step.Takes f prefix_kind
  taken_takes W =
      let G = Z W.edition W.view W.steps W.top W.trees W.held W.loose W.kinds W.extent W.grows in
      record { view = taken_all W.view (prefixes (i - have)); heap = G.work.heap; kind = prefix_kind_lem; room = grown_room W.grows G (omega arith) }

  pub taken_step : {g : List ℕ} {v : ℕ} → i < length row' → ((h : View) → Heap f h → Roomy h prefix_kind → Took f g h prefix_kind v) → RowTaken f0 g row (set row' i v) have (need - have) (i + 1 - have)
  taken_step {g} {v} l T E h xs s ts rs loose ks x R =
      let G = Z E h xs s ts rs loose ks x R in
      let e : i + 1 - have ≡ suc (i - have) = omega arith in
      rw e (grown_step R G i (omega arith) l (T (taken_all h (prefixes (i - have))) G.work.heap (grown_room R G (omega arith))))

pub taken_end : {f0 f row row' : List ℕ} {have n i : ℕ} → RowTaken f0 f row row' have n i → i ≡ n → RowTaken f0 f row row' have n n
taken_end {f0} {f} {row} {row'} {have} {n} Z e = subst (λ y. RowTaken f0 f row row' have n y) e Z

-- ---- a row of takes, and the order of takes

pub taken_app : (ks bs : List ℕ) (h : View) → taken_all h (ks ++ bs) ≡ taken_all (taken_all h ks) bs
unfolding taken_all
taken_app [] bs h = refl
taken_app (k ∷ ks) bs h = taken_app ks bs (taken h k)

pub tally_app : (ks bs : List ℕ) (j : ℕ) → tally (ks ++ bs) j ≡ tally ks j + tally bs j
tally_app [] bs j = omega arith
tally_app (k ∷ ks) bs j = go (eqb k j) (tally_app ks bs j)
  where
    go : (x : Bool) → tally (ks ++ bs) j ≡ tally ks j + tally bs j → pick x (suc (tally (ks ++ bs) j)) (tally (ks ++ bs) j) ≡ pick x (suc (tally ks j)) (tally ks j) + tally bs j
    go true e = omega arith
    go false e = omega arith

pub kinds_row : (n : ℕ) {ks : List ℕ} → Kinds ks → Kinds (prefixes n ++ ks)
kinds_row zero K = K
kinds_row (suc n) K = Kinds.cons prefix_kind_lem (kinds_row n K)
