-- What taking, freeing, extending and retiring make of a heap, said of the bytes before and after, whatever code wrote them.
-- Assumes nothing.
use Prim.Native.Nat.{ℕ, ◌+◌, ◌-◌, ◌%◌, ◌<◌, ◌≤◌}
use mathlib.Core.Path.{◌≡◌, refl, sym, ap, ◌∙◌}
use mathlib.Core.List.{List, [], ◌∷◌, ◌++◌}
use native.Mathlib.Omega.{arith}
use native.Mathlib.Decide.{dec_lt, ℕ_discrete}
use lib.ListN.{length, get_or, set, length-set}
use lib.Seq.{get_or-set_same, get_or-set_other}
use Rattle.layout.specs.Number.{le, byte_at}
use Rattle.layout.specs.Place.{at_b, at_u, at_r, at_x, at_root, at_head, header_size, entry_at, data_start}
use Rattle.layout.specs.Kind.{body_size, Kind}
use Rattle.layout.specs.Entry.{entry_of, entry_place, entry_high, place_of, high_of}
use Rattle.layout.proofs.KindLaws.{size_eighth, size_least}
use Rattle.layout.proofs.EntryLaws.{high_of_entry, place_of_entry, place_lt, place_eighth}
use Rattle.model.specs.Item.{Item, body, extent, cover, on_entry, touch, sum, Same, Sound}
use Rattle.model.specs.Frame.{View, Entry, Chain, list_items, freed, Lists, all, Heap}
use Rattle.model.proofs.ItemLaws.{sum_app, sum_cons, sound_same, sound_fresh, sound_extent, sound_retire, touch_is, touch_head}
use Rattle.moves.specs.Moved.{Only}
use Rattle.room.specs.View.{list_of, popped, given, released, extended, retired, recorded, rooted}
use Rattle.room.specs.Step.{But, Kept, Renumbered}
use Rattle.room.proofs.HeapLaws.{cover_extent, clean_more, clean_less, le_below, le_above, list_cons, freed_set, freed_part, chain_frame, lists_frame, header_to, header_keep, touch_entry, touch_extent, others_kept, kept_part, body_in, lies, but_on, only_but, field_but, mid_entry}

abbrev SoundView : View → Type 0
SoundView h = Sound (data_start h.nums.N) h.nums.U h.nums.B h.nums.X (all h)

-- ---- lists of freed slots

pub chain_head : (f : List ℕ) (h : ℕ) (x : ℕ × ℕ) (xs : List (ℕ × ℕ)) → Chain f h (x ∷ xs) → (h ≡ x.0) × (place_of f x.0 ≡ x.1) × Chain f (high_of f x.0) xs
unfolding Chain
chain_head f h x xs C = C

chain_more : (f : List ℕ) (h : ℕ) (x : ℕ × ℕ) (xs : List (ℕ × ℕ)) → h ≡ x.0 → place_of f x.0 ≡ x.1 → Chain f (high_of f x.0) xs → Chain f h (x ∷ xs)
unfolding Chain
chain_more f h x xs a b c = (a, b, c)

pub chain_nil : (f : List ℕ) (xs : List (ℕ × ℕ)) → Chain f 0 xs → ((x : ℕ × ℕ) (r : List (ℕ × ℕ)) → xs ≡ x ∷ r → 1 ≤ x.0) → xs ≡ []
chain_nil f [] C h = refl
chain_nil f (x ∷ r) C h = absurd (omega (arith, (chain_head f 0 x r C).0, h x r refl))

pub chain_cons : (f : List ℕ) (h : ℕ) (xs : List (ℕ × ℕ)) → Chain f h xs → 1 ≤ h → (x : ℕ × ℕ) × (r : List (ℕ × ℕ)) × (xs ≡ x ∷ r) × (h ≡ x.0)
unfolding Chain
chain_cons f h [] C l = absurd (omega arith)
chain_cons f h (x ∷ r) C l = (x, r, refl, C.0)

-- the lists after a change of entries that no list has; the heads have been seen to
chains_to : {f g : List ℕ} (ls : List (List (ℕ × ℕ))) → length ls ≡ 8 → get_or ls 2 [] ≡ [] → Kept f g (freed 1 ls)
    → ((i : ℕ) → i < 8 → Chain f (le 2 g (at_head (i + 1))) (get_or ls i [])) → Lists g ls
chains_to {f} {g} ls e t K C =
    record {
      eight = e;
      third = t;
      chains = λ i l. chain_frame f g (i + 1) (le 2 g (at_head (i + 1))) (get_or ls i [])
          (λ a p. K.keep a (omega (arith, freed_part (on_entry a) 1 (i + 1) i ls (omega arith), touch_is a (freed 1 ls)))) (C i l);
    }

-- a list less its first
module _ (h : View) (k : ℕ) (x : ℕ × ℕ) (r : List (ℕ × ℕ)) (k1 : 1 ≤ k) (k8 : k ≤ 8) (e8 : length h.lists ≡ 8) (L : list_of h k ≡ x ∷ r) where
  pop_sum : (w : Item → ℕ) → sum w (freed 1 h.lists) ≡ w (body x.0 k x.1) + sum w (freed 1 (set h.lists (k - 1) r))
  pop_sum w =
      let e = freed_set w 1 k (k - 1) h.lists r (omega arith) (omega arith) in
      let z : sum w (list_items k (get_or h.lists (k - 1) [])) ≡ sum w (list_items k (x ∷ r)) = ap (λ l. sum w (list_items k l)) L in
      omega (arith, list_cons w k x r)

  pop_all : Same (all h) (all (popped h k x r))
  pop_all w =
      omega (
        arith,
        sum_app w h.owned (freed 1 h.lists),
        pop_sum w,
        sum_app w (body x.0 k x.1 ∷ h.owned) (freed 1 (set h.lists (k - 1) r)),
        sum_cons w (body x.0 k x.1) h.owned,
      )

-- where the first body of a list lies
pub head_in : {f : List ℕ} {h : View} (k : ℕ) (x : ℕ × ℕ) (r : List (ℕ × ℕ)) → Heap f h → 1 ≤ k → k ≤ 8 → list_of h k ≡ x ∷ r → (1 ≤ x.0) × (x.0 ≤ h.nums.U)
head_in {f} {h} k x r P k1 k8 L =
    let z = size_least k k1 k8 in
    let I = body_in P.sound x.0 k x.1 h.owned
    (λ w. omega (arith, pop_sum h k x r k1 k8 P.lists.eight L w, sum_app w h.owned (freed 1 h.lists))) (omega arith) in
    (I.0, I.1)

-- ---- a body from its list: the head is the next slot, then the entry has the kind

module _ {f m g : List ℕ} {h : View} (k : ℕ) (x : ℕ × ℕ) (r : List (ℕ × ℕ)) (P : Heap f h) (K : Kind k) (L : list_of h k ≡ x ∷ r)
    (A : Only f m (at_head k) (at_head k + 2)) (ah : le 2 m (at_head k) ≡ high_of f x.0)
    (B : Only m g (entry_at x.0) (entry_at x.0 + 4)) (be : le 4 g (entry_at x.0) ≡ entry_of k (place_of f x.0)) where
  pub pop_heap : Heap g (popped h k x r) × Entry g x.0 k x.1 × But f g (entry_at x.0) (entry_at x.0 + 4) × Kept f g h.owned
  pop_heap =
      let H = P.header in
      let gi = H.given_in in
      let k1 = K.0 in
      let k8 = K.1 in
      let I = head_in k x r P k1 k8 L in
      let xl = I.0 in
      let xh = I.1 in
      let e8 = P.lists.eight in
      let ls' = set h.lists (k - 1) r in
      let head : at_head (k - 1 + 1) ≡ at_head k = omega arith in
      let C : Chain f (le 2 f (at_head (k - 1 + 1))) (x ∷ r) = rw (← L) (P.lists.chains (k - 1) (omega arith)) in
      let hd = chain_head f _ x r C in
      let S' : SoundView (popped h k x r) = sound_same P.sound (all (popped h k x r)) (pop_all h k x r k1 k8 e8 L) in
      let T : But f g (entry_at x.0) (entry_at x.0 + 4) = but_on (field_but (entry_at x.0) (entry_at x.0 + 4) A (omega arith) (omega arith)) (only_but B (omega arith)) in
      let KA = others_kept (body x.0 k x.1) (h.owned ++ freed 1 ls') S'
      (λ a. omega (arith, sum_cons (touch a) (body x.0 k x.1) h.owned, sum_app (touch a) h.owned (freed 1 ls'), sum_app (touch a) (body x.0 k x.1 ∷ h.owned) (freed 1 ls')))
      (omega arith) T (λ a l u. touch_entry a x.0 k x.1 l u) in
      let p = place_of f x.0 in
      let v = le 4 f (entry_at x.0) in (
        record {
          header = header_keep H (B.size ∙ A.size) (λ a p. B.below a (omega arith) ∙ A.below a (omega arith)) (λ a p q. B.below a (omega arith) ∙ A.above a (omega arith))
              (λ a p q. B.below a (omega arith) ∙ A.below a (omega arith)) (λ a p q. B.above a (omega arith) ∙ A.above a (omega arith));
          lists = chains_to ls' (length-set h.lists (k - 1) r ∙ e8) (get_or-set_other h.lists (k - 1) 2 r [] (λ z. K.2 (omega arith)) ∙ P.lists.third)
              (kept_part (freed 1 ls') KA (λ a. omega (arith, sum_app (touch a) h.owned (freed 1 ls'))))
              (λ i l. elim (ℕ_discrete i (k - 1)) [
                | yes z ↦
                    let e1 : get_or ls' i [] ≡ r = ap (λ j. get_or ls' j []) z ∙ get_or-set_same h.lists (k - 1) r [] (omega arith) in
                    let e2 : le 2 g (at_head (i + 1)) ≡ high_of f x.0 = le_below 2 (at_head (i + 1)) B (omega arith) ∙ ap (le 2 m) (omega arith) ∙ ah in
                    rw (e1, e2) hd.2
                | no z ↦
                    let e1 : get_or ls' i [] ≡ get_or h.lists i [] = get_or-set_other h.lists (k - 1) i r [] z in
                    let e2 : le 2 g (at_head (i + 1)) ≡ le 2 f (at_head (i + 1)) = le_below 2 (at_head (i + 1)) B (omega arith)
                    ∙ elim (dec_lt i (k - 1)) [ yes y ↦ le_below 2 (at_head (i + 1)) A (omega arith) | no y ↦ le_above 2 (at_head (i + 1)) A (omega arith) ] in
                    rw (e1, e2) (P.lists.chains i l)
              ]);
          clean = λ w. clean_more (popped h k x r).owned (P.clean w) (λ a. omega (arith, sum_cons (cover a) (body x.0 k x.1) h.owned)) (λ a p c. B.above a (omega arith) ∙ A.above a (omega arith));
          sound = S';
        },
        record { kind_is = ap entry_high be ∙ high_of_entry k p (place_lt v); place_is = ap entry_place be ∙ place_of_entry k p (place_lt v) (place_eighth v) ∙ hd.1 },
        T,
        kept_part h.owned KA (λ a. omega (arith, sum_app (touch a) h.owned (freed 1 ls'))),
      )

-- ---- a fresh body: U, then B, then the entry

module _ {f m n g : List ℕ} {h : View} (k : ℕ) (P : Heap f h) (K : Kind k) (R : (h.nums.U < h.nums.N) × (h.nums.B + body_size k ≤ h.nums.F))
    (A : Only f m at_u (at_u + 4)) (au : le 4 m at_u ≡ h.nums.U + 1) (B : Only m n at_b (at_b + 4)) (bb : le 4 n at_b ≡ h.nums.B + body_size k)
    (C : Only n g (entry_at (h.nums.U + 1)) (entry_at (h.nums.U + 1) + 4)) (ce : le 4 g (entry_at (h.nums.U + 1)) ≡ entry_of k h.nums.B) where
  pub fresh_heap : Heap g (given h k) × Entry g (h.nums.U + 1) k h.nums.B × But f g (entry_at (h.nums.U + 1)) (entry_at (h.nums.U + 1) + 4) × Kept f g h.owned
  fresh_heap =
      let H = P.header in
      let gi = H.given_in in
      let bi = H.bump_in in
      let li = H.limits in
      let z = size_eighth k K.0 K.1 in
      let s = h.nums.U + 1 in
      let new = body s k h.nums.B in
      let S' : SoundView (given h k) = sound_fresh P.sound k (omega arith) in
      let T : But f g (entry_at s) (entry_at s + 4) =
      but_on (but_on (field_but (entry_at s) (entry_at s + 4) A (omega arith) (omega arith)) (field_but (entry_at s) (entry_at s + 4) B (omega arith) (omega arith))) (only_but C (omega arith)) in
      let KA = others_kept new (h.owned ++ freed 1 h.lists) S'
      (λ a. omega (arith, sum_cons (touch a) new h.owned, sum_app (touch a) h.owned (freed 1 h.lists), sum_app (touch a) (new ∷ h.owned) (freed 1 h.lists)))
      (omega arith) T (λ a l u. touch_entry a s k h.nums.B l u) in
      let E = mid_entry k h.nums.B bi.0 (omega arith) in
      -- a field above U and below the entry
      let mid : (w p : ℕ) → at_u + 4 ≤ p → p + w ≤ entry_at s → le w g p ≡ le w f p = λ w p l u. le_below w p C u ∙ le_above w p B (omega arith) ∙ le_above w p A l in (
        record {
          header = header_to H (C.size ∙ B.size ∙ A.size) (λ a p. C.below a (omega arith) ∙ B.below a (omega arith) ∙ A.below a (omega arith))
              (λ a p q. C.below a (omega arith) ∙ B.above a (omega arith) ∙ A.above a (omega arith))
              (h.nums.B + body_size k) (h.nums.U + 1) h.nums.R h.nums.X h.nums.root
              (le_below 4 at_b C (omega arith) ∙ bb) (omega arith, omega arith, omega arith)
              (le_below 4 at_u C (omega arith) ∙ le_above 4 at_u B (omega arith) ∙ au) (omega arith)
              (mid 4 at_r (omega arith) (omega arith) ∙ H.records_at) (mid 4 at_x (omega arith) (omega arith) ∙ H.dead_at) (mid 2 at_root (omega arith) (omega arith) ∙ H.root_at)
              (λ a p q. C.above a (omega arith) ∙ B.above a (omega arith) ∙ A.above a (omega arith) ∙ H.above a (omega arith) q);
          lists = lists_frame f g h.lists (λ a p q. C.below a (omega arith) ∙ B.above a (omega arith) ∙ A.above a (omega arith))
              (λ a p. KA.keep a (omega (arith, sum_app (touch a) h.owned (freed 1 h.lists), touch_is a (freed 1 h.lists)))) P.lists;
          clean = λ w. clean_more (given h k).owned (P.clean w) (λ a. omega (arith, sum_cons (cover a) new h.owned)) (λ a p c. C.above a (omega arith) ∙ B.above a (omega arith) ∙ A.above a (omega arith));
          sound = S';
        },
        record { kind_is = ap entry_high ce ∙ E.1; place_is = ap entry_place ce ∙ E.0 },
        T,
        kept_part h.owned KA (λ a. omega (arith, sum_app (touch a) h.owned (freed 1 h.lists))),
      )

-- ---- a body freed: it is zero; the entry has the next slot, then the head is the slot

-- the last two
pub record Listed (f g : List ℕ) (h : View) (s k o : ℕ) (rest : List Item) : Type 0 where
  pub heap : Heap g (released h s k o rest)
  pub but : But f g (entry_at s) (entry_at s + 4)
  pub kept : Kept f g rest

module _ {f m g : List ℕ} {h : View} (s k o : ℕ) (rest : List Item) (P : Heap f h) (K : Kind k) (own : Same h.owned (body s k o ∷ rest)) (eo : place_of f s ≡ o)
    (A : Only f m (entry_at s) (entry_at s + 4)) (ae : le 4 m (entry_at s) ≡ entry_of (le 2 f (at_head k)) (place_of f s))
    (B : Only m g (at_head k) (at_head k + 2)) (bh : le 2 g (at_head k) ≡ s) (Z : (a : ℕ) → 1 ≤ cover a (body s k o) → byte_at f a ≡ 0) where
  pub free_heap : Listed f g h s k o rest
  free_heap =
      let H = P.header in
      let gi = H.given_in in
      let k1 = K.0 in
      let k8 = K.1 in
      let e8 = P.lists.eight in
      let ls = h.lists in
      let l' : List (ℕ × ℕ) = (s, o) ∷ list_of h k in
      let ls' = set ls (k - 1) l' in
      let own' : (w : Item → ℕ) → sum w h.owned ≡ w (body s k o) + sum w rest = λ w. own w ∙ sum_cons w (body s k o) rest in
      let push : (w : Item → ℕ) → sum w (freed 1 ls') ≡ w (body s k o) + sum w (freed 1 ls) = λ w.
      omega (arith, freed_set w 1 k (k - 1) ls l' (omega arith) (omega arith), list_cons w k (s, o) (list_of h k)) in
      let I = lies s k o rest P own k1 k8 in
      let i0 = I.low in
      let i1 = I.high in
      let S' : SoundView (released h s k o rest) =
      sound_same P.sound (all (released h s k o rest)) (λ w. omega (arith, sum_app w h.owned (freed 1 ls), sum_app w rest (freed 1 ls'), own' w, push w)) in
      let T : But f g (entry_at s) (entry_at s + 4) = but_on (only_but A (omega arith)) (field_but (entry_at s) (entry_at s + 4) B (omega arith) (omega arith)) in
      let KA = others_kept (body s k o) (rest ++ freed 1 ls) P.sound
      (λ a. omega (arith, own' (touch a), sum_app (touch a) rest (freed 1 ls), sum_app (touch a) h.owned (freed 1 ls)))
      (omega arith) T (λ a l u. touch_entry a s k o l u) in
      let KF : Kept f g (freed 1 ls) = kept_part (freed 1 ls) KA (λ a. omega (arith, sum_app (touch a) rest (freed 1 ls))) in
      let on : (i : ℕ) → i < 8 → Chain g (le 2 f (at_head (i + 1))) (get_or ls i []) = λ i l.
      chain_frame f g (i + 1) (le 2 f (at_head (i + 1))) (get_or ls i []) (λ a p. KF.keep a (omega (arith, freed_part (on_entry a) 1 (i + 1) i ls (omega arith), touch_is a (freed 1 ls)))) (P.lists.chains i l) in
      let v = le 4 f (entry_at s) in
      let p = place_of f s in
      let next = le 2 f (at_head k) in
      let ee : le 4 g (entry_at s) ≡ entry_of next p = le_above 4 (entry_at s) B (omega arith) ∙ ae in
      record {
        heap = record {
          header = header_keep H (B.size ∙ A.size) (λ a p. B.below a (omega arith) ∙ A.below a (omega arith)) (λ a p q. B.above a (omega arith) ∙ A.below a (omega arith))
              (λ a p q. B.below a (omega arith) ∙ A.below a (omega arith)) (λ a p q. B.above a (omega arith) ∙ A.above a (omega arith));
          lists = record {
            eight = length-set ls (k - 1) l' ∙ e8;
            third = get_or-set_other ls (k - 1) 2 l' [] (λ y. K.2 (omega arith)) ∙ P.lists.third;
            chains = λ i l. elim (ℕ_discrete i (k - 1)) [
              | yes y ↦
                  let e1 : get_or ls' i [] ≡ l' = ap (λ j. get_or ls' j []) y ∙ get_or-set_same ls (k - 1) l' [] (omega arith) in
                  let e2 : at_head (i + 1) ≡ at_head k = omega arith in
                  let e3 : at_head (k - 1 + 1) ≡ at_head k = omega arith in
                  let e4 : high_of g s ≡ le 2 f (at_head (k - 1 + 1)) = ap entry_high ee ∙ high_of_entry next p (place_lt v) ∙ ap (le 2 f) (sym e3) in
                  rw e1 (chain_more g (le 2 g (at_head (i + 1))) (s, o) (list_of h k) (ap (le 2 g) e2 ∙ bh) (ap entry_place ee ∙ place_of_entry next p (place_lt v) (place_eighth v) ∙ eo) (rw e4 (on (k - 1) (omega arith))))
              | no y ↦
                  let e1 : get_or ls' i [] ≡ get_or ls i [] = get_or-set_other ls (k - 1) i l' [] y in
                  let e2 : le 2 g (at_head (i + 1)) ≡ le 2 f (at_head (i + 1)) =
                  elim (dec_lt i (k - 1)) [ yes w ↦ le_below 2 (at_head (i + 1)) B (omega arith) | no w ↦ le_above 2 (at_head (i + 1)) B (omega arith) ] ∙ le_below 2 (at_head (i + 1)) A (omega arith) in
                  rw (e1, e2) (on i l)
            ];
          };
          clean = λ w. clean_less (body s k o) rest (P.clean w) own (λ a p. B.above a (omega arith) ∙ A.above a (omega arith)) Z;
          sound = S';
        };
        but = T;
        kept = kept_part rest KA (λ a. omega (arith, sum_app (touch a) rest (freed 1 ls)));
      }

-- ---- an extent: its bytes, then B

module _ {f m g : List ℕ} {h : View} (n : ℕ) (P : Heap f h) (e8 : n % 8 ≡ 0) (R : h.nums.B + n ≤ h.nums.F)
    (A : Only f m h.nums.B (h.nums.B + n)) (B : Only m g at_b (at_b + 4)) (bb : le 4 g at_b ≡ h.nums.B + n) where
  pub extend_heap : Heap g (extended h n) × But f g h.nums.B (h.nums.B + n) × Kept f g h.owned
  extend_heap =
      let H = P.header in
      let gi = H.given_in in
      let bi = H.bump_in in
      let new = extent h.nums.B n in
      let S' : SoundView (extended h n) = sound_extent P.sound n (omega arith) in
      let T : But f g h.nums.B (h.nums.B + n) = but_on (only_but A (omega arith)) (field_but h.nums.B (h.nums.B + n) B (omega arith) (omega arith)) in
      let KA = others_kept new (h.owned ++ freed 1 h.lists) S'
      (λ a. omega (arith, sum_cons (touch a) new h.owned, sum_app (touch a) h.owned (freed 1 h.lists), sum_app (touch a) (new ∷ h.owned) (freed 1 h.lists)))
      (omega arith) T (λ a l u. touch_extent a h.nums.B n l u) in
      -- a field above B and below the data
      let mid : (w p : ℕ) → at_b + 4 ≤ p → p + w ≤ header_size → le w g p ≡ le w f p = λ w p l u. le_above w p B l ∙ le_below w p A (omega arith) in (
        record {
          header = header_to H (B.size ∙ A.size) (λ a p. B.below a (omega arith) ∙ A.below a (omega arith)) (λ a p q. B.above a (omega arith) ∙ A.below a (omega arith))
              (h.nums.B + n) h.nums.U h.nums.R h.nums.X h.nums.root
              bb (omega arith, omega arith, omega arith)
              (mid 4 at_u (omega arith) (omega arith) ∙ H.given_at) (omega arith)
              (mid 4 at_r (omega arith) (omega arith) ∙ H.records_at) (mid 4 at_x (omega arith) (omega arith) ∙ H.dead_at) (mid 2 at_root (omega arith) (omega arith) ∙ H.root_at)
              (λ a p q. B.above a (omega arith) ∙ A.below a (omega arith) ∙ H.above a p q);
          lists = lists_frame f g h.lists (λ a p q. B.above a (omega arith) ∙ A.below a (omega arith))
              (λ a p. KA.keep a (omega (arith, sum_app (touch a) h.owned (freed 1 h.lists), touch_is a (freed 1 h.lists)))) P.lists;
          clean = λ w. clean_more (extended h n).owned (P.clean w) (λ a. omega (arith, sum_cons (cover a) new h.owned))
              (λ a p c. B.above a (omega arith) ∙ elim (dec_lt a h.nums.B) [
                | yes q ↦ A.below a q
                | no q ↦ elim (dec_lt a (h.nums.B + n)) [
                  | yes y ↦ absurd (omega (arith, cover_extent a h.nums.B n (omega arith) y, sum_cons (cover a) new h.owned))
                  | no y ↦ A.above a (omega arith)
                ]
              ]);
          sound = S';
        },
        T,
        kept_part h.owned KA (λ a. omega (arith, sum_app (touch a) h.owned (freed 1 h.lists))),
      )

-- ---- R, X and the root slot: one field

-- what is written in the header alone leaves all items
top_kept : {f g : List ℕ} {lo hi d u b x : ℕ} {is : List Item} → Only f g lo hi → hi ≤ header_size → header_size ≤ d → Sound d u b x is → Kept f g is
top_kept O h l S = record { size = O.size; keep = λ a p. elim (dec_lt a header_size) [ yes q ↦ absurd (omega (arith, touch_head S l a q)) | no q ↦ O.above a (omega arith) ] }

module _ {f g : List ℕ} {h : View} (P : Heap f h) where
  tops : {lo hi : ℕ} → Only f g lo hi → hi ≤ at_head 1 → Lists g h.lists × Kept f g h.owned
  tops O l =
      let K = top_kept O (omega arith) (omega arith) P.sound in (
        lists_frame f g h.lists (λ a p q. O.above a (omega arith)) (λ a p. K.keep a (omega (arith, sum_app (touch a) h.owned (freed 1 h.lists), touch_is a (freed 1 h.lists)))) P.lists,
        kept_part h.owned K (λ a. omega (arith, sum_app (touch a) h.owned (freed 1 h.lists))),
      )

  pub record_heap : (r : ℕ) → Only f g at_r (at_r + 4) → le 4 g at_r ≡ r → Renumbered f g h (recorded h r)
  record_heap r O e =
      let H = P.header in
      record {
        heap = record {
          header = header_to H O.size (λ a p. O.below a (omega arith)) (λ a p q. O.above a (omega arith)) h.nums.B h.nums.U r h.nums.X h.nums.root
              (le_below 4 at_b O (omega arith) ∙ H.bump_at) H.bump_in (le_below 4 at_u O (omega arith) ∙ H.given_at) H.given_in
              e (le_above 4 at_x O (omega arith) ∙ H.dead_at) (le_above 2 at_root O (omega arith) ∙ H.root_at) (λ a p q. O.above a (omega arith) ∙ H.above a p q);
          lists = (tops O (omega arith)).0;
          clean = λ w. clean_more h.owned (P.clean w) (λ a. omega arith) (λ a p c. O.above a (omega arith));
          sound = P.sound;
        };
        but = field_but 0 0 O (omega arith) (omega arith);
        kept = (tops O (omega arith)).1;
      }

  pub retire_heap : (o n : ℕ) (rest : List Item) → Same h.owned (extent o n ∷ rest) → Only f g at_x (at_x + 4) → le 4 g at_x ≡ h.nums.X + n → ((a : ℕ) → 1 ≤ cover a (extent o n) → byte_at f a ≡ 0)
      → Renumbered f g h (retired h n rest)
  retire_heap o n rest own O e Z =
      let H = P.header in
      record {
        heap = record {
          header = header_to H O.size (λ a p. O.below a (omega arith)) (λ a p q. O.above a (omega arith)) h.nums.B h.nums.U h.nums.R (h.nums.X + n) h.nums.root
              (le_below 4 at_b O (omega arith) ∙ H.bump_at) H.bump_in (le_below 4 at_u O (omega arith) ∙ H.given_at) H.given_in
              (le_below 4 at_r O (omega arith) ∙ H.records_at) e (le_above 2 at_root O (omega arith) ∙ H.root_at) (λ a p q. O.above a (omega arith) ∙ H.above a p q);
          lists = (tops O (omega arith)).0;
          clean = λ w. clean_less (extent o n) rest (P.clean w) own (λ a p. O.above a (omega arith)) Z;
          sound = sound_retire o n (sound_same P.sound (extent o n ∷ (rest ++ freed 1 h.lists))
              (λ w. omega (arith, own w, sum_cons w (extent o n) rest, sum_cons w (extent o n) (rest ++ freed 1 h.lists), sum_app w h.owned (freed 1 h.lists), sum_app w rest (freed 1 h.lists))));
        };
        but = field_but 0 0 O (omega arith) (omega arith);
        kept = (tops O (omega arith)).1;
      }

  pub root_heap : (s : ℕ) → Only f g at_root (at_root + 2) → le 2 g at_root ≡ s → Renumbered f g h (rooted h s)
  root_heap s O e =
      let H = P.header in
      record {
        heap = record {
          header = header_to H O.size (λ a p. O.below a (omega arith)) (λ a p q. O.above a (omega arith)) h.nums.B h.nums.U h.nums.R h.nums.X s
              (le_below 4 at_b O (omega arith) ∙ H.bump_at) H.bump_in (le_below 4 at_u O (omega arith) ∙ H.given_at) H.given_in
              (le_below 4 at_r O (omega arith) ∙ H.records_at) (le_below 4 at_x O (omega arith) ∙ H.dead_at) e (λ a p q. O.above a (omega arith) ∙ H.above a p q);
          lists = (tops O (omega arith)).0;
          clean = λ w. clean_more h.owned (P.clean w) (λ a. omega arith) (λ a p c. O.above a (omega arith));
          sound = P.sound;
        };
        but = field_but 0 0 O (omega arith) (omega arith);
        kept = (tops O (omega arith)).1;
      }
