-- A frame's heap through a write: which bytes it hangs on, what a write inside one item leaves of the others, and where an item can lie.
-- Assumes nothing.
use Prim.Native.Nat.{ℕ, zero, suc, ◌+◌, ◌-◌, ◌%◌, ◌<◌, ◌≤◌}
use mathlib.Core.Path.{◌≡◌, refl, ◌∙◌}
use mathlib.Core.List.{List, [], ◌∷◌, ◌++◌}
use mathlib.Core.Logic.{◌⊎◌, inl, inr}
use native.Mathlib.Omega.{arith}
use native.Mathlib.Decide.{dec_le, dec_lt}
use lib.ListN.{length, get_or, set}
use Rattle.layout.specs.Number.{byte_at, le}
use Rattle.layout.specs.Place.{at_edition, at_f, at_n, at_d, at_b, at_u, at_r, at_x, at_root, at_head, at_spare, header_size, entry_at, data_start}
use Rattle.layout.specs.Kind.{body_size, Kind}
use Rattle.layout.specs.Entry.{entry_of, entry_place, entry_high, high_of}
use Rattle.layout.proofs.NumberLaws.{le_same}
use Rattle.layout.proofs.KindLaws.{size_least}
use Rattle.layout.proofs.EntryLaws.{high_of_entry, place_of_entry}
use Rattle.model.specs.Item.{Item, body, extent, on_slot, cover, on_entry, touch, sum, Same, Sound}
use Rattle.model.specs.Frame.{Numbers, View, Entry, Chain, list_items, freed, Header, Lists, Clean, Heap}
use Rattle.model.proofs.ItemLaws.{in_yes, in_where, sum_app, sum_cons, sound_same, entry_none, touch_few, touch_head}
use Rattle.moves.specs.Moved.{Only}
use Rattle.room.specs.View.{renumbered, holding, list_of, slot_from, place_from, taken_from, taken}
use Rattle.room.specs.Step.{But, Kept, Took}

-- ---- a number below or above a write

pub le_below : {f g : List ℕ} {lo hi : ℕ} (w p : ℕ) → Only f g lo hi → p + w ≤ lo → le w g p ≡ le w f p
le_below {f} {g} w p O h = le_same w g f p (λ a x y. O.below a (omega arith))

pub le_above : {f g : List ℕ} {lo hi : ℕ} (w p : ℕ) → Only f g lo hi → hi ≤ p → le w g p ≡ le w f p
le_above {f} {g} w p O h = le_same w g f p (λ a x y. O.above a (omega arith))

-- ---- the lists' items

pub list_cons : (w : Item → ℕ) (k : ℕ) (x : ℕ × ℕ) (xs : List (ℕ × ℕ)) → sum w (list_items k (x ∷ xs)) ≡ w (body x.0 k x.1) + sum w (list_items k xs)
unfolding list_items sum
list_cons w k x xs = refl

-- one list is exchanged for another
pub freed_set : (w : Item → ℕ) (k m i : ℕ) (ls : List (List (ℕ × ℕ))) (r : List (ℕ × ℕ)) → m ≡ k + i → i < length ls
    → sum w (freed k ls) + sum w (list_items m r) ≡ sum w (freed k (set ls i r)) + sum w (list_items m (get_or ls i []))
unfolding freed
freed_set w k m i [] r e h = absurd (omega arith)
freed_set w k m zero (l ∷ ls) r e h =
    let z : m ≡ k = omega arith in
    rw z (omega (arith, sum_app w (list_items k l) (freed (suc k) ls), sum_app w (list_items k r) (freed (suc k) ls)))
freed_set w k m (suc i) (l ∷ ls) r e h =
    omega (
      arith,
      sum_app w (list_items k l) (freed (suc k) ls),
      sum_app w (list_items k l) (freed (suc k) (set ls i r)),
      freed_set w (suc k) m i ls r (omega arith) (omega arith),
    )

pub freed_part : (w : Item → ℕ) (k m i : ℕ) (ls : List (List (ℕ × ℕ))) → m ≡ k + i → sum w (list_items m (get_or ls i [])) ≤ sum w (freed k ls)
unfolding freed list_items sum
freed_part w k m zero [] e = omega arith
freed_part w k m (suc i) [] e = omega arith
freed_part w k m zero (l ∷ ls) e = let z : m ≡ k = omega arith in rw z (omega (arith, sum_app w (list_items k l) (freed (suc k) ls)))
freed_part w k m (suc i) (l ∷ ls) e = omega (arith, sum_app w (list_items k l) (freed (suc k) ls), freed_part w (suc k) m i ls (omega arith))

-- ---- where an item stands

on_entry_lem : (s k o a : ℕ) → entry_at s ≤ a → a < entry_at s + 4 → on_entry a (body s k o) ≡ 1
unfolding on_entry
on_entry_lem s k o a h l = in_yes (entry_at s) 4 a h l

cover_at : (a s k o : ℕ) → o ≤ a → a < o + body_size k → cover a (body s k o) ≡ 1
unfolding cover
cover_at a s k o l u = in_yes o (body_size k) a l u

pub cover_body : (a s k o : ℕ) → o ≤ a → a < o + body_size k → 1 ≤ cover a (body s k o)
cover_body a s k o l u = omega (arith, cover_at a s k o l u)

pub cover_extent : (a e n : ℕ) → e ≤ a → a < e + n → 1 ≤ cover a (extent e n)
unfolding cover
cover_extent a e n l u = omega (arith, in_yes e n a l u)

-- only what lies in it is covered
pub body_covers : (a s k o : ℕ) → 1 ≤ cover a (body s k o) → (o ≤ a) × (a < o + body_size k)
unfolding cover
body_covers a s k o h = (in_where o (body_size k) a).is h

pub extent_covers : (a e n : ℕ) → 1 ≤ cover a (extent e n) → (e ≤ a) × (a < e + n)
unfolding cover
extent_covers a e n h = (in_where e n a).is h

cover_touch : (a : ℕ) (i : Item) → cover a i ≤ touch a i
unfolding touch
cover_touch a i = omega arith

pub touch_entry : (a s k o : ℕ) → entry_at s ≤ a → a < entry_at s + 4 → 1 ≤ touch a (body s k o)
unfolding touch
touch_entry a s k o l u = omega (arith, on_entry_lem s k o a l u)

pub touch_body : (a s k o : ℕ) → o ≤ a → a < o + body_size k → 1 ≤ touch a (body s k o)
touch_body a s k o l u = omega (arith, cover_body a s k o l u, cover_touch a (body s k o))

pub touch_extent : (a e n : ℕ) → e ≤ a → a < e + n → 1 ≤ touch a (extent e n)
touch_extent a e n l u = omega (arith, cover_extent a e n l u, cover_touch a (extent e n))

-- ---- what header and lists hang on

-- a list of freed slots hangs on its slots' entries only
pub chain_frame : (f g : List ℕ) (k h : ℕ) (xs : List (ℕ × ℕ)) → ((a : ℕ) → 1 ≤ sum (on_entry a) (list_items k xs) → byte_at g a ≡ byte_at f a) → Chain f h xs → Chain g h xs
unfolding Chain
chain_frame f g k h [] H C = C
chain_frame f g k h (x ∷ xs) H C =
    let e : le 4 g (entry_at x.0) ≡ le 4 f (entry_at x.0) = le_same 4 g f (entry_at x.0) (λ a l u. H a (omega (arith, list_cons (on_entry a) k x xs, on_entry_lem x.0 k x.1 a l u))) in
    (C.0, rw e C.1, rw e (chain_frame f g k (high_of f x.0) xs (λ a l. H a (omega (arith, list_cons (on_entry a) k x xs))) C.2))

pub lists_frame : (f g : List ℕ) (ls : List (List (ℕ × ℕ))) → ((a : ℕ) → at_head 1 ≤ a → a < at_spare → byte_at g a ≡ byte_at f a)
    → ((a : ℕ) → 1 ≤ sum (on_entry a) (freed 1 ls) → byte_at g a ≡ byte_at f a) → Lists f ls → Lists g ls
lists_frame f g ls H K L =
    record {
      eight = L.eight;
      third = L.third;
      chains = λ i l. let e : le 2 g (at_head (i + 1)) ≡ le 2 f (at_head (i + 1)) = le_same 2 g f (at_head (i + 1)) (λ a p q. H a (omega arith) (omega arith)) in
          rw e (chain_frame f g (i + 1) (le 2 f (at_head (i + 1))) (get_or ls i []) (λ a p. K a (omega (arith, freed_part (on_entry a) 1 (i + 1) i ls (omega arith)))) (L.chains i l));
    }

module _ {f g : List ℕ} {n : Numbers} (H : Header f n) (same : length g ≡ length f) (first : (a : ℕ) → a < at_b → byte_at g a ≡ byte_at f a)
    (tail : (a : ℕ) → at_spare ≤ a → a < header_size → byte_at g a ≡ byte_at f a) where
  -- five numbers of the header change
  pub header_to : (b u r x t : ℕ) → le 4 g at_b ≡ b → (b % 8 ≡ 0) × (data_start n.N + 8 ≤ b) × (b ≤ n.F) → le 4 g at_u ≡ u → (1 ≤ u) × (u ≤ n.N)
      → le 4 g at_r ≡ r → le 4 g at_x ≡ x → le 2 g at_root ≡ t → ((a : ℕ) → entry_at (u + 1) ≤ a → a < data_start n.N → byte_at g a ≡ 0)
      → Header g (renumbered n b u r x t)
  header_to b u r x t eb ib eu iu er ex et ab =
      record {
        size = same ∙ H.size;
        limits = H.limits;
        edition = le_same 4 g f at_edition (λ a p q. first a (omega arith)) ∙ H.edition;
        stored = le_same 4 g f at_f (λ a p q. first a (omega arith)) ∙ H.stored;
        slots_at = le_same 4 g f at_n (λ a p q. first a (omega arith)) ∙ H.slots_at;
        slot_cap = H.slot_cap;
        data_at = le_same 4 g f at_d (λ a p q. first a (omega arith)) ∙ H.data_at;
        bump_at = eb;
        bump_in = ib;
        given_at = eu;
        given_in = iu;
        records_at = er;
        dead_at = ex;
        root_at = et;
        spare = λ a p q. tail a p q ∙ H.spare a p q;
        above = ab;
      }

  pub header_keep : ((a : ℕ) → at_b ≤ a → a < at_head 1 → byte_at g a ≡ byte_at f a) → ((a : ℕ) → entry_at (n.U + 1) ≤ a → a < data_start n.N → byte_at g a ≡ byte_at f a) → Header g n
  header_keep mid ab =
      header_to n.B n.U n.R n.X n.root
      (le_same 4 g f at_b (λ a p q. mid a (omega arith) (omega arith)) ∙ H.bump_at) H.bump_in
      (le_same 4 g f at_u (λ a p q. mid a (omega arith) (omega arith)) ∙ H.given_at) H.given_in
      (le_same 4 g f at_r (λ a p q. mid a (omega arith) (omega arith)) ∙ H.records_at)
      (le_same 4 g f at_x (λ a p q. mid a (omega arith) (omega arith)) ∙ H.dead_at)
      (le_same 2 g f at_root (λ a p q. mid a (omega arith) (omega arith)) ∙ H.root_at)
      (λ a p q. ab a p q ∙ H.above a p q)

-- ---- what nothing owned covers is zero

-- as much or more is owned, and what it does not cover is as it was
pub clean_more : {f g : List ℕ} {d : ℕ} {is : List Item} (js : List Item) → Clean f d is → ((a : ℕ) → sum (cover a) is ≤ sum (cover a) js) → ((a : ℕ) → d ≤ a → sum (cover a) js ≡ 0 → byte_at g a ≡ byte_at f a) → Clean g d js
clean_more js C e K = record { zero = λ a p c. K a p c ∙ C.zero a p (omega (arith, e a)) }

-- one item is no longer owned, and is zero
pub clean_less : {f g : List ℕ} {d : ℕ} {is : List Item} (i : Item) (rest : List Item) → Clean f d is → Same is (i ∷ rest) → ((a : ℕ) → d ≤ a → byte_at g a ≡ byte_at f a) → ((a : ℕ) → 1 ≤ cover a i → byte_at f a ≡ 0) → Clean g d rest
clean_less i rest C own K Z =
    record {
      zero = λ a p c. K a p ∙ elim (dec_lt 0 (cover a i)) [ yes q ↦ Z a q | no q ↦ C.zero a p (omega (arith, own (cover a), sum_cons (cover a) i rest)) ];
    }

-- ---- the heap

-- a heap hangs on the bytes below its data and on those that nothing owned covers
pub heap_low : (f g : List ℕ) (h : View) → length g ≡ length f → ((a : ℕ) → a < data_start h.nums.N → byte_at g a ≡ byte_at f a)
    → ((a : ℕ) → data_start h.nums.N ≤ a → sum (cover a) h.owned ≡ 0 → byte_at g a ≡ byte_at f a) → Heap f h → Heap g h
heap_low f g h same K Q P =
    let S = P.sound in
    let cap = P.header.slot_cap in
    let gv = P.header.given_in in
    record {
      header = header_keep P.header same (λ a p. K a (omega arith)) (λ a p q. K a (omega arith)) (λ a p q. K a (omega arith)) (λ a p q. K a q);
      lists = lists_frame f g h.lists (λ a p q. K a (omega arith))
          (λ a p. elim (dec_lt a (data_start h.nums.N)) [
            | yes q ↦ K a q
            | no q ↦ absurd (omega (arith, entry_none S a (omega arith), sum_app (on_entry a) h.owned (freed 1 h.lists)))
          ]) P.lists;
      clean = λ w. clean_more h.owned (P.clean w) (λ a. omega arith) Q;
      sound = S;
    }

-- what is owned may be named in any order
pub heap_same : {f : List ℕ} {h : View} (is : List Item) → Same h.owned is → Heap f h → Heap f (holding h is)
heap_same {f} {h} is e P =
    record {
      header = P.header;
      lists = P.lists;
      clean = λ w. clean_more is (P.clean w) (λ a. omega (arith, e (cover a))) (λ a p c. refl);
      sound = sound_same P.sound (is ++ freed 1 h.lists) (λ w. omega (arith, e w, sum_app w h.owned (freed 1 h.lists), sum_app w is (freed 1 h.lists)));
    }

-- ---- what is kept

-- a write to the fields and where item i stands leaves the others
pub others_kept : {f g : List ℕ} {lo hi d u b x : ℕ} {is : List Item} (i : Item) (rest : List Item) → Sound d u b x is
    → ((a : ℕ) → touch a i + sum (touch a) rest ≤ sum (touch a) is) → entry_at (u + 1) ≤ d → But f g lo hi → ((a : ℕ) → lo ≤ a → a < hi → 1 ≤ touch a i) → Kept f g rest
others_kept {is = is} i rest S e h B T =
    record {
      size = B.size;
      keep = λ a p. elim (dec_lt a header_size) [
        | yes q ↦ absurd (omega (arith, touch_head S (omega arith) a q, e a))
        | no q ↦ B.keep a (omega arith) (λ l u. omega (arith, touch_few S (omega arith) a, e a, T a l u))
      ];
    }

pub kept_part : {f g : List ℕ} {is : List Item} (js : List Item) → Kept f g is → ((a : ℕ) → sum (touch a) js ≤ sum (touch a) is) → Kept f g js
kept_part js A p = record { size = A.size; keep = λ a h. A.keep a (omega (arith, p a)) }

pub kept_then : {f g h : List ℕ} {is : List Item} → Kept f g is → Kept g h is → Kept f h is
kept_then A B = record { size = B.size ∙ A.size; keep = λ a p. B.keep a p ∙ A.keep a p }

-- an item's entry is kept
pub kept_entry : {f g : List ℕ} {is : List Item} (s k o : ℕ) → Kept f g is → ((a : ℕ) → touch a (body s k o) ≤ sum (touch a) is) → Entry f s k o → Entry g s k o
kept_entry {f} {g} s k o K p E =
    let e : le 4 g (entry_at s) ≡ le 4 f (entry_at s) = le_same 4 g f (entry_at s) (λ a l u. K.keep a (omega (arith, p a, touch_entry a s k o l u))) in
    record { kind_is = rw e E.kind_is; place_is = rw e E.place_is }

-- two writes to the fields and the same bytes, and fewer bytes among more
pub but_on : {f g h : List ℕ} {lo hi : ℕ} → But f g lo hi → But g h lo hi → But f h lo hi
but_on A B = record { size = B.size ∙ A.size; first = λ a h. B.first a h ∙ A.first a h; keep = λ a h n. B.keep a h n ∙ A.keep a h n }

-- a write behind the fields
pub only_but : {f g : List ℕ} {lo hi : ℕ} → Only f g lo hi → at_spare ≤ lo → But f g lo hi
only_but {f} {g} {lo} {hi} O l =
    record {
      size = O.size;
      first = λ a h. O.below a (omega arith);
      keep = λ a h n. elim (dec_lt a lo) [ yes p ↦ O.below a p | no p ↦ elim (dec_lt a hi) [ yes q ↦ absurd (n (omega arith) q) | no q ↦ O.above a (omega arith) ] ];
    }

-- and one to the fields alone
pub field_but : {f g : List ℕ} {lo hi : ℕ} (l u : ℕ) → Only f g lo hi → at_b ≤ lo → hi ≤ at_spare → But f g l u
field_but l u O p q = record { size = O.size; first = λ a h. O.below a (omega arith); keep = λ a h n. O.above a (omega arith) }

-- ---- where an item can lie

module _ {d u b x : ℕ} {is : List Item} (S : Sound d u b x is) where
  pub body_in : (s k o : ℕ) (rest : List Item) → ((w : Item → ℕ) → w (body s k o) + sum w rest ≤ sum w is) → 1 ≤ body_size k → (1 ≤ s) × (s ≤ u) × (d ≤ o) × (o + body_size k ≤ b)
  unfolding on_slot cover
  body_in s k o rest e h =
      let z = in_yes s 1 s (omega arith) (omega arith) in
      let y = in_yes o (body_size k) o (omega arith) (omega arith) in
      let y' = in_yes o (body_size k) (o + body_size k - 1) (omega arith) (omega arith) in (
        elim (dec_lt 0 s) [ yes p ↦ p | no p ↦ let q : s ≡ 0 = omega arith in absurd (omega (arith, rw q at (e (on_slot s)), rw q at z, S.zeroth)) ],
        elim (dec_le s u) [ yes p ↦ p | no p ↦ absurd (omega (arith, e (on_slot s), S.past s (omega arith))) ],
        elim (dec_le d o) [ yes p ↦ p | no p ↦ absurd (omega (arith, e (cover o), S.low o (omega arith))) ],
        elim (dec_le (o + body_size k) b) [ yes p ↦ p | no p ↦ absurd (omega (arith, e (cover (o + body_size k - 1)), S.high (o + body_size k - 1) (omega arith))) ],
      )

  pub extent_in : (e n : ℕ) (rest : List Item) → ((w : Item → ℕ) → w (extent e n) + sum w rest ≤ sum w is) → 1 ≤ n → (d ≤ e) × (e + n ≤ b)
  extent_in e n rest h l =
      let y = cover_extent e e n (omega arith) (omega arith) in
      let y' = cover_extent (e + n - 1) e n (omega arith) (omega arith) in (
        elim (dec_le d e) [ yes p ↦ p | no p ↦ absurd (omega (arith, h (cover e), S.low e (omega arith))) ],
        elim (dec_le (e + n) b) [ yes p ↦ p | no p ↦ absurd (omega (arith, h (cover (e + n - 1)), S.high (e + n - 1) (omega arith))) ],
      )

  -- two bodies do not overlap
  pub two_apart : (s k o s' k' o' : ℕ) → ((w : Item → ℕ) → w (body s k o) + w (body s' k' o') ≤ sum w is) → 1 ≤ body_size k → 1 ≤ body_size k' → (o + body_size k ≤ o') ⊎ (o' + body_size k' ≤ o)
  two_apart s k o s' k' o' h p p' = elim (dec_le (o + body_size k) o') [
    | yes a ↦ inl a
    | no a ↦ elim (dec_le (o' + body_size k') o) [
      | yes c ↦ inr c
      | no c ↦ elim (dec_le o o') [
        | yes e ↦ absurd (omega (arith, h (cover o'), S.apart o', cover_at o' s k o e (omega arith), cover_at o' s' k' o' (omega arith) (omega arith)))
        | no e ↦ absurd (omega (arith, h (cover o), S.apart o, cover_at o s k o (omega arith) (omega arith), cover_at o s' k' o' (omega arith) (omega arith)))
      ]
    ]
  ]

-- where an owned body lies
pub record Lies (h : View) (s k o : ℕ) : Type 0 where
  pub low : 1 ≤ s
  pub high : s ≤ h.nums.U
  pub table : s ≤ h.nums.N
  pub starts : data_start h.nums.N ≤ o
  pub ends : o + body_size k ≤ h.nums.F

pub lies : {f : List ℕ} {h : View} (s k o : ℕ) (rest : List Item) → Heap f h → Same h.owned (body s k o ∷ rest) → 1 ≤ k → k ≤ 8 → Lies h s k o
lies {f} {h} s k o rest P own k1 k8 =
    let z = size_least k k1 k8 in
    let I = body_in P.sound s k o rest (λ w. omega (arith, sum_app w h.owned (freed 1 h.lists), own w, sum_cons w (body s k o) rest)) (omega arith) in
    let gi = P.header.given_in in
    let bi = P.header.bump_in in
    record { low = I.0; high = I.1; table = omega (arith, I.1); starts = I.2; ends = omega (arith, I.3) }

-- what is owned after a take, and where the new body lies
pub taken_owned : (h : View) (k : ℕ) → Same (taken h k).owned (body (slot_from h (list_of h k)) k (place_from h (list_of h k)) ∷ h.owned)
unfolding taken_from slot_from place_from
taken_owned h k w = go (list_of h k)
  where
    go : (l : List (ℕ × ℕ)) → sum w (taken_from h k l).owned ≡ sum w (body (slot_from h l) k (place_from h l) ∷ h.owned)
    go [] = refl
    go (x ∷ r) = refl

pub took_lies : {f g : List ℕ} {h : View} {k s : ℕ} → Took f g h k s → Kind k → Lies (taken h k) s k (place_from h (list_of h k))
took_lies {f} {g} {h} {k} {s} T K = lies s k (place_from h (list_of h k)) h.owned T.heap (rw T.slot (taken_owned h k)) K.0 K.1

-- ---- writing where an owned item stands

-- that leaves the heap, all other items, and all entries
pub record Wrote (f g : List ℕ) (h : View) (rest : List Item) : Type 0 where
  pub heap : Heap g h
  pub kept : Kept f g rest
  pub low : (a : ℕ) → a < data_start h.nums.N → byte_at g a ≡ byte_at f a

pub own_write : {f g : List ℕ} {h : View} {lo hi : ℕ} (i : Item) (rest : List Item) → Heap f h → Same h.owned (i ∷ rest) → Only f g lo hi → lo < hi
    → ((a : ℕ) → lo ≤ a → a < hi → 1 ≤ cover a i) → Wrote f g h rest
own_write {f} {g} {h} {lo} {hi} i rest P own O some C =
    let gi = P.header.given_in in
    let d = data_start h.nums.N in
    let above : d ≤ lo = elim (dec_le d lo) [
      | yes p ↦ p
      | no p ↦ absurd (omega (arith, P.sound.low lo (omega arith), sum_app (cover lo) h.owned (freed 1 h.lists), own (cover lo), sum_cons (cover lo) i rest, C lo (omega arith) some))
    ] in
    let lows : (a : ℕ) → a < d → byte_at g a ≡ byte_at f a = λ a l. O.below a (omega arith) in
    record {
      heap = heap_low f g h O.size lows
          (λ a p c. elim (dec_lt a lo) [
            | yes q ↦ O.below a q
            | no q ↦ elim (dec_lt a hi) [ yes r ↦ absurd (omega (arith, C a (omega arith) r, own (cover a), sum_cons (cover a) i rest)) | no r ↦ O.above a (omega arith) ]
          ]) P;
      kept = others_kept i rest P.sound
          (λ a. omega (arith, sum_app (touch a) h.owned (freed 1 h.lists), own (touch a), sum_cons (touch a) i rest)) (omega arith)
          (only_but O (omega arith)) (λ a l u. omega (arith, C a l u, cover_touch a i));
      low = lows;
    }

-- also of no byte at all
pub any_write : {f g : List ℕ} {h : View} {lo hi : ℕ} (i : Item) (rest : List Item) → Heap f h → Same h.owned (i ∷ rest) → Only f g lo hi
    → ((a : ℕ) → lo ≤ a → a < hi → 1 ≤ cover a i) → Wrote f g h rest
any_write {f} {g} {h} {lo} {hi} i rest P own O C = elim (dec_lt lo hi) [
  | yes p ↦ own_write i rest P own O p C
  | no p ↦
      let all : (a : ℕ) → byte_at g a ≡ byte_at f a = λ a. elim (dec_lt a lo) [ yes q ↦ O.below a q | no q ↦ O.above a (omega arith) ] in
      record { heap = heap_low f g h O.size (λ a l. all a) (λ a l c. all a) P; kept = record { size = O.size; keep = λ a l. all a }; low = λ a l. all a }
]

pub low_entry : {f g : List ℕ} {h : View} {rest : List Item} (s k o : ℕ) → Wrote f g h rest → s ≤ h.nums.N → Entry f s k o → Entry g s k o
low_entry {f} {g} s k o W l E =
    let e : le 4 g (entry_at s) ≡ le 4 f (entry_at s) = le_same 4 g f (entry_at s) (λ a p q. W.low a (omega arith)) in
    record { kind_is = rw e E.kind_is; place_is = rw e E.place_is }

-- an entry of a body at a multiple of 8 in a frame
pub mid_entry : (k b : ℕ) → b % 8 ≡ 0 → b ≤ 524288 → (entry_place (entry_of k b) ≡ b) × (entry_high (entry_of k b) ≡ k)
mid_entry k b e l = (place_of_entry k b (omega arith) e, high_of_entry k b (omega arith))
