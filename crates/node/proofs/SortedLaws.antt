-- Node4 and Node16, once for both: a body of cap places whose bytes start at `bytes`. Assumes nothing.
use Prim.Native.Nat.{ℕ, ◌+◌, ◌*◌, ◌-◌, ◌<◌, ◌≤◌}
use mathlib.Core.Path.{◌≡◌, refl, ◌∙◌, ap, sym}
use mathlib.Core.List.{List, []}
use mathlib.Core.Option.{none, some}
use mathlib.Core.Logic.{inl, inr}
use native.Mathlib.Omega.{arith}
use native.Mathlib.Decide.{dec_le, dec_lt, ℕ_discrete}
use lib.ListN.{length, get_or, set, length-set, get_or-eq_default}
use lib.Seq.{get_or-set_same, get_or-set_other, ext_get_or}
use Rattle.layout.specs.Number.{byte_at, le, put}
use Rattle.layout.specs.Place.{node_count}
use Rattle.layout.proofs.NumberLaws.{le_moved, le_put, le_zero}
use Rattle.model.specs.Body.{byte_in, child_in, Asc, look_kid, SortedAt}
use Rattle.node.specs.Kids.{insert_kid, remove_kid, set_kid, place_of, rank_of, next_kid}
use Rattle.moves.specs.Moved.{Only, Keeps, Opened, Closed}
use Rattle.node.specs.Sorted.{Row, Half, SortedHas}
use Rattle.node.specs.Word.{First}
use Rattle.moves.proofs.MoveLaws.{only_none, only_set, only_put, only_sym, only_then, only_widen, le_only, le_keeps, other_child}
use Rattle.node.proofs.KidsLaws.{insert_at, remove_at, length_insert_at, insert_at_low, insert_at_here, insert_at_high, length_remove_at, remove_at_low, remove_at_high, insert_at_lem, remove_at_lem, asc_insert, asc_less, asc_remove, asc_set, set_place, place_lt, place_is, rank_is, next_is, next_none, look_in, look_out}

-- ---- what the searches look at

pub sorted_row : {f : List ℕ} {o cap bytes : ℕ} {ks : List (ℕ × ℕ)} → SortedAt f o cap bytes ks → Row f (o + bytes) ks
sorted_row N = let few = N.few in record { bytes = λ i l. N.bytes_are i (omega arith); asc = N.asc }

-- a search stopped at r
module _ {f : List ℕ} {at n b r : ℕ} (ks : List (ℕ × ℕ)) (R : Row f at ks) (en : n ≡ length ks) (within : r ≤ n) where
  pub place_row : ((k : ℕ) → k < r → byte_at f (at + k) ≡ b → ⊥) → (r < n → byte_at f (at + r) ≡ b) → r ≡ place_of b ks
  place_row before found =
      place_is b ks r (omega arith)
      (λ k h e. before k h (R.bytes k (omega arith) ∙ e))
      (λ h. sym (R.bytes r h) ∙ found (omega arith))

  pub rank_row : ((k : ℕ) → k < r → byte_at f (at + k) ≤ b) → (r < n → b < byte_at f (at + r)) → r ≡ rank_of b ks
  rank_row before found =
      rank_is b ks r (omega arith)
      (λ k h. omega (arith, before k h, R.bytes k (omega arith)))
      (λ h. omega (arith, found (omega arith), R.bytes r h))

-- ---- halving

-- the bytes are cut behind byte m; those from `half` on, w of them, hold all behind the cut, and those up to m are the first w
module _ {f : List ℕ} {at n b w k : ℕ} (m : ℕ) (ks : List (ℕ × ℕ)) (R : Row f at ks) (en : n ≡ length ks) (cut : m + 1 ≡ w) (few : w ≤ n) where
  upper_half : {half : ℕ} → byte_at f (at + m) < b → half + w ≡ n → half ≤ w → First f (at + half) w b k → half + k ≡ place_of b ks
  upper_half {half} above e h F =
      let l = F.within in
      place_row ks R en (omega arith)
      (λ j u q. elim (dec_lt j half) [
        | yes low ↦ elim (ℕ_discrete j m) [
          | yes p ↦ omega (arith, ap (λ (i : ℕ). byte_at f (at + i)) p)
          | no p ↦ omega (arith, asc_less 0 ks j m R.asc (omega arith) (omega arith), R.bytes j (omega arith), R.bytes m (omega arith))
        ]
        | no high ↦ F.before (j - half) (omega arith) (ap (byte_at f) (omega arith) ∙ q)
      ])
      (λ u. ap (byte_at f) (omega arith) ∙ F.here (omega arith))

  lower_half : k < w → First f at w b k → k ≡ place_of b ks
  lower_half h F = place_row ks R en (omega arith) F.before (λ u. F.here h)

  no_half : b ≤ byte_at f (at + m) → w ≤ k → First f at w b k → n ≡ place_of b ks
  no_half below h F =
      place_row ks R en (omega arith)
      (λ j u q. elim (dec_le j m) [
        | yes low ↦ F.before j (omega arith) q
        | no high ↦ omega (arith, asc_less 0 ks m j R.asc (omega arith) (omega arith), R.bytes j (omega arith), R.bytes m (omega arith))
      ])
      (λ u. absurd (omega arith))

-- the half that is compared, and what it tells of all bytes
module _ {f : List ℕ} {at n b r k : ℕ} (ks : List (ℕ × ℕ)) (R : Row f at ks) (en : n ≡ length ks) (most : n ≤ 16) (H : Half f at n b r) (F : First f (at + r) 8 b k) where
  first_low : r ≡ 0 → First f at 8 b k
  first_low e = let z : at + r ≡ at = omega arith in rw z at F

  pub half_found : k < 8 → r + k ≡ place_of b ks
  half_found h =
      let w = H.within in
      elim (dec_lt (byte_at f (at + 7)) b) [
        | yes above ↦ upper_half 7 ks R en (omega arith) (omega arith) above (H.upper above) (omega arith) F
        | no below ↦ (let z = H.lower (omega arith) in omega (arith, z, lower_half 7 ks R en (omega arith) (omega arith) h (first_low z)))
      ]

  pub half_none : 8 ≤ k → n ≡ place_of b ks
  half_none h =
      let w = H.within in
      let l = F.within in
      elim (dec_lt (byte_at f (at + 7)) b) [
        | yes above ↦ omega (arith, H.upper above, upper_half 7 ks R en (omega arith) (omega arith) above (H.upper above) (omega arith) F)
        | no below ↦ no_half 7 ks R en (omega arith) (omega arith) (omega arith) h (first_low (H.lower (omega arith)))
      ]

-- a byte that has a child is found before the count
pub has_place : {f : List ℕ} {o cap bytes b n r : ℕ} (H : SortedHas f o cap bytes b) → n ≡ le 2 f (o + node_count) → ((ks : List (ℕ × ℕ)) → Row f (o + bytes) ks → n ≡ length ks → r ≡ place_of b ks) → r < n
has_place {b = b} H en P =
    let e = P H.kids (sorted_row H.node) (en ∙ H.node.count) in
    let l = place_lt b H.kids H.has in
    let c = H.node.count in
    omega arith

-- a child at place i, its place reckoned by where the children start
pub child_of : {f : List ℕ} {o cap bytes children at r : ℕ} (i : ℕ) (ks : List (ℕ × ℕ)) → SortedAt f o cap bytes ks → children ≡ bytes + cap → i < cap → at ≡ o + children + 4 * i → r ≡ le 4 f at → r ≡ child_in ks i
child_of {f} {o} {cap} {bytes} i ks N k h ea q = q ∙ ap (le 4 f) (omega arith) ∙ N.children i h

pub seat_in : {f : List ℕ} {o cap bytes children at r : ℕ} (b i : ℕ) (ks : List (ℕ × ℕ)) → SortedAt f o cap bytes ks → children ≡ bytes + cap → i ≡ place_of b ks → i < length ks → at ≡ o + children + 4 * i → r ≡ le 4 f at → some r ≡ look_kid b ks
seat_in {r = r} b i ks N k e h ea q =
    let few = N.few in
    let look : look_kid b ks ≡ some (child_in ks i) = rw e (look_in b ks (omega arith)) in
    ap some (child_of i ks N k (omega arith) ea q) ∙ sym look

pub seat_out : (b i : ℕ) (ks : List (ℕ × ℕ)) → i ≡ place_of b ks → length ks ≤ i → none ≡ look_kid b ks
seat_out b i ks e h = sym (look_out b ks (omega arith))

module _ {f : List ℕ} {o cap bytes : ℕ} {from : ℕ} (i : ℕ) (ks : List (ℕ × ℕ)) (N : SortedAt f o cap bytes ks) where
  pub next_in : {x y children at : ℕ} → children ≡ bytes + cap → i < length ks → ((k : ℕ) → k < i → byte_at f (o + bytes + k) < from) → from ≤ x → x ≡ byte_at f (o + bytes + i) → at ≡ o + children + 4 * i → y ≡ le 4 f at
      → (x ≡ (next_kid from ks).0) × (y ≡ (next_kid from ks).1)
  next_in {x} {y} k h below l ex ea ey =
      let few = N.few in
      let eb : x ≡ byte_in ks i = ex ∙ N.bytes_are i (omega arith) in
      let e = next_is from ks i h (λ k u. omega (arith, below k u, N.bytes_are k (omega arith))) (omega arith) in
      rw e (eb, child_of i ks N k (omega arith) ea ey)

  pub next_out : i ≡ length ks → ((k : ℕ) → k < i → byte_at f (o + bytes + k) < from) → (256 ≡ (next_kid from ks).0) × (0 ≡ (next_kid from ks).1)
  next_out e below =
      let few = N.few in
      rw (next_none from ks (λ k u. omega (arith, below k (omega arith), N.bytes_are k (omega arith)))) (refl, refl)

-- ---- a row of numbers that is read off a list, with one more or one less

past : (s : ℕ × ℕ → ℕ) (ks : List (ℕ × ℕ)) (i j : ℕ) → length ks ≤ i → length ks ≤ j → s (get_or ks i (0, 0)) ≡ s (get_or ks j (0, 0))
past s ks i j p q = ap s (get_or-eq_default ks (0, 0) p ∙ sym (get_or-eq_default ks (0, 0) q))

module _ (s : ℕ × ℕ → ℕ) (v w : ℕ → ℕ) (cap p : ℕ) (ks : List (ℕ × ℕ)) (was : (i : ℕ) → i < cap → v i ≡ s (get_or ks i (0, 0))) where
  row_insert : (x : ℕ × ℕ) → p ≤ length ks → length ks < cap → ((i : ℕ) → i < p → w i ≡ v i) → w p ≡ s x
      → ((i j : ℕ) → p ≤ i → i < length ks → j ≡ i + 1 → w j ≡ v i) → ((i : ℕ) → length ks < i → i < cap → w i ≡ v i)
      → (i : ℕ) → i < cap → w i ≡ s (get_or (insert_at p x ks) i (0, 0))
  row_insert x pl lc low here high after i h = elim (dec_lt i p) [
    | yes a ↦ low i a ∙ was i h ∙ sym (ap s (insert_at_low p x (0, 0) ks i pl a))
    | no a ↦ elim (dec_lt p i) [
      | yes b ↦ elim (dec_le i (length ks)) [
        | yes c ↦ high (i - 1) i (omega arith) (omega arith) (omega arith) ∙ was (i - 1) (omega arith) ∙ sym (ap s (insert_at_high p x (0, 0) ks (i - 1) i pl (omega arith) (omega arith)))
        | no c ↦ after i (omega arith) h ∙ was i h ∙ past s ks i (i - 1) (omega arith) (omega arith) ∙ sym (ap s (insert_at_high p x (0, 0) ks (i - 1) i pl (omega arith) (omega arith)))
      ]
      | no b ↦ let e : i ≡ p = omega arith in rw e (here ∙ sym (ap s (insert_at_here p x (0, 0) ks pl)))
    ]
  ]

  row_remove : p < length ks → length ks ≤ cap → ((i : ℕ) → i < p → w i ≡ v i) → w (length ks - 1) ≡ s (0, 0)
      → ((i j : ℕ) → p ≤ i → j < length ks → j ≡ i + 1 → w i ≡ v j) → ((i : ℕ) → length ks ≤ i → i < cap → w i ≡ v i)
      → (i : ℕ) → i < cap → w i ≡ s (get_or (remove_at p ks) i (0, 0))
  row_remove pl lc low last high after i h = elim (dec_lt i p) [
    | yes a ↦ low i a ∙ was i h ∙ sym (ap s (remove_at_low p (0, 0) ks i a))
    | no a ↦ elim (dec_lt (i + 1) (length ks)) [
      | yes b ↦ high i (i + 1) (omega arith) b refl ∙ was (i + 1) (omega arith) ∙ sym (ap s (remove_at_high p (0, 0) ks i (i + 1) (omega arith) refl))
      | no b ↦ elim (dec_lt i (length ks)) [
        | yes c ↦ let e : i ≡ length ks - 1 = omega arith in
            ap w e ∙ last ∙ sym (ap s (remove_at_high p (0, 0) ks i (i + 1) (omega arith) refl ∙ get_or-eq_default ks (0, 0) (omega arith)))
        | no c ↦ after i (omega arith) h ∙ was i h ∙ past s ks i (i + 1) (omega arith) (omega arith) ∙ sym (ap s (remove_at_high p (0, 0) ks i (i + 1) (omega arith) refl))
      ]
    ]
  ]

-- ---- a body whose bytes, then whose children, then whose count were written. What it was is said of e, which is f but for the
-- count: a child that joins leaves the count to be written later where children are carried over.

module _ {e f g h k : List ℕ} {o cap bytes : ℕ} {ks : List (ℕ × ℕ)} (ks' : List (ℕ × ℕ)) (N : SortedAt e o cap bytes ks) (P : Only e f o (o + 2)) (A : Only f g (o + bytes) (o + bytes + cap)) (B : Only g h (o + bytes + cap) (o + bytes + 5 * cap)) (E : k ≡ put 2 h (o + node_count) (length ks')) where
  sorted_change : length ks' ≤ cap → cap ≤ 256 → ((i : ℕ) → i < cap → byte_at g (o + bytes + i) ≡ byte_in ks' i) → ((i : ℕ) → i < cap → le 4 h (o + bytes + cap + 4 * i) ≡ child_in ks' i) → Asc 0 ks' → SortedAt k o cap bytes ks'
  sorted_change few caps bs cs asc =
      let hd = N.head in
      let rm = N.room in
      let sp = P.size in
      let sa = A.size in
      let sb = B.size in
      let Q = only_put 2 h (o + node_count) (length ks') in
      let sq = Q.size in
      rw E (record {
        room = omega arith;
        head = hd;
        few = few;
        count = le_put 2 h (o + node_count) (length ks') (omega arith) (omega arith);
        zeros = λ i l u. Q.above (o + i) (omega arith) ∙ B.below (o + i) (omega arith) ∙ A.below (o + i) (omega arith) ∙ P.above (o + i) (omega arith) ∙ N.zeros i l u;
        bytes_are = λ i l. Q.above (o + bytes + i) (omega arith) ∙ B.below (o + bytes + i) (omega arith) ∙ bs i l;
        children = λ i l. le_only 4 (o + bytes + cap + 4 * i) Q (inr (omega arith)) ∙ cs i l;
        asc = asc;
      })

-- what the three writes leave of the frame
pub three : {f g h k : List ℕ} (o bytes cap v : ℕ) {lo hi lo' hi' : ℕ} → Only f g lo hi → Only g h lo' hi' → k ≡ put 2 h (o + node_count) v → 2 ≤ bytes → o ≤ lo → hi ≤ o + bytes + 5 * cap → o ≤ lo' → hi' ≤ o + bytes + 5 * cap → Only f k o (o + bytes + 5 * cap)
three {h = h} o bytes cap v A B E b x1 x2 x3 x4 =
    rw E (only_then o (o + bytes + 5 * cap) (only_then o (o + bytes + 5 * cap) A B (omega arith) (omega arith) (omega arith) (omega arith)) (only_put 2 h (o + node_count) v) (omega arith) (omega arith) (omega arith) (omega arith))

-- ---- a child more, a child less

module _ {e f g h k : List ℕ} {o cap bytes n b p : ℕ} (s : ℕ) (ks : List (ℕ × ℕ)) (N : SortedAt e o cap bytes ks) (P : Only e f o (o + 2)) (ep : p ≡ rank_of b ks) (pn : p ≤ n) (en : n ≡ length ks) (full : n < cap) (caps : cap ≤ 256) (b8 : b < 256) (s32 : s < 4294967296) where
  pub sorted_insert : Opened f g (o + bytes + p) (o + bytes + n) 1 × (byte_at g (o + bytes + p) ≡ b)
      → Opened g h (o + bytes + cap + 4 * p) (o + bytes + cap + 4 * n) 4 × (le 4 h (o + bytes + cap + 4 * p) ≡ s)
      → k ≡ put 2 h (o + node_count) (n + 1) → look_kid b ks ≡ none → SortedAt k o cap bytes (insert_kid b s ks)
  sorted_insert A B E gone =
      let hd = N.head in
      let ei : insert_kid b s ks ≡ insert_at p (b, s) ks = rw ep (insert_at_lem b s ks) in
      let len : n + 1 ≡ length (insert_at p (b, s) ks) = omega (arith, length_insert_at p (b, s) ks) in
      let A' : Only f g (o + bytes) (o + bytes + cap) = only_widen (o + bytes) (o + bytes + cap) A.0.rest (omega arith) (omega arith) in
      let B' : Only g h (o + bytes + cap) (o + bytes + 5 * cap) = only_widen (o + bytes + cap) (o + bytes + 5 * cap) B.0.rest (omega arith) (omega arith) in
      rw ei
      (sorted_change (insert_at p (b, s) ks) N P A' B' (rw len at E) (omega arith) caps
      (row_insert (λ x. x.0) (λ i. byte_at e (o + bytes + i)) (λ i. byte_at g (o + bytes + i)) cap p ks N.bytes_are (b, s) (omega arith) (omega arith)
      (λ i l. A.0.rest.below (o + bytes + i) (omega arith) ∙ P.above (o + bytes + i) (omega arith)) A.1
      (λ i j l u z. A.0.high (o + bytes + j) (o + bytes + i) (omega arith) (omega arith) (omega arith) ∙ P.above (o + bytes + i) (omega arith))
      (λ i l u. A.0.rest.above (o + bytes + i) (omega arith) ∙ P.above (o + bytes + i) (omega arith)))
      (row_insert (λ x. x.1) (λ i. le 4 e (o + bytes + cap + 4 * i)) (λ i. le 4 h (o + bytes + cap + 4 * i)) cap p ks N.children (b, s) (omega arith) (omega arith)
      (λ i l. le_moved 4 e h _ _ (λ x y l' u' e'. let z : x ≡ y = omega arith in rw z (B.0.rest.below y (omega arith) ∙ A'.above y (omega arith) ∙ P.above y (omega arith)))) B.1
      (λ i j l u z. le_moved 4 e h _ _ (λ x y l' u' e'. B.0.high x y (omega arith) (omega arith) (omega arith) ∙ A'.above y (omega arith) ∙ P.above y (omega arith)))
      (λ i l u. le_moved 4 e h _ _ (λ x y l' u' e'. let z : x ≡ y = omega arith in rw z (B.0.rest.above y (omega arith) ∙ A'.above y (omega arith) ∙ P.above y (omega arith)))))
      (rw (← ei) (asc_insert 0 b s ks N.asc (omega arith) b8 s32 gone)))

module _ {f g h k : List ℕ} {o cap bytes n p : ℕ} (b : ℕ) (ks : List (ℕ × ℕ)) (N : SortedAt f o cap bytes ks) (ep : p ≡ place_of b ks) (en : n ≡ length ks) (caps : cap ≤ 256) where
  pub sorted_remove : p < n → Closed f g (o + bytes + p) (o + bytes + n) 1 × (byte_at g (o + bytes + n - 1) ≡ 0)
      → Closed g h (o + bytes + cap + 4 * p) (o + bytes + cap + 4 * n) 4 × (le 4 h (o + bytes + cap + 4 * n - 4) ≡ 0)
      → k ≡ put 2 h (o + node_count) (n - 1) → SortedAt k o cap bytes (remove_kid b ks)
  sorted_remove here A B E =
      let few = N.few in
      let er : remove_kid b ks ≡ remove_at p ks = rw ep (remove_at_lem b ks) in
      let l1 = length_remove_at p ks (omega arith) in
      let len : n - 1 ≡ length (remove_at p ks) = omega arith in
      let A' : Only f g (o + bytes) (o + bytes + cap) = only_widen (o + bytes) (o + bytes + cap) A.0.rest (omega arith) (omega arith) in
      let B' : Only g h (o + bytes + cap) (o + bytes + 5 * cap) = only_widen (o + bytes + cap) (o + bytes + 5 * cap) B.0.rest (omega arith) (omega arith) in
      let e1 : o + bytes + (length ks - 1) ≡ o + bytes + n - 1 = omega arith in
      let e4 : o + bytes + cap + 4 * (length ks - 1) ≡ o + bytes + cap + 4 * n - 4 = omega arith in
      rw er
      (sorted_change (remove_at p ks) N (only_none f o (o + 2)) A' B' (rw len at E) (omega arith) caps
      (row_remove (λ x. x.0) (λ i. byte_at f (o + bytes + i)) (λ i. byte_at g (o + bytes + i)) cap p ks N.bytes_are (omega arith) (omega arith)
      (λ i l. A.0.rest.below (o + bytes + i) (omega arith)) (rw e1 A.1)
      (λ i j l u z. A.0.low (o + bytes + i) (o + bytes + j) (omega arith) (omega arith) (omega arith))
      (λ i l u. A.0.rest.above (o + bytes + i) (omega arith)))
      (row_remove (λ x. x.1) (λ i. le 4 f (o + bytes + cap + 4 * i)) (λ i. le 4 h (o + bytes + cap + 4 * i)) cap p ks N.children (omega arith) (omega arith)
      (λ i l. le_moved 4 f h _ _ (λ x y l' u' e'. let z : x ≡ y = omega arith in rw z (B.0.rest.below y (omega arith) ∙ A'.above y (omega arith)))) (rw e4 B.1)
      (λ i j l u z. le_moved 4 f h _ _ (λ x y l' u' e'. B.0.low x y (omega arith) (omega arith) (omega arith) ∙ A'.above y (omega arith)))
      (λ i l u. le_moved 4 f h _ _ (λ x y l' u' e'. let z : x ≡ y = omega arith in rw z (B.0.rest.above y (omega arith) ∙ A'.above y (omega arith)))))
      (rw (← er) (asc_remove 0 b ks N.asc)))

-- a child behind the others, while the count waits: the body is one at any time if the count were written
module _ (f : List ℕ) {k : List ℕ} {o cap bytes i b s : ℕ} (ks : List (ℕ × ℕ)) (N : SortedAt (put 2 f (o + node_count) i) o cap bytes ks) (ei : i ≡ length ks) (full : i < cap) (caps : cap ≤ 256) (b8 : b < 256) (s32 : s < 4294967296) where
  pub sorted_append : k ≡ put 4 (set f (o + bytes + i) b) (o + bytes + cap + 4 * i) s → ((j : ℕ) → j < i → byte_in ks j < b) → look_kid b ks ≡ none → SortedAt (put 2 k (o + node_count) (i + 1)) o cap bytes (insert_kid b s ks)
  sorted_append E last gone =
      let g = set f (o + bytes + i) b in
      let h = put 4 g (o + bytes + cap + 4 * i) s in
      let C = only_put 2 f (o + node_count) i in
      let sc = C.size in
      let rm = N.room in
      let G = only_set f (o + bytes + i) b in
      let sg = G.size in
      rw E
      (sorted_insert s ks N (only_widen o (o + 2) (only_sym C) (omega arith) (omega arith))
      (rank_is b ks i (omega arith) (λ j l. omega (arith, last j l)) (λ l. absurd (omega arith)))
      (omega arith) ei full caps b8 s32
      (record { high = λ x y l u z. absurd (omega arith); rest = G }, get_or-set_same f (o + bytes + i) b 0 (omega arith))
      (record { high = λ x y l u z. absurd (omega arith); rest = only_put 4 g (o + bytes + cap + 4 * i) s }, le_put 4 g (o + bytes + cap + 4 * i) s (omega arith) s32)
      refl gone)

-- ---- another child at a byte

pub sorted_set : {f : List ℕ} {o cap bytes : ℕ} (b s s0 : ℕ) (ks : List (ℕ × ℕ)) → SortedAt f o cap bytes ks → s < 4294967296 → look_kid b ks ≡ some s0 → SortedAt (put 4 f (o + bytes + cap + 4 * place_of b ks) s) o cap bytes (set_kid b s ks)
sorted_set {f} {o} {cap} {bytes} b s s0 ks N s32 has =
    let rm = N.room in
    let hd = N.head in
    let few = N.few in
    let i = place_of b ks in
    let il = place_lt b ks has in
    let p = o + bytes + cap + 4 * i in
    let P = only_put 4 f p s in
    let x : ℕ × ℕ = (byte_in ks i, s) in
    let es : set_kid b s ks ≡ set ks i x = set_place b s ks in
    rw es (record {
      room = omega (arith, P.size);
      head = hd;
      few = omega (arith, length-set ks i x);
      count = le_only 2 (o + node_count) P (inl (omega arith)) ∙ N.count ∙ sym (length-set ks i x);
      zeros = λ j l u. P.below (o + j) (omega arith) ∙ N.zeros j l u;
      bytes_are = λ j l. P.below (o + bytes + j) (omega arith) ∙ N.bytes_are j l ∙ elim (ℕ_discrete j i) [
        | yes e ↦ rw e (sym (ap (λ (y : ℕ × ℕ). y.0) (get_or-set_same ks i x (0, 0) il)))
        | no e ↦ sym (ap (λ (y : ℕ × ℕ). y.0) (get_or-set_other ks i j x (0, 0) e))
      ];
      children = λ j l. elim (ℕ_discrete j i) [
        | yes e ↦ rw e (le_put 4 f p s (omega arith) s32 ∙ sym (ap (λ (y : ℕ × ℕ). y.1) (get_or-set_same ks i x (0, 0) il)))
        | no e ↦ other_child f (o + bytes + cap) i j s e ∙ N.children j l ∙ sym (ap (λ (y : ℕ × ℕ). y.1) (get_or-set_other ks i j x (0, 0) e))
      ];
      asc = rw (← es) (asc_set 0 b s ks N.asc s32);
    })

-- ---- no child, and the same bytes

pub sorted_empty : (f : List ℕ) (o cap bytes : ℕ) → o + bytes + 5 * cap ≤ length f → 2 ≤ bytes → ((a : ℕ) → o ≤ a → a < o + bytes + 5 * cap → byte_at f a ≡ 0) → SortedAt f o cap bytes []
unfolding Asc
sorted_empty f o cap bytes rm hd Z =
    record {
      room = rm;
      head = hd;
      few = omega arith;
      count = le_zero 2 f (o + node_count) (λ a l u. Z a (omega arith) (omega arith));
      zeros = λ i l u. Z (o + i) (omega arith) (omega arith);
      bytes_are = λ i l. Z (o + bytes + i) (omega arith) (omega arith);
      children = λ i l. le_zero 4 f (o + bytes + cap + 4 * i) (λ a l' u'. Z a (omega arith) (omega arith));
      asc = tt;
    }

pub sorted_keeps : {f g : List ℕ} {o cap bytes : ℕ} {ks : List (ℕ × ℕ)} → Keeps f g o (o + bytes + 5 * cap) → SortedAt f o cap bytes ks → SortedAt g o cap bytes ks
sorted_keeps {o = o} {cap = cap} {bytes = bytes} K N =
    let hd = N.head in
    record {
      room = omega (arith, N.room, K.size);
      head = hd;
      few = N.few;
      count = le_keeps 2 (o + node_count) K (omega arith) (omega arith) ∙ N.count;
      zeros = λ i l u. K.bytes (o + i) (omega arith) (omega arith) ∙ N.zeros i l u;
      bytes_are = λ i l. K.bytes (o + bytes + i) (omega arith) (omega arith) ∙ N.bytes_are i l;
      children = λ i l. le_keeps 4 (o + bytes + cap + 4 * i) K (omega arith) (omega arith) ∙ N.children i l;
      asc = N.asc;
    }

-- a body's bytes say one list of children
pub sorted_one : {f : List ℕ} {o cap bytes : ℕ} (ks ls : List (ℕ × ℕ)) → SortedAt f o cap bytes ks → SortedAt f o cap bytes ls → ks ≡ ls
sorted_one ks ls K L =
    let kc = K.count in
    let lc = L.count in
    let few = K.few in
    ext_get_or (0, 0) ks ls (omega arith) (λ i h. λ d. (
      (sym (K.bytes_are i (omega arith)) ∙ L.bytes_are i (omega arith)) d,
      (sym (K.children i (omega arith)) ∙ L.children i (omega arith)) d,
    ))
