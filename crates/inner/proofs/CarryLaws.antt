-- Children carried over one after the other. Assumes nothing.
use Prim.Native.Nat.{ℕ, ◌+◌, ◌*◌, ◌-◌, ◌<◌, ◌≤◌}
use mathlib.Core.Path.{◌≡◌, refl, ◌∙◌, ap, sym}
use mathlib.Core.List.{List}
use mathlib.Core.Option.{none}
use native.Mathlib.Omega.{arith}
use native.Mathlib.Numerals.{add-one}
use native.Mathlib.Decide.{dec_lt}
use lib.ListN.{length, take, set}
use lib.Seq.{length-take-le, get_or-take, take_all}
use Rattle.layout.specs.Number.{byte_at, le, put}
use Rattle.layout.specs.Place.{node_count, node48_index, node48_children, node256_children}
use Rattle.layout.specs.Kind.{body_size, most}
use Rattle.layout.proofs.KindLaws.{size_least}
use Rattle.layout.proofs.NumberLaws.{zero_le_bytes, le_put}
use Rattle.model.specs.Body.{byte_in, child_in, Asc, look_kid, InnerAt}
use Rattle.node.specs.Kids.{insert_kid, Reached}
use Rattle.moves.specs.Moved.{Only}
use Rattle.moves.proofs.MoveLaws.{only_set, only_put, only_then, only_widen, keeps_outside}
use Rattle.node.proofs.KidsLaws.{asc_byte, asc_slot, asc_lt, take_insert, take_look, reached_start, reached_next}
use Rattle.node.proofs.SortedLaws.{sorted_append}
use Rattle.node_big.specs.Indexed.{Numbered}
use Rattle.node_big.proofs.Laws48.{append48, numbered_more}
use Rattle.node_big.proofs.Laws256.{append256}
use Rattle.inner.specs.Inner.{sorted_bytes, appended, Visit, Carry, Carried}
use Rattle.inner.proofs.InnerLaws.{by_kind, size_sorted, most_sorted, as_sorted, of_sorted, of_48, of_256, inner_keeps, inner_empty, inner_asc, inner_count}
use Rattle.inner.proofs.DispatchLaws.{is_sorted, is_48, is_256}

pub size_8 : (kind : ℕ) → (4 ≤ kind) × (kind ≤ 7) → 8 ≤ body_size kind
size_8 kind r = size_least kind (omega arith) (omega arith)

-- ---- what an append writes

pub appended_only : (f : List ℕ) (o kind i b s : ℕ) → (4 ≤ kind) × (kind ≤ 7) → i < most kind → b < 256 → Only f (appended f o kind i b s) o (o + body_size kind)
appended_only f o kind i b s r full b8 = by_kind (λ k. Only f (appended f o k i b s) o (o + body_size k)) kind r
    (λ h.
    let e = size_sorted kind r.0 h in
    let c = o + sorted_bytes kind in
    rw (is_sorted f o kind i b s h)
    (only_then o (o + body_size kind) (only_set f (c + i) b) (only_put 4 (set f (c + i) b) (c + most kind + 4 * i) s) (omega arith) (omega arith) (omega arith) (omega arith)))
    (λ e.
    let l : i < 48 = rw e at full in
    let c = o + node48_index + b in
    rw e (rw (is_48 f o 6 i b s refl) (only_then o (o + 456) (only_set f c (i + 1)) (only_put 4 (set f c (i + 1)) (o + node48_children + 4 * i) s) (omega arith) (omega arith) (omega arith) (omega arith))))
    (λ e. rw e (rw (is_256 f o 7 i b s refl) (only_widen o (o + 1032) (only_put 4 f (o + node256_children + 4 * b) s) (omega arith) (omega arith))))

-- a body of the first i children, if the count were written, with one more
module _ (f : List ℕ) {o kind i b s : ℕ} (ks : List (ℕ × ℕ)) (N : InnerAt (put 2 f (o + node_count) i) o kind ks) (ei : i ≡ length ks) (full : i < most kind) (b8 : b < 256) (pos : 1 ≤ s) (s32 : s < 4294967296) where
  append_inner : ((j : ℕ) → j < i → byte_in ks j < b) → look_kid b ks ≡ none → (kind ≡ 6 → Numbered f o i ks) → InnerAt (put 2 (appended f o kind i b s) (o + node_count) (i + 1)) o kind (insert_kid b s ks)
  append_inner last gone M = by_kind (λ k. InnerAt (put 2 (appended f o k i b s) (o + node_count) (i + 1)) o k (insert_kid b s ks)) kind N.range
      (λ h. let m = most_sorted kind N.range.0 h in of_sorted N.range.0 h (sorted_append f ks (as_sorted N h) ei full (omega arith) b8 s32 (is_sorted f o kind i b s h) last gone))
      (λ e. let l : i < 48 = rw e at full in rw e (of_48 refl (append48 f ks (N.six e) ei l b8 s32 (is_48 f o 6 i b s refl) (M e) gone)))
      (λ e. let l : i < 256 = rw e at full in rw e (of_256 refl (append256 f ks (N.seven e) ei l b8 pos s32 (is_256 f o 7 i b s refl) gone)))

-- ---- the loop: the first i of the children stand at `to`, and the walk is past the bytes below `at`

pub record Part (f : List ℕ) (to kind i at : ℕ) (ks : List (ℕ × ℕ)) : Type 0 where
  pub reached : Reached ks i at
  pub body : InnerAt (put 2 f (to + node_count) i) to kind (take i ks)
  pub places : kind ≡ 6 → Numbered f to i ks

-- none yet
pub part_none : {f : List ℕ} {from kind to kind' : ℕ} (C : Carry f from kind to kind') (ks : List (ℕ × ℕ)) → Part f to kind' 0 0 ks
part_none {f} {from} {kind} {to} {kind'} C ks =
    let g = put 2 f (to + node_count) 0 in
    let O = only_put 2 f (to + node_count) 0 in
    let rm = C.room in
    let big : 8 ≤ body_size kind' = size_8 kind' C.range in
    record {
      reached = reached_start ks;
      body = inner_empty g to kind' C.range (omega (arith, O.size)) (λ a l u. elim (dec_lt a (to + 2)) [
        | yes h ↦ zero_le_bytes 2 g (to + node_count) (le_put 2 f (to + node_count) 0 (omega arith) (omega arith)) a (omega arith) (omega arith)
        | no h ↦ O.above a (omega arith) ∙ zero_from a (omega arith) (omega arith)
      ]);
      places = λ e i l. absurd (omega arith);
    }
  where
    zero_from : (a : ℕ) → to ≤ a → a < to + body_size kind' → byte_at f a ≡ 0
    zero_from a l u = let e : a ≡ to + (a - to) = omega arith in rw e (C.zeros (a - to) (omega arith))

-- one more
module _ {f g : List ℕ} {to kind i at b s : ℕ} (ks : List (ℕ × ℕ)) (A : Asc 0 ks) (P : Part f to kind i at ks) (il : i < length ks) (full : i < most kind) (rm : to + body_size kind ≤ length f) (eb : b ≡ byte_in ks i) (es : s ≡ child_in ks i) (pos : 1 ≤ s) where
  pub part_more : g ≡ appended f to kind i b s → Part g to kind (i + 1) (b + 1) ks
  part_more E =
      let b8 : b < 256 = omega (arith, asc_byte 0 ks i A il) in
      let s32 : s < 4294967296 = omega (arith, asc_slot 0 ks i A il) in
      let T = take i ks in
      let lt : length T ≡ i = length-take-le i ks (omega arith) in
      let same : (j : ℕ) → j < i → byte_in T j ≡ byte_in ks j = λ j l. ap (λ (x : ℕ × ℕ). x.0) (get_or-take i ks j (0, 0) l) in
      let B = append_inner f T P.body (sym lt) full b8 pos s32 (λ j l. omega (arith, same j l, asc_lt 0 ks j i A l il)) (rw eb (take_look 0 ks i A il))
      (λ e j l. rw (same j l) (P.places e j l)) in
      let t : insert_kid b s T ≡ take (i + 1) ks = rw (eb, es, add-one i) (take_insert 0 ks i A il) in
      rw E (record {
        reached = rw eb (reached_next ks i A il);
        body = rw t at B;
        places = λ e.
            let rm' : to + 456 ≤ length f = rw e at rm in
            numbered_more f to i s ks A il rm' (ap (λ (x : ℕ). appended f to kind i x s) eb ∙ is_48 f to kind i (byte_in ks i) s e) (P.places e);
      })

-- all
pub part_all : {f₀ f g : List ℕ} {from kind to kind' n i at : ℕ} → Only f₀ f to (to + body_size kind') → ((ks : List (ℕ × ℕ)) → InnerAt f₀ from kind ks → Part f to kind' i at ks)
    → (4 ≤ kind') × (kind' ≤ 7) → ((ks : List (ℕ × ℕ)) → InnerAt f₀ from kind ks → i ≡ length ks) → i ≡ n → g ≡ put 2 f (to + node_count) n → Carried f₀ g from kind to kind'
part_all {f₀} {f} {g} {from} {kind} {to} {kind'} {n} {i} O I r L e E =
    let Q = only_put 2 f (to + node_count) n in
    let big : 8 ≤ body_size kind' = size_8 kind' r in
    rw E (record {
      only = only_then to (to + body_size kind') O Q (omega arith) (omega arith) (omega arith) (omega arith);
      inner = λ ks N. rw (take_all i ks (omega (arith, L ks N)), e) at (I ks N).body;
      numbered = λ ks N z j l.
          let c8 = asc_byte 0 ks j (inner_asc ks N) l in
          Q.above (to + node48_index + byte_in ks j) (omega arith) ∙ (I ks N).places z j (omega (arith, L ks N));
    })

-- ---- a turn of the loop

module _ {f₀ f : List ℕ} {from kind to kind' i at n : ℕ} (C : Carry f₀ from kind to kind') (O : Only f₀ f to (to + body_size kind')) (I : (ks : List (ℕ × ℕ)) → InnerAt f₀ from kind ks → Part f to kind' i at ks) (en : n ≡ le 2 f₀ (from + node_count)) (il : i < n) where
  still : (ks : List (ℕ × ℕ)) → InnerAt f₀ from kind ks → InnerAt f from kind ks
  still ks N = inner_keeps (keeps_outside from (from + body_size kind) O C.apart) N

  inside : (ks : List (ℕ × ℕ)) → InnerAt f₀ from kind ks → i < length ks
  inside ks N = omega (arith, inner_count ks N)

  pub turn_visit : at ≤ 256 → Visit f from kind i at
  turn_visit h = record { kids = C.kids; node = still C.kids C.node; inside = inside C.kids C.node; reached = (I C.kids C.node).reached; low = h }

  pub turn_append : (4 ≤ kind') × (kind' ≤ 7) × (to + body_size kind' ≤ length f) × (i < most kind')
  turn_append = (C.range.0, C.range.1, omega (arith, C.room, O.size), omega (arith, C.fits, inside C.kids C.node))

  pub turn : {g : List ℕ} {b s : ℕ} → (b < 256) × ((ks : List (ℕ × ℕ)) → InnerAt f from kind ks → Reached ks i at → (b ≡ byte_in ks i) × (s ≡ child_in ks i)) → g ≡ appended f to kind' i b s
      → Only f₀ g to (to + body_size kind') × ((ks : List (ℕ × ℕ)) → InnerAt f₀ from kind ks → Part g to kind' (i + 1) (b + 1) ks)
  turn {g} {b} {s} K E =
      let A = turn_append in
      let of : (ks : List (ℕ × ℕ)) → InnerAt f₀ from kind ks → (b ≡ byte_in ks i) × (s ≡ child_in ks i) = λ ks N. K.1 ks (still ks N) (I ks N).reached in
      let pos : 1 ≤ s = omega (arith, (of C.kids C.node).1, C.slots i (inside C.kids C.node)) in
      let W : Only f g to (to + body_size kind') = rw E (appended_only f to kind' i b s C.range A.3 K.0) in (
        only_then to (to + body_size kind') O W (omega arith) (omega arith) (omega arith) (omega arith),
        λ ks N. part_more ks (inner_asc ks N) (I ks N) (inside ks N) A.3 A.2 (of ks N).0 (of ks N).1 pos E,
      )
