-- The body of an inner node, child after child: what `append` writes puts one more child behind those that `part_body` has. Assumes nothing.
use Prim.Native.Nat.{ℕ, zero, suc, ◌+◌, ◌-◌, ◌*◌, ◌<◌, ◌≤◌}
use mathlib.Core.Path.{◌≡◌, refl, sym, ap, subst, ◌∙◌}
use mathlib.Core.List.{List, [], ◌∷◌, ◌++◌}
use mathlib.Core.Logic.{inl, inr}
use native.Mathlib.Omega.{arith}
use native.Mathlib.Decide.{dec_lt}
use borrow.Author.Tests.{le-leb, lt-leb}
use lib.ListN.{length, set, replicate, length-append, length-set}
use lib.Seq.{get_or-set_same}
use Rattle.layout.specs.Number.{put}
use Rattle.layout.specs.Place.{node_count}
use Rattle.layout.specs.Kind.{node4_kind, node16_kind, node48_kind, node256_kind, Inner, body_size, most}
use Rattle.layout.specs.Kind.Inner.{node4, node16, node48, node256}
use Rattle.layout.proofs.NumberLaws.{length_put}
use Rattle.layout.proofs.KindLaws.{range_inner, size_least}
use Rattle.model.specs.Edition.{Edition}
use Rattle.model.specs.Tree.{Kids}
use Rattle.model.specs.Image.{smallest, digits, numbers, padded, bytes_of, spread, up_from, node_body}
use Rattle.model.specs.Body.{Zero, Has}
use Rattle.model.proofs.Well.{WellKids}
use Rattle.model.proofs.StringLaws.{eqb_cases}
use Rattle.model.proofs.TextLaws.{has_left, has_right, has_three, length_numbers, length_padded}
use Rattle.model.proofs.NodeImage.{length_spread}
use Rattle.model.proofs.ImageLaws.{numbers_append}
use Rattle.moves.proofs.MoveLaws.{only_put, only_set, only_widen}
use Rattle.inner.specs.Inner.{appended}
use Rattle.inner.proofs.DispatchLaws.{is_sorted, is_48, is_256}
use Rattle.inner.proofs.CarryLaws.{appended_only}
use Rattle.pack_body.specs.Part.{Ascending, part_body, NodeStarted, ChildWritten}
use Rattle.pack_body.proofs.HasLaws.{zero_at, has_one, has_join, has_nil, has_zeros, has_padded, three_has, has_only, zero_only, padded_more, has_put, has_set, numbers_set}

-- ---- the smallest kind, by how many children it holds

module _ (n : ℕ) where
  pub smallest_4 : n ≤ 4 → node4_kind ≡ smallest n
  smallest_4 h = rw (le-leb n 4 h)

  pub smallest_16 : 4 < n → n ≤ 16 → node16_kind ≡ smallest n
  smallest_16 a h = rw (lt-leb n 4 a, le-leb n 16 h)

  pub smallest_48 : 16 < n → n ≤ 48 → node48_kind ≡ smallest n
  smallest_48 a h = rw (lt-leb n 4 (omega arith), lt-leb n 16 a, le-leb n 48 h)

  pub smallest_256 : 48 < n → node256_kind ≡ smallest n
  smallest_256 a = rw (lt-leb n 4 (omega arith), lt-leb n 16 (omega arith), lt-leb n 48 a)

-- ---- all children are there

pub part_all : (kind : ℕ) (bs ss : List ℕ) → part_body kind (length bs) bs ss ≡ node_body kind bs ss
unfolding part_body
part_all kind bs ss = refl

-- ---- ascending bytes

pub ascending_front : (lo : ℕ) (bs : List ℕ) (b : ℕ) (rest : List ℕ) → Ascending lo (bs ++ b ∷ rest) → Ascending lo (bs ++ b ∷ [])
unfolding Ascending
ascending_front lo [] b rest A = (A.0, tt)
ascending_front lo (x ∷ bs) b rest A = (A.0, ascending_front (suc x) bs b rest A.1)

pub well_ascending : (E : Edition) (ks : Kids) (path : List ℕ) (lo : ℕ) → WellKids E ks path lo → Ascending lo (bytes_of ks)
unfolding Ascending
well_ascending E Kids.nil path lo W = tt
well_ascending E (Kids.kid b j a ks) path lo W = (W.0, well_ascending E ks path (suc b) W.3)

ascending_last : (lo : ℕ) (bs : List ℕ) (x : ℕ) → Ascending lo (bs ++ x ∷ []) → lo ≤ x
unfolding Ascending
ascending_last lo [] x A = A.0
ascending_last lo (b ∷ bs) x A = let on = ascending_last (suc b) bs x A.1 in let l = A.0 in omega arith

ascending_from : (lo hi : ℕ) (bs : List ℕ) → lo ≤ hi → Ascending hi bs → Ascending lo bs
unfolding Ascending
ascending_from lo hi [] h A = tt
ascending_from lo hi (b ∷ bs) h A = let l = A.0 in (omega arith, A.1)

other_above : (a b : ℕ) → a ≤ b → (a ≡ b → ⊥) → a < b
other_above a b h n = elim (dec_lt a b) [ yes l ↦ l | no l ↦ absurd (n (omega arith)) ]

ascending_past : (lo b : ℕ) (bs : List ℕ) → (lo ≡ b → ⊥) → Ascending lo (b ∷ bs) → Ascending (lo + 1) (b ∷ bs)
unfolding Ascending
ascending_past lo b bs n A = let l = other_above lo b A.0 n in (omega arith, A.1)

ascending_rest : (lo b : ℕ) (bs : List ℕ) → lo ≡ b → Ascending lo (b ∷ bs) → Ascending (lo + 1) bs
unfolding Ascending
ascending_rest lo b bs e A = ascending_from (lo + 1) (suc b) bs (omega arith) A.1

-- ---- a table with one byte more

spread_more : (n lo : ℕ) (bs gs : List ℕ) (x p g : ℕ) → length gs ≡ length bs → Ascending lo (bs ++ x ∷ []) → x ≡ lo + p → p < n → spread n lo (bs ++ x ∷ []) (gs ++ g ∷ []) ≡ set (spread n lo bs gs) p g
spread_more zero lo bs gs x p g e A d h = absurd (omega arith)
spread_more (suc n) lo [] [] x p g e A d h = eqb_cases lo x
    (λ t q. let z : p ≡ 0 = omega arith in rw (t, z))
    (λ t q.
    let l = other_above lo x (ascending_last lo [] x A) q in
    let z : p ≡ suc (p - 1) = omega arith in
    rw (t, z) (ap (λ (r : List ℕ). 0 ∷ r) (spread_more n (lo + 1) [] [] x (p - 1) g refl (ascending_past lo x [] q A) (omega arith) (omega arith))))
spread_more (suc n) lo [] (y ∷ gs) x p g e A d h = absurd (omega arith)
spread_more (suc n) lo (y ∷ bs) [] x p g e A d h = absurd (omega arith)
spread_more (suc n) lo (y ∷ bs) (v ∷ gs) x p g e A d h = eqb_cases lo y
    (λ t q.
    let B = ascending_rest lo y (bs ++ x ∷ []) q A in
    let l = ascending_last (lo + 1) bs x B in
    let z : p ≡ suc (p - 1) = omega arith in
    rw (t, z) (ap (λ (r : List ℕ). v ∷ r) (spread_more n (lo + 1) bs gs x (p - 1) g (omega arith) B (omega arith) (omega arith))))
    (λ t q.
    let B = ascending_past lo y (bs ++ x ∷ []) q A in
    let l = ascending_last (lo + 1) (y ∷ bs) x B in
    let z : p ≡ suc (p - 1) = omega arith in
    rw (t, z) (ap (λ (r : List ℕ). 0 ∷ r) (spread_more n (lo + 1) (y ∷ bs) (v ∷ gs) x (p - 1) g e B (omega arith) (omega arith))))

spread_none : (n lo : ℕ) (gs : List ℕ) → spread n lo [] gs ≡ replicate n 0
spread_none zero lo gs = refl
spread_none (suc n) lo gs = ap (λ (r : List ℕ). 0 ∷ r) (spread_none n (lo + 1) gs)

length_up : (i n : ℕ) → length (up_from i n) ≡ n
length_up i zero = refl
length_up i (suc n) = ap suc (length_up (i + 1) n)

up_more : (i n : ℕ) → up_from i (suc n) ≡ up_from i n ++ (i + n) ∷ []
up_more i zero = let z : i + 0 ≡ i = omega arith in rw z
up_more i (suc n) = let z : i + suc n ≡ i + 1 + n = omega arith in rw z (ap (λ (r : List ℕ). i ∷ r) (up_more (i + 1) n))

-- Node48's index: the next place in byte order
index_more : (n : ℕ) (bs : List ℕ) (b i : ℕ) → length bs ≡ i → Ascending 0 (bs ++ b ∷ []) → b < n
    → spread n 0 (bs ++ b ∷ []) (up_from 1 (length (bs ++ b ∷ []))) ≡ set (spread n 0 bs (up_from 1 (length bs))) b (i + 1)
index_more n bs b i e A h =
    let l : length (bs ++ b ∷ []) ≡ suc (length bs) = omega (arith, length-append bs (b ∷ [])) in
    let z : 1 + length bs ≡ i + 1 = omega arith in
    let u : up_from 1 (length (bs ++ b ∷ [])) ≡ up_from 1 (length bs) ++ (i + 1) ∷ [] =
    ap (up_from 1) l ∙ up_more 1 (length bs) ∙ ap (λ (k : ℕ). up_from 1 (length bs) ++ k ∷ []) z in
    rw u (spread_more n 0 bs (up_from 1 (length bs)) b b (i + 1) (length_up 1 (length bs)) A (omega arith) h)

-- ---- one child more

-- children by place
row_more : {m : List ℕ} {o : ℕ} (cap i s : ℕ) (ss : List ℕ) → length ss ≡ i → i < cap → Has m o (padded (4 * cap) (numbers 4 ss)) → Has (put 4 m (o + 4 * i) s) o (padded (4 * cap) (numbers 4 (ss ++ s ∷ [])))
row_more {m} {o} cap i s ss e l H =
    let k = length_numbers ss in
    let p = length_padded (4 * cap) (numbers 4 ss) (omega arith) in
    let fit = H.fits in
    rw (numbers_append ss (s ∷ []))
    (padded_more (only_put 4 m (o + 4 * i) s) (4 * cap) (numbers 4 ss) (digits 4 s) (omega arith) (omega arith) (omega arith) (omega arith) H (has_put 4 m (o + 4 * i) s (omega arith)))

module _ {m : List ℕ} {o : ℕ} (b s i : ℕ) (bs ss : List ℕ) (eb : length bs ≡ i) (es : length ss ≡ i) where
  -- Node4 and Node16
  sorted_more : (h cap : ℕ) (head : List ℕ) → length head ≡ h → i < cap → Has m o (head ++ padded cap bs ++ padded (4 * cap) (numbers 4 ss))
      → Has (put 4 (set m (o + h + i) b) (o + h + cap + 4 * i) s) o (head ++ padded cap (bs ++ b ∷ []) ++ padded (4 * cap) (numbers 4 (ss ++ s ∷ [])))
  sorted_more h cap head eh l H =
      let k = length_numbers ss in
      let row = padded (4 * cap) (numbers 4 ss) in
      let n = length-append bs (b ∷ []) in
      let pb = length_padded cap bs (omega arith) in
      let T = has_three h cap (4 * cap) head (padded cap bs) row eh pb (length_padded (4 * cap) (numbers 4 ss) (omega arith)) H in
      let room = T.room in
      let first = only_set m (o + h + i) b in
      let g = set m (o + h + i) b in
      let size = length-set m (o + h + i) b in
      let at : o + h + cap ≡ o + (h + cap) = omega arith in
      let then = only_put 4 g (o + h + cap + 4 * i) s in
      three_has h cap head (padded cap (bs ++ b ∷ [])) (padded (4 * cap) (numbers 4 (ss ++ s ∷ []))) eh (length_padded cap (bs ++ b ∷ []) (omega arith))
      (has_only then head (inl (omega arith)) (has_only first head (inl (omega arith)) T.first))
      (has_only then (padded cap (bs ++ b ∷ [])) (inl (omega (arith, length_padded cap (bs ++ b ∷ []) (omega arith))))
      (padded_more first cap bs (b ∷ []) (omega arith) (omega arith) (omega arith) (omega arith) T.second (has_one b (omega arith) (get_or-set_same m (o + h + i) b 0 (omega arith)))))
      (rw at (row_more cap i s ss es l (has_only first row (inr (omega arith)) T.third)))

  -- Node48, its index a table of t
  more_48 : (t : ℕ) (head : List ℕ) → length head ≡ 8 → i < 48 → b < t → Ascending 0 (bs ++ b ∷ []) → Has m o (head ++ spread t 0 bs (up_from 1 (length bs)) ++ padded 192 (numbers 4 ss))
      → Has (put 4 (set m (o + 8 + b) (i + 1)) (o + (8 + t) + 4 * i) s) o (head ++ spread t 0 (bs ++ b ∷ []) (up_from 1 (length (bs ++ b ∷ []))) ++ padded 192 (numbers 4 (ss ++ s ∷ [])))
  more_48 t head eh l b8 A H =
      let k = length_numbers ss in
      let row = padded 192 (numbers 4 ss) in
      let index = spread t 0 bs (up_from 1 (length bs)) in
      let next = spread t 0 (bs ++ b ∷ []) (up_from 1 (length (bs ++ b ∷ []))) in
      let long : length index ≡ t = length_spread t 0 bs (up_from 1 (length bs)) in
      let long' : length next ≡ t = length_spread t 0 (bs ++ b ∷ []) (up_from 1 (length (bs ++ b ∷ []))) in
      let T = has_three 8 t 192 head index row eh long (length_padded 192 (numbers 4 ss) (omega arith)) H in
      let room = T.room in
      let first = only_set m (o + 8 + b) (i + 1) in
      let g = set m (o + 8 + b) (i + 1) in
      let then = only_put 4 g (o + (8 + t) + 4 * i) s in
      let is : next ≡ set index b (i + 1) = index_more t bs b i eb A b8 in
      let I : Has g (o + 8) next = subst (λ (x : List ℕ). Has g (o + 8) x) (sym is) (has_set index b (i + 1) (omega arith) T.second) in
      three_has 8 t head next (padded 192 (numbers 4 (ss ++ s ∷ []))) eh long'
      (has_only then head (inl (omega arith)) (has_only first head (inl (omega arith)) T.first))
      (has_only then next (inl (omega arith)) I)
      (row_more 48 i s ss es l (has_only first row (inr (omega arith)) T.third))

  -- Node256, its children a table of t
  more_256 : (t : ℕ) (head : List ℕ) → length head ≡ 8 → b < t → Ascending 0 (bs ++ b ∷ []) → Has m o (head ++ numbers 4 (spread t 0 bs ss))
      → Has (put 4 m (o + 8 + 4 * b) s) o (head ++ numbers 4 (spread t 0 (bs ++ b ∷ []) (ss ++ s ∷ [])))
  more_256 t head eh b8 A H =
      let row = spread t 0 bs ss in
      let long : length row ≡ t = length_spread t 0 bs ss in
      let is : spread t 0 (bs ++ b ∷ []) (ss ++ s ∷ []) ≡ set row b s = spread_more t 0 bs ss b b s (omega arith) A (omega arith) b8 in
      let I : Has (put 4 m (o + 8 + 4 * b) s) (o + 8) (numbers 4 (set row b s)) = numbers_set row b s (omega arith) (has_right head (numbers 4 row) 8 eh H) in
      has_join head (numbers 4 (spread t 0 (bs ++ b ∷ []) (ss ++ s ∷ []))) 8 eh (has_only (only_put 4 m (o + 8 + 4 * b) s) head (inl (omega arith)) (has_left head (numbers 4 row) H))
      (subst (λ (x : List ℕ). Has (put 4 m (o + 8 + 4 * b) s) (o + 8) (numbers 4 x)) (sym is) I)

-- any kind
body_more : (m : List ℕ) (kind n b s i : ℕ) (bs ss : List ℕ) → Inner kind → i < most kind → b < 256 → length bs ≡ i → length ss ≡ i → Ascending 0 (bs ++ b ∷ []) → Has m 0 (part_body kind n bs ss)
    → Has (appended m 0 kind i b s) 0 (part_body kind n (bs ++ b ∷ []) (ss ++ s ∷ []))
unfolding part_body
body_more m kind n b s i bs ss node4 l b8 eb es A H = rw (is_sorted m 0 4 i b s (omega arith)) (sorted_more b s i bs ss eb es 4 4 (padded 4 (digits 2 n)) refl l H)
body_more m kind n b s i bs ss node16 l b8 eb es A H = rw (is_sorted m 0 5 i b s (omega arith)) (sorted_more b s i bs ss eb es 8 16 (padded 8 (digits 2 n)) refl l H)
body_more m kind n b s i bs ss node48 l b8 eb es A H = rw (is_48 m 0 6 i b s refl) (more_48 b s i bs ss eb es 256 (padded 8 (digits 2 n)) refl l b8 A H)
body_more m kind n b s i bs ss node256 l b8 eb es A H = rw (is_256 m 0 7 i b s refl) (more_256 b s i bs ss eb es 256 (padded 8 (digits 2 n)) refl b8 A H)

pub child_written : {m g : List ℕ} {kind i b s : ℕ} → (4 ≤ kind) × (kind ≤ 7) → i < most kind → b < 256 → g ≡ appended m 0 kind i b s → ChildWritten m g kind i b s
child_written {m} {g} {kind} {i} {b} {s} r l b8 E =
    rw E (record {
      only = only_widen 0 (body_size kind) (appended_only m 0 kind i b s r l b8) (omega arith) (omega arith);
      more = λ n bs ss eb es A H. body_more m kind n b s i bs ss (range_inner kind r.0 r.1) l b8 eb es A H;
    })

-- ---- no child yet

zero_part : (m : List ℕ) (o k p n : ℕ) → Zero m o k → p + n ≤ k → Zero m (o + p) n
zero_part m o k p n Z h i l = let z : o + p + i ≡ o + (p + i) = omega arith in rw z (Z (p + i) (omega arith))

table_none : (m : List ℕ) (o t : ℕ) (gs : List ℕ) → o + t ≤ length m → Zero m o t → Has m o (spread t 0 [] gs)
table_none m o t gs h Z = rw (spread_none t 0 gs) (has_zeros t h Z)

zero_numbers : (m : List ℕ) (o n : ℕ) → o + 4 * n ≤ length m → Zero m o (4 * n) → Has m o (numbers 4 (replicate n 0))
zero_numbers m o zero h Z = has_nil (omega arith)
zero_numbers m o (suc n) h Z =
    has_join (digits 4 0) (numbers 4 (replicate n 0)) 4 refl (has_zeros 4 (omega arith) (λ i l. Z i (omega arith))) (zero_numbers m (o + 4) n (omega arith) (zero_part m o (4 * suc n) 4 (4 * n) Z (omega arith)))

numbers_none : (m : List ℕ) (o t : ℕ) (gs : List ℕ) → o + 4 * t ≤ length m → Zero m o (4 * t) → Has m o (numbers 4 (spread t 0 [] gs))
numbers_none m o t gs h Z = rw (spread_none t 0 gs) (zero_numbers m o t h Z)

-- the count over k zeros
module _ (m : List ℕ) (n k : ℕ) (two : 2 ≤ k) (room : k ≤ length m) (Z : Zero m 0 k) where
  long : length (put 2 m 0 n) ≡ length m
  long = length_put 2 m 0 n

  behind : (p q : ℕ) → 2 ≤ p → p + q ≤ k → Zero (put 2 m 0 n) p q
  behind p q a b = zero_only (only_put 2 m 0 n) p q (inr (omega arith)) (λ i l. zero_at m k Z (p + i) (omega arith))

  counted : (h : ℕ) → 2 ≤ h → h ≤ k → Has (put 2 m 0 n) 0 (padded h (digits 2 n))
  counted h a b = has_padded h (digits 2 n) a (omega (arith, long)) (has_put 2 m 0 n (omega arith)) (behind 2 (h - 2) (omega arith) (omega arith))

  zeros : (p q : ℕ) → 2 ≤ p → p + q ≤ k → Has (put 2 m 0 n) p (replicate q 0)
  zeros p q a b = has_zeros q (omega (arith, long)) (behind p q a b)

  body_none : (kind : ℕ) → Inner kind → body_size kind ≡ k → Has (put 2 m 0 n) 0 (part_body kind n [] [])
  unfolding part_body
  body_none kind node4 e = three_has 4 4 (padded 4 (digits 2 n)) (padded 4 []) (padded 16 []) refl refl (counted 4 (omega arith) (omega arith)) (zeros 4 4 (omega arith) (omega arith)) (zeros 8 16 (omega arith) (omega arith))
  body_none kind node16 e = three_has 8 16 (padded 8 (digits 2 n)) (padded 16 []) (padded 64 []) refl refl (counted 8 (omega arith) (omega arith)) (zeros 8 16 (omega arith) (omega arith)) (zeros 24 64 (omega arith) (omega arith))
  body_none kind node48 e =
      three_has 8 256 (padded 8 (digits 2 n)) (spread 256 0 [] []) (padded 192 []) refl (length_spread 256 0 [] []) (counted 8 (omega arith) (omega arith))
      (table_none (put 2 m 0 n) 8 256 [] (omega (arith, long)) (behind 8 256 (omega arith) (omega arith))) (zeros 264 192 (omega arith) (omega arith))
  body_none kind node256 e =
      has_join (padded 8 (digits 2 n)) (numbers 4 (spread 256 0 [] [])) 8 refl (counted 8 (omega arith) (omega arith))
      (numbers_none (put 2 m 0 n) 8 256 [] (omega (arith, long)) (behind 8 1024 (omega arith) (omega arith)))

pub node_started : {m g : List ℕ} {kind n : ℕ} → (4 ≤ kind) × (kind ≤ 7) → body_size kind ≤ length m → Zero m 0 (body_size kind) → g ≡ put 2 m (0 + node_count) n → NodeStarted m g kind n
node_started {m} {g} {kind} {n} r room Z E =
    let big = size_least kind (omega arith) (omega arith) in
    rw E (record {
      only = only_widen 0 (body_size kind) (only_put 2 m 0 n) (omega arith) (omega arith);
      is = body_none m n (body_size kind) (omega arith) room Z kind (range_inner kind r.0 r.1) refl;
    })
