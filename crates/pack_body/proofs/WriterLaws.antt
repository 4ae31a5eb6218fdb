-- The header, a Leaf with its extent and a Prefix, as they are written. Assumes nothing.
use Prim.Native.Nat.{ℕ, ◌+◌, ◌-◌, ◌/◌, ◌%◌, ◌<◌, ◌≤◌}
use mathlib.Core.Path.{◌≡◌, refl, sym, ◌∙◌}
use mathlib.Core.List.{List, [], ◌∷◌, ◌++◌}
use mathlib.Core.Logic.{inl, inr}
use native.Mathlib.Omega.{arith}
use lib.ListN.{length, take, drop, length-append, length-drop}
use borrow.Rule.Slice.PartMut.{put_mid, mid_of}
use lib.Seq.{length-take-le, ext_get_or, get_or-take, get_or-drop}
use Rattle.layout.specs.Number.{byte_at, le, put}
use Rattle.layout.specs.Place.{leaf_extent, leaf_key, leaf_value, leaf_stamp, prefix_child, data_start}
use Rattle.layout.proofs.NumberLaws.{length_put, le_moved}
use Rattle.fields.specs.Header.{put_header}
use Rattle.fields.specs.Body.{put_leaf_body}
use Rattle.fields.specs.declared.header.Header.{Header}
use Rattle.fields.proofs.HeaderLaws.{length_put_header, byte_put_header}
use Rattle.fields.proofs.BodyLaws.{length_put_leaf_body, leaf_off}
use Rattle.model.specs.Edition.{Value, text_of}
use Rattle.model.specs.Tree.{up8, extent_of}
use Rattle.model.specs.Tree.Art.{leaf}
use Rattle.model.specs.Image.{digits, padded, size, bodies}
use Rattle.model.specs.Body.{Zero, Text, Has, LeafAt, PrefixAt}
use Rattle.model.proofs.PackedBytes.{extent_fits}
use Rattle.moves.specs.Moved.{Only}
use Rattle.moves.proofs.MoveLaws.{only_put, only_then}
use Rattle.moves.specs.Pasted.{Pasted}
use Rattle.pack_body.specs.Part.{HeaderWritten, LeafCopies, LeafCopied, PrefixCopies, PrefixCopied}
use Rattle.pack_body.proofs.PartLaws.{part_pasted}
use Rattle.pack_body.proofs.HasLaws.{zero_at, has_one, has_join, has_padded, has_only, has_put, has_more}

-- ---- the header

-- what is written there
abbrev pub packed_header : ℕ → ℕ → ℕ → ℕ → ℕ → ℕ → Header
packed_header e f n b u r = record { edition = e; frame_length = f; slot_capacity = n; data_start = data_start n; next_byte = b; slots_given = u; records = r; dead_bytes = 0; root = 1 }

-- the fields, one behind the other
abbrev fields : ℕ → ℕ → ℕ → ℕ → ℕ → ℕ → ℕ → ℕ → ℕ → List ℕ
fields e f n d b u r x s = digits 4 e ++ digits 4 f ++ digits 4 n ++ digits 4 d ++ digits 4 b ++ digits 4 u ++ digits 4 r ++ digits 4 x ++ digits 2 s

written : (m : List ℕ) (e f n d b u r x s : ℕ) → 64 ≤ length m
    → Has (put 2 (put 4 (put 4 (put 4 (put 4 (put 4 (put 4 (put 4 (put 4 m 0 e) 4 f) 8 n) 12 d) 16 b) 20 u) 24 r) 28 x) 32 s) 0 (fields e f n d b u r x s)
written m e f n d b u r x s h =
    let m1 = put 4 m 0 e in let m2 = put 4 m1 4 f in let m3 = put 4 m2 8 n in let m4 = put 4 m3 12 d in let m5 = put 4 m4 16 b in let m6 = put 4 m5 20 u in let m7 = put 4 m6 24 r in let m8 = put 4 m7 28 x in
    let l1 = length_put 4 m 0 e in let l2 = length_put 4 m1 4 f in let l3 = length_put 4 m2 8 n in let l4 = length_put 4 m3 12 d in
    let l5 = length_put 4 m4 16 b in let l6 = length_put 4 m5 20 u in let l7 = length_put 4 m6 24 r in let l8 = length_put 4 m7 28 x in
    let x1 = digits 4 e in let x2 = x1 ++ digits 4 f in let x3 = x2 ++ digits 4 n in let x4 = x3 ++ digits 4 d in let x5 = x4 ++ digits 4 b in let x6 = x5 ++ digits 4 u in let x7 = x6 ++ digits 4 r in let x8 = x7 ++ digits 4 x in
    has_more 2 m8 32 s x8 refl (omega arith) (has_more 4 m7 28 x x7 refl (omega arith) (has_more 4 m6 24 r x6 refl (omega arith) (has_more 4 m5 20 u x5 refl (omega arith)
    (has_more 4 m4 16 b x4 refl (omega arith) (has_more 4 m3 12 d x3 refl (omega arith) (has_more 4 m2 8 n x2 refl (omega arith) (has_more 4 m1 4 f x1 refl (omega arith) (has_put 4 m 0 e (omega arith)))))))))

pub header_written : {m g : List ℕ} {e f n b u r : ℕ} → 64 ≤ length m → Zero m 0 64 → g ≡ put_header m (packed_header e f n b u r) → HeaderWritten m g e f n b u r
unfolding put_header
header_written {m} {g} {e} {f} {n} {b} {u} {r} h Z p =
    let long = length_put_header m (packed_header e f n b u r) in
    rw p (record {
      only = record { size = long; below = λ a l. absurd (omega arith); above = λ a l. byte_put_header m (packed_header e f n b u r) a (omega arith) };
      is = λ E q. rw q (has_padded 64 (fields e f n (data_start n) b u r 0 1) (omega arith) (omega arith) (written m e f n (data_start n) b u r 0 1 h)
          (λ i l. byte_put_header m (packed_header e f n b u r) (34 + i) (omega arith) ∙ zero_at m 64 Z (34 + i) (omega arith)));
    })

-- ---- a part of the frame that is copied

taken : (f : List ℕ) (o n : ℕ) (p : List ℕ) → length p ≡ n → o + n ≤ length f → Text f o p → take (o + n - o) (drop o f) ≡ p
taken f o n p e h T =
    let z : o + n - o ≡ n = omega arith in
    let l : length (take n (drop o f)) ≡ n = length-take-le n (drop o f) (omega (arith, length-drop o f)) in
    rw z (ext_get_or 0 (take n (drop o f)) p (l ∙ sym e) (λ i x. get_or-take n (drop o f) i 0 (omega arith) ∙ get_or-drop o f i 0 ∙ T i (omega arith)))

paste_as : {h k g : List ℕ} {o : ℕ} (p q : List ℕ) → h ≡ k → p ≡ q → Pasted h g o (length p) p → Pasted k g o (length q) q
paste_as p q a b P = rw (sym a, sym b) P

-- ---- a Leaf

leaf_body : (m : List ℕ) (e k v t : ℕ) → 16 ≤ length m → Has (put_leaf_body m 0 e k v t) 0 (padded 16 (digits 4 e ++ digits 2 k ++ digits 2 v ++ digits 8 t))
unfolding put_leaf_body
leaf_body m e k v t h =
    let m1 = put 4 m 0 e in let m2 = put 2 m1 4 k in let m3 = put 2 m2 6 v in
    let l1 = length_put 4 m 0 e in let l2 = length_put 2 m1 4 k in let l3 = length_put 2 m2 6 v in
    let x1 = digits 4 e in let x2 = x1 ++ digits 2 k in let x3 = x2 ++ digits 2 v in
    has_more 8 m3 8 t x3 refl (omega arith) (has_more 2 m2 6 v x2 refl (omega arith) (has_more 2 m1 4 k x1 refl (omega arith) (has_put 4 m 0 e (omega arith))))

leaf_only : (m : List ℕ) (e k v t : ℕ) → Only m (put_leaf_body m 0 e k v t) 0 16
leaf_only m e k v t = record { size = length_put_leaf_body m 0 e k v t; below = λ a l. absurd (omega arith); above = λ a l. leaf_off m 0 e k v t a (inr (omega arith)) }

-- the body, then key and value
leaf_has : (m g : List ℕ) (at s : ℕ) (k : List ℕ) (v : Value) → size (leaf k v) ≤ length m → Zero m 0 (size (leaf k v)) → Pasted (put_leaf_body m 0 (at + 16) (length k) (length (text_of v)) v.stamp) g 16 (length (k ++ text_of v)) (k ++ text_of v)
    → Has g 0 (bodies (leaf k v) s at)
leaf_has m g at s k v room Z P =
    let O = leaf_only m (at + 16) (length k) (length (text_of v)) v.stamp in
    let long = O.size in
    let long' = P.only.size in
    let few = extent_fits k v in
    let body = padded 16 (digits 4 (at + 16) ++ digits 2 (length k) ++ digits 2 (length (text_of v)) ++ digits 8 v.stamp) in
    has_join body (padded (extent_of k v) (k ++ text_of v)) 16 refl
    (has_only P.only body (inl (omega arith)) (leaf_body m (at + 16) (length k) (length (text_of v)) v.stamp (omega arith)))
    (has_padded (extent_of k v) (k ++ text_of v) few (omega arith) (record { fits = omega arith; text = λ i l. P.text (16 + i) i l refl }) (λ i l.
    let a = 16 + length (k ++ text_of v) + i in
    P.only.above a (omega arith) ∙ O.above a (omega arith) ∙ zero_at m (size (leaf k v)) Z a (omega arith)))

-- the extent's part has room for it
pub leaf_lent : {f m h : List ℕ} {o at : ℕ} (C : LeafCopies f o m at) (x n w t : ℕ) → x ≡ le 4 f (o + leaf_extent) → n ≡ le 2 f (o + leaf_key) → w ≡ le 2 f (o + leaf_value)
    → h ≡ put_leaf_body m 0 (at + 16) n w t → (16 + (length h - 16) ≤ length h) × (length (take (x + (n + w) - x) (drop x f)) ≤ length h - 16)
leaf_lent {f} {m} {h} {o} {at} C x n w t ex en ew eh =
    let L = C.stands in
    let kv = length-append C.key (text_of C.value) in
    let few = extent_fits C.key C.value in
    let room : 16 + extent_of C.key C.value ≤ length m = C.room in
    let long : length h ≡ length m = rw eh (length_put_leaf_body m 0 (at + 16) n w t) in
    let z : x + (n + w) - x ≡ n + w = omega arith in
    let all : length (take (n + w) (drop x f)) ≡ n + w = length-take-le (n + w) (drop x f) (omega (arith, length-drop x f, L.room, L.extent, L.key_length, L.value_length)) in
    (omega arith, rw z (omega (arith, all, room, few, kv, long, L.key_length, L.value_length)))

pub leaf_copied : {f m h ys : List ℕ} {o at r : ℕ} (C : LeafCopies f o m at) (x n w t : ℕ) → x ≡ le 4 f (o + leaf_extent) → n ≡ le 2 f (o + leaf_key) → w ≡ le 2 f (o + leaf_value) → t ≡ le 8 f (o + leaf_stamp)
    → h ≡ put_leaf_body m 0 (at + 16) n w t → Pasted (mid_of 16 (length h - 16) h) ys 0 (length (take (x + (n + w) - x) (drop x f))) (take (x + (n + w) - x) (drop x f)) → r ≡ up8 (n + w)
    → LeafCopied f o m (put_mid 16 (length h - 16) h ys) at (16 + r)
leaf_copied {f} {m} {h} {ys} {o} {at} {r} C x n w t ex en ew et eh lent er =
    let g = put_mid 16 (length h - 16) h ys in
    let lies = leaf_lent C x n w t ex en ew eh in
    let P : Pasted h g 16 (length (take (x + (n + w) - x) (drop x f))) (take (x + (n + w) - x) (drop x f)) = part_pasted 16 (length h - 16) h lies.0 ys (take (x + (n + w) - x) (drop x f)) lies.1 lent in
    let of : (e : ℕ) (k : List ℕ) (v : Value) → LeafAt f o e k v → (length k ≡ n) × (length (text_of v) ≡ w) × (e ≡ x) × (v.stamp ≡ t) = λ e k v L. (sym (en ∙ L.key_length), sym (ew ∙ L.value_length), sym (ex ∙ L.extent), sym (et ∙ L.stamp)) in
    let mine = of C.extent C.key C.value C.stands in
    let all : size (leaf C.key C.value) ≡ 16 + up8 (n + w) = rw (mine.0, mine.1) in
    let room : 16 + up8 (n + w) ≤ length m = rw all at C.room in
    let Z : Zero m 0 (16 + up8 (n + w)) = rw all at C.zeros in
    let is : (e : ℕ) (k : List ℕ) (v : Value) → LeafAt f o e k v → Pasted (put_leaf_body m 0 (at + 16) (length k) (length (text_of v)) v.stamp) g 16 (length (k ++ text_of v)) (k ++ text_of v) = λ e k v L.
    (let l = of e k v L in
    let kv = length-append k (text_of v) in
    let T : Text f x (k ++ text_of v) = rw l.2 at L.text in
    paste_as (take (x + (n + w) - x) (drop x f)) (k ++ text_of v) (rw (l.0, l.1, l.3) eh) (taken f x (n + w) (k ++ text_of v) (omega (arith, l.0, l.1)) (omega (arith, l.0, l.1, l.2, L.room)) T) P) in
    let Q = is C.extent C.key C.value C.stands in
    record {
      only = only_then 0 (16 + r) (leaf_only m (at + 16) (length C.key) (length (text_of C.value)) C.value.stamp) Q.only (omega arith) (omega arith) (omega arith) (omega (arith, extent_fits C.key C.value, mine.0, mine.1));
      is = λ e k v L.
          let l = of e k v L in
          let same : size (leaf k v) ≡ 16 + up8 (n + w) = rw (l.0, l.1) in
          (rw (er, same), λ s. leaf_has m g at s k v (rw same room) (rw same Z) (is e k v L));
    }

-- ---- a Prefix

-- a length below 256
has_small : {m : List ℕ} {o : ℕ} (n : ℕ) → n < 256 → o + 2 ≤ length m → le 2 m o ≡ n → Has m o (digits 2 n)
unfolding le
has_small {m} {o} n l h e = has_join (n % 256 ∷ []) (n / 256 % 256 ∷ []) 1 refl (has_one (n % 256) (omega arith) (omega arith)) (has_one (n / 256 % 256) (omega arith) (omega arith))

-- a body copied from o, but for its child
module _ (f g : List ℕ) (o child : ℕ) (room : 128 ≤ length g) (same : (a : ℕ) → 4 ≤ a → a < 128 → byte_at g a ≡ byte_at f (o + a)) (first : Has g 0 (digits 4 child)) where
  zero_from : (p n : ℕ) → 4 ≤ p → p + n ≤ 128 → Zero f (o + p) n → Zero g p n
  zero_from p n a b Z i l = let z : o + (p + i) ≡ o + p + i = omega arith in same (p + i) (omega arith) (omega arith) ∙ rw z (Z i l)

  prefix_has : (p : List ℕ) (below : ℕ) → PrefixAt f o p below → Has g 0 (padded 16 (digits 4 child ++ digits 2 (length p)) ++ padded 112 p)
  prefix_has p below P =
      let most = P.most in
      let D = digits 4 child ++ digits 2 (length p) in
      let long = le_moved 2 f g 4 (o + 4) (λ a b x y e. let z : b ≡ o + a = omega arith in rw z (same a (omega arith) (omega arith))) in
      let count : Has g 4 (digits 2 (length p)) = has_small (length p) (omega arith) (omega arith) (long ∙ P.long) in
      has_join (padded 16 D) (padded 112 p) 16 refl
      (has_padded 16 D (omega arith) (omega arith) (has_join (digits 4 child) (digits 2 (length p)) 4 refl first count) (zero_from 6 10 (omega arith) (omega arith) P.zeros))
      (has_padded 112 p most (omega arith)
      (record { fits = omega arith; text = λ i l. let z : o + (16 + i) ≡ o + 16 + i = omega arith in same (16 + i) (omega arith) (omega arith) ∙ rw z (P.text i l) })
      (zero_from (16 + length p) (112 - length p) (omega arith) (omega arith) (let z : o + (16 + length p) ≡ o + 16 + length p = omega arith in rw z P.rest)))

pub prefix_copied : {f m h g : List ℕ} {o child : ℕ} → PrefixCopies f o m → Pasted m h 0 (length (take (o + 128 - o) (drop o f))) (take (o + 128 - o) (drop o f)) → g ≡ put 4 h (0 + prefix_child) child → PrefixCopied f o m g child
prefix_copied {f} {m} {h} {g} {o} {child} C P E =
    let room = C.room in
    let inside = C.stands.room in
    let z : o + 128 - o ≡ 128 = omega arith in
    let n : length (take 128 (drop o f)) ≡ 128 = length-take-le 128 (drop o f) (omega (arith, length-drop o f)) in
    let Q : Pasted m h 0 (length (take 128 (drop o f))) (take 128 (drop o f)) = rw z at P in
    let O = only_put 4 h 0 child in
    let long = Q.only.size in
    let long' = O.size in
    let same : (a : ℕ) → 4 ≤ a → a < 128 → byte_at (put 4 h 0 child) a ≡ byte_at f (o + a) = λ a x y.
    (O.above a (omega arith) ∙ Q.text a a (omega arith) (omega arith) ∙ get_or-take 128 (drop o f) a 0 y ∙ get_or-drop o f a 0) in
    rw E (record {
      only = only_then 0 128 Q.only O (omega arith) (omega arith) (omega arith) (omega arith);
      is = λ p below A. prefix_has f (put 4 h 0 child) o child (omega arith) same (has_put 4 h 0 child (omega arith)) p below A;
    })
