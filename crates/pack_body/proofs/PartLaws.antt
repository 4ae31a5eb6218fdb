-- What was written in a lent part, said of the whole: the part starts at a and has k bytes, and ys stands in its place. Assumes nothing.
use Prim.Native.Nat.{ℕ, ◌+◌, ◌-◌, ◌<◌, ◌≤◌}
use mathlib.Core.Path.{◌≡◌, sym, ap, ◌∙◌}
use mathlib.Core.List.{List, ◌++◌}
use native.Mathlib.Omega.{arith}
use native.Mathlib.Decide.{dec_lt}
use lib.ListN.{length, take, drop, length-append, length-drop, get_or-append}
use lib.Seq.{length-take-le, get_or-append-add, get_or-take, get_or-drop}
use borrow.Rule.Slice.PartMut.{put_mid, mid_of, post_of}
use Rattle.layout.specs.Number.{byte_at}
use Rattle.model.specs.Body.{Zero, Has}
use Rattle.moves.specs.Moved.{Only}
use Rattle.moves.specs.Pasted.{Pasted}

module _ (a k : ℕ) (xs : List ℕ) (h : a + k ≤ length xs) where
  -- ---- the part

  pub part_long : length (mid_of a k xs) ≡ k
  part_long = length-take-le k (drop a xs) (omega (arith, length-drop a xs))

  pub part_byte : (j : ℕ) → j < k → byte_at (mid_of a k xs) j ≡ byte_at xs (a + j)
  part_byte j l = get_or-take k (drop a xs) j 0 l ∙ get_or-drop a xs j 0

  pub part_zero : (i n : ℕ) → i + n ≤ k → Zero xs (a + i) n → Zero (mid_of a k xs) i n
  part_zero i n l Z j p = let z : a + (i + j) ≡ a + i + j = omega arith in part_byte (i + j) (omega arith) ∙ rw z (Z j p)

  -- ---- the whole with ys in its place

  module _ (ys : List ℕ) where
    front : length (take a xs) ≡ a
    front = length-take-le a xs (omega arith)

    whole_in : (j : ℕ) → j < length ys → byte_at (put_mid a k xs ys) (a + j) ≡ byte_at ys j
    whole_in j l =
        ap (λ (n : ℕ). byte_at (put_mid a k xs ys) (n + j)) (sym front) ∙ get_or-append-add (take a xs) (ys ++ post_of a k xs) j 0 ∙ get_or-append ys (post_of a k xs) 0 j l

    whole_below : (j : ℕ) → j < a → byte_at (put_mid a k xs ys) j ≡ byte_at xs j
    whole_below j l = get_or-append (take a xs) (ys ++ post_of a k xs) 0 j (omega (arith, front)) ∙ get_or-take a xs j 0 l

    whole_above : length ys ≡ k → (j : ℕ) → a + k ≤ j → byte_at (put_mid a k xs ys) j ≡ byte_at xs j
    whole_above e j l =
        let i = j - (a + k) in
        let u : length (take a xs) + (length ys + i) ≡ j = omega (arith, front) in
        let v : a + (k + i) ≡ j = omega arith in
        ap (λ (n : ℕ). byte_at (put_mid a k xs ys) n) (sym u) ∙ get_or-append-add (take a xs) (ys ++ post_of a k xs) (length ys + i) 0 ∙ get_or-append-add ys (post_of a k xs) i 0
        ∙ get_or-drop k (drop a xs) i 0 ∙ get_or-drop a xs (k + i) 0 ∙ ap (byte_at xs) v

    whole_long : length (put_mid a k xs ys) ≡ a + (length ys + (length xs - (a + k)))
    whole_long =
        omega (arith, front, length-append (take a xs) (ys ++ post_of a k xs), length-append ys (post_of a k xs), length-drop k (drop a xs), length-drop a xs)

    pub part_has : {i : ℕ} (bs : List ℕ) → Has ys i bs → Has (put_mid a k xs ys) (a + i) bs
    part_has {i} bs H =
        let n = whole_long in
        let fit = H.fits in
        record { fits = omega arith; text = λ j l. let z : a + i + j ≡ a + (i + j) = omega arith in rw z (whole_in (i + j) (omega arith) ∙ H.text j l) }

    pub part_only : {lo hi : ℕ} → Only (mid_of a k xs) ys lo hi → Only xs (put_mid a k xs ys) (a + lo) (a + hi)
    part_only {lo} {hi} O =
        let s : length ys ≡ k = O.size ∙ part_long in
        let n = whole_long in
        let here : (x : ℕ) → a ≤ x → x < a + k → byte_at ys (x - a) ≡ byte_at (mid_of a k xs) (x - a) → byte_at (put_mid a k xs ys) x ≡ byte_at xs x = λ x p q e.
        (let z : a + (x - a) ≡ x = omega arith in rw z at (whole_in (x - a) (omega arith) ∙ e ∙ part_byte (x - a) (omega arith))) in
        record {
          size = omega arith;
          below = λ x l. elim (dec_lt x a) [
            | yes p ↦ whole_below x p
            | no p ↦ elim (dec_lt x (a + k)) [ yes q ↦ here x (omega arith) q (O.below (x - a) (omega arith)) | no q ↦ whole_above s x (omega arith) ]
          ];
          above = λ x l. elim (dec_lt x (a + k)) [
            | yes q ↦ here x (omega arith) q (O.above (x - a) (omega arith))
            | no q ↦ whole_above s x (omega arith)
          ];
        }

    -- bytes pasted at the part's start
    pub part_pasted : {n : ℕ} (p : List ℕ) → n ≤ k → Pasted (mid_of a k xs) ys 0 n p → Pasted xs (put_mid a k xs ys) a n p
    part_pasted {n} p few P =
        let s : length ys ≡ k = P.only.size ∙ part_long in
        let x : a + 0 ≡ a = omega arith in
        let y : a + (0 + n) ≡ a + n = omega arith in
        record { only = rw (x, y) at (part_only P.only); text = λ b i l e. rw e (whole_in i (omega arith) ∙ P.text i i l (omega arith)) }
