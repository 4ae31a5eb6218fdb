-- Bytes that a frame has at a place: joined, padded with zeros, kept by what is written elsewhere, and written as numbers. Assumes nothing.
use Prim.Native.Nat.{ℕ, zero, suc, ◌+◌, ◌-◌, ◌*◌, ◌/◌, ◌%◌, ◌<◌, ◌≤◌}
use mathlib.Core.Path.{◌≡◌, refl, sym, ap, ◌∙◌}
use mathlib.Core.List.{List, [], ◌∷◌, ◌++◌}
use mathlib.Core.Logic.{◌⊎◌, inl, inr}
use native.Mathlib.Omega.{arith}
use native.Mathlib.Decide.{dec_lt, ℕ_discrete}
use lib.ListN.{length, get_or, set, replicate, length-append, length-set, length-replicate, get_or-replicate, get_or-append}
use lib.Seq.{ext_get_or, get_or-append-add, get_or-set_same, get_or-set_other}
use Rattle.layout.specs.Number.{put, byte_at}
use Rattle.layout.specs.Place.{entry_at}
use Rattle.layout.proofs.NumberLaws.{get_or_put_off, length_put}
use Rattle.model.specs.Image.{digits, numbers, padded}
use Rattle.model.specs.Body.{Zero, Has}
use Rattle.model.proofs.TextLaws.{has_at, has_left, has_right, padded_left, padded_past, length_numbers, length_padded}
use Rattle.model.proofs.ImageLaws.{numbers_append, Entries}
use Rattle.moves.specs.Moved.{Only}
use Rattle.moves.proofs.MoveLaws.{outside, only_put}

-- ---- joined

module _ {m : List ℕ} {o : ℕ} where
  pub has_nil : o ≤ length m → Has m o []
  has_nil h = record { fits = omega arith; text = λ i l. absurd (omega arith) }

  pub has_one : (x : ℕ) → o < length m → byte_at m o ≡ x → Has m o (x ∷ [])
  has_one x h e = record { fits = omega arith; text = λ i l. let z : i ≡ 0 = omega arith in let y : o + 0 ≡ o = omega arith in rw (z, y) e }

  pub has_join : (xs ys : List ℕ) (n : ℕ) → length xs ≡ n → Has m o xs → Has m (o + n) ys → Has m o (xs ++ ys)
  has_join xs ys n e X Y =
      let k = length-append xs ys in
      let fit = Y.fits in
      record {
        fits = omega arith;
        text = λ i h. elim (dec_lt i (length xs)) [
          | yes p ↦ X.text i p ∙ sym (get_or-append xs ys 0 i p)
          | no p ↦
              let y : o + n + (i - n) ≡ o + i = omega arith in
              let z : length xs + (i - n) ≡ i = omega arith in
              sym (ap (byte_at m) y) ∙ Y.text (i - n) (omega arith) ∙ sym (get_or-append-add xs ys (i - n) 0) ∙ ap (λ (j : ℕ). get_or (xs ++ ys) j 0) z
        ];
      }

-- zeros
pub zero_at : (m : List ℕ) (n : ℕ) → Zero m 0 n → (a : ℕ) → a < n → byte_at m a ≡ 0
zero_at m n Z a l = let z : 0 + a ≡ a = omega arith in rw z at (Z a l)

pub has_zeros : {m : List ℕ} {o : ℕ} (n : ℕ) → o + n ≤ length m → Zero m o n → Has m o (replicate n 0)
has_zeros n h Z =
    let k = length-replicate {A = ℕ} n 0 in
    record { fits = omega arith; text = λ i l. Z i (omega arith) ∙ sym (get_or-replicate n i 0 0 (omega arith)) }

pub has_padded : {m : List ℕ} {o : ℕ} (n : ℕ) (xs : List ℕ) → length xs ≤ n → o + n ≤ length m → Has m o xs → Zero m (o + length xs) (n - length xs) → Has m o (padded n xs)
has_padded n xs l h X Z = has_join xs (replicate (n - length xs) 0) (length xs) refl X (has_zeros (n - length xs) (omega arith) Z)

-- three strings, one behind the other
pub three_has : {m : List ℕ} {o : ℕ} (a b : ℕ) (xs ys zs : List ℕ) → length xs ≡ a → length ys ≡ b → Has m o xs → Has m (o + a) ys → Has m (o + (a + b)) zs → Has m o (xs ++ ys ++ zs)
three_has a b xs ys zs e h X Y Z = has_join (xs ++ ys) zs (a + b) (omega (arith, length-append xs ys)) (has_join xs ys a e X Y) Z

-- all of a frame
pub has_whole : (m xs : List ℕ) → length xs ≡ length m → Has m 0 xs → m ≡ xs
has_whole m xs e H = ext_get_or 0 m xs (sym e) (λ i h. let z : 0 + i ≡ i = omega arith in rw z at (H.text i (omega arith)))

-- ---- kept

pub has_same : {m g : List ℕ} {o : ℕ} (xs : List ℕ) → length g ≡ length m → ((a : ℕ) → o ≤ a → a < o + length xs → byte_at g a ≡ byte_at m a) → Has m o xs → Has g o xs
has_same {m} {g} {o} xs e same H =
    let fit = H.fits in
    record { fits = omega arith; text = λ i h. same (o + i) (omega arith) (omega arith) ∙ H.text i h }

module _ {m g : List ℕ} {lo hi : ℕ} (O : Only m g lo hi) where
  pub has_only : {o : ℕ} (xs : List ℕ) → (o + length xs ≤ lo) ⊎ (hi ≤ o) → Has m o xs → Has g o xs
  has_only {o} xs w H = has_same xs O.size (outside o (length xs) O w) H

  pub zero_only : (o n : ℕ) → (o + n ≤ lo) ⊎ (hi ≤ o) → Zero m o n → Zero g o n
  zero_only o n w Z i h = outside o n O w (o + i) (omega arith) (omega arith) ∙ Z i h

  -- what is written right behind bytes that are padded takes the place of zeros
  pub padded_more : {o : ℕ} (n : ℕ) (xs ys : List ℕ) → o + length xs ≡ lo → length ys ≡ hi - lo → length xs + length ys ≤ n → lo ≤ hi → Has m o (padded n xs) → Has g lo ys → Has g o (padded n (xs ++ ys))
  padded_more {o} n xs ys a b l c H Y =
      let k = length-append xs ys in
      let p = length_padded n xs (omega arith) in
      let fit = H.fits in
      let s = O.size in
      has_padded n (xs ++ ys) (omega arith) (omega arith)
      (has_join xs ys (length xs) refl (has_only xs (inl (omega arith)) (padded_left n xs H)) (has_at (o + length xs) ys (sym a) Y))
      (λ i h. O.above (o + length (xs ++ ys) + i) (omega arith) ∙ padded_past n xs H (o + length (xs ++ ys) + i) (omega arith) (omega arith))

-- ---- written

pub has_put : (w : ℕ) (m : List ℕ) (o v : ℕ) → o + w ≤ length m → Has (put w m o v) o (digits w v)
unfolding put
has_put zero m o v h = has_nil (omega arith)
has_put (suc w) m o v h =
    let s = set m o (v % 256) in
    let n = length-set m o (v % 256) in
    let k = length_put w s (o + 1) (v / 256) in
    has_join (v % 256 ∷ []) (digits w (v / 256)) 1 refl
    (has_one (v % 256) (omega arith) (get_or_put_off w s (o + 1) (v / 256) o (inl (omega arith)) ∙ get_or-set_same m o (v % 256) 0 (omega arith)))
    (has_put w s (o + 1) (v / 256) (omega arith))

-- one number more, right behind what is there
pub has_more : (w : ℕ) (m : List ℕ) (o v : ℕ) (xs : List ℕ) → length xs ≡ o → o + w ≤ length m → Has m 0 xs → Has (put w m o v) 0 (xs ++ digits w v)
has_more w m o v xs e h H =
    let z : 0 + o ≡ o = omega arith in
    has_join xs (digits w v) o e (has_only (only_put w m o v) xs (inl (omega arith)) H) (has_at (0 + o) (digits w v) (sym z) (has_put w m o v h))

-- one element of what is there is written
pub has_set : {m : List ℕ} {o : ℕ} (l : List ℕ) (p v : ℕ) → p < length l → Has m o l → Has (set m (o + p) v) o (set l p v)
has_set {m} {o} l p v h H =
    let k = length-set l p v in
    let n = length-set m (o + p) v in
    let fit = H.fits in
    record {
      fits = omega arith;
      text = λ i x. elim (ℕ_discrete i p) [
        | yes e ↦ rw e (get_or-set_same m (o + p) v 0 (omega arith) ∙ sym (get_or-set_same l p v 0 h))
        | no e ↦ get_or-set_other m (o + p) (o + i) v 0 (λ z. e (omega arith)) ∙ H.text i (omega arith) ∙ sym (get_or-set_other l p i v 0 e)
      ];
    }

pub numbers_set : {m : List ℕ} {o : ℕ} (l : List ℕ) (p v : ℕ) → p < length l → Has m o (numbers 4 l) → Has (put 4 m (o + 4 * p) v) o (numbers 4 (set l p v))
numbers_set [] p v h H = absurd (omega arith)
numbers_set {m} {o} (x ∷ l) zero v h H =
    let z : o + 4 * 0 ≡ o = omega arith in
    let fit = (has_left (digits 4 x) (numbers 4 l) H).fits in
    rw z (has_join (digits 4 v) (numbers 4 l) 4 refl (has_put 4 m o v fit) (has_only (only_put 4 m o v) (numbers 4 l) (inr (omega arith)) (has_right (digits 4 x) (numbers 4 l) 4 refl H)))
numbers_set {m} {o} (x ∷ l) (suc p) v h H =
    let z : o + 4 * suc p ≡ o + 4 + 4 * p = omega arith in
    rw z (has_join (digits 4 x) (numbers 4 (set l p v)) 4 refl (has_only (only_put 4 m (o + 4 + 4 * p) v) (digits 4 x) (inl (omega arith)) (has_left (digits 4 x) (numbers 4 l) H))
    (numbers_set {o = o + 4} l p v (omega arith) (has_right (digits 4 x) (numbers 4 l) 4 refl H)))

-- ---- the entries of the slots from s on

pub entries_join : (m : List ℕ) (s : ℕ) (xs ys : List ℕ) (n : ℕ) → length xs ≡ n → Entries m s xs → Entries m (s + n) ys → Entries m s (xs ++ ys)
entries_join m s xs ys n e X Y =
    let k = length_numbers xs in
    rw (numbers_append xs ys) (has_join (numbers 4 xs) (numbers 4 ys) (4 * n) (omega arith) X (has_at (entry_at s + 4 * n) (numbers 4 ys) (omega arith) Y))
