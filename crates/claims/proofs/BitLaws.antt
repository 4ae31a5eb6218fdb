-- Laws of binary digits: of a mask, of `&` and `|`, and of the map's marks after one word is changed. Assumes nothing.
use Prim.Native.Nat.{ℕ, suc, ◌+◌, ◌-◌, ◌*◌, ◌/◌, ◌%◌, ◌^◌, ◌<◌, ◌≤◌, min, max}
use mathlib.Core.Path.{◌≡◌, refl, sym, ap, ◌∙◌}
use mathlib.Core.List.{List}
use native.Mathlib.Omega.{arith}
use native.Mathlib.Decide.{dec_le, dec_lt}
use native.Mathlib.Nat.{mul_assoc, div-eq_of_lt, max-add-min}
use native.Mathlib.Numerals.{add-one}
use lib.ListN.{length, get_or, set, length-set}
use lib.Seq.{get_or-set_same, get_or-set_other}
use lib.Arith.{bin_ind}
use lib.Pow.{pow_pos, pow_mono, pow-add, shl_exact, shl-shr, shl_lt, shr-shr, high, ones_lt, ones_split}
use lib.Bits.{bit_and, bit_or, and_step, or_step, and_shr, or_shr, shifted_even}
use Rattle.model.specs.Item.{inside}
use Rattle.model.proofs.ItemLaws.{in_yes, in_under, in_over, in_where}
use Rattle.claims.specs.Units.{digit, bit, Mask, Run, Claimed, Taken}

-- ---- intervals

-- a lies in the one just if b lies in the other
pub in_same : (lo n a to m b : ℕ) → (lo ≤ a → a < lo + n → (to ≤ b) × (b < to + m)) → (to ≤ b → b < to + m → (lo ≤ a) × (a < lo + n)) → inside lo n a ≡ inside to m b
in_same lo n a to m b f g =
    let v = in_where lo n a in
    let w = in_where to m b in
    elim (dec_le 1 (inside lo n a)) [
      | yes p ↦ let h = f (v.is p).0 (v.is p).1 in omega (arith, in_yes to m b h.0 h.1)
      | no p ↦ elim (dec_le 1 (inside to m b)) [
        | yes q ↦ let h = g (w.is q).0 (w.is q).1 in omega (arith, in_yes lo n a h.0 h.1)
        | no q ↦ omega arith
      ]
    ]

-- two that meet
in_join : (lo n c a : ℕ) → inside lo (n + c) a ≡ inside lo n a + inside (lo + n) c a
in_join lo n c a = elim (dec_lt a (lo + n)) [
  | yes p ↦ omega (arith, in_under (lo + n) c a p, in_same lo (n + c) a lo n a (λ g h. (g, p)) (λ g h. (g, omega arith)))
  | no p ↦ omega (arith, in_over lo n a (omega arith), in_same lo (n + c) a (lo + n) c a (λ g h. (omega arith, omega arith)) (λ g h. (omega arith, omega arith)))
]

-- ---- masks

ones_shr : (n k w : ℕ) → n + k ≡ w → (2 ^ w - 1) / 2 ^ k ≡ 2 ^ n - 1
ones_shr n k w e = rw (sym e) (ap (λ (x : ℕ). x / 2 ^ k) (ones_split n k) ∙ high (2 ^ n - 1) k (ones_lt k))

ones_odd : (d : ℕ) → (2 ^ suc d - 1) % 2 ≡ 1
ones_odd d = let e : 2 ^ suc d - 1 ≡ (2 ^ d - 1) * 2 + 1 = rw (add-one d) at (ones_split d 1) in omega arith

digit_mask : (lo n j : ℕ) → digit ((2 ^ n - 1) * 2 ^ lo) j ≡ inside lo n j
unfolding digit
digit_mask lo n j = elim (dec_lt j lo) [
  | yes p ↦ below (lo - suc j) (omega arith) ∙ sym (in_under lo n j p)
  | no p ↦ elim (dec_lt j (lo + n)) [
    | yes q ↦ amid (j - lo) (lo + n - suc j) (omega arith) (omega arith) ∙ sym (in_yes lo n j (omega arith) q)
    | no q ↦ ap (λ (x : ℕ). x % 2) (div-eq_of_lt (beyond (omega arith))) ∙ sym (in_over lo n j (omega arith))
  ]
]
  where
    X : ℕ
    X = 2 ^ n - 1

    below : (d : ℕ) → lo ≡ suc d + j → X * 2 ^ lo / 2 ^ j % 2 ≡ 0
    below d e =
        rw e (ap (λ (x : ℕ). X * x / 2 ^ j % 2) (pow-add 2 (suc d) j)
        ∙ ap (λ (x : ℕ). x / 2 ^ j % 2) (sym (mul_assoc X (2 ^ suc d) (2 ^ j)))
        ∙ ap (λ (x : ℕ). x % 2) (shl-shr (X * 2 ^ suc d) j)
        ∙ shifted_even X d)

    amid : (i d : ℕ) → j ≡ lo + i → n ≡ suc d + i → X * 2 ^ lo / 2 ^ j % 2 ≡ 1
    amid i d e f =
        rw e (ap (λ (x : ℕ). x % 2) (sym (shr-shr (X * 2 ^ lo) lo i))
        ∙ ap (λ (x : ℕ). x / 2 ^ i % 2) (shl-shr X lo)
        ∙ ap (λ (x : ℕ). x % 2) (ones_shr (suc d) i n (sym f))
        ∙ ones_odd d)

    beyond : n + lo ≤ j → X * 2 ^ lo < 2 ^ j
    beyond h = let l = shl_lt n lo (ones_lt n) in let k = pow_mono h in omega arith

-- as the code makes it
pub mask_is : (lo n : ℕ) → lo + n ≤ 64 → Mask lo n ((2 ^ 64 - 1) / 2 ^ (64 - n) * 2 ^ lo % 2 ^ 64)
mask_is lo n h = record { digits = λ j. ap (λ (x : ℕ). digit x j) (made 64 h) ∙ digit_mask lo n j }
  where
    made : (w : ℕ) → lo + n ≤ w → (2 ^ w - 1) / 2 ^ (w - n) * 2 ^ lo % 2 ^ w ≡ (2 ^ n - 1) * 2 ^ lo
    made w l = ap (λ (x : ℕ). x * 2 ^ lo % 2 ^ w) (ones_shr n (w - n) w (omega arith)) ∙ shl_exact n lo w (ones_lt n) (omega arith)

-- ---- `&` and `|`

pub digit_few : (w j : ℕ) → digit w j ≤ 1
unfolding digit
digit_few w j = omega arith

pub digit_and : (a b j : ℕ) → digit (bit_and a b) j ≡ min (digit a j) (digit b j)
unfolding digit
digit_and a b j = ap (λ (x : ℕ). x % 2) (and_shr a b j) ∙ odd (a / 2 ^ j) (b / 2 ^ j)
  where
    odd : (x y : ℕ) → bit_and x y % 2 ≡ min (x % 2) (y % 2)
    odd x y = omega (arith, and_step x y)

digit_or : (a b j : ℕ) → digit (bit_or a b) j ≡ max (digit a j) (digit b j)
unfolding digit
digit_or a b j = ap (λ (x : ℕ). x % 2) (or_shr a b j) ∙ odd (a / 2 ^ j) (b / 2 ^ j)
  where
    odd : (x y : ℕ) → bit_or x y % 2 ≡ max (x % 2) (y % 2)
    odd x y = omega (arith, or_step x y)

pub digit_zero : (j : ℕ) → digit 0 j ≡ 0
unfolding digit
digit_zero j = ap (λ (x : ℕ). x % 2) (div-eq_of_lt (pow_pos j))

-- no digit in common: `|` adds
digit_apart : (a b j : ℕ) → bit_and a b ≡ 0 → digit (bit_or a b) j ≡ digit a j + digit b j
digit_apart a b j e =
    let z : digit (bit_and a b) j ≡ 0 = rw e (digit_zero j) in
    omega (arith, digit_and a b j, digit_or a b j, max-add-min (digit a j) (digit b j))

-- a number that is not 0 has a digit that is not
record One (w : ℕ) : Type 0 where
  at : ℕ
  one : digit w at ≡ 1

some_one : (w : ℕ) → 1 ≤ w → One w
unfolding digit
some_one = bin_ind (λ (w : ℕ). 1 ≤ w → One w) (λ h. absurd (omega arith)) (λ w on h. elim (dec_le 1 (w / 2)) [
  | yes p ↦ let o = on p in record { at = 1 + o.at; one = ap (λ (x : ℕ). x % 2) (sym (shr-shr w 1 o.at)) ∙ o.one }
  | no p ↦ record { at = 0; one = let e : w ≡ 1 = omega arith in rw e }
])

-- a digit in common
record Common (a b : ℕ) : Type 0 where
  at : ℕ
  left : digit a at ≡ 1
  right : digit b at ≡ 1

some_common : (a b : ℕ) → (bit_and a b ≡ 0 → ⊥) → Common a b
some_common a b n =
    let o = some_one (bit_and a b) (omega arith) in
    let e = digit_and a b o.at in
    let f = digit_few a o.at in
    let g = digit_few b o.at in
    let d = o.one in
    record { at = o.at; left = omega arith; right = omega arith }

-- ---- the map

pub bit_few : (m : List ℕ) (u : ℕ) → bit m u ≤ 1
unfolding bit
bit_few m u = digit_few (get_or m (u / 64) 0) (u % 64)

-- one word of it, b the mask of the c units from at on
module _ (m : List ℕ) (at c b : ℕ) (M : Mask (at % 64) c b) (fits : at % 64 + c ≤ 64) (here : at / 64 < length m) where
  abbrev word : ℕ
  word = get_or m (at / 64) 0

  word_marks : bit_and word b ≡ 0 → (u : ℕ) → bit (set m (at / 64) (bit_or word b)) u ≡ bit m u + inside at c u
  unfolding bit
  word_marks e u = elim (dec_lt (u / 64) (at / 64)) [
    | yes p ↦ rw (get_or-set_other m (at / 64) (u / 64) (bit_or word b) 0 (λ z. omega arith)) (omega (arith, in_under at c u (omega arith)))
    | no p ↦ elim (dec_lt (at / 64) (u / 64)) [
      | yes q ↦ rw (get_or-set_other m (at / 64) (u / 64) (bit_or word b) 0 (λ z. omega arith)) (omega (arith, in_over at c u (omega arith)))
      | no q ↦
          let z : u / 64 ≡ at / 64 = omega arith in
          rw (z, get_or-set_same m (at / 64) (bit_or word b) 0 here)
          (omega (
            arith,
            digit_apart word b (u % 64) e,
            M.digits (u % 64),
            in_same (at % 64) c (u % 64) at c u (λ g h. (omega arith, omega arith)) (λ g h. (omega arith, omega arith)),
          ))
    ]
  ]

  word_taken : (bit_and word b ≡ 0 → ⊥) → Taken at c m
  unfolding bit
  word_taken n =
      let o = some_common word b n in
      let w = (in_where (at % 64) c o.at).is (omega (arith, o.right, M.digits o.at)) in
      let q : (at / 64 * 64 + o.at) / 64 ≡ at / 64 = omega arith in
      let r : (at / 64 * 64 + o.at) % 64 ≡ o.at = omega arith in
      record { unit = at / 64 * 64 + o.at; from = omega arith; below = omega arith; mark = rw (q, r) o.left }

-- ---- a claim, word by word

-- of count units from lo, the last, left of them from at on, are not marked yet
pub record Claiming (lo count at left : ℕ) (m m' : List ℕ) : Type 0 where
  pub size : length m' ≡ length m
  pub ends : at + left ≡ lo + count
  pub rest : left ≤ count
  pub done : Claimed lo (count - left) m m'

pub claim_start : (lo count : ℕ) (m : List ℕ) → Claiming lo count lo count m m
claim_start lo count m = record { size = refl; ends = refl; rest = omega arith; done = record { marks = λ u. omega (arith, none u) } }
  where
    none : (u : ℕ) → inside lo (count - count) u ≡ 0
    none u = elim (dec_lt u lo) [
      | yes p ↦ in_under lo (count - count) u p
      | no p ↦ in_over lo (count - count) u (omega arith)
    ]

pub claim_end : {lo count at left : ℕ} {m m' : List ℕ} → Claiming lo count at left m m' → left ≡ 0 → Claimed lo count m m'
claim_end {lo} {count} {at} {left} C e = let z : count - left ≡ count = omega arith in rw z at C.done

module _ {lo count at left c b : ℕ} {m m' : List ℕ} (C : Claiming lo count at left m m') (R : Run at left c)
    (M : Mask (at % 64) c b) (fits : lo + count ≤ 64 * length m) where
  pub claim_more : bit_and (get_or m' (at / 64) 0) b ≡ 0
      → Claiming lo count (at + c) (left - c) m (set m' (at / 64) (bit_or (get_or m' (at / 64) 0) b))
  claim_more z =
      let f : lo + (count - left) ≡ at = omega arith in
      let g : count - (left - c) ≡ count - left + c = omega arith in
      let D = word_marks m' at c b M R.in_word (omega arith) z in
      record {
        size = simp length-set C.size;
        ends = omega arith;
        rest = omega arith;
        done = rw g (record { marks = λ u. omega (arith, C.done.marks u, D u, rw f at (in_join lo (count - left) c u)) });
      }

  pub claim_taken : (bit_and (get_or m' (at / 64) 0) b ≡ 0 → ⊥) → Taken lo count m
  claim_taken n =
      let T = word_taken m' at c b M R.in_word (omega arith) n in
      let p = T.from in
      let q = T.below in
      let d = T.mark in
      record { unit = T.unit; from = omega arith; below = omega arith; mark = omega (arith, C.done.marks T.unit, in_over lo (count - left) T.unit (omega arith)) }
