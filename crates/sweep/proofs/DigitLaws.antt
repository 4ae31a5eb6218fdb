-- Laws of binary digits: halves, the complement of a word, its lowest digit, and the word without that. Assumes nothing.
use Prim.Native.Nat.{ℕ, zero, suc, ◌+◌, ◌-◌, ◌*◌, ◌/◌, ◌%◌, ◌^◌, ◌<◌, ◌≤◌}
use mathlib.Core.Path.{◌≡◌, refl, sym, ap, ◌∙◌}
use native.Mathlib.Omega.{arith}
use native.Mathlib.Decide.{dec_lt}
use lib.Pow.{pow_pos, pow-add, shr-shr}
use lib.Bits.{bit_and, and_le_r}
use lib.Count.{count_trailing_zeros, under}
use Rattle.claims.specs.Units.{digit}
use Rattle.claims.proofs.BitLaws.{digit_and}
use Rattle.sweep.specs.Sweep.{Lowest, Dropped}

-- ---- halves

digit_first : (w : ℕ) → digit w 0 ≡ w % 2
unfolding digit
digit_first w = omega arith

digit_half : (w j : ℕ) → digit w (suc j) ≡ digit (w / 2) j
unfolding digit
digit_half w j = let e : suc j ≡ 1 + j = omega arith in rw e (ap (λ (x : ℕ). x % 2) (sym (shr-shr w 1 j)))

pow_two : (k : ℕ) → 2 ^ suc k ≡ 2 * 2 ^ k
pow_two k = let e : suc k ≡ 1 + k = omega arith in rw e (pow-add 2 1 k)

-- ---- the complement

pub digit_not : (k w j : ℕ) → w < 2 ^ k → j < k → digit (2 ^ k - 1 - w) j + digit w j ≡ 1
digit_not zero w j h l = absurd (omega arith)
digit_not (suc k) w zero h l = omega (arith, pow_two k, pow_pos k, digit_first w, digit_first (2 ^ suc k - 1 - w))
digit_not (suc k) w (suc j) h l =
    let e = pow_two k in
    let p = pow_pos k in
    let q : (2 ^ suc k - 1 - w) / 2 ≡ 2 ^ k - 1 - w / 2 = omega arith in
    let r : digit (2 ^ suc k - 1 - w) (suc j) ≡ digit (2 ^ k - 1 - w / 2) j = digit_half (2 ^ suc k - 1 - w) j ∙ ap (λ (x : ℕ). digit x j) q in
    omega (arith, r, digit_half w j, digit_not k (w / 2) j (omega arith) (omega arith))

-- ---- the lowest digit

pub lowest_is : (k w : ℕ) → 1 ≤ w → w < 2 ^ k → Lowest w (count_trailing_zeros k w) × (count_trailing_zeros k w < k)
unfolding count_trailing_zeros
lowest_is zero w p h = absurd (omega arith)
lowest_is (suc k) w p h = let e = pow_two k in go (w % 2) refl (λ z. lowest_is k (w / 2) (omega arith) (omega arith))
  where
    here : ℕ
    here = count_trailing_zeros k (w / 2)

    go : (r : ℕ) → w % 2 ≡ r → (w % 2 ≡ 0 → Lowest (w / 2) here × (here < k)) → Lowest w (under r here) × (under r here < suc k)
    go zero e on =
        let L = on e in
        let l = L.1 in
        (record { one = digit_half w here ∙ L.0.one; below = less L.0 }, omega arith)
      where
        less : Lowest (w / 2) here → (j : ℕ) → j < suc here → digit w j ≡ 0
        less L zero l = digit_first w ∙ e
        less L (suc j) l = digit_half w j ∙ L.below j (omega arith)
    go (suc r) e on = (record { one = digit_first w ∙ omega arith; below = λ j l. absurd (omega arith) }, omega arith)

-- ---- one less: the lowest digit goes, those above stay

halved : (w k : ℕ) → Lowest w (suc k) → Lowest (w / 2) k
halved w k L = record { one = sym (digit_half w k) ∙ L.one; below = λ j l. sym (digit_half w j) ∙ L.below (suc j) (omega arith) }

even : (w k : ℕ) → Lowest w (suc k) → w % 2 ≡ 0
even w k L = sym (digit_first w) ∙ L.below 0 (omega arith)

less_at : (k w : ℕ) → Lowest w k → digit (w - 1) k ≡ 0
less_at zero w L = omega (arith, digit_first w, digit_first (w - 1), L.one)
less_at (suc k) w L =
    let z = even w k L in
    let e : (w - 1) / 2 ≡ w / 2 - 1 = omega arith in
    digit_half (w - 1) k ∙ ap (λ (x : ℕ). digit x k) e ∙ less_at k (w / 2) (halved w k L)

less_above : (k w j : ℕ) → Lowest w k → k < j → digit (w - 1) j ≡ digit w j
less_above k w zero L l = absurd (omega arith)
less_above zero w (suc j) L l =
    let z = sym (digit_first w) ∙ L.one in
    let e : (w - 1) / 2 ≡ w / 2 = omega arith in
    digit_half (w - 1) j ∙ ap (λ (x : ℕ). digit x j) e ∙ sym (digit_half w j)
less_above (suc k) w (suc j) L l =
    let z = even w k L in
    let e : (w - 1) / 2 ≡ w / 2 - 1 = omega arith in
    digit_half (w - 1) j ∙ ap (λ (x : ℕ). digit x j) e ∙ less_above k (w / 2) j (halved w k L) (omega arith) ∙ sym (digit_half w j)

pub dropped_is : (w : ℕ) → Dropped w (bit_and w (w - 1))
dropped_is w =
    record {
      at = λ k L. omega (arith, digit_and w (w - 1) k, less_at k w L);
      other = λ k j L n. elim (dec_lt j k) [
        | yes p ↦ omega (arith, digit_and w (w - 1) j, L.below j p)
        | no p ↦ omega (arith, digit_and w (w - 1) j, less_above k w j L (omega arith))
      ];
    }

pub dropped_less : (w : ℕ) → 1 ≤ w → bit_and w (w - 1) < w
dropped_less w h = omega (arith, and_le_r w (w - 1))
