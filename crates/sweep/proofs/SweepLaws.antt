-- The sweep, exit by exit, and that it decides what a good frame has to be where nothing live stands. Assumes nothing.
use Prim.Native.Nat.{ℕ, ◌+◌, ◌-◌, ◌*◌, ◌/◌, ◌%◌, ◌^◌, ◌<◌, ◌≤◌}
use mathlib.Core.Path.{◌≡◌, refl, sym, ◌∙◌}
use mathlib.Core.List.{List}
use mathlib.Core.Bool.{Bool}
use native.Mathlib.Omega.{arith}
use native.Mathlib.Decide.{dec_lt, ℕ_discrete}
use lib.ListN.{length, get_or, get_or-eq_default}
use lib.Dec.{eqb}
use lib.Bits.{bit_and, bit_or}
use Rattle.layout.specs.Number.{byte_at}
use Rattle.model.specs.Item.{Item, cover, sum}
use Rattle.model.specs.Frame.{Clean}
use Rattle.model.proofs.ItemLaws.{in_yes, in_where}
use Rattle.pieces.specs.Decides.{Decides}
use Rattle.pieces.specs.Range.{Blank, Joined}
use Rattle.pieces.proofs.DecideLaws.{by_eq, handed}
use Rattle.pieces.proofs.ZeroLaws.{or_left, or_right, or_zero}
use Rattle.claims.specs.Units.{digit, bit, Mask, Run, Eighths, Seen}
use Rattle.claims.proofs.BitLaws.{digit_few, digit_and, digit_zero}
use Rattle.claims.proofs.UnitLaws.{sum_first}
use Rattle.sweep.specs.Sweep.{Lowest, Dropped, Inside, Zeros, Bare, Swept}
use Rattle.sweep.proofs.DigitLaws.{digit_not}

-- ---- a map that shows just the live items: what it has not marked is zero exactly if the frame is clean

module _ {m : List ℕ} {live : List Item} (S : Seen m live) (E : Eighths live) where
  covered : (a : ℕ) → bit m (a / 8) ≡ sum (cover a) live
  covered a = S.marks (a / 8) ∙ sym (sum_first a live E)

  module _ {f : List ℕ} {d b : ℕ} (high : (a : ℕ) → b ≤ a → sum (cover a) live ≡ 0) where
    pub swept_clean : Swept f m d b → Clean f d live
    swept_clean W =
        record {
          zero = λ a p c. elim (dec_lt a b) [
            | yes q ↦ W.bare a p q (covered a ∙ c)
            | no q ↦ elim (dec_lt a (length f)) [ yes r ↦ W.tail a (omega arith) r | no r ↦ get_or-eq_default f 0 (omega arith) ]
          ];
        }

    pub clean_swept : d ≤ b → Clean f d live → Swept f m d b
    clean_swept l C = record { bare = λ a p q z. C.zero a p (sym (covered a) ∙ z); tail = λ a p q. C.zero a (omega arith) (high a p) }

-- ---- the units of a word, joined

-- of the units `bits`, those that are not left are joined
pub record Going (f : List ℕ) (bits from joined left : ℕ) : Type 0 where
  pub part : (j : ℕ) → digit left j ≡ 1 → digit bits j ≡ 1
  pub zero : joined ≡ 0 → (j : ℕ) → digit bits j ≡ 1 → digit left j ≡ 0 → Blank f (from + 8 * j) (from + 8 * j + 8)
  pub blank : Zeros f bits from → joined ≡ 0

module _ {f : List ℕ} {bits from : ℕ} where
  pub going_start : Going f bits from 0 bits
  going_start = record { part = λ j e. e; zero = λ e j o z. absurd (omega arith); blank = λ Z. refl }

  pub going_end : {joined left : ℕ} → Going f bits from joined left → left ≡ 0 → Decides (Zeros f bits from) (eqb joined 0)
  going_end {joined} G e = by_eq joined 0 (λ z. record { zero = λ j o. G.zero z j o (rw e (digit_zero j)) }) G.blank

  pub going_on : {joined left k here next : ℕ} → Going f bits from joined left → Lowest left k → Dropped left next → Joined f (from + 8 * k) (from + 8 * k + 8) here
      → Going f bits from (bit_or joined here) next
  going_on {joined} {left} {k} {here} {next} G L D J =
      record {
        part = λ j e. elim (ℕ_discrete j k) [
          | yes z ↦ absurd (let q = D.at k L in let r : digit next k ≡ 1 = rw z at e in omega arith)
          | no z ↦ G.part j (sym (D.other k j L z) ∙ e)
        ];
        zero = λ z j o e. elim (ℕ_discrete j k) [
          | yes q ↦ rw q (J.zero (or_right joined here z))
          | no q ↦ G.zero (or_left joined here z) j o (sym (D.other k j L q) ∙ e)
        ];
        blank = λ Z. or_zero joined here (G.blank Z) (J.blank (Z.zero k (G.part k L.one)));
      }

-- ---- units that stand in one word w; b is their mask

-- those of them that are not marked
abbrev free : ℕ → ℕ → ℕ
free w b = bit_and b (2 ^ 64 - 1 - w)

-- the byte at which the word's first unit begins
abbrev first : ℕ → ℕ
first at = 8 * (at - at % 64)

module _ (at : ℕ) {n b : ℕ} (M : Mask (at % 64) n b) (word : at % 64 + n ≤ 64) where
  -- a unit's digit is in the mask, and each digit of the mask is that of a unit
  in_mask : (u : ℕ) → at ≤ u → u < at + n → digit b (u % 64) ≡ 1
  in_mask u p q = M.digits (u % 64) ∙ in_yes (at % 64) n (u % 64) (omega arith) (omega arith)

  free_in : (w j : ℕ) → digit (free w b) j ≡ 1 → (at % 64 ≤ j) × (j < at % 64 + n)
  free_in w j e = (in_where (at % 64) n j).is (omega (arith, M.digits j, digit_and b (2 ^ 64 - 1 - w) j, digit_few b j))

  module _ {f : List ℕ} {w : ℕ} {r : Bool} where
    -- none is marked: they are one range
    pub run_none : bit_and w b ≡ 0 → Decides (Blank f (8 * at) (8 * (at + n))) r → Decides (Bare f w at n) r
    run_none e D =
        handed D (λ B. record { zero = λ u p q z a x y. B a (omega arith) (omega arith) })
        (λ Z a x y.
        let u = a / 8 in
        let o : digit (bit_and w b) (u % 64) ≡ 0 = rw e (digit_zero (u % 64)) in
        Z.zero u (omega arith) (omega arith) (omega (arith, digit_and w b (u % 64), in_mask u (omega arith) (omega arith), digit_few w (u % 64))) a (omega arith) (omega arith))

    pub run_some : w < 2 ^ 64 → Decides (Zeros f (free w b) (first at)) r → Decides (Bare f w at n) r
    run_some l D =
        handed D (λ Z. record {
          zero = λ u p q z a x y.
              let j = u % 64 in
              Z.zero j (omega (arith, digit_and b (2 ^ 64 - 1 - w) j, in_mask u p q, digit_not 64 w j l (omega arith))) a (omega arith) (omega arith);
        })
        (λ B. record {
          zero = λ j e a x y.
              let q = free_in w j e in
              let u = at - at % 64 + j in
              let r : u % 64 ≡ j = omega arith in
              B.zero u (omega arith) (omega arith) (rw r (omega (arith, digit_and b (2 ^ 64 - 1 - w) j, digit_few b j, digit_not 64 w j l (omega arith)))) a (omega arith) (omega arith);
        })

  pub run_inside : {f : List ℕ} (w : ℕ) → 8 * (at + n) ≤ length f → Inside f (free w b) (first at)
  run_inside {f} w h = record { fits = λ j e. let q = free_in w j e in omega arith }

-- ---- word by word

-- the units from d on are swept up to the unit `at`, and so many are left up to b
pub record Sweeping (f m : List ℕ) (d b at left : ℕ) : Type 0 where
  pub low : d ≤ 8 * at
  pub ends : 8 * (at + left) ≡ b
  pub done : (a : ℕ) → d ≤ a → a < 8 * at → bit m (a / 8) ≡ 0 → byte_at f a ≡ 0

module _ {f m : List ℕ} {d b : ℕ} where
  module _ {at left n : ℕ} (S : Sweeping f m d b at left) (R : Run at left n) where
    -- a unit's mark is a digit of the word that all of them stand in
    mark_is : (u : ℕ) → at ≤ u → u < at + n → bit m u ≡ digit (get_or m (at / 64) 0) (u % 64)
    unfolding bit
    mark_is u p q = let l = R.in_word in let e : u / 64 ≡ at / 64 = omega arith in rw e

    pub sweep_more : Bare f (get_or m (at / 64) 0) at n → Sweeping f m d b (at + n) (left - n)
    sweep_more B =
        let h = R.most in
        let l = S.low in
        let e = S.ends in
        record {
          low = omega arith;
          ends = omega arith;
          done = λ a x y z. elim (dec_lt a (8 * at)) [
            | yes p ↦ S.done a x p z
            | no p ↦ B.zero (a / 8) (omega arith) (omega arith) (sym (mark_is (a / 8) (omega arith) (omega arith)) ∙ z) a (omega arith) (omega arith)
          ];
        }

    pub sweep_bad : (Bare f (get_or m (at / 64) 0) at n → ⊥) → Swept f m d b → ⊥
    sweep_bad no_bare W =
        let h = R.most in
        let l = S.low in
        let e = S.ends in
        no_bare (record {
          zero = λ u p q z a x y.
              let c : a / 8 ≡ u = omega arith in
              W.bare a (omega arith) (omega arith) (rw c (mark_is u p q ∙ z));
        })
