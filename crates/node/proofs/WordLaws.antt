-- Eight bytes compared at once: no bit of one byte reaches another. Assumes nothing.
use Prim.Native.Nat.{ℕ, zero, suc, ◌+◌, ◌*◌, ◌-◌, ◌/◌, ◌%◌, ◌<◌}
use mathlib.Core.Path.{◌≡◌, refl, ◌∙◌, ap}
use mathlib.Core.List.{List}
use native.Mathlib.Omega.{arith}
use native.Mathlib.Decide.{dec_lt, ℕ_discrete}
use lib.Bits.{bit_and, bit_or, bit_xor, and_block, or_block, xor_block, and_mask, and_high, or_shr, and_le_l, and_le_r, or_lt, xor_lt, xor_self, xor_add_and}
use lib.Count.{count_trailing_zeros}
use lib.Dec.{eqb}
use borrow.Author.Tests.{eq-eqb, ne_eqb}
use Rattle.layout.specs.Number.{byte_at, le, Bytes}
use Rattle.model.specs.Strings.{pick}
use Rattle.node.specs.Word.{marked, First}

-- ---- one byte

-- what is reckoned of a byte that differs from the sought one by y
abbrev mark : ℕ → ℕ
mark y = bit_xor (bit_and (bit_or (bit_and y 127 + 127) y) 128) 128

xor_none : (x b : ℕ) → bit_xor x b ≡ 0 → x ≡ b
xor_none x b e = let s = xor_add_and x b in let l = and_le_l x b in let r = and_le_r x b in omega arith

high_bit : (n : ℕ) → bit_and n 128 ≡ n / 128 % 2 * 128
high_bit n = and_high n 1 7

carry : (y : ℕ) → bit_and y 127 + 127 ≡ y % 128 + 127
carry y = ap (λ (n : ℕ). n + 127) (and_mask y 7)

-- the highest bit of what is carried, or of the byte itself
mark_top : (y s t : ℕ) → (y % 128 + 127) / 128 ≡ s → y / 128 ≡ t → mark y ≡ bit_xor (bit_or s t % 2 * 128) 128
mark_top y s t es et =
    ap (λ (n : ℕ). bit_xor (bit_and (bit_or n y) 128) 128) (carry y)
    ∙ ap (λ (n : ℕ). bit_xor n 128) (high_bit (bit_or (y % 128 + 127) y) ∙ ap (λ (n : ℕ). n % 2 * 128) (or_shr (y % 128 + 127) y 7 ∙ ap (λ (n : ℕ). bit_or n (y / 128)) es ∙ ap (λ (n : ℕ). bit_or s n) et))

mark_some : (y : ℕ) → 0 < y → y < 256 → mark y ≡ 0
mark_some y p w = elim (dec_lt y 128) [
  | yes h ↦ mark_top y 1 0 (omega arith) (omega arith)
  | no h ↦ elim (dec_lt 128 y) [
    | yes g ↦ mark_top y 1 1 (omega arith) (omega arith)
    | no g ↦ mark_top y 0 1 (omega arith) (omega arith)
  ]
]

mark_of : (x b : ℕ) → x < 256 → b < 256 → mark (bit_xor x b) ≡ pick (eqb x b) 128 0
mark_of x b hx hb = elim (ℕ_discrete x b) [
  | yes e ↦ rw (eq-eqb x b e) (ap mark (ap (λ (n : ℕ). bit_xor n b) e ∙ xor_self b))
  | no n ↦
      rw (ne_eqb x b n)
      (elim (dec_lt 0 (bit_xor x b)) [
        | yes p ↦ mark_some (bit_xor x b) p (xor_lt 8 x b hx hb)
        | no z ↦ absurd (n (xor_none x b (omega arith)))
      ])
]

-- ---- all of them

-- a byte in each of w places
abbrev pub spread : ℕ → ℕ → ℕ
spread zero b = 0
spread (suc w) b = spread w b * 256 + b

-- one more than the greatest number of w bytes
abbrev top : ℕ → ℕ
top zero = 1
top (suc w) = 256 * top w

-- what is reckoned of a word x, with the byte sought (c), the low bits (l) and the high ones (h) in each place
abbrev pub whole : ℕ → ℕ → ℕ → ℕ → ℕ
whole c l h x = bit_xor (bit_and (bit_or (bit_and (bit_xor x c) l + l) (bit_xor x c)) h) h

whole_step : (c l h x b y : ℕ) → b < 256 → y < 256 → whole (c * 256 + b) (l * 256 + 127) (h * 256 + 128) (x * 256 + y) ≡ whole c l h x * 256 + mark (bit_xor y b)
whole_step c l h x b y hb hy =
    let d = bit_xor x c in
    let e = bit_xor y b in
    let he : e < 256 = xor_lt 8 y b hy hb in
    let hs : bit_and e 127 + 127 < 256 = omega (arith, and_le_r e 127) in
    let differ = xor_block 8 x c y b hy hb in
    let low = and_block 8 d l e 127 he (omega arith) in
    let sum : bit_and d l * 256 + bit_and e 127 + (l * 256 + 127) ≡ (bit_and d l + l) * 256 + (bit_and e 127 + 127) = omega arith in
    let join = or_block 8 (bit_and d l + l) d (bit_and e 127 + 127) e hs he in
    let top = and_block 8 (bit_or (bit_and d l + l) d) h (bit_or (bit_and e 127 + 127) e) 128 (or_lt 8 (bit_and e 127 + 127) e hs he) (omega arith) in
    let last = xor_block 8 (bit_and (bit_or (bit_and d l + l) d) h) h (bit_and (bit_or (bit_and e 127 + 127) e) 128) 128 (omega (arith, and_le_r (bit_or (bit_and e 127 + 127) e) 128)) (omega arith) in
    ap (λ (n : ℕ). bit_xor (bit_and (bit_or (bit_and n (l * 256 + 127) + (l * 256 + 127)) n) (h * 256 + 128)) (h * 256 + 128)) differ
    ∙ ap (λ (n : ℕ). bit_xor (bit_and (bit_or n (d * 256 + e)) (h * 256 + 128)) (h * 256 + 128)) (ap (λ (n : ℕ). n + (l * 256 + 127)) low ∙ sum)
    ∙ ap (λ (n : ℕ). bit_xor (bit_and n (h * 256 + 128)) (h * 256 + 128)) join
    ∙ ap (λ (n : ℕ). bit_xor n (h * 256 + 128)) top
    ∙ last

pub whole_marked : (w x b : ℕ) → b < 256 → x < top w → whole (spread w b) (spread w 127) (spread w 128) x ≡ marked w x b
unfolding marked
whole_marked zero x b hb hx = let e : x ≡ 0 = omega arith in rw e refl
whole_marked (suc w) x b hb hx =
    let cut : x ≡ x / 256 * 256 + x % 256 = omega arith in
    let on = whole_marked w (x / 256) b hb (omega arith) in
    let here = mark_of (x % 256) b (omega arith) hb in
    ap (whole (spread w b * 256 + b) (spread w 127 * 256 + 127) (spread w 128 * 256 + 128)) cut
    ∙ whole_step (spread w b) (spread w 127) (spread w 128) (x / 256) b (x % 256) hb (omega arith)
    ∙ omega (arith, on, here)

-- ---- the first mark

-- eight bits for each of w bytes
abbrev bits : ℕ → ℕ
bits zero = zero
bits (suc w) = suc (suc (suc (suc (suc (suc (suc (suc (bits w))))))))

even : (d n m : ℕ) → n ≡ 2 * m → count_trailing_zeros (suc d) n ≡ suc (count_trailing_zeros d m)
unfolding count_trailing_zeros
even d n m e = let r : n % 2 ≡ 0 = omega arith in let h : n / 2 ≡ m = omega arith in rw (r, h) refl

odd : (d n m : ℕ) → n ≡ 1 + 2 * m → count_trailing_zeros (suc d) n ≡ 0
unfolding count_trailing_zeros
odd d n m e = let r : n % 2 ≡ 1 = omega arith in rw r refl

-- a byte without a mark, and one with
none_low : (w m : ℕ) → count_trailing_zeros (bits (suc w)) (0 + 256 * m) ≡ suc (suc (suc (suc (suc (suc (suc (suc (count_trailing_zeros (bits w) m))))))))
none_low w m =
    even _ (0 + 256 * m) (128 * m) (omega arith)
    ∙ ap suc (even _ (128 * m) (64 * m) (omega arith)
    ∙ ap suc (even _ (64 * m) (32 * m) (omega arith)
    ∙ ap suc (even _ (32 * m) (16 * m) (omega arith)
    ∙ ap suc (even _ (16 * m) (8 * m) (omega arith)
    ∙ ap suc (even _ (8 * m) (4 * m) (omega arith)
    ∙ ap suc (even _ (4 * m) (2 * m) (omega arith)
    ∙ ap suc (even _ (2 * m) m refl)))))))

some_low : (w m : ℕ) → count_trailing_zeros (bits (suc w)) (128 + 256 * m) ≡ 7
some_low w m =
    even _ (128 + 256 * m) (64 + 128 * m) (omega arith)
    ∙ ap suc (even _ (64 + 128 * m) (32 + 64 * m) (omega arith)
    ∙ ap suc (even _ (32 + 64 * m) (16 + 32 * m) (omega arith)
    ∙ ap suc (even _ (16 + 32 * m) (8 + 16 * m) (omega arith)
    ∙ ap suc (even _ (8 + 16 * m) (4 + 8 * m) (omega arith)
    ∙ ap suc (even _ (4 + 8 * m) (2 + 4 * m) (omega arith)
    ∙ ap suc (even _ (2 + 4 * m) (1 + 2 * m) (omega arith)
    ∙ ap suc (odd _ (1 + 2 * m) m refl)))))))

-- the place that the marks of w bytes give
abbrev placed : ℕ → ℕ → ℕ
placed w m = count_trailing_zeros (bits w) m / 8

next : (t : ℕ) → suc (suc (suc (suc (suc (suc (suc (suc t))))))) / 8 ≡ suc (t / 8)
next t = omega arith

first_none : (f : List ℕ) (at b : ℕ) → First f at 0 b 0
first_none f at b = record { within = omega arith; before = λ j l. absurd (omega arith); here = λ l. absurd (omega arith) }

first_here : (f : List ℕ) (at w b : ℕ) → byte_at f at ≡ b → First f at (suc w) b 0
first_here f at w b e = record { within = omega arith; before = λ j l. absurd (omega arith); here = λ l. ap (byte_at f) (omega arith) ∙ e }

first_on : (f : List ℕ) (at w b k : ℕ) → (byte_at f at ≡ b → ⊥) → First f (at + 1) w b k → First f at (suc w) b (suc k)
first_on f at w b k n F =
    let l = F.within in
    record {
      within = omega arith;
      before = λ j h. elim (dec_lt 0 j) [
        | yes p ↦ λ e. F.before (j - 1) (omega arith) (ap (byte_at f) (omega arith) ∙ e)
        | no z ↦ λ e. n (ap (byte_at f) (omega arith) ∙ e)
      ];
      here = λ h. ap (byte_at f) (omega arith) ∙ F.here (omega arith);
    }

pub marked_first : (w : ℕ) (f : List ℕ) (at b : ℕ) → Bytes f → First f at w b (placed w (marked w (le w f at) b))
unfolding marked le count_trailing_zeros
marked_first zero f at b B = first_none f at b
marked_first (suc w) f at b B =
    let u = B at in
    let low : (byte_at f at + 256 * le w f (at + 1)) % 256 ≡ byte_at f at = omega arith in
    let up : (byte_at f at + 256 * le w f (at + 1)) / 256 ≡ le w f (at + 1) = omega arith in
    elim (ℕ_discrete (byte_at f at) b) [
      | yes e ↦ rw (low, up, eq-eqb (byte_at f at) b e) (rw (some_low w (marked w (le w f (at + 1)) b)) (first_here f at w b e))
      | no n ↦ rw (low, up, ne_eqb (byte_at f at) b n) (rw (none_low w (marked w (le w f (at + 1)) b), next (count_trailing_zeros (bits w) (marked w (le w f (at + 1)) b))) (first_on f at w b (placed w (marked w (le w f (at + 1)) b)) n (marked_first w f (at + 1) b B)))
    ]

-- ---- a word read, as two numbers of four bytes
