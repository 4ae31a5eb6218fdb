-- What a map's marks say of the items that it shows: a refused claim says that two items would overlap, and the items of a map do not.
-- Assumes nothing.
use Prim.Native.Nat.{ℕ, ◌+◌, ◌-◌, ◌*◌, ◌/◌, ◌%◌, ◌<◌, ◌≤◌}
use mathlib.Core.Path.{◌≡◌, refl, sym, ap, ◌∙◌}
use mathlib.Core.List.{List, [], ◌∷◌}
use native.Mathlib.Omega.{arith}
use native.Mathlib.Decide.{dec_le, dec_lt}
use lib.ListN.{length, get_or, replicate, length-replicate, get_or-replicate, get_or-eq_default}
use Rattle.layout.specs.Kind.{body_size, body_sizes}
use Rattle.layout.proofs.KindLaws.{size_eighth}
use Rattle.model.specs.Item.{Item, body, extent, inside, cover, bulk, sum}
use Rattle.model.proofs.ItemLaws.{in_yes, in_under, in_over, sum_cons}
use Rattle.claims.specs.Units.{bit, Taken, Each, place, Eighth, Eighths, Within, Seen, Fits}
use Rattle.claims.proofs.BitLaws.{in_same, digit_zero, bit_few}

-- ---- one item

-- a body's size is a multiple of 8, also where the kind is none and the size 0
size_whole : (k : ℕ) → body_size k % 8 ≡ 0
size_whole k = elim (dec_le k 8) [
  | yes p ↦ elim (dec_le 1 k) [
    | yes q ↦ size_eighth k q p
    | no q ↦ let e : k ≡ 0 = omega arith in rw e
  ]
  | no p ↦ let h : 9 ≤ k = omega arith in ap (λ (x : ℕ). x % 8) (get_or-eq_default body_sizes 0 h)
]

pub cover_is : (a : ℕ) (i : Item) → cover a i ≡ inside (place i) (bulk i) a
unfolding cover bulk place
cover_is a (body s k o) = refl
cover_is a (extent e n) = refl

pub body_eighth : (s k o : ℕ) → o % 8 ≡ 0 → Eighth (body s k o)
unfolding bulk place
body_eighth s k o h = record { start = h; whole = size_whole k }

pub extent_eighth : (e n : ℕ) → e % 8 ≡ 0 → n % 8 ≡ 0 → Eighth (extent e n)
unfolding bulk place
extent_eighth e n h l = record { start = h; whole = l }

-- it covers a byte just if it covers the byte's unit
cover_unit : (a u : ℕ) (i : Item) → Eighth i → a / 8 ≡ u → cover a i ≡ inside (place i / 8) (bulk i / 8) u
cover_unit a u i E e =
    let f = E.start in
    let g = E.whole in
    cover_is a i ∙ in_same (place i) (bulk i) a (place i / 8) (bulk i / 8) u (λ p q. (omega arith, omega arith)) (λ p q. (omega arith, omega arith))

cover_first : (a : ℕ) (i : Item) → Eighth i → cover a i ≡ cover (8 * (a / 8)) i
cover_first a i E = cover_unit a (a / 8) i E refl ∙ sym (cover_unit (8 * (a / 8)) (a / 8) i E (omega arith))

pub sum_first : (a : ℕ) (is : List Item) → Eighths is → sum (cover a) is ≡ sum (cover (8 * (a / 8))) is
unfolding sum
sum_first a [] E = refl
sum_first a (i ∷ is) E = omega (arith, cover_first a i E.0, sum_first a is E.1)

-- ---- the map

pub bit_fresh : (n : ℕ) → Seen (replicate n 0) []
unfolding sum bit
bit_fresh n = record { marks = λ u. rw (zeros (u / 64)) (digit_zero (u % 64)) }
  where
    zeros : (k : ℕ) → ◌≡◌ {A = ℕ} (get_or (replicate n 0) k 0) 0
    zeros k = elim (dec_lt k n) [
      | yes p ↦ get_or-replicate n k 0 0 p
      | no p ↦ let h : length {A = ℕ} (replicate n 0) ≤ k = simp length-replicate (omega arith) in get_or-eq_default (replicate n 0) 0 h
    ]

module _ {m : List ℕ} {is : List Item} (S : Seen m is) where
  -- a refused claim
  pub refused_item : (i : Item) → Eighth i → Taken (place i / 8) (bulk i / 8) m → ((a : ℕ) → sum (cover a) (i ∷ is) ≤ 1) → ⊥
  refused_item i E T few =
      let u = T.unit in
      let e = T.mark in
      omega (arith, few (8 * u), S.marks u, sum_cons (cover (8 * u)) i is, cover_unit (8 * u) u i E (omega arith), in_yes (place i / 8) (bulk i / 8) u T.from T.below)

  pub refused_body : (s k o : ℕ) → o % 8 ≡ 0 → Taken (o / 8) (body_size k / 8) m → ((a : ℕ) → sum (cover a) (body s k o ∷ is) ≤ 1) → ⊥
  unfolding bulk place
  refused_body s k o h T = refused_item (body s k o) (body_eighth s k o h) T

  pub refused_extent : (e n : ℕ) → e % 8 ≡ 0 → n % 8 ≡ 0 → Taken (e / 8) (n / 8) m → ((a : ℕ) → sum (cover a) (extent e n ∷ is) ≤ 1) → ⊥
  unfolding bulk place
  refused_extent e n h l T = refused_item (extent e n) (extent_eighth e n h l) T

  -- all that were claimed
  pub seen_apart : Eighths is → (a : ℕ) → sum (cover a) is ≤ 1
  seen_apart E a = omega (arith, sum_first a is E, S.marks (a / 8), bit_few m (a / 8))

-- ---- between d and b

-- no item covers a
sum_none : (a : ℕ) (is : List Item) → Each (λ i. cover a i ≡ 0) is → sum (cover a) is ≡ 0
unfolding sum
sum_none a [] E = refl
sum_none a (i ∷ is) E = omega (arith, E.0, sum_none a is E.1)

each_as : {P Q : Item → Type 0} → ((i : Item) → P i → Q i) → (is : List Item) → Each P is → Each Q is
each_as f [] E = tt
each_as f (i ∷ is) E = (f i E.0, each_as f is E.1)

pub fits_seen : {m : List ℕ} {d b : ℕ} {is : List Item} → Seen m is → Eighths is → Each (Within d b) is → Fits d b is
fits_seen {m} {d} {b} {is} S E W =
    record {
      apart = seen_apart S E;
      low = λ a h. sum_none a is (each_as (λ i w. let l = w.low in cover_is a i ∙ in_under (place i) (bulk i) a (omega arith)) is W);
      high = λ a h. sum_none a is (each_as (λ i w. let l = w.high in cover_is a i ∙ in_over (place i) (bulk i) a (omega arith)) is W);
    }

-- and the other way, for an item that has a size
pub fits_item : {d b : ℕ} (i : Item) (is : List Item) → Fits d b (i ∷ is) → 1 ≤ bulk i → Within d b i
fits_item {d} {b} i is F n =
    let covered : (a : ℕ) → place i ≤ a → a < place i + bulk i → 1 ≤ sum (cover a) (i ∷ is) =
    λ a g h. omega (arith, sum_cons (cover a) i is, cover_is a i, in_yes (place i) (bulk i) a g h) in
    record {
      low = elim (dec_lt (place i) d) [
        | yes p ↦ absurd (omega (arith, F.low (place i) p, covered (place i) (omega arith) (omega arith)))
        | no p ↦ omega arith
      ];
      high = elim (dec_lt b (place i + bulk i)) [
        | yes p ↦ absurd (omega (arith, F.high (place i + bulk i - 1) (omega arith), covered (place i + bulk i - 1) (omega arith) (omega arith)))
        | no p ↦ omega arith
      ];
    }
