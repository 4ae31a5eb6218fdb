-- As many bodies as slots, each body's place told by its slot, and no two overlap: then each slot has one body. Assumes nothing.
use Prim.Native.Nat.{ℕ, zero, suc, ◌+◌, ◌-◌, ◌<◌, ◌≤◌}
use mathlib.Core.Path.{◌≡◌, refl, ap, ◌∙◌}
use mathlib.Core.List.{List, [], ◌∷◌}
use native.Mathlib.Omega.{arith}
use native.Mathlib.Decide.{dec_lt}
use Rattle.layout.specs.Kind.{body_size}
use Rattle.model.specs.Item.{Item, body, extent, on_slot, cover, bulk, sum, Sound}
use Rattle.model.proofs.ItemLaws.{in_yes, in_under, in_over, sum_as, sum_add}
use Rattle.model.proofs.StandsGood.{bodied, slot_to, slot_to_zero, slot_to_suc, bodies_to}
use Rattle.claims.specs.Units.{Each, Slotted, Slots, Fits}

module _ (u : ℕ) (p : ℕ → ℕ) where
  -- a slot of none of 1 to u
  slot_none : (s : ℕ) → (1 ≤ s → s ≤ u → ⊥) → (is : List Item) → Each (Slotted u p) is → sum (on_slot s) is ≡ 0
  unfolding sum on_slot
  slot_none s n [] S = refl
  slot_none s n (extent e k ∷ is) S = omega (arith, slot_none s n is S.1)
  slot_none s n (body t k o ∷ is) S =
      let h = S.0 in
      let on = slot_none s n is S.1 in
      elim (dec_lt s t) [
        | yes q ↦ omega (arith, in_under t 1 s q)
        | no q ↦ elim (dec_lt t s) [
          | yes r ↦ omega (arith, in_over t 1 s (omega arith))
          | no r ↦ absurd (n (omega arith) (omega arith))
        ]
      ]

  -- all bodies of a slot cover one byte
  slot_cover : (s : ℕ) (is : List Item) → Each (Slotted u p) is → sum (on_slot s) is ≤ sum (cover (p s)) is
  unfolding sum on_slot cover
  slot_cover s [] S = omega arith
  slot_cover s (extent e k ∷ is) S = omega (arith, slot_cover s is S.1)
  slot_cover s (body t k o ∷ is) S =
      let h = S.0 in
      let on = slot_cover s is S.1 in
      elim (dec_lt s t) [
        | yes q ↦ omega (arith, in_under t 1 s q)
        | no q ↦ elim (dec_lt t s) [
          | yes r ↦ omega (arith, in_over t 1 s (omega arith))
          | no r ↦
              let e : p s ≡ o = ap p (let z : s ≡ t = omega arith in z) ∙ h.2 in
              omega (arith, in_yes t 1 s (omega arith) (omega arith), in_yes o (body_size k) (p s) (omega arith) (omega arith))
        ]
      ]

  module _ (is : List Item) (S : Each (Slotted u p) is) (few : (a : ℕ) → sum (cover a) is ≤ 1) where
    slot_few : (s : ℕ) → sum (on_slot s) is ≤ 1
    slot_few s = omega (arith, slot_cover s is S, few (p s))

    slot_zeroth : sum (on_slot 0) is ≡ 0
    slot_zeroth = slot_none 0 (λ h l. omega arith) is S

    slot_past : (s : ℕ) → u < s → sum (on_slot s) is ≡ 0
    slot_past s h = slot_none s (λ g l. omega arith) is S

    -- up to slot w, n above v, there are at most n bodies more than up to slot v
    slots_on : (v w n : ℕ) → w ≡ v + n → sum (slot_to w) is ≤ sum (slot_to v) is + n
    slots_on v w zero e = let z : w ≡ v = omega arith in rw z (omega arith)
    slots_on v zero (suc n) e = absurd (omega arith)
    slots_on v (suc w) (suc n) e = omega (arith, sum_add (slot_to w) (on_slot (suc w)) (slot_to (suc w)) (slot_to_suc w) is, slots_on v w n (omega arith), slot_few (suc w))

    slots_to : (v : ℕ) → sum (slot_to v) is ≤ v
    slots_to v = omega (arith, slots_on 0 v v (omega arith), sum_as (slot_to 0) (on_slot 0) slot_to_zero is, slot_zeroth)

    all_slots : sum bodied is ≡ sum (slot_to u) is
    all_slots = bodies_to u is slot_past

    slot_once : sum bodied is ≡ u → (s : ℕ) → 1 ≤ s → s ≤ u → sum (on_slot s) is ≡ 1
    slot_once e zero h l = absurd (omega arith)
    slot_once e (suc v) h l =
        omega (
          arith,
          all_slots,
          slots_to v,
          slot_few (suc v),
          sum_add (slot_to v) (on_slot (suc v)) (slot_to (suc v)) (slot_to_suc v) is,
          slots_on (suc v) u (u - suc v) (omega arith),
        )

    pub slots_each : sum bodied is ≡ u → Slots u is
    slots_each e = record { once = slot_once e; zeroth = slot_zeroth; past = slot_past }

pub sound_made : {d u b x : ℕ} {is : List Item} → Slots u is → Fits d b is → d + sum bulk is + x ≡ b → Sound d u b x is
sound_made T F e = record { once = T.once; zeroth = T.zeroth; past = T.past; apart = F.apart; low = F.low; high = F.high; accounted = e }
