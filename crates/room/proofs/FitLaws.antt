-- Needs add up to a change's takes, and they fit the room of a state exactly if the model has room for the change. Assumes nothing.
use Prim.Native.Nat.{ℕ, zero, suc, ◌+◌, ◌-◌, ◌*◌, ◌<◌, ◌≤◌}
use mathlib.Core.Path.{◌≡◌, refl, sym, ap, ◌∙◌}
use mathlib.Core.List.{List, [], ◌∷◌, map}
use mathlib.Core.Bool.{Bool, true, false}
use native.Mathlib.Omega.{arith}
use native.Mathlib.Numerals.{add-one}
use native.Mathlib.Decide.{ℕ_discrete}
use lib.Dec.{leb, eqb}
use lib.ListN.{length, get_or, set, length-set}
use lib.Seq.{get_or-set_same, get_or-set_other, ext_get_or}
use borrow.Author.Tests.{eq-eqb, ne_eqb, leb-true, le-leb}
use Rattle.layout.specs.Kind.{body_size}
use Rattle.model.specs.Strings.{pick}
use Rattle.model.specs.Tree.{Change}
use Rattle.model.specs.State.{State, kinds, tally, total, fresh, fresh_slots, fresh_bytes, room}
use Rattle.room.specs.declared.fit.Room.{Room}
use Rattle.room.specs.declared.fit.Needs.{Needs}
use Rattle.room.specs.Fit.{lacking, slots_needed, bytes_needed, Fit, Small, Asks, RoomOf}

-- ---- the nine places of a table over kinds

pub nine : (P : ℕ → Type 0) → P 0 → P 1 → P 2 → P 3 → P 4 → P 5 → P 6 → P 7 → P 8 → (k : ℕ) → k < 9 → P k
nine P a b c d e f g h i zero l = a
nine P a b c d e f g h i (suc zero) l = b
nine P a b c d e f g h i (suc (suc zero)) l = c
nine P a b c d e f g h i (suc (suc (suc zero))) l = d
nine P a b c d e f g h i (suc (suc (suc (suc zero)))) l = e
nine P a b c d e f g h i (suc (suc (suc (suc (suc zero))))) l = f
nine P a b c d e f g h i (suc (suc (suc (suc (suc (suc zero)))))) l = g
nine P a b c d e f g h i (suc (suc (suc (suc (suc (suc (suc zero))))))) l = h
nine P a b c d e f g h i (suc (suc (suc (suc (suc (suc (suc (suc zero)))))))) l = i
nine P a b c d e f g h i (suc (suc (suc (suc (suc (suc (suc (suc (suc k))))))))) l = absurd (omega arith)

pub kinds_at : (g : ℕ → ℕ) (k : ℕ) → k < 9 → get_or (map g kinds) k 0 ≡ g k
kinds_at g = nine (λ k. get_or (map g kinds) k 0 ≡ g k) refl refl refl refl refl refl refl refl refl

-- the sum of a table over the kinds below n, as a loop makes it
unfoldable pub up_to : (ℕ → ℕ) → ℕ → ℕ
up_to g zero = 0
up_to g (suc n) = up_to g n + g n

pub up_to_none : (g : ℕ → ℕ) → up_to g 0 ≡ 0
unfolding up_to
up_to_none g = refl

pub up_to_more : (g : ℕ → ℕ) (k s x : ℕ) → s ≡ up_to g k → x ≡ g k → s + x ≡ up_to g (k + 1)
unfolding up_to
up_to_more g k s x p q = rw add-one (omega arith)

up_to_all : (g : ℕ → ℕ) → up_to g 9 ≡ total (map g kinds)
unfolding up_to
up_to_all g = omega arith

module _ (needs free : List ℕ) (k : ℕ) (all : k ≡ 9) where
  pub all_slots : (s : ℕ) → s ≡ up_to (lacking needs free) k → s ≡ slots_needed needs free
  unfolding slots_needed
  all_slots s e = e ∙ rw all (up_to_all (lacking needs free))

  pub all_bytes : (s : ℕ) → s ≡ up_to (λ j. lacking needs free j * body_size j) k → s ≡ bytes_needed needs free
  unfolding bytes_needed
  all_bytes s e = e ∙ rw all (up_to_all (λ j. lacking needs free j * body_size j))

-- ---- tallies

pub tally_same : (k : ℕ) (ks : List ℕ) → tally (k ∷ ks) k ≡ suc (tally ks k)
tally_same k ks = rw (eq-eqb k k refl) refl

pub tally_other : (k j : ℕ) (ks : List ℕ) → (j ≡ k → ⊥) → tally (k ∷ ks) j ≡ tally ks j
tally_other k j ks n = rw (ne_eqb k j (λ z. n (sym z))) refl

tally_most : (ks : List ℕ) (k : ℕ) → tally ks k ≤ length ks
tally_most [] k = omega arith
tally_most (x ∷ xs) k = step (eqb x k) (tally xs k) (tally_most xs k)
  where
    step : (t : Bool) (n : ℕ) → n ≤ length xs → pick t (suc n) n ≤ suc (length xs)
    step true n h = omega arith
    step false n h = omega arith

-- ---- needs

pub asks_with : {n r : Needs} (k : ℕ) → k < 9 → r.bodies ≡ set n.bodies k (get_or n.bodies k 0 + 1) → r.extent ≡ n.extent → (takes : List ℕ) (x : ℕ) → Asks n takes x → Asks r (k ∷ takes) x
asks_with {n} {r} k l e x' takes x A = record { bodies = e ∙ rw A.bodies same; extent = x' ∙ A.extent }
  where
    same : set (map (tally takes) kinds) k (get_or (map (tally takes) kinds) k 0 + 1) ≡ map (tally (k ∷ takes)) kinds
    same =
        ext_get_or 0 (set (map (tally takes) kinds) k (get_or (map (tally takes) kinds) k 0 + 1)) (map (tally (k ∷ takes)) kinds) (length-set (map (tally takes) kinds) k (get_or (map (tally takes) kinds) k 0 + 1))
        (λ i h.
        let l9 : i < 9 = omega (arith, length-set (map (tally takes) kinds) k (get_or (map (tally takes) kinds) k 0 + 1)) in
        elim (ℕ_discrete i k) [
          | yes z ↦
              rw z (get_or-set_same (map (tally takes) kinds) k (get_or (map (tally takes) kinds) k 0 + 1) 0 l ∙ omega (arith, kinds_at (tally takes) k l, kinds_at (tally (k ∷ takes)) k l, tally_same k takes))
          | no z ↦
              get_or-set_other (map (tally takes) kinds) k i (get_or (map (tally takes) kinds) k 0 + 1) 0 z ∙ omega (arith, kinds_at (tally takes) i l9, kinds_at (tally (k ∷ takes)) i l9, tally_other k i takes z)
        ])

pub asks_small : {n : Needs} {takes : List ℕ} {x : ℕ} → Asks n takes x → length takes < 65536 → x < 4294967296 → Small n
asks_small {n} {takes} A l m =
    record {
      bodies = λ k h. rw A.bodies (omega (arith, kinds_at (tally takes) k h, tally_most takes k));
      extent = omega (arith, A.extent);
    }

-- ---- room

both_true : (a b c d : ℕ) → a ≤ b → c ≤ d → pick (leb a b) (leb c d) false ≡ true
both_true a b c d p q = rw (le-leb a b p, le-leb c d q) refl

pub true_both : (a b c d : ℕ) → pick (leb a b) (leb c d) false ≡ true → (a ≤ b) × (c ≤ d)
true_both a b c d h = go (leb a b) (leb c d) refl refl h
  where
    go : (x y : Bool) → leb a b ≡ x → leb c d ≡ y → pick x y false ≡ true → (a ≤ b) × (c ≤ d)
    go true true p q e = (leb-true a b p, leb-true c d q)
    go true false p q e = absurd (let z : ◌≡◌ {A = ℕ} 0 1 = cc in omega arith)
    go false y p q e = absurd (let z : ◌≡◌ {A = ℕ} 0 1 = cc in omega arith)

same_truth : (x y : Bool) → (x ≡ true → y ≡ true) → (y ≡ true → x ≡ true) → x ≡ y
same_truth true y p q = sym (p refl)
same_truth false true p q = q refl
same_truth false false p q = refl

-- a sum over the kinds goes by each of them
kinds_same : (g g' : ℕ → ℕ) → ((k : ℕ) → k < 9 → g k ≡ g' k) → total (map g kinds) ≡ total (map g' kinds)
kinds_same g g' h =
    omega (arith, h 0 (omega arith), h 1 (omega arith), h 2 (omega arith), h 3 (omega arith), h 4 (omega arith), h 5 (omega arith), h 6 (omega arith), h 7 (omega arith), h 8 (omega arith))

module _ {A : Type 0} (c : Change A) {s : State} {r : Room} {n : Needs} (N : Asks n c.takes c.extent) (R : RoomOf r s n) where
  lack_is : (k : ℕ) → k < 9 → lacking n.bodies r.free k ≡ fresh s c.takes k
  lack_is k l = R.free k l ∙ rw (N.bodies, kinds_at (tally c.takes) k l) refl

  fresh_slots_lem : slots_needed n.bodies r.free ≡ fresh_slots s c.takes
  unfolding slots_needed
  fresh_slots_lem = kinds_same (lacking n.bodies r.free) (fresh s c.takes) lack_is

  fresh_bytes_lem : bytes_needed n.bodies r.free ≡ fresh_bytes s c.takes
  unfolding bytes_needed
  fresh_bytes_lem =
      kinds_same (λ k. lacking n.bodies r.free k * body_size k) (λ k. fresh s c.takes k * body_size k) (λ k l. ap (λ x. x * body_size k) (lack_is k l))

  pub fit_room : Fit r n → room s c ≡ true
  fit_room F =
      both_true (fresh_slots s c.takes) (s.N - s.U) (fresh_bytes s c.takes + c.extent) (s.F - s.B)
      (rw (← fresh_slots_lem, ← R.slots) F.slots) (rw (← fresh_bytes_lem, ← R.bytes, ← N.extent) F.bytes)

  pub room_fit : room s c ≡ true → Fit r n
  room_fit e =
      let z = true_both (fresh_slots s c.takes) (s.N - s.U) (fresh_bytes s c.takes + c.extent) (s.F - s.B) e in
      record { slots = rw (fresh_slots_lem, R.slots) z.0; bytes = rw (fresh_bytes_lem, R.bytes, N.extent) z.1 }

  -- what `fits` answers is the model's room
  pub fits_room : {b : Bool} → (b ≡ true → Fit r n) × (Fit r n → b ≡ true) → b ≡ room s c
  fits_room {b} h = same_truth b (room s c) (λ e. fit_room (h.0 e)) (λ e. h.1 (room_fit e))
