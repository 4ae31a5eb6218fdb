-- Info's ends, and that the lists of a good frame are read to their ends. Assumes nothing.
use Prim.Native.Nat.{ℕ, ◌+◌, ◌-◌, ◌<◌, ◌≤◌}
use mathlib.Core.Path.{◌≡◌, refl}
use mathlib.Core.List.{List, [], ◌∷◌}
use native.Mathlib.Omega.{arith}
use lib.ListN.{length, get_or}
use Rattle.layout.specs.Number.{le}
use Rattle.layout.specs.Place.{at_n, at_b, at_u, at_r, at_x}
use Rattle.model.specs.Edition.{Edition}
use Rattle.model.specs.State.{State, kinds}
use Rattle.model.specs.Frame.{Stands}
use Rattle.model.specs.Promise.{CheckPromise}
use Rattle.model.proofs.GoodState.{weigh, free_of}
use Rattle.model.proofs.StandsGood.{stands_good, stands_heads}
use Rattle.room.specs.declared.fit.Room.{Room}
use Rattle.room.specs.declared.fit.Needs.{Needs}
use Rattle.room.specs.Fit.{RoomOf}
use Rattle.store.specs.Info.{lists, fullness, InfoPromise}
use Rattle.answers.specs.declared.Refusal.{Refusal}
use Rattle.answers.specs.Number.{refusal_number}
use Rattle.answers.proofs.NumberLaws.{never_zero}

-- ---- the lists

-- needs of so many bodies of every kind
abbrev every : ℕ → Needs
every u = let m = u + 1 in record { bodies = m ∷ m ∷ m ∷ m ∷ m ∷ m ∷ m ∷ m ∷ m ∷ []; extent = 0 }

-- no list has more bodies than slots were given out
few : (u t : ℕ) (g : ℕ → ℕ) → u ≡ t + weigh (λ k. 1) g kinds → (g 1 ≤ u) × (g 2 ≤ u) × (g 3 ≤ u) × (g 4 ≤ u) × (g 5 ≤ u) × (g 6 ≤ u) × (g 7 ≤ u) × (g 8 ≤ u)
unfolding weigh
few u t g e = (omega arith, omega arith, omega arith, omega arith, omega arith, omega arith, omega arith, omega arith)

-- so a list of which one more is asked for is read to its end
exact : (u r l : ℕ) → u + 1 - r ≡ u + 1 - l → l ≤ u → r ≡ l
exact u r l e h = omega arith

equal : {a b c d e f g h i j k l m n a' b' c' d' e' f' g' h' i' j' k' l' m' n' : ℕ}
    → a ≡ a' → b ≡ b' → c ≡ c' → d ≡ d' → e ≡ e' → f ≡ f' → g ≡ g' → h ≡ h' → i ≡ i' → j ≡ j' → k ≡ k' → l ≡ l' → m ≡ m' → n ≡ n'
    → ◌≡◌ {A = List ℕ} (a ∷ b ∷ c ∷ d ∷ e ∷ f ∷ g ∷ h ∷ i ∷ j ∷ k ∷ l ∷ m ∷ n ∷ []) (a' ∷ b' ∷ c' ∷ d' ∷ e' ∷ f' ∷ g' ∷ h' ∷ i' ∷ j' ∷ k' ∷ l' ∷ m' ∷ n' ∷ [])
equal p1 p2 p3 p4 p5 p6 p7 p8 p9 p10 p11 p12 p13 p14 = rw (p1, p2, p3, p4, p5, p6, p7, p8, p9, p10, p11, p12, p13, p14) refl

pub counts_are : (E : Edition) {f : List ℕ} {n u b y x : ℕ} {r : Room} {s : State} → Stands E f s → n ≡ le 4 f at_n → u ≡ le 4 f at_u → b ≡ le 4 f at_b → y ≡ le 4 f at_r → x ≡ le 4 f at_x → RoomOf r s (every u)
    → length f ∷ n ∷ u ∷ b ∷ y ∷ x ∷ lists r.free ≡ fullness s
counts_are E {f} {n} {u} {b} {y} {x} {r} {s} W en eu eb ey ex L =
    let H = stands_heads E f s W in
    let used : u ≡ s.U = omega (arith, H.given_at) in
    let G = stands_good E f s W in
    let fewer = few s.U _ (free_of s.free) G.used in
    let list : (k : ℕ) → k < 9 → get_or (every u).bodies k 0 ≡ u + 1 → get_or s.free k 0 ≤ s.U → get_or r.free k 0 ≡ get_or s.free k 0
    = λ k l e h. exact u _ _ (rw e at (L.free k l)) (omega arith) in
    equal H.size (omega (arith, H.slots_at)) used (omega (arith, H.bump_at)) (omega (arith, H.records_at)) (omega (arith, H.dead_at))
    (list 1 (omega arith) refl fewer.0) (list 2 (omega arith) refl fewer.1) (list 3 (omega arith) refl fewer.2) (list 4 (omega arith) refl fewer.3)
    (list 5 (omega arith) refl fewer.4) (list 6 (omega arith) refl fewer.5) (list 7 (omega arith) refl fewer.6) (list 8 (omega arith) refl fewer.7)

-- ---- the ends, by the tests that led there

module _ (E : Edition) (f : List ℕ) where
  pub info_refused : (r : Refusal) → CheckPromise E f (refusal_number r) → InfoPromise E f (refusal_number r) []
  info_refused r p = record { check = p; full = λ s W. absurd (never_zero r (p.good0 (s, W))); nothing = λ q. refl }

  pub info_told : {told : List ℕ} → CheckPromise E f 0 → ((s : State) → Stands E f s → told ≡ fullness s) → InfoPromise E f 0 told
  info_told p h = record { check = p; full = h; nothing = λ z. absurd (z refl) }
