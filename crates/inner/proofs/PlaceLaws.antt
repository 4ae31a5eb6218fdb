-- The place that a new child takes is the model's. Assumes nothing.
use Prim.Native.Nat.{ℕ, zero, suc, ◌+◌, ◌<◌, ◌≤◌}
use mathlib.Core.Path.{◌≡◌, refl, ◌∙◌, ap, sym}
use mathlib.Core.List.{List}
use mathlib.Core.Bool.{Bool, true, false}
use mathlib.Core.Option.{some}
use native.Mathlib.Omega.{arith}
use native.Mathlib.Decide.{ℕ_discrete}
use lib.Dec.{eqb}
use borrow.Author.Tests.{eq-eqb, ne_eqb}
use Rattle.layout.specs.Number.{byte_at}
use Rattle.layout.specs.Place.{node48_index}
use Rattle.layout.specs.Kind.{node48_kind}
use Rattle.model.specs.Strings.{pick}
use Rattle.model.specs.Tree.{Kids, taken, lowest_from, place_in}
use Rattle.model.specs.Body.{Asc, look_kid, Named, Node48At, InnerAt}
use Rattle.model.specs.Frame.{LayKids, nil, kid, pairs, art_kids, Places}
use Rattle.node_big.specs.Indexed.{Lowest}
use Rattle.node_big.proofs.Laws48.{look48_in}
use Rattle.inner.specs.Inner.{place_at, Added}

-- ---- an entry names a place exactly if a child has it

has_taken : (f : List ℕ) (o d p : ℕ) {s : ℕ} (ks : LayKids) → Places f o 6 ks → look_kid d (pairs ks) ≡ some s → byte_at f (o + node48_index + d) ≡ p → taken p (art_kids ks) ≡ true
unfolding Places pairs look_kid
has_taken f o d p nil P h e = let z : ◌≡◌ {A = ℕ} 0 1 = cc in absurd (omega arith)
has_taken f o d p {s} (kid b j l ks) P h e = elim (ℕ_discrete b d) [
  | yes q ↦ rw (eq-eqb p j (sym e ∙ ap (λ (x : ℕ). byte_at f (o + node48_index + x)) (sym q) ∙ P.0)) refl
  | no q ↦ either (eqb p j) (has_taken f o d p ks P.1 (rw (ne_eqb b d q) at h) e)
]
  where
    either : (t : Bool) {x : Bool} → x ≡ true → pick t true x ≡ true
    either true e = refl
    either false e = e

taken_named : (f : List ℕ) (o p lo : ℕ) (ks : LayKids) → Places f o 6 ks → Asc lo (pairs ks) → taken p (art_kids ks) ≡ true → Named f (o + node48_index) p
unfolding Places pairs Asc
taken_named f o p lo nil P A h = let z : ◌≡◌ {A = ℕ} 0 1 = cc in absurd (omega arith)
taken_named f o p lo (kid b j l ks) P A h = elim (ℕ_discrete p j) [
  | yes q ↦ record { entry = b; below = A.1; is = P.0 ∙ sym q }
  | no q ↦ taken_named f o p (suc b) ks P.1 A.3 (rw (ne_eqb p j q) at h)
]

-- ---- the lowest place

lowest_from_lem : (r n i : ℕ) (ks : Kids) → i ≤ r → r ≤ i + n → ((p : ℕ) → i ≤ p → p < r → taken p ks ≡ true) → (r < i + n → taken r ks ≡ false) → r ≡ lowest_from n i ks
lowest_from_lem r zero i ks a b T F = omega arith
lowest_from_lem r (suc n) i ks a b T F = elim (ℕ_discrete i r) [
  | yes q ↦ rw (q, F (omega arith)) refl
  | no q ↦ rw (T i (omega arith) (omega arith)) (lowest_from_lem r n (i + 1) ks (omega arith) (omega arith) (λ p l u. T p (omega arith) u) (λ l. F (omega arith)))
]

pub lowest_place : {f : List ℕ} {o r : ℕ} (ks : LayKids) → Node48At f o (pairs ks) → Places f o 6 ks → Lowest f (o + node48_index) r → r ≡ lowest_from 48 1 (art_kids ks)
lowest_place {f} {o} {r} ks N P L =
    lowest_from_lem r 48 1 (art_kids ks) L.first (omega (arith, L.last))
    (λ p l u. let n = L.lower p u l in has_taken f o n.entry p ks P (look48_in n.entry (pairs ks) N n.below (omega (arith, n.is))) n.is)
    (λ l. not_taken (taken r (art_kids ks)) refl (λ e. L.free (omega arith) (taken_named f o r 0 ks P N.asc e)))
  where
    not_taken : (t : Bool) → taken r (art_kids ks) ≡ t → (taken r (art_kids ks) ≡ true → ⊥) → taken r (art_kids ks) ≡ false
    not_taken true e n = absurd (n e)
    not_taken false e n = e

-- of every kind: the place of the child that was added
pub added_place : {f g : List ℕ} {o kind b slot : ℕ} (ks : LayKids) → Added f g o kind b slot → InnerAt f o kind (pairs ks) → Places f o kind ks → place_at g o kind b ≡ place_in kind (art_kids ks)
added_place {f} {g} {o} {kind} {b} ks A N P = elim (ℕ_discrete kind 6) [
  | yes e ↦
      let L : Lowest f (o + node48_index) (byte_at g (o + node48_index + b)) = rw e at (A.lowest e) in
      rw e (lowest_place ks (N.six e) (rw e at P) L)
  | no e ↦ rw (ne_eqb kind node48_kind e) refl
]
