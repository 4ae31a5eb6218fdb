-- As many holes as pigeons. Assumes nothing.
use Prim.Native.Nat.{ℕ, zero, suc, ◌<◌, ◌≤◌}
use mathlib.Core.Path.{◌≡◌, refl, ◌∙◌, sym}
use mathlib.Core.Bool.{Bool, true, false}
use native.Mathlib.Omega.{arith}
use native.Mathlib.Decide.{dec_lt}
use lib.Dec.{eqb}
use borrow.Author.Tests.{eqb-true, eqb-false}
use Rattle.model.specs.Strings.{pick}

swap : ℕ → ℕ → ℕ → ℕ
swap v m x = pick (eqb x m) v x

swap_lt : (v m x : ℕ) → (x ≡ v → ⊥) → x < suc m → v < suc m → swap v m x < m
unfolding swap
swap_lt v m x ne hx hv = go (eqb x m) refl
  where
    go : (t : Bool) → eqb x m ≡ t → pick t v x < m
    go true e = let z = eqb-true x m e in elim (dec_lt v m) [ yes q ↦ q | no q ↦ absurd (ne (omega arith)) ]
    go false e = let z = eqb-false x m e in omega arith

swap_inj : (v m x y : ℕ) → (x ≡ v → ⊥) → (y ≡ v → ⊥) → swap v m x ≡ swap v m y → x ≡ y
unfolding swap
swap_inj v m x y nx ny e = go (eqb x m) (eqb y m) refl refl e
  where
    go : (t u : Bool) → eqb x m ≡ t → eqb y m ≡ u → pick t v x ≡ pick u v y → x ≡ y
    go true true p q e = eqb-true x m p ∙ sym (eqb-true y m q)
    go true false p q e = absurd (ny (sym e))
    go false true p q e = absurd (nx e)
    go false false p q e = e

pub pigeon : (n m : ℕ) (h : (i : ℕ) → i < n → ℕ) → ((i : ℕ) (p : i < n) → h i p < m) → ((i j : ℕ) (p : i < n) (q : j < n) → h i p ≡ h j q → i ≡ j) → n ≤ m
pigeon zero m h lt inj = omega arith
pigeon (suc n) zero h lt inj = absurd (let z = lt 0 (omega arith) in omega arith)
pigeon (suc n) (suc m) h lt inj =
    let top : n < suc n = omega arith in
    let up : (i : ℕ) → i < n → i < suc n = λ i l. omega arith in
    let v = h n top in
    let ne : (i : ℕ) (l : i < n) → h i (up i l) ≡ v → ⊥ = λ i l e. let z = inj i n (up i l) top e in omega arith in
    let ih = pigeon n m (λ i l. swap v m (h i (up i l))) (λ i l. swap_lt v m (h i (up i l)) (ne i l) (lt i (up i l)) (lt n top))
    (λ i j l u e. inj i j (up i l) (up j u) (swap_inj v m (h i (up i l)) (h j (up j u)) (ne i l) (ne j u) e)) in
    omega arith
