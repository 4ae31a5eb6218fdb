-- One body or extent is taken, or refused. Assumes nothing.
use Prim.Native.Nat.{ℕ, ◌+◌, ◌*◌, ◌/◌, ◌%◌, ◌<◌, ◌≤◌}
use mathlib.Core.Path.{◌≡◌, ◌∙◌}
use mathlib.Core.List.{List, [], ◌∷◌}
use native.Mathlib.Omega.{arith}
use Rattle.std.specs.Prelude.{Some, None}
use Rattle.layout.specs.Kind.{body_size}
use Rattle.layout.proofs.KindLaws.{size_least}
use Rattle.model.specs.Item.{Item, body, extent, inside, cover, bulk, sum}
use Rattle.model.proofs.StringLaws.{clash}
use Rattle.model.proofs.ItemLaws.{sum_cons}
use Rattle.claims.specs.Units.{place, Claimed, Taken, Eighth, Fits}
use Rattle.claims.proofs.BitLaws.{in_same}
use Rattle.claims.proofs.UnitLaws.{cover_is, body_eighth, extent_eighth, refused_body, refused_extent, fits_item}
use Rattle.census.specs.declared.Sums.{Sums}
use Rattle.census.specs.Told.{is_body, is_extent, Tidy, Tally, Book, Grown, BodyTaken, BodyTold, ExtentTaken, ExtentTold}

-- ---- tidy items lie between d and b

pub tidy_fits : {d u b : ℕ} {is : List Item} → Tidy d u b is → Fits d b is
tidy_fits T = record { apart = T.apart; low = T.low; high = T.high }

pub body_in : {d u b : ℕ} (s k o : ℕ) (is : List Item) → 1 ≤ k → k ≤ 8 → Tidy d u b (body s k o ∷ is) → (d ≤ o) × (o + body_size k ≤ b)
unfolding place bulk
body_in s k o is h l T =
    let n = size_least k h l in
    let w = fits_item (body s k o) is (tidy_fits T) (omega arith) in (w.low, w.high)

pub extent_in : {d u b : ℕ} (e n : ℕ) (is : List Item) → 1 ≤ n → Tidy d u b (extent e n ∷ is) → (d ≤ e) × (e + n ≤ b)
unfolding place bulk
extent_in e n is h T = let w = fits_item (extent e n) is (tidy_fits T) h in (w.low, w.high)

-- ---- an item that was claimed

sum_one : (w : Item → ℕ) (i : Item) → sum w (i ∷ []) ≡ w i
unfolding sum
sum_one w i = omega arith

cover_unit : (v : ℕ) (i : Item) → Eighth i → cover (8 * v) i ≡ inside (place i / 8) (bulk i / 8) v
cover_unit v i E =
    let f = E.start in
    let g = E.whole in
    cover_is (8 * v) i ∙ in_same (place i) (bulk i) (8 * v) (place i / 8) (bulk i / 8) v (λ p q. (omega arith, omega arith)) (λ p q. (omega arith, omega arith))

pub grown_one : {m m' : List ℕ} {t t' : Sums} (i : Item) → Eighth i → Claimed (place i / 8) (bulk i / 8) m m' → t'.slots ≡ t.slots + is_body i
    → t'.bytes ≡ t.bytes + bulk i → t'.leaves ≡ t.leaves + is_extent i → Grown m t m' t' (i ∷ [])
grown_one i E C a b c =
    record {
      marks = λ v. omega (arith, C.marks v, sum_one (cover (8 * v)) i, cover_unit v i E);
      slots = omega (arith, sum_one is_body i);
      bytes = omega (arith, sum_one bulk i);
      leaves = omega (arith, sum_one is_extent i);
    }

-- ---- a body

module _ {d u b kind o : ℕ} {m : List ℕ} {t : Sums} {m' : List ℕ} where
  body_no : ((is : List Item) → Book m t is → (s : ℕ) → Tidy d u b (body s kind o ∷ is) → ⊥) → BodyTold d u b kind o m t m' None
  body_no h = record { holds = λ t' e. clash (cc); fails = λ e. h }

  pub body_many : u ≤ t.slots → BodyTold d u b kind o m t m' None
  unfolding is_body
  body_many h = body_no (λ is B s T. let e = B.slots in let f = T.few in omega (arith, sum_cons is_body (body s kind o) is))

  module _ (least : 1 ≤ kind) (last : kind ≤ 8) where
    pub body_low : o < d → BodyTold d u b kind o m t m' None
    body_low h = body_no (λ is B s T. omega (arith, (body_in s kind o is least last T).0))

    pub body_high : {n : ℕ} → n ≡ body_size kind → b < o + n → BodyTold d u b kind o m t m' None
    body_high e h = body_no (λ is B s T. omega (arith, (body_in s kind o is least last T).1))

  pub body_taken : {n : ℕ} → n ≡ body_size kind → o % 8 ≡ 0 → Taken (o / 8) (n / 8) m → BodyTold d u b kind o m t m' None
  body_taken e h T = body_no (λ is B s Y. refused_body B.seen s kind o h (rw e at T) Y.apart)

  pub body_good : {n : ℕ} {r : Sums} → n ≡ body_size kind → Tally u 1 r → d ≤ o → o + n ≤ b → o % 8 ≡ 0 → Claimed (o / 8) (n / 8) m m' → r.slots ≡ t.slots + 1
      → r.bytes ≡ t.bytes + n → r.leaves ≡ t.leaves → BodyTold d u b kind o m t m' (Some r)
  unfolding is_body is_extent bulk place
  body_good {r = r} w T l h e C x y z =
      let B : BodyTaken d u b kind o m t m' r = record {
        tally = T;
        low = l;
        high = omega arith;
        grown = λ s. grown_one (body s kind o) (body_eighth s kind o e) (rw w at C) x (omega arith) (omega arith);
      } in
      record { holds = λ t' q. let i : t' ≡ r = cc in rw i B; fails = λ q. clash (cc) }

-- ---- an extent

module _ {u e n : ℕ} {m : List ℕ} {t : Sums} {m' : List ℕ} (start : e % 8 ≡ 0) (whole : n % 8 ≡ 0) where
  pub extent_taken : Taken (e / 8) (n / 8) m → ExtentTold u e n m t m' None
  extent_taken T = record { holds = λ t' q. clash (cc); fails = λ q is B few. refused_extent B.seen e n start whole T few }

  pub extent_good : {r : Sums} → Tally u 0 r → Claimed (e / 8) (n / 8) m m' → r.slots ≡ t.slots → r.bytes ≡ t.bytes + n → r.leaves ≡ t.leaves + 1 → ExtentTold u e n m t m' (Some r)
  unfolding is_body is_extent bulk place
  extent_good {r = r} T C x y z =
      let X : ExtentTaken u e n m t m' r = record { tally = T; grown = grown_one (extent e n) (extent_eighth e n start whole) C (omega arith) y z } in
      record { holds = λ t' q. let i : t' ≡ r = cc in rw i X; fails = λ q. clash (cc) }
