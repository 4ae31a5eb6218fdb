-- How what is told of the parts makes what is told of the whole. Assumes nothing.
use Prim.Native.Nat.{ℕ, zero, suc, ◌+◌, ◌*◌, ◌%◌, ◌≤◌}
use mathlib.Core.Path.{◌≡◌, refl, sym, ap, ◌∙◌}
use mathlib.Core.List.{List, [], ◌∷◌, ◌++◌}
use native.Mathlib.Omega.{arith}
use native.Mathlib.Decide.{dec_le}
use Rattle.std.specs.Prelude.{Option, Some, None}
use Rattle.layout.specs.Kind.{body_size}
use Rattle.layout.specs.Entry.{place_of}
use Rattle.layout.proofs.KindLaws.{size_least}
use Rattle.layout.proofs.EntryLaws.{place_eighth}
use Rattle.model.specs.Item.{Item, body, on_slot, cover, bulk, sum, Same}
use Rattle.model.proofs.StringLaws.{clash}
use Rattle.model.proofs.ItemLaws.{in_yes, sum_app, sum_cons}
use Rattle.claims.specs.Units.{place, Each}
use Rattle.claims.proofs.UnitLaws.{body_eighth}
use Rattle.census.specs.declared.Sums.{Sums}
use Rattle.census.specs.Told.{is_body, is_extent, Tidy, Sited, Tally, Book, Grown, BodyTaken, Held, Told}

-- ---- items in another order, and parts of them

pub tidy_same : {d u b : ℕ} {is js : List Item} → Same is js → Tidy d u b is → Tidy d u b js
tidy_same e T =
    record {
      apart = λ a. omega (arith, e (cover a), T.apart a);
      low = λ a h. omega (arith, e (cover a), T.low a h);
      high = λ a h. omega (arith, e (cover a), T.high a h);
      zeroth = omega (arith, e (on_slot 0), T.zeroth);
      past = λ s h. omega (arith, e (on_slot s), T.past s h);
      few = omega (arith, e is_body, T.few);
    }

pub tidy_part : {d u b : ℕ} (xs ys : List Item) {is : List Item} → Same is (xs ++ ys) → Tidy d u b is → Tidy d u b ys
tidy_part xs ys e T =
    record {
      apart = λ a. omega (arith, e (cover a), sum_app (cover a) xs ys, T.apart a);
      low = λ a h. omega (arith, e (cover a), sum_app (cover a) xs ys, T.low a h);
      high = λ a h. omega (arith, e (cover a), sum_app (cover a) xs ys, T.high a h);
      zeroth = omega (arith, e (on_slot 0), sum_app (on_slot 0) xs ys, T.zeroth);
      past = λ s h. omega (arith, e (on_slot s), sum_app (on_slot s) xs ys, T.past s h);
      few = omega (arith, e is_body, sum_app is_body xs ys, T.few);
    }

pub each_app : (P : Item → Type 0) (xs ys : List Item) → Each P xs → Each P ys → Each P (xs ++ ys)
each_app P [] ys X Y = Y
each_app P (x ∷ xs) ys X Y = (X.0, each_app P xs ys X.1 Y)

-- a tidy body's slot
pub tidy_slot : {d u b : ℕ} (s k o : ℕ) (is : List Item) → Tidy d u b (body s k o ∷ is) → (1 ≤ s) × (s ≤ u)
unfolding on_slot
tidy_slot {d} {u} {b} s k o is T = (some s refl, most)
  where
    here : (v : ℕ) → v ≡ s → 1 ≤ sum (on_slot v) (body s k o ∷ is)
    here v e = omega (arith, sum_cons (on_slot v) (body s k o) is, in_yes s 1 v (omega arith) (omega arith))

    some : (v : ℕ) → v ≡ s → 1 ≤ v
    some zero e = absurd (omega (arith, T.zeroth, here 0 e))
    some (suc v) e = omega arith

    most : s ≤ u
    most = elim (dec_le s u) [ yes p ↦ p | no p ↦ absurd (omega (arith, T.past s (omega arith), here s refl)) ]

-- ---- claims one after the other

pub grown_none : {m : List ℕ} {t : Sums} → Grown m t m t []
unfolding sum
grown_none = record { marks = λ v. omega arith; slots = omega arith; bytes = omega arith; leaves = omega arith }

pub grown_on : {m m' m'' : List ℕ} {t t' t'' : Sums} (xs ys : List Item) → Grown m t m' t' xs → Grown m' t' m'' t'' ys → Grown m t m'' t'' (xs ++ ys)
grown_on xs ys G K =
    record {
      marks = λ v. omega (arith, G.marks v, K.marks v, sum_app (cover (8 * v)) xs ys);
      slots = omega (arith, G.slots, K.slots, sum_app is_body xs ys);
      bytes = omega (arith, G.bytes, K.bytes, sum_app bulk xs ys);
      leaves = omega (arith, G.leaves, K.leaves, sum_app is_extent xs ys);
    }

pub book_on : {m m' : List ℕ} {t t' : Sums} {is : List Item} (xs : List Item) → Book m t is → Grown m t m' t' xs → Book m' t' (xs ++ is)
book_on {m} {m'} {t} {t'} {is} xs B G =
    record {
      seen = record { marks = λ v. omega (arith, B.seen.marks v, G.marks v, sum_app (cover (8 * v)) xs is) };
      slots = omega (arith, B.slots, G.slots, sum_app is_body xs is);
    }

-- ---- what is told

module _ {H P : List Item → Type 0} {f : List ℕ} {d u b : ℕ} {m : List ℕ} {t : Sums} {m' : List ℕ} where
  pub told_no : ((is : List Item) → Book m t is → (xs : List Item) → P xs → Tidy d u b (xs ++ is) → ⊥) → Told H P f d u b m t m' None
  told_no h = record { holds = λ t' e. clash (cc); fails = λ e. h }

  pub told_yes : {t' : Sums} → Held H f d u b m t m' t' → Told H P f d u b m t m' (Some t')
  told_yes {t'} h = record { holds = λ s e. let i : s ≡ t' = cc in rw i h; fails = λ e. clash (cc) }

  -- the same of other items
  pub told_as : {H' P' : List Item → Type 0} {r : Option Sums} → ((xs : List Item) → H xs → H' xs) → ((xs : List Item) → P' xs → P xs) → Told H P f d u b m t m' r → Told H' P' f d u b m t m' r
  told_as h p T =
      record {
        holds = λ t' g. let q = T.holds t' g in record { items = q.items; are = h q.items q.are; grown = q.grown; sited = q.sited; tally = q.tally };
        fails = λ n is B xs x. T.fails n is B xs (p xs x);
      }

-- from what is told of the rest, what is told of the whole
abbrev pub Leads : (List Item → Type 0) → (List Item → Type 0) → (List Item → Type 0) → (List Item → Type 0) → List ℕ → ℕ → ℕ → ℕ → List ℕ → Sums → List ℕ → Sums → Type 0
Leads H P H' P' f d u b m t m' t' = (m'' : List ℕ) (r : Option Sums) → Told H P f d u b m t m'' r → Told H' P' f d u b m' t' m'' r

module _ {H P H' P' : List Item → Type 0} {f : List ℕ} {d u b : ℕ} {m : List ℕ} {t : Sums} {m' : List ℕ} where
  -- items xs first, then the rest
  pub told_on : {t' : Sums} {m'' : List ℕ} {r : Option Sums} (xs : List Item) → Grown m t m' t' xs → Each (Sited f d u b) xs
      → ((ys : List Item) → H ys → H' (xs ++ ys))
      → ((zs is : List Item) → Tidy d u b (zs ++ is) → P' zs → (ys : List Item) × P ys × (zs ≡ xs ++ ys))
      → Told H P f d u b m' t' m'' r → Told H' P' f d u b m t m'' r
  told_on xs G S h p T =
      record {
        holds = λ s g.
            let q = T.holds s g in
            record { items = xs ++ q.items; are = h q.items q.are; grown = grown_on xs q.items G q.grown; sited = each_app (Sited f d u b) xs q.items S q.sited; tally = q.tally };
        fails = λ n is B zs z Y.
            let w = p zs is Y z in
            let ys = w.0 in
            T.fails n (xs ++ is) (book_on xs B G) ys w.1
            (tidy_same (λ v. omega (arith, sum_app v zs is, ap (sum v) w.2, sum_app v xs ys, sum_app v ys (xs ++ is), sum_app v xs is)) Y);
      }

  -- the first part is refused, and so is the whole
  pub told_first : {r : Option Sums} {m'' : List ℕ} → r ≡ None
      → ((zs is : List Item) → Tidy d u b (zs ++ is) → P' zs → (xs : List Item) × P xs × (ys : List Item) × (zs ≡ xs ++ ys))
      → Told H P f d u b m t m' r → Told H' P' f d u b m t m'' None
  told_first n p T =
      told_no
      (λ is B zs z Y.
      let w = p zs is Y z in
      let xs = w.0 in
      let ys = w.2 in
      T.fails n is B xs w.1
      (tidy_part ys (xs ++ is) (λ v. omega (arith, sum_app v zs is, ap (sum v) w.3, sum_app v xs ys, sum_app v ys (xs ++ is), sum_app v xs is)) Y))

-- a body, which its slot's entry tells
pub body_sited : {f : List ℕ} {d u b : ℕ} (s kind o : ℕ) → 1 ≤ s → s ≤ u → place_of f s ≡ o → 1 ≤ kind → kind ≤ 8 → d ≤ o → o + body_size kind ≤ b → Sited f d u b (body s kind o)
unfolding place bulk
body_sited {f} s kind o a z e h l low high =
    let n = size_least kind h l in
    let q : o % 8 ≡ 0 = sym (ap (λ (x : ℕ). x % 8) e) ∙ place_eighth _ in
    record { eighth = body_eighth s kind o q; within = record { low = low; high = high }; slotted = (a, z, e, omega arith) }

-- a body that is no Leaf's, or a freed one, brings no extent
pub tally_body : {u : ℕ} {t : Sums} → Tally u 1 t → Tally u 0 t
tally_body T = record { slots = T.slots; bytes = let z = T.bytes in omega arith; leaves = let z = T.leaves in omega arith }

pub body_slots : {d u b kind o : ℕ} {m : List ℕ} {t : Sums} {m' : List ℕ} {t' : Sums} → BodyTaken d u b kind o m t m' t' → t'.slots ≡ t.slots + 1
unfolding sum is_body
body_slots T = (T.grown 0).slots
