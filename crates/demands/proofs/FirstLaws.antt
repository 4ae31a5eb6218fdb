-- From a decision for each ground to the order of refusals, and the grounds that a frame and a key give. Assumes nothing.
use Prim.Native.Nat.{ℕ, suc, ◌<◌, ◌≤◌}
use native.Mathlib.Omega.{arith}
use mathlib.Core.Path.{◌≡◌, refl, sym, ◌∙◌}
use mathlib.Core.List.{List, [], ◌∷◌}
use mathlib.Core.Bool.{Bool, true, false}
use mathlib.Core.Logic.{◌⊎◌, inl, inr, ⊎_elim, ◌≢◌}
use lib.ListN.{length}
use Rattle.layout.specs.Number.{byte_at}
use lib.Dec.{eqb}
use borrow.Author.Tests.{eq-eqb}
use Rattle.model.specs.Strings.{pick, has_zero}
use Rattle.model.specs.Edition.{Edition, edition1, edition2, edition_of}
use Rattle.model.specs.Frame.{Good}
use Rattle.model.specs.Order.{InOrder}
use Rattle.model.specs.Promise.{LengthOk, Told}
use Rattle.model.proofs.StringLaws.{bool_cases, eqb_cases, ltb_cases, clash}
use Rattle.model.proofs.Edition1.{zero_free, positive_at}
use Rattle.demands.specs.Words.{Ground, OneOf, InTurn, numbers_of, FirstOf, wrong_length, not_good, key_length, key_zero}

-- ---- the first that applies, decided one after another

abbrev pub Given : List Ground → List ℕ → ℕ → Type 0
Given [] answers n = OneOf n answers
Given (g ∷ gs) answers n = (g.applies × (n ≡ g.number)) ⊎ ((g.applies → ⊥) × Given gs answers n)

-- all the numbers that may be given; no two alike
abbrev numbers : List Ground → List ℕ → List ℕ
numbers [] answers = answers
numbers (g ∷ gs) answers = g.number ∷ numbers gs answers

abbrev fresh : ℕ → List ℕ → Bool
fresh n [] = true
fresh n (m ∷ ms) = pick (eqb n m) false (fresh n ms)

abbrev distinct : List ℕ → Bool
distinct [] = true
distinct (n ∷ ns) = pick (fresh n ns) (distinct ns) false

given_among : (gs : List Ground) (answers : List ℕ) (n : ℕ) → Given gs answers n → OneOf n (numbers gs answers)
given_among [] answers n h = h
given_among (g ∷ gs) answers n (inl h) = inl h.1
given_among (g ∷ gs) answers n (inr h) = inr (given_among gs answers n h.1)

fresh_not : (a n : ℕ) (ms : List ℕ) → fresh a ms ≡ true → OneOf n ms → n ≢ a
fresh_not a n [] t h = absurd h
fresh_not a n (m ∷ ms) t (inl h) = λ e. clash (let z = rw (eq-eqb a m (sym e ∙ h)) at t in cc)
fresh_not a n (m ∷ ms) t (inr h) = eqb_cases a m (λ u q. clash (let z = rw u at t in cc)) (λ u q. fresh_not a n ms (rw u at t) h)

distinct_head : (n : ℕ) (ns : List ℕ) → distinct (n ∷ ns) ≡ true → fresh n ns ≡ true
distinct_head n ns t = bool_cases (fresh n ns) (λ u. u) (λ u. clash (let z = rw u at t in cc))

distinct_tail : (n : ℕ) (ns : List ℕ) → distinct (n ∷ ns) ≡ true → distinct ns ≡ true
distinct_tail n ns t = bool_cases (fresh n ns) (λ u. rw u at t) (λ u. clash (let z = rw u at t in cc))

pub first : (gs : List Ground) (answers : List ℕ) (n : ℕ) → distinct (numbers gs answers) ≡ true → Given gs answers n → InTurn gs answers n
first [] answers n t h = h
first (g ∷ gs) answers n t (inl h) = ((λ e. h.0, λ a. h.1), λ x. absurd (x h.0))
first (g ∷ gs) answers n t (inr h) = (
  (λ e. absurd (fresh_not g.number n (numbers gs answers) (distinct_head g.number (numbers gs answers) t) (given_among gs answers n h.1) e), λ a. absurd (h.0 a)),
  λ x. first gs answers n (distinct_tail g.number (numbers gs answers) t) h.1,
)

-- ---- 1 and 2: what the number says of the frame

pub frame_first : (E : Edition) (f : List ℕ) (gs : List Ground) (answers : List ℕ) (n : ℕ) → InOrder (1 ∷ 2 ∷ numbers_of gs) → distinct (1 ∷ 2 ∷ numbers gs answers) ≡ true → Told E f n
    → (Good E f → Given gs answers n) → FirstOf (wrong_length f ∷ not_good E f ∷ gs) answers n
frame_first E f gs answers n o t told h = (o, ((one, told.length1), λ fits. ((two, is2 fits), λ good. first gs answers n t2 (h (told.good (λ e. fits (one e)) (λ e. good (two e)))))))
  where
    t1 : distinct (2 ∷ numbers gs answers) ≡ true
    t1 = distinct_tail 1 (2 ∷ numbers gs answers) t

    t2 : distinct (numbers gs answers) ≡ true
    t2 = distinct_tail 2 (numbers gs answers) t1

    not1 : Good E f → n ≢ 1
    not1 g = fresh_not 1 n (2 ∷ numbers gs answers) (distinct_head 1 (2 ∷ numbers gs answers) t) (inr (given_among gs answers n (h g)))

    two : n ≡ 2 → Good E f → ⊥
    two e g = fresh_not 2 n (numbers gs answers) (distinct_head 2 (numbers gs answers) t1) (given_among gs answers n (h g)) e

    one : n ≡ 1 → LengthOk f → ⊥
    one e l = let q : n ≡ 2 = told.bad2 l (λ g. not1 g e) in omega arith

    is2 : ((LengthOk f → ⊥) → ⊥) → (Good E f → ⊥) → n ≡ 2
    is2 fits bad = eqb_cases n 2 (λ u q. q) (λ u q. absurd (fits (λ l. q (told.bad2 l bad))))

-- ---- 3 and 4: what an edition says of the key

zero_at : (k : List ℕ) → has_zero k ≡ true → (i : ℕ) × (i < length k) × (byte_at k i ≡ 0)
zero_at [] e = clash (cc)
zero_at (x ∷ k) e = eqb_cases x 0
    (λ t q. (0, omega arith, q))
    (λ t q. let on = zero_at k (rw t at e) in (suc on.0, omega arith, on.2))

-- a number that is the key's fault, if it has one, and else what is given on the other grounds
abbrev pub KeyGiven : Edition → Type 1
KeyGiven E = (k : List ℕ) (n : ℕ) (gs : List Ground) (answers : List ℕ) → (E.key_fault k ≢ 0 → n ≡ E.key_fault k) → (E.key_fault k ≡ 0 → Given gs answers n)
    → Given (key_length E k ∷ key_zero E k ∷ gs) answers n

faulty : (E : Edition) (k : List ℕ) (n m : ℕ) → 1 ≤ m → (E.key_fault k ≢ 0 → n ≡ E.key_fault k) → E.key_fault k ≡ m → n ≡ m
faulty E k n m some h e = h (λ z. omega (arith, sym e ∙ z)) ∙ e

pub key_given1 : KeyGiven edition1
key_given1 k n gs answers h g = eqb_cases (length k) 0
    (λ t q. inl (inl q, faulty edition1 k n 3 (omega arith) h (rw t)))
    (λ t q. ltb_cases 112 (length k)
    (λ u o. inl (inr o, faulty edition1 k n 3 (omega arith) h (rw (t, u))))
    (λ u o. inr (
      λ x. ⊎_elim q (λ y. omega (arith, y)) x,
      bool_cases (has_zero k)
          (λ w. inl ((λ e. omega (arith, e), zero_at k w), faulty edition1 k n 4 (omega arith) h (rw (t, u, w))))
          (λ w. inr (λ z. positive_at k (zero_free k w) z.1.0 z.1.1 z.1.2, g (rw (t, u, w)))),
    )))

pub key_given2 : KeyGiven edition2
key_given2 k n gs answers h g = eqb_cases (length k) 0
    (λ t q. inl (inl q, faulty edition2 k n 3 (omega arith) h (rw t)))
    (λ t q. ltb_cases 255 (length k)
    (λ u o. inl (inr o, faulty edition2 k n 3 (omega arith) h (rw (t, u))))
    (λ u o. inr (λ x. ⊎_elim q (λ y. omega (arith, y)) x, inr (λ z. z.0 refl, g (rw (t, u))))))

-- of the edition that a number names
pub key_given : (ed : ℕ) → KeyGiven (edition_of ed)
unfolding edition_of
key_given ed = bool_cases (eqb ed 2) (λ t. rw t key_given2) (λ t. rw t key_given1)
