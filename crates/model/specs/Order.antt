-- Which numbers are refusals, and the one order in which these are given, by documents 01 and 02 together; each call's own are taken from it.
use Rattle.std.specs.Prelude.{ℕ, ◌≡◌, List, [], ◌∷◌, Bool, true, false, eqb}
use Rattle.model.specs.Strings.{pick}

-- 01: "1 to 7 are refusals; 0, 8 and 9 are not." 02: "11 counted as an answer and not as a refusal" (Q-5); its other numbers are refusals
abbrev pub is_refusal : ℕ → Bool
is_refusal n = pick (eqb n 0) false (pick (eqb n 8) false (pick (eqb n 9) false (pick (eqb n 11) false true)))

-- 01: "The first refusal that applies in the order 1, 2, 3, 4, 5, 7, 6 is given". 02 has the rest: 16 comes before 3, 5 and 6 (Q-13); 15 is
-- "next after 7" (Q-12); 7 comes "before 12" (Q-6) and 13 before 6 (Q-9); 10 stood last when it came (Q-1), and 17 is "last in order" (Q-12).
-- Only the end of a feed gives 14, and nothing besides (Q-11): its place is free.
abbrev pub refusals : List ℕ
refusals = 1 ∷ 2 ∷ 16 ∷ 3 ∷ 4 ∷ 5 ∷ 7 ∷ 15 ∷ 12 ∷ 13 ∷ 6 ∷ 14 ∷ 10 ∷ 17 ∷ []

-- numbers taken from a list, in its order
abbrev pub within : List ℕ → List ℕ → Bool
within [] ys = true
within (x ∷ xs) [] = false
within (x ∷ xs) (y ∷ ys) = pick (eqb x y) (within xs ys) (within (x ∷ xs) ys)

-- what a call may be refused with, one after the other
abbrev pub InOrder : List ℕ → Type 0
InOrder ns = within ns refusals ≡ true
