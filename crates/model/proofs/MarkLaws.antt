-- Laws of the clause `stays`: said of every body, and sums over the marks of a tree, so that their order does not matter. Assumes nothing.
use Prim.Native.Nat.{ℕ, suc, ◌+◌, ◌<◌, ◌≤◌}
use mathlib.Core.Path.{◌≡◌, refl, sym, ap, ◌∙◌}
use mathlib.Core.List.{List, [], ◌∷◌, ◌++◌}
use mathlib.Core.Bool.{Bool, true, false}
use mathlib.Core.Logic.{◌⊎◌, inl, inr}
use native.Mathlib.Omega.{arith}
use native.Mathlib.Decide.{dec_le}
use lib.ListN.{length, take}
use lib.Seq.{take-take, length-take-le}
use lib.Dec.{ltb, eqb}
use borrow.Author.Tests.{lt-ltb, ltb-true, eq-eqb}
use Rattle.layout.specs.Kind.{leaf_kind, prefix_kind, empty_root_kind}
use Rattle.model.specs.Edition.{Value}
use Rattle.model.specs.Strings.{pick, same, shared}
use Rattle.model.specs.Frame.{Lay, LayKids, bare, tree}
use Rattle.model.specs.Frame.Lay.{leaf, prefix, node}
use Rattle.model.specs.Frame.LayKids.{nil, kid}
use Rattle.model.specs.Mark.{Mark, mark, marks, marks_all, root_marks, is, common, like, count, In}
use Rattle.model.specs.Touch.{among, stay}
use Rattle.model.proofs.StringLaws.{clash, bool_cases, eqb_cases, same_true, same_refl}
use Rattle.model.proofs.WayLaws.{shared_after, shared_turn, shared_least}

-- every body of ms but those of some slots is known by the same in ms'
pub record Stay (goes : List ℕ) (ms ms' : List Mark) : Type 0 where
  pub each : (m : Mark) → among m.slot goes ≡ false → 1 ≤ count (is m) ms → 1 ≤ count (like m) ms'

-- ---- sums

pub count_none : (w : Mark → ℕ) → count w [] ≡ 0
unfolding count
count_none w = refl

pub count_cons : (w : Mark → ℕ) (m : Mark) (ms : List Mark) → count w (m ∷ ms) ≡ w m + count w ms
unfolding count
count_cons w m ms = refl

pub count_app : (w : Mark → ℕ) (ms ns : List Mark) → count w (ms ++ ns) ≡ count w ms + count w ns
unfolding count
count_app w [] ns = omega arith
count_app w (m ∷ ms) ns = omega (arith, count_app w ms ns)

pub leaf_marks : (w : Mark → ℕ) (p : List ℕ) (s o e : ℕ) (k : List ℕ) (v : Value) → count w (marks p (leaf s o e k v)) ≡ w (mark s leaf_kind k k)
unfolding marks count
leaf_marks w p s o e k v = omega arith

pub prefix_marks : (w : Mark → ℕ) (p : List ℕ) (s o : ℕ) (q : List ℕ) (l : Lay) → count w (marks p (prefix s o q l)) ≡ w (mark s prefix_kind p (p ++ q)) + count w (marks (p ++ q) l)
unfolding marks count
prefix_marks w p s o q l = refl

pub node_marks : (w : Mark → ℕ) (p : List ℕ) (s o kind : ℕ) (ks : LayKids) → count w (marks p (node s o kind ks)) ≡ w (mark s kind p p) + count w (marks_all p ks)
unfolding marks count
node_marks w p s o kind ks = refl

pub kid_marks : (w : Mark → ℕ) (p : List ℕ) (b j : ℕ) (l : Lay) (ks : LayKids) → count w (marks_all p (kid b j l ks)) ≡ count w (marks (p ++ b ∷ []) l) + count w (marks_all p ks)
unfolding marks marks_all
kid_marks w p b j l ks = count_app w (marks (p ++ b ∷ []) l) (marks_all p ks)

pub nil_marks : (w : Mark → ℕ) (p : List ℕ) → count w (marks_all p nil) ≡ 0
unfolding marks marks_all count
nil_marks w p = refl

pub tree_marks : (l : Lay) → root_marks (tree l) ≡ marks [] l
unfolding root_marks
tree_marks l = refl

pub bare_marks : (w : Mark → ℕ) (s o : ℕ) → count w (root_marks (bare s o)) ≡ w (mark s empty_root_kind [] [])
unfolding root_marks count
bare_marks w s o = omega arith

-- ---- equal marks and like ones

-- by three tests: of the body, of its start and of its end
abbrev body_is : Mark → Mark → Bool
body_is m x = pick (eqb m.slot x.slot) (eqb m.kind x.kind) false

is_tests : (m x : Mark) → is m x ≡ pick (body_is m x) (pick (same m.from x.from) (pick (same m.to x.to) 1 0) 0) 0
is_tests m x = go (eqb m.slot x.slot) (eqb m.kind x.kind) (pick (same m.from x.from) (pick (same m.to x.to) 1 0) 0)
  where
    go : (a b : Bool) (n : ℕ) → pick a (pick b n 0) 0 ≡ pick (pick a b false) n 0
    go true b n = refl
    go false b n = refl

like_tests : (m x : Mark) → like m x ≡ pick (body_is m x) (pick (common m x) 1 (is m x)) 0
like_tests m x = go (eqb m.slot x.slot) (eqb m.kind x.kind) (pick (common m x) 1 (is m x))
  where
    go : (a b : Bool) (n : ℕ) → pick a (pick b n 0) 0 ≡ pick (pick a b false) n 0
    go true b n = refl
    go false b n = refl

body_same : (m x : Mark) → body_is m x ≡ true → (m.slot ≡ x.slot) × (m.kind ≡ x.kind)
body_same m x h =
    eqb_cases m.slot x.slot
    (λ t e. eqb_cases m.kind x.kind (λ u q. (e, q)) (λ u q. let z : false ≡ true = rw (t, u) at h in clash (cc)))
    (λ t e. let z : false ≡ true = rw t at h in clash (cc))

pub is_same : (m x : Mark) → 1 ≤ is m x → m ≡ x
is_same m x h = go (body_is m x) (same m.from x.from) (same m.to x.to) refl refl refl (omega (arith, is_tests m x))
  where
    go : (a b c : Bool) → body_is m x ≡ a → same m.from x.from ≡ b → same m.to x.to ≡ c → 1 ≤ pick a (pick b (pick c 1 0) 0) 0 → m ≡ x
    go true true true p q r h =
        let a = body_same m x p in let b = same_true m.from x.from q in let c = same_true m.to x.to r in rw (a.0, a.1, b, c)
    go true true false p q r h = absurd (omega arith)
    go true false c p q r h = absurd (omega arith)
    go false b c p q r h = absurd (omega arith)

pub is_self : (m : Mark) → is m m ≡ 1
is_self m = rw (eq-eqb m.slot m.slot refl, eq-eqb m.kind m.kind refl, same_refl m.from, same_refl m.to) refl

-- what like marks share
pub record Like (m x : Mark) : Type 0 where
  pub slot : m.slot ≡ x.slot
  pub kind : m.kind ≡ x.kind
  pub known : (common m x ≡ true) ⊎ (m ≡ x)

pub like_of : (m x : Mark) → 1 ≤ like m x → Like m x
like_of m x h = go (body_is m x) (common m x) refl refl (omega (arith, like_tests m x))
  where
    go : (a b : Bool) → body_is m x ≡ a → common m x ≡ b → 1 ≤ pick a (pick b 1 (is m x)) 0 → Like m x
    go true true p q h = let a = body_same m x p in record { slot = a.0; kind = a.1; known = inl q }
    go true false p q h = let a = body_same m x p in record { slot = a.0; kind = a.1; known = inr (is_same m x h) }
    go false b p q h = absurd (omega arith)

-- equal ones are like, and so is a Prefix with a byte in common
pub is_like : (m x : Mark) → is m x ≤ like m x
is_like m x = elim (dec_le 1 (is m x)) [
  | yes q ↦ let e = is_same m x q in rw e (omega (arith, is_self x, like_self x))
  | no q ↦ omega arith
]
  where
    go : (a b : Bool) (n : ℕ) → a ≡ true → 1 ≤ n → 1 ≤ pick a (pick b 1 n) 0
    go true true n e h = omega arith
    go true false n e h = h
    go false b n e h = clash (cc)

    like_self : (x : Mark) → 1 ≤ like x x
    like_self x = omega (arith, like_tests x x, go (body_is x x) (common x x) (is x x) (rw (eq-eqb x.slot x.slot refl) (eq-eqb x.kind x.kind refl)) (omega (arith, is_self x)))

like_common : (m x : Mark) → m.slot ≡ x.slot → m.kind ≡ x.kind → common m x ≡ true → like m x ≡ 1
like_common m x e k c = rw (eq-eqb m.slot x.slot e, eq-eqb m.kind x.kind k, c) refl

pub is_common : (m : Mark) (s k : ℕ) (a b c d : List ℕ) → common (mark s k a b) (mark s k c d) ≡ true → is m (mark s k a b) ≤ like m (mark s k c d)
is_common m s k a b c d h = elim (dec_le 1 (is m (mark s k a b))) [
  | yes q ↦ let e = is_same m (mark s k a b) q in rw e (omega (arith, like_common (mark s k a b) (mark s k c d) refl refl h, is_self (mark s k a b)))
  | no q ↦ omega arith
]

-- ---- bytes in common

pub record Common (m x : Mark) : Type 0 where
  pub left : length m.from < shared m.to x.to
  pub right : length x.from < shared m.to x.to

pub common_of : (m x : Mark) → common m x ≡ true → Common m x
common_of m x h = go (ltb (length m.from) (shared m.to x.to)) (ltb (length x.from) (shared m.to x.to)) refl refl h
  where
    go : (a b : Bool) → ltb (length m.from) (shared m.to x.to) ≡ a → ltb (length x.from) (shared m.to x.to) ≡ b → pick a b false ≡ true → Common m x
    go true true p q h = record { left = ltb-true (length m.from) (shared m.to x.to) p; right = ltb-true (length x.from) (shared m.to x.to) q }
    go true false p q h = clash (cc)
    go false b p q h = clash (cc)

pub of_common : (m x : Mark) → Common m x → common m x ≡ true
of_common m x C = rw (lt-ltb (length m.from) (shared m.to x.to) C.left) (lt-ltb (length x.from) (shared m.to x.to) C.right)

pub common_turn : (m x : Mark) → Common m x → Common x m
common_turn m x C = let e = shared_turn m.to x.to in record { left = omega (arith, C.right); right = omega (arith, C.left) }

-- two parts of one string that lie over each other
pub common_way : (w : List ℕ) (s k i j i' j' : ℕ) → j ≤ length w → j' ≤ length w → i < j → i < j' → i' < j → i' < j' → common (mark s k (take i w) (take j w)) (mark s k (take i' w) (take j' w)) ≡ true
common_way w s k i j i' j' h h' a b c d = of_common (mark s k (take i w) (take j w)) (mark s k (take i' w) (take j' w)) (record {
  left = omega (arith, reach (suc i) (omega arith) (omega arith), length-take-le i w (omega arith));
  right = omega (arith, reach (suc i') (omega arith) (omega arith), length-take-le i' w (omega arith));
})
  where
    reach : (n : ℕ) → n ≤ j → n ≤ j' → n ≤ shared (take j w) (take j' w)
    reach n p q = shared_least n (take j w) (take j' w) (omega (arith, length-take-le j w h)) (omega (arith, length-take-le j' w h')) (take-take n j w p ∙ sym (take-take n j' w q))

-- a Prefix with other bytes keeps its first one
pub is_from : (m : Mark) (s k : ℕ) (a p q : List ℕ) → 1 ≤ shared p q → is m (mark s k a (a ++ p)) ≤ like m (mark s k a (a ++ q))
is_from m s k a p q h = is_common m s k a (a ++ p) a (a ++ q) (of_common (mark s k a (a ++ p)) (mark s k a (a ++ q)) (record { left = omega (arith, shared_after a p q); right = omega (arith, shared_after a p q) }))

-- a body that goes is none of those that stay
pub is_gone : (m : Mark) (goes : List ℕ) (s k : ℕ) (a b : List ℕ) → among m.slot goes ≡ false → among s goes ≡ true → is m (mark s k a b) ≡ 0
is_gone m goes s k a b n t = eqb_cases m.slot s
    (λ q e. let u : among m.slot goes ≡ among s goes = ap (λ (i : ℕ). among i goes) e in let z : true ≡ false = cc in clash (cc))
    (λ q e. rw q refl)

-- of another kind it is another one
pub is_other : (m : Mark) (s k : ℕ) (a b : List ℕ) → (m.kind ≡ k → ⊥) → is m (mark s k a b) ≡ 0
is_other m s k a b n = elim (dec_le 1 (is m (mark s k a b))) [ yes q ↦ absurd (n (ap (λ (z : Mark). z.kind) (is_same m (mark s k a b) q))) | no q ↦ omega arith ]

pub counts_like : (m : Mark) (ms : List Mark) → count (is m) ms ≤ count (like m) ms
unfolding count
counts_like m [] = omega arith
counts_like m (x ∷ ms) = omega (arith, is_like m x, counts_like m ms)

-- ---- the clause

pub stay_of : (goes : List ℕ) (ms ms' : List Mark) → Stay goes ms ms' → stay goes ms ms' ≡ true
unfolding count
stay_of goes [] ms' S = refl
stay_of goes (m ∷ ms) ms' S =
    let on = stay_of goes ms ms' (record { each = λ x n h. S.each x n (omega arith) }) in
    bool_cases (among m.slot goes)
    (λ t. rw t on)
    (λ t. rw (t, lt-ltb 0 (count (like m) ms') (omega (arith, S.each m t (omega (arith, is_self m))))) on)

-- the first of some marks, or a later one
pub first_or : {A : Type 0} (m x : Mark) (ms : List Mark) → 1 ≤ count (is m) (x ∷ ms) → (m ≡ x → A) → (1 ≤ count (is m) ms → A) → A
unfolding count
first_or m x ms q a b = elim (dec_le 1 (is m x)) [ yes h ↦ a (is_same m x h) | no h ↦ b (omega arith) ]

stay_here : (goes : List ℕ) (x : Mark) (ms ms' : List Mark) → 1 ≤ count (like x) ms' → Stay goes ms ms' → Stay goes (x ∷ ms) ms'
stay_here goes x ms ms' h S = record { each = λ m n q. first_or m x ms q (λ e. rw e h) (S.each m n) }

stay_gone : (goes : List ℕ) (x : Mark) (ms ms' : List Mark) → among x.slot goes ≡ true → Stay goes ms ms' → Stay goes (x ∷ ms) ms'
stay_gone goes x ms ms' t S =
    record { each = λ m n q. first_or m x ms q (λ e. let z : true ≡ false = (let u : among m.slot goes ≡ among x.slot goes = ap (λ (y : Mark). among y.slot goes) e in cc) in clash (cc)) (S.each m n) }

pub stay_each : (goes : List ℕ) (ms ms' : List Mark) → stay goes ms ms' ≡ true → Stay goes ms ms'
stay_each goes [] ms' h = record { each = λ m n q. absurd (omega (arith, count_none (is m))) }
stay_each goes (x ∷ ms) ms' h =
    bool_cases (among x.slot goes)
    (λ t. stay_gone goes x ms ms' t (stay_each goes ms ms' (rw t at h)))
    (λ t. bool_cases (ltb 0 (count (like x) ms'))
    (λ u. stay_here goes x ms ms' (omega (arith, ltb-true 0 (count (like x) ms') u)) (stay_each goes ms ms' (rw (t, u) at h)))
    (λ u. let z : false ≡ true = rw (t, u) at h in clash (cc)))

-- what stays among more stays
pub stay_more : {goes : List ℕ} {ms ns : List Mark} → ((m : Mark) → among m.slot goes ≡ false → count (is m) ms ≤ count (is m) ns) → Stay goes ms ns
stay_more {ms = ms} {ns = ns} le = record { each = λ m n q. omega (arith, le m n, counts_like m ns) }

-- ---- members of a list of marks

pub record Found (w : Mark → ℕ) (ms : List Mark) : Type 0 where
  pub mark : Mark
  pub there : In mark ms
  pub weighs : 1 ≤ w mark

-- a weight that is not 0 has a member
pub find : (w : Mark → ℕ) (ms : List Mark) → 1 ≤ count w ms → Found w ms
find w [] h = absurd (omega (arith, count_none w))
find w (m ∷ ms) h = elim (dec_le 1 (w m)) [
  | yes q ↦ record { mark = m; there = omega (arith, count_cons (is m) m ms, is_self m); weighs = q }
  | no q ↦
      let F = find w ms (omega (arith, count_cons w m ms)) in
      record { mark = F.mark; there = omega (arith, count_cons (is F.mark) m ms, F.there); weighs = F.weighs }
]

-- and a member has its weight
pub weight_in : (w : Mark → ℕ) (ms : List Mark) (m : Mark) → In m ms → 1 ≤ w m → 1 ≤ count w ms
weight_in w [] m i h = absurd (omega (arith, count_none (is m)))
weight_in w (x ∷ ms) m i h = first_or m x ms i (λ e. let q : 1 ≤ w x = rw e at h in omega (arith, count_cons w x ms)) (λ j. omega (arith, count_cons w x ms, weight_in w ms m j h))

-- at most one member has a weight that comes to 1
pub only : (w : Mark → ℕ) (ms : List Mark) → count w ms ≤ 1 → (y z : Mark) → In y ms → In z ms → 1 ≤ w y → 1 ≤ w z → y ≡ z
only w [] h y z i j p q = absurd (omega (arith, count_none (is y)))
only w (x ∷ ms) h y z i j p q =
    let c = count_cons w x ms in
    first_or y x ms i
    (λ e. first_or z x ms j (λ g. e ∙ sym g) (λ g. let a : 1 ≤ w x = rw e at p in absurd (omega (arith, weight_in w ms z g q))))
    (λ e. first_or z x ms j (λ g. let a : 1 ≤ w x = rw g at q in absurd (omega (arith, weight_in w ms y e p))) (λ g. only w ms (omega arith) y z e g p q))
