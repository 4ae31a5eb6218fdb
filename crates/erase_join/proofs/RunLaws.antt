-- The run of Prefixes of the child that is left, and the run above the Node4: how long they are, and the lists of their bodies. Assumes nothing.
use Prim.Native.Nat.{ℕ, suc, ◌+◌, ◌≤◌}
use mathlib.Core.Path.{◌≡◌, refl, subst, sym, ap, ◌∙◌}
use mathlib.Core.List.{List, [], ◌∷◌, ◌++◌, append_assoc}
use mathlib.Core.Bool.{Bool, true, false}
use native.Mathlib.Omega.{arith}
use lib.ListN.{length}
use lib.Dec.{ltb, eqb}
use borrow.Author.Tests.{lt-ltb, le-ltb}
use Rattle.layout.specs.Kind.{prefix_kind}
use Rattle.model.specs.Strings.{pick}
use Rattle.model.specs.Edition.{unstamped}
use Rattle.model.specs.Tree.{chain}
use Rattle.model.specs.Item.{Item, body, sum}
use Rattle.model.specs.Frame.{Lay, slot_of}
use Rattle.model.specs.Frame.Lay.{leaf, prefix, node}
use Rattle.model.specs.Mark.{Mark, marks, is, count}
use Rattle.model.specs.Touch.{among, chain_slots, chain_long, chain_above, top, last_of}
use Rattle.model.proofs.StringLaws.{clash}
use Rattle.model.proofs.ItemLaws.{sum_cons}
use Rattle.model.proofs.MarkLaws.{prefix_marks, is_gone}
use Rattle.between.specs.Hole.{Step, under, plug, plug1, path_of, steps_items, holder_of}
use Rattle.between.specs.Hole as hole
use Rattle.between.specs.Lead.{NotUnder, NotLeaf, above_of}
use Rattle.between.specs.Since.{slots_of, SlotsIn}
use Rattle.between.proofs.TreeLaws.{sum_none}
use Rattle.between.proofs.HoleLaws.{path_under, steps_under}
use Rattle.between.proofs.OutsideLaws.{among_here, among_there}
use Rattle.descent.specs.Spot.{Prefixes}
use Rattle.chain.specs.Row.{row_items, bodies_of, bytes_of, tip_of}
use Rattle.chain.specs.Shift.{down_items}
use Rattle.chain.proofs.LongLaws.{chain_long_lem}
use Rattle.chain.proofs.AlongLaws.{Along}

-- ---- its slots

pub run_slots : (ss : List ℕ) (t : Lay) → ((j : ℕ) → among j (chain_slots t) ≡ true → among j ss ≡ true) → SlotsIn ss (row_items (bodies_of t) [])
run_slots ss (leaf s o e k v) h = tt
run_slots ss (prefix s o p t) h = (h s (among_here s (chain_slots t)), run_slots ss t (λ j a. h j (among_there j s (chain_slots t) a)))
run_slots ss (node s o kind ks) h = tt

-- among some that stand before others, or behind them
pub among_first : (j : ℕ) (ss rr : List ℕ) → among j ss ≡ true → among j (ss ++ rr) ≡ true
among_first j [] rr h = clash (cc)
among_first j (s ∷ ss) rr h = go (eqb j s) (among_first j ss rr) h
  where
    go : (x : Bool) → (among j ss ≡ true → among j (ss ++ rr) ≡ true) → pick x true (among j ss) ≡ true → pick x true (among j (ss ++ rr)) ≡ true
    go true ih h = refl
    go false ih h = ih h

pub among_later : (j : ℕ) (ss rr : List ℕ) → among j rr ≡ true → among j (ss ++ rr) ≡ true
among_later j [] rr h = h
among_later j (s ∷ ss) rr h = among_there j s (ss ++ rr) (among_later j ss rr h)

chain_slots_lem : (t : Lay) → slots_of (row_items (bodies_of t) []) ≡ chain_slots t
chain_slots_lem (leaf s o e k v) = refl
chain_slots_lem (prefix s o p t) = ap (λ (l : List ℕ). s ∷ l) (chain_slots_lem t)
chain_slots_lem (node s o kind ks) = refl

-- ---- of a run and a body above it the last was freed, or none

abbrev pub slots_in : List (ℕ × ℕ) → List ℕ
slots_in rs = slots_of (row_items rs [])

last_app : (rs : List (ℕ × ℕ)) (z : ℕ × ℕ) → last_of (slots_in (rs ++ z ∷ [])) ≡ z.0 ∷ []
last_app [] z = refl
last_app (x ∷ []) z = refl
last_app (x ∷ y ∷ rs) z = last_app (y ∷ rs) z

pub tail_is : (x y : ℕ × ℕ) (xs ys : List (ℕ × ℕ)) → x ∷ xs ≡ y ∷ ys → xs ≡ ys
tail_is x y xs ys e = cc

-- n bytes stand above those of u, and `gone` were freed of the bodies of both
pub gone_last : (x : ℕ × ℕ) (u : Lay) (left gone : List (ℕ × ℕ)) (n : ℕ) → 1 ≤ length (bodies_of u) → length (bodies_of u) ≡ chain (length (bytes_of u)) → x ∷ bodies_of u ≡ left ++ gone
    → chain (n + suc (length (bytes_of u))) + length gone ≡ suc (length (bodies_of u))
    → slots_in gone ≡ pick (ltb (chain (n + suc (chain_long u))) (suc (chain (chain_long u)))) (last_of (chain_slots u)) []
gone_last x u left [] n some eb e many =
    rw (chain_long_lem u, le-ltb (chain (n + suc (length (bytes_of u)))) (suc (chain (length (bytes_of u)))) (omega arith)) refl
gone_last x u [] (z ∷ []) n some eb e many = absurd (omega (arith, ap length e))
gone_last x u (y ∷ left) (z ∷ []) n some eb e many =
    let q : bodies_of u ≡ left ++ z ∷ [] = tail_is x y (bodies_of u) (left ++ z ∷ []) e in
    let g : last_of (chain_slots u) ≡ z.0 ∷ [] = ap last_of (sym (chain_slots_lem u)) ∙ ap (λ (l : List (ℕ × ℕ)). last_of (slots_in l)) q ∙ last_app left z in
    rw (chain_long_lem u, lt-ltb (chain (n + suc (length (bytes_of u)))) (suc (chain (length (bytes_of u)))) (omega arith)) (sym g)
gone_last x u left (z ∷ z' ∷ gone) n some eb e many = absurd (omega arith)

abbrev head_slot : List (ℕ × ℕ) → ℕ
head_slot [] = 0
head_slot (x ∷ rs) = x.0

-- those that are left stand in one order
pub along_gone : (goes : List ℕ) (rs left gone : List (ℕ × ℕ)) → rs ≡ left ++ gone → ((j : ℕ) → among j (slots_in gone) ≡ true → among j goes ≡ true) → Along goes rs left
along_gone goes [] left gone e h = tt
along_gone goes (x ∷ rs) [] [] e h = clash (cc)
along_gone goes (x ∷ rs) [] (z ∷ gone) e h =
    let q : x.0 ≡ z.0 = ap head_slot e in
    let a : among x.0 (slots_in (z ∷ gone)) ≡ true = subst (λ (i : ℕ). among i (slots_in (z ∷ gone)) ≡ true) (sym q) (among_here z.0 (slots_in gone)) in
    (h x.0 a, along_gone goes rs [] gone (tail_is x z rs gone e) (λ j b. h j (among_there j z.0 (slots_in gone) b)))
along_gone goes (x ∷ rs) (y ∷ left) gone e h = (ap head_slot e, along_gone goes rs left gone (tail_is x y rs (left ++ gone) e) h)

-- ---- a run of steps: its bodies, the last one first

abbrev pub rows : List Step → List (ℕ × ℕ)
rows [] = []
rows (under s o p ∷ ys) = (s, o) ∷ rows ys
rows (hole.among s o kind ls b j rs ∷ ys) = rows ys

pub plug_app : (ys xs : List Step) (t : Lay) → plug (ys ++ xs) t ≡ plug xs (plug ys t)
unfolding plug
plug_app [] xs t = refl
plug_app (y ∷ ys) xs t = plug_app ys xs (plug1 y t)

pub run_not_leaf : (ys : List Step) (t : Lay) → Prefixes ys → NotLeaf t → NotLeaf (plug ys t)
unfolding plug plug1
run_not_leaf [] t o n = n
run_not_leaf (under s o p ∷ ys) t h n = run_not_leaf ys (prefix s o p t) h tt
run_not_leaf (hole.among s o kind ls b j rs ∷ ys) t h n = absurd h

pub run_tip : (ys : List Step) (t : Lay) → Prefixes ys → tip_of (plug ys t) ≡ tip_of t
unfolding plug plug1
run_tip [] t h = refl
run_tip (under s o p ∷ ys) t h = run_tip ys (prefix s o p t) h
run_tip (hole.among s o kind ls b j rs ∷ ys) t h = absurd h

pub run_down : (ys : List Step) (t : Lay) (gs : List Item) → Prefixes ys → down_items (bodies_of (plug ys t)) gs ≡ down_items (bodies_of t) (row_items (rows ys) gs)
unfolding plug plug1
run_down [] t gs h = refl
run_down (under s o p ∷ ys) t gs h = run_down ys (prefix s o p t) gs h
run_down (hole.among s o kind ls b j rs ∷ ys) t gs h = absurd h

pub run_many_lem : (ys : List Step) (t : Lay) → Prefixes ys → length (bodies_of (plug ys t)) ≡ length (rows ys) + length (bodies_of t)
unfolding plug plug1
run_many_lem [] t h = omega arith
run_many_lem (under s o p ∷ ys) t h = omega (arith, run_many_lem ys (prefix s o p t) h)
run_many_lem (hole.among s o kind ls b j rs ∷ ys) t h = absurd h

-- it is not empty where its first is known
pub run_some : (ys : List Step) (first : ℕ) → Prefixes ys → ((t : Lay) → slot_of (plug ys t) ≡ first) → 1 ≤ length (rows ys)
unfolding plug
run_some [] first h top = absurd (omega (arith, top (leaf 0 0 0 [] (unstamped [])), top (leaf 1 0 0 [] (unstamped []))))
run_some (under s o p ∷ ys) first h top = omega arith
run_some (hole.among s o kind ls b j rs ∷ ys) first h top = absurd h

module _ (xs : List Step) where
  pub run_path : (ys : List Step) (t : Lay) → Prefixes ys → path_of xs ++ bytes_of (plug ys t) ≡ path_of (ys ++ xs) ++ bytes_of t
  unfolding plug plug1
  run_path [] t h = refl
  run_path (under s o p ∷ ys) t h =
      run_path ys (prefix s o p t) h ∙ sym (append_assoc (path_of (ys ++ xs)) p (bytes_of t)) ∙ ap (λ z. z ++ bytes_of t) (sym (path_under s o p (ys ++ xs)))
  run_path (hole.among s o kind ls b j rs ∷ ys) t h = absurd h

  pub run_steps : (v : Item → ℕ) (ys : List Step) → Prefixes ys → sum v (steps_items (ys ++ xs)) ≡ sum v (row_items (rows ys) []) + sum v (steps_items xs)
  run_steps v [] h = omega (arith, sum_none v)
  run_steps v (under s o p ∷ ys) h = omega (arith, steps_under v s o p (ys ++ xs), run_steps v ys h, sum_cons v (body s prefix_kind o) (row_items (rows ys) []))
  run_steps v (hole.among s o kind ls b j rs ∷ ys) h = absurd h

  -- bodies that go are none of those that stay
  pub run_gone : (goes : List ℕ) (x : Mark) → among x.slot goes ≡ false → (ys : List Step) (t : Lay) → Prefixes ys → ((j : ℕ) → among j (slots_in (rows ys)) ≡ true → among j goes ≡ true)
      → count (is x) (marks (path_of xs) (plug ys t)) ≡ count (is x) (marks (path_of (ys ++ xs)) t)
  unfolding plug plug1
  run_gone goes x z [] t h g = refl
  run_gone goes x z (under s o p ∷ ys) t h g =
      omega (
        arith,
        run_gone goes x z ys (prefix s o p t) h (λ j a. g j (among_there j s (slots_in (rows ys)) a)),
        prefix_marks (is x) (path_of (ys ++ xs)) s o p t,
        is_gone x goes s prefix_kind (path_of (ys ++ xs)) (path_of (ys ++ xs) ++ p) z (g s (among_here s (slots_in (rows ys)))),
        ap (λ y. count (is x) (marks y t)) (path_under s o p (ys ++ xs)),
      )
  run_gone goes x z (hole.among s o kind ls b j rs ∷ ys) t h g = absurd h

  module _ (free : NotUnder xs) where
    -- what names the run
    top_free : (zs : List Step) → NotUnder zs → (chain_above (above_of zs) ≡ []) × (top (above_of zs) ≡ holder_of zs)
    top_free [] n = (refl, refl)
    top_free (under s o p ∷ zs) n = absurd n
    top_free (hole.among s o kind ls b j rs ∷ zs) n = (refl, refl)

    pub run_above : (ys : List Step) → Prefixes ys → (chain_above (above_of (ys ++ xs)) ≡ slots_in (rows ys)) × (top (above_of (ys ++ xs)) ≡ holder_of xs)
    run_above [] h = top_free xs free
    run_above (under s o p ∷ ys) h = let R = run_above ys h in (ap (λ (l : List ℕ). s ∷ l) R.0, R.1)
    run_above (hole.among s o kind ls b j rs ∷ ys) h = absurd h
