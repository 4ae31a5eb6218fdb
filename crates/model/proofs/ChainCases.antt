-- The clauses `stays` and `last` over chains, computed: which bodies have which parts when a chain is cut or joined in edition 2, and what is
-- refused. Assumes nothing.
use Prim.Native.Nat.{ℕ, ◌<◌}
use mathlib.Core.Path.{◌≡◌, refl}
use mathlib.Core.List.{List, [], ◌∷◌, ◌++◌}
use mathlib.Core.Bool.{Bool, true, false}
use mathlib.Core.Option.{some}
use native.Mathlib.Omega.{arith}
use lib.ListN.{replicate}
use Rattle.layout.specs.Kind.{prefix_kind}
use Rattle.model.specs.Edition.{edition2, unstamped}
use Rattle.model.specs.Tree.{Left}
use Rattle.model.specs.State.{put_in, erase_change}
use Rattle.model.specs.Frame.{Lay, Root, tree, art, root_art}
use Rattle.model.specs.Frame.Lay.{leaf, prefix, node}
use Rattle.model.specs.Frame.LayKids.{nil, kid}
use Rattle.model.specs.Mark.{mark, marks, marks_all, root_marks, count}
use Rattle.model.specs.Touch.{Touch, touch, put_touch, erase_touch, stay, Last}

-- the clause of a put and of an erase; the trees are those of the model
record Put (r : Root) (k : List ℕ) (t : Touch) (r' : Root) (answer : Bool) : Type 0 where
  pub model : root_art r' ≡ some (put_in edition2 (root_art r) k (unstamped [])).now
  pub touches : put_touch edition2 r k (unstamped []) ≡ t
  pub clause : stay t.goes (root_marks r) (root_marks r') ≡ answer

record Erase (l : Lay) (k : List ℕ) (t : Touch) (l' : Lay) (answer : Bool) : Type 0 where
  pub model : (erase_change edition2 (art l) k).now ≡ Left.kept (art l')
  pub touches : erase_touch edition2 (tree l) k ≡ t
  pub clause : stay t.goes (marks [] l) (marks [] l') ≡ answer

-- ---- pieces of trees

abbrev sevens : ℕ → List ℕ
sevens n = replicate n 7

abbrev lf : ℕ → List ℕ → Lay
lf s k = leaf s 0 0 k (unstamped [])

-- a Prefix of n bytes 7; a Node4 of two children
abbrev pre : ℕ → ℕ → Lay → Lay
pre s n l = prefix s 0 (sevens n) l

abbrev two : ℕ → ℕ → Lay → ℕ → Lay → Lay
two s b x c y = node s 0 4 (kid b 0 x (kid c 0 y nil))

-- a Node4 of slot 9 after n bytes 7, with two Leaves
abbrev knot : ℕ → Lay
knot n = two 9 1 (lf 11 (sevens n ++ 1 ∷ [])) 2 (lf 12 (sevens n ++ 2 ∷ []))

-- ---- a chain of 200 bytes, 112 and 88, is cut

abbrev whole : Root
whole = tree (pre 1 112 (pre 2 88 (knot 200)))

abbrev deep : List ℕ
deep = sevens 5 ++ 8 ∷ []

-- after 5 bytes: these stay where they are; of the 194 after, 112 are in the second body and 82 in the taken one
cut_deep : Put whole deep (touch (1 ∷ 2 ∷ []) []) (tree (pre 1 5 (two 3 7 (pre 2 112 (pre 4 82 (knot 200))) 8 (lf 5 deep)))) true
unfolding marks marks_all root_marks count
cut_deep = record { model = refl; touches = refl; clause = refl }

-- the taken one stands above the second: `stays` alone lets it pass, `last` does not
abbrev turned : Root
turned = tree (pre 1 5 (two 3 7 (pre 4 112 (pre 2 82 (knot 200))) 8 (lf 5 deep)))

cut_turned : Put whole deep (touch (1 ∷ 2 ∷ []) []) turned true
unfolding marks marks_all root_marks count
cut_turned = record { model = refl; touches = refl; clause = refl }

cut_turned_last : Last (root_marks whole) (root_marks turned) → ⊥
unfolding marks marks_all root_marks count
cut_turned_last L =
    let h : 118 < 6 = L (mark 2 prefix_kind (sevens 112) (sevens 200)) (mark 2 prefix_kind (sevens 118) (sevens 200)) (mark 4 prefix_kind (sevens 6) (sevens 118)) (omega arith) (omega arith) (omega arith) refl refl (λ z. omega arith) refl in
    omega arith

-- the first has a part after the cut
cut_exchanged : Put whole deep (touch (1 ∷ 2 ∷ []) []) (tree (pre 2 5 (two 3 7 (pre 1 112 (pre 4 82 (knot 200))) 8 (lf 5 deep)))) false
unfolding marks marks_all root_marks count
cut_exchanged = record { model = refl; touches = refl; clause = refl }

-- at once: the 199 after are in the two bodies
cut_front : Put whole (8 ∷ []) (touch (1 ∷ 2 ∷ []) []) (tree (two 3 7 (pre 1 112 (pre 2 87 (knot 200))) 8 (lf 5 (8 ∷ [])))) true
unfolding marks marks_all root_marks count
cut_front = record { model = refl; touches = refl; clause = refl }

-- 113 bytes: the 112 after are in the second body, and the first is freed
cut_freed : Put (tree (pre 1 112 (pre 2 1 (knot 113)))) (8 ∷ []) (touch (2 ∷ []) (1 ∷ [])) (tree (two 3 7 (pre 2 112 (knot 113)) 8 (lf 5 (8 ∷ [])))) true
unfolding marks marks_all root_marks count
cut_freed = record { model = refl; touches = refl; clause = refl }

-- one Prefix, the old body with the part after: `last` does not let it pass
abbrev after : Root
after = tree (pre 4 5 (two 3 7 (pre 1 44 (knot 50)) 8 (lf 5 deep)))

cut_after : Put (tree (pre 1 50 (knot 50))) deep (touch (1 ∷ []) []) after true
unfolding marks marks_all root_marks count
cut_after = record { model = refl; touches = refl; clause = refl }

cut_after_last : Last (root_marks (tree (pre 1 50 (knot 50)))) (root_marks after) → ⊥
unfolding marks marks_all root_marks count
cut_after_last L =
    let h : 6 < 0 = L (mark 1 prefix_kind [] (sevens 50)) (mark 1 prefix_kind (sevens 6) (sevens 50)) (mark 4 prefix_kind [] (sevens 5)) (omega arith) (omega arith) (omega arith) refl refl (λ z. omega arith) refl in
    omega arith

-- ---- chains are joined

abbrev lost : ℕ → List ℕ
lost n = sevens n ++ 8 ∷ []

-- 100 bytes, the byte and 122 in two bodies are 223: the last is freed
join_fewer : Erase (pre 1 100 (two 3 7 (pre 2 112 (pre 4 10 (knot 223))) 8 (lf 5 (lost 100)))) (lost 100) (touch (1 ∷ 2 ∷ 4 ∷ []) (5 ∷ 3 ∷ 4 ∷ [])) (pre 1 112 (pre 2 111 (knot 223))) true
unfolding marks marks_all root_marks count
join_fewer = record { model = refl; touches = refl; clause = refl }

-- 112, the byte and 112 are 225: one is taken, and stands last
join_more : Erase (pre 1 112 (two 3 7 (pre 2 112 (knot 225)) 8 (lf 5 (lost 112)))) (lost 112) (touch (1 ∷ 2 ∷ []) (5 ∷ 3 ∷ [])) (pre 1 112 (pre 2 112 (pre 6 1 (knot 225)))) true
unfolding marks marks_all root_marks count
join_more = record { model = refl; touches = refl; clause = refl }

-- the two exchanged
join_exchanged : Erase (pre 1 112 (two 3 7 (pre 2 112 (knot 225)) 8 (lf 5 (lost 112)))) (lost 112) (touch (1 ∷ 2 ∷ []) (5 ∷ 3 ∷ [])) (pre 2 112 (pre 1 112 (pre 6 1 (knot 225)))) false
unfolding marks marks_all root_marks count
join_exchanged = record { model = refl; touches = refl; clause = refl }

-- no Prefix above: the byte comes before the chain
join_front : Erase (two 3 7 (pre 2 112 (pre 4 20 (knot 133))) 8 (lf 5 (8 ∷ []))) (8 ∷ []) (touch (2 ∷ 4 ∷ []) (5 ∷ 3 ∷ [])) (pre 2 112 (pre 4 21 (knot 133))) true
unfolding marks marks_all root_marks count
join_front = record { model = refl; touches = refl; clause = refl }

-- a full Prefix above an inner node: one is taken for the byte
join_node : Erase (pre 1 112 (two 3 7 (knot 113) 8 (lf 5 (lost 112)))) (lost 112) (touch (1 ∷ []) (5 ∷ 3 ∷ [])) (pre 1 112 (pre 6 1 (knot 113))) true
unfolding marks marks_all root_marks count
join_node = record { model = refl; touches = refl; clause = refl }

-- a Leaf is left: the whole chain is freed
join_leaf : Erase (pre 1 112 (pre 2 50 (two 3 7 (lf 4 (sevens 163)) 8 (lf 5 (lost 162))))) (lost 162) (touch [] (5 ∷ 3 ∷ 2 ∷ 1 ∷ [])) (lf 4 (sevens 163)) true
unfolding marks marks_all root_marks count
join_leaf = record { model = refl; touches = refl; clause = refl }
