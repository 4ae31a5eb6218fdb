-- The clause `stays`, computed: what it takes and what it refuses, in every case of put and erase. Assumes nothing.
use Prim.Native.Nat.{ℕ, zero, suc}
use mathlib.Core.Path.{◌≡◌, refl}
use mathlib.Core.List.{List, [], ◌∷◌, ◌++◌}
use mathlib.Core.Bool.{Bool, true, false}
use mathlib.Core.Option.{some}
use Rattle.model.specs.Edition.{edition1, unstamped}
use Rattle.model.specs.Tree.{Left}
use Rattle.model.specs.State.{put_in, erase_change}
use Rattle.model.specs.Frame.{Lay, LayKids, Root, bare, tree, art, root_art}
use Rattle.model.specs.Frame.Lay.{leaf, prefix, node}
use Rattle.model.specs.Frame.LayKids.{nil, kid}
use Rattle.model.specs.Mark.{marks, marks_all, root_marks, count}
use Rattle.model.specs.Touch.{put_touch, erase_touch, stay}

-- the clause of a put and of an erase; the trees are those of the model
record Put (r : Root) (k : List ℕ) (r' : Root) (answer : Bool) : Type 0 where
  pub model : root_art r' ≡ some (put_in edition1 (root_art r) k (unstamped [])).now
  pub clause : stay (put_touch edition1 r k (unstamped [])).goes (root_marks r) (root_marks r') ≡ answer

record Erase (l : Lay) (k : List ℕ) (l' : Lay) (answer : Bool) : Type 0 where
  pub model : (erase_change edition1 (art l) k).now ≡ Left.kept (art l')
  pub clause : stay (erase_touch edition1 (tree l) k).goes (marks [] l) (marks [] l') ≡ answer

-- ---- pieces of trees

-- a Leaf with an empty value; n Leaves of slots s, .. under path p, at bytes b, .. and in places j, .. (0: none)
abbrev lf : ℕ → List ℕ → Lay
lf s k = leaf s 0 0 k (unstamped [])

abbrev row : List ℕ → ℕ → ℕ → ℕ → LayKids → LayKids
row p s b zero ks = ks
row p s b (suc n) ks = kid b 0 (lf s (p ++ b ∷ [])) (row p (suc s) (suc b) n ks)

abbrev row48 : ℕ → ℕ → ℕ → ℕ → LayKids → LayKids
row48 s b j zero ks = ks
row48 s b j (suc n) ks = kid b j (lf s (b ∷ [])) (row48 (suc s) (suc b) (suc j) n ks)

abbrev n4 : ℕ → LayKids → Lay
n4 s ks = node s 0 4 ks

abbrev two : ℕ → Lay → ℕ → Lay → LayKids
two b x c y = kid b 0 x (kid c 0 y nil)

-- ---- W3, put ab=3: a Leaf is split under a Node4

abbrev w3 : Root
w3 = tree (n4 4 (two 97 (lf 2 (97 ∷ [])) 98 (lf 3 (98 ∷ []))))

abbrev w4 : ℕ → ℕ → Root
w4 up down = tree (n4 up (two 97 (n4 down (two 0 (lf 2 (97 ∷ [])) 98 (lf 5 (97 ∷ 98 ∷ [])))) 98 (lf 3 (98 ∷ []))))

w4_code : Put w3 (97 ∷ 98 ∷ []) (w4 4 6) true
unfolding marks marks_all root_marks count
w4_code = record { model = refl; clause = refl }

-- the exchange that the old clause let pass
w4_exchanged : Put w3 (97 ∷ 98 ∷ []) (w4 6 4) false
unfolding marks marks_all root_marks count
w4_exchanged = record { model = refl; clause = refl }

-- ---- put: first record, replacement, a Leaf split

first : Put (bare 1 0) (7 ∷ []) (tree (lf 2 (7 ∷ []))) true
unfolding marks marks_all root_marks count
first = record { model = refl; clause = refl }

again : Put (tree (lf 2 (7 ∷ []))) (7 ∷ []) (tree (lf 2 (7 ∷ []))) true
unfolding marks marks_all root_marks count
again = record { model = refl; clause = refl }

-- two Leaves change keys
again_moved : Put (tree (n4 1 (two 7 (lf 2 (7 ∷ [])) 8 (lf 3 (8 ∷ []))))) (7 ∷ []) (tree (n4 1 (two 7 (lf 3 (7 ∷ [])) 8 (lf 2 (8 ∷ []))))) false
unfolding marks marks_all root_marks count
again_moved = record { model = refl; clause = refl }

-- q > 0: a Prefix too
split_prefix : Put (tree (lf 2 (5 ∷ 7 ∷ []))) (5 ∷ 8 ∷ []) (tree (prefix 4 0 (5 ∷ []) (n4 3 (two 7 (lf 2 (5 ∷ 7 ∷ [])) 8 (lf 5 (5 ∷ 8 ∷ [])))))) true
unfolding marks marks_all root_marks count
split_prefix = record { model = refl; clause = refl }

-- the old Leaf takes the new key
split_moved : Put (tree (lf 2 (5 ∷ 7 ∷ []))) (5 ∷ 8 ∷ []) (tree (prefix 4 0 (5 ∷ []) (n4 3 (two 7 (lf 5 (5 ∷ 7 ∷ [])) 8 (lf 2 (5 ∷ 8 ∷ [])))))) false
unfolding marks marks_all root_marks count
split_moved = record { model = refl; clause = refl }

-- q = 0
split_none : Put (tree (lf 2 (5 ∷ []))) (8 ∷ []) (tree (n4 3 (two 5 (lf 2 (5 ∷ [])) 8 (lf 4 (8 ∷ []))))) true
unfolding marks marks_all root_marks count
split_none = record { model = refl; clause = refl }

-- ---- put: a Prefix cut, under a root and alone; the node below is slot 2

-- only the part before
cut_before : Put (tree (prefix 1 0 (5 ∷ 6 ∷ 7 ∷ []) (n4 2 (two 1 (lf 11 (5 ∷ 6 ∷ 7 ∷ 1 ∷ [])) 2 (lf 12 (5 ∷ 6 ∷ 7 ∷ 2 ∷ [])))))) (5 ∷ 6 ∷ 9 ∷ []) (tree (prefix 1 0 (5 ∷ 6 ∷ []) (n4 3 (two 7 (n4 2 (two 1 (lf 11 (5 ∷ 6 ∷ 7 ∷ 1 ∷ [])) 2 (lf 12 (5 ∷ 6 ∷ 7 ∷ 2 ∷ [])))) 9 (lf 4 (5 ∷ 6 ∷ 9 ∷ [])))))) true
unfolding marks marks_all root_marks count
cut_before = record { model = refl; clause = refl }

-- the nodes exchanged
cut_before_other : Put (tree (prefix 1 0 (5 ∷ 6 ∷ 7 ∷ []) (n4 2 (two 1 (lf 11 (5 ∷ 6 ∷ 7 ∷ 1 ∷ [])) 2 (lf 12 (5 ∷ 6 ∷ 7 ∷ 2 ∷ [])))))) (5 ∷ 6 ∷ 9 ∷ []) (tree (prefix 1 0 (5 ∷ 6 ∷ []) (n4 2 (two 7 (n4 3 (two 1 (lf 11 (5 ∷ 6 ∷ 7 ∷ 1 ∷ [])) 2 (lf 12 (5 ∷ 6 ∷ 7 ∷ 2 ∷ [])))) 9 (lf 4 (5 ∷ 6 ∷ 9 ∷ [])))))) false
unfolding marks marks_all root_marks count
cut_before_other = record { model = refl; clause = refl }

-- only the part after
cut_after : Put (tree (prefix 1 0 (5 ∷ 6 ∷ 7 ∷ []) (n4 2 (two 1 (lf 11 (5 ∷ 6 ∷ 7 ∷ 1 ∷ [])) 2 (lf 12 (5 ∷ 6 ∷ 7 ∷ 2 ∷ [])))))) (9 ∷ []) (tree (n4 3 (two 5 (prefix 1 0 (6 ∷ 7 ∷ []) (n4 2 (two 1 (lf 11 (5 ∷ 6 ∷ 7 ∷ 1 ∷ [])) 2 (lf 12 (5 ∷ 6 ∷ 7 ∷ 2 ∷ []))))) 9 (lf 4 (9 ∷ []))))) true
unfolding marks marks_all root_marks count
cut_after = record { model = refl; clause = refl }

-- both: the old body before, or after
cut_both_before : Put (tree (prefix 1 0 (5 ∷ 6 ∷ 7 ∷ []) (n4 2 (two 1 (lf 11 (5 ∷ 6 ∷ 7 ∷ 1 ∷ [])) 2 (lf 12 (5 ∷ 6 ∷ 7 ∷ 2 ∷ [])))))) (5 ∷ 9 ∷ []) (tree (prefix 1 0 (5 ∷ []) (n4 3 (two 6 (prefix 5 0 (7 ∷ []) (n4 2 (two 1 (lf 11 (5 ∷ 6 ∷ 7 ∷ 1 ∷ [])) 2 (lf 12 (5 ∷ 6 ∷ 7 ∷ 2 ∷ []))))) 9 (lf 4 (5 ∷ 9 ∷ [])))))) true
unfolding marks marks_all root_marks count
cut_both_before = record { model = refl; clause = refl }

cut_both_after : Put (tree (prefix 1 0 (5 ∷ 6 ∷ 7 ∷ []) (n4 2 (two 1 (lf 11 (5 ∷ 6 ∷ 7 ∷ 1 ∷ [])) 2 (lf 12 (5 ∷ 6 ∷ 7 ∷ 2 ∷ [])))))) (5 ∷ 9 ∷ []) (tree (prefix 5 0 (5 ∷ []) (n4 3 (two 6 (prefix 1 0 (7 ∷ []) (n4 2 (two 1 (lf 11 (5 ∷ 6 ∷ 7 ∷ 1 ∷ [])) 2 (lf 12 (5 ∷ 6 ∷ 7 ∷ 2 ∷ []))))) 9 (lf 4 (5 ∷ 9 ∷ [])))))) true
unfolding marks marks_all root_marks count
cut_both_after = record { model = refl; clause = refl }

-- none: it is freed
cut_none : Put (tree (prefix 1 0 (5 ∷ []) (n4 2 (two 1 (lf 11 (5 ∷ 1 ∷ [])) 2 (lf 12 (5 ∷ 2 ∷ [])))))) (9 ∷ []) (tree (n4 3 (two 5 (n4 2 (two 1 (lf 11 (5 ∷ 1 ∷ [])) 2 (lf 12 (5 ∷ 2 ∷ [])))) 9 (lf 4 (9 ∷ []))))) true
unfolding marks marks_all root_marks count
cut_none = record { model = refl; clause = refl }

-- under a Node4 root; the same with root and fork exchanged
cut_under : Put (tree (node 6 0 4 (two 5 (prefix 1 0 (6 ∷ 7 ∷ []) (n4 2 (two 1 (lf 11 (5 ∷ 6 ∷ 7 ∷ 1 ∷ [])) 2 (lf 12 (5 ∷ 6 ∷ 7 ∷ 2 ∷ []))))) 8 (lf 13 (8 ∷ []))))) (5 ∷ 9 ∷ []) (tree (node 6 0 4 (two 5 (n4 3 (two 6 (prefix 1 0 (7 ∷ []) (n4 2 (two 1 (lf 11 (5 ∷ 6 ∷ 7 ∷ 1 ∷ [])) 2 (lf 12 (5 ∷ 6 ∷ 7 ∷ 2 ∷ []))))) 9 (lf 4 (5 ∷ 9 ∷ [])))) 8 (lf 13 (8 ∷ []))))) true
unfolding marks marks_all root_marks count
cut_under = record { model = refl; clause = refl }

cut_under_exchanged : Put (tree (node 6 0 4 (two 5 (prefix 1 0 (6 ∷ 7 ∷ []) (n4 2 (two 1 (lf 11 (5 ∷ 6 ∷ 7 ∷ 1 ∷ [])) 2 (lf 12 (5 ∷ 6 ∷ 7 ∷ 2 ∷ []))))) 8 (lf 13 (8 ∷ []))))) (5 ∷ 9 ∷ []) (tree (node 3 0 4 (two 5 (n4 6 (two 6 (prefix 1 0 (7 ∷ []) (n4 2 (two 1 (lf 11 (5 ∷ 6 ∷ 7 ∷ 1 ∷ [])) 2 (lf 12 (5 ∷ 6 ∷ 7 ∷ 2 ∷ []))))) 9 (lf 4 (5 ∷ 9 ∷ [])))) 8 (lf 13 (8 ∷ []))))) false
unfolding marks marks_all root_marks count
cut_under_exchanged = record { model = refl; clause = refl }

-- ---- put: a child is added, a node grows

add : Put (tree (node 1 0 4 (row [] 11 20 3 nil))) (23 ∷ []) (tree (node 1 0 4 (row [] 11 20 4 nil))) true
unfolding marks marks_all root_marks count
add = record { model = refl; clause = refl }

add_48 : Put (tree (node 1 0 6 (row48 11 20 1 14 nil))) (34 ∷ []) (tree (node 1 0 6 (row48 11 20 1 15 nil))) true
unfolding marks marks_all root_marks count
add_48 = record { model = refl; clause = refl }

grow_4 : Put (tree (node 1 0 4 (row [] 11 20 4 nil))) (24 ∷ []) (tree (node 2 0 5 (row [] 11 20 5 nil))) true
unfolding marks marks_all root_marks count
grow_4 = record { model = refl; clause = refl }

grow_16 : Put (tree (node 1 0 5 (row [] 11 20 16 nil))) (36 ∷ []) (tree (node 2 0 6 (row48 11 20 1 17 nil))) true
unfolding marks marks_all root_marks count
grow_16 = record { model = refl; clause = refl }

grow_48 : Put (tree (node 1 0 6 (row48 11 20 1 48 nil))) (68 ∷ []) (tree (node 2 0 7 (row [] 11 20 49 nil))) true
unfolding marks marks_all root_marks count
grow_48 = record { model = refl; clause = refl }

-- a Node4 grows under a Node16 root; the same with the two Node16 exchanged
grow_under : Put (tree (node 1 0 5 (kid 3 0 (node 2 0 4 (row (3 ∷ []) 31 20 4 nil)) (row [] 11 20 4 nil)))) (3 ∷ 24 ∷ []) (tree (node 1 0 5 (kid 3 0 (node 3 0 5 (row (3 ∷ []) 31 20 5 nil)) (row [] 11 20 4 nil)))) true
unfolding marks marks_all root_marks count
grow_under = record { model = refl; clause = refl }

grow_exchanged : Put (tree (node 1 0 5 (kid 3 0 (node 2 0 4 (row (3 ∷ []) 31 20 4 nil)) (row [] 11 20 4 nil)))) (3 ∷ 24 ∷ []) (tree (node 3 0 5 (kid 3 0 (node 1 0 5 (row (3 ∷ []) 31 20 5 nil)) (row [] 11 20 4 nil)))) false
unfolding marks marks_all root_marks count
grow_exchanged = record { model = refl; clause = refl }

-- ---- erase: a child leaves, a node shrinks

less : Erase (node 1 0 4 (row [] 11 20 3 nil)) (22 ∷ []) (node 1 0 4 (row [] 11 20 2 nil)) true
unfolding marks marks_all root_marks count
less = record { model = refl; clause = refl }

shrink_256 : Erase (node 1 0 7 (row [] 11 20 38 nil)) (57 ∷ []) (node 2 0 6 (row48 11 20 1 37 nil)) true
unfolding marks marks_all root_marks count
shrink_256 = record { model = refl; clause = refl }

shrink_48 : Erase (node 1 0 6 (row48 11 20 1 13 nil)) (32 ∷ []) (node 2 0 5 (row [] 11 20 12 nil)) true
unfolding marks marks_all root_marks count
shrink_48 = record { model = refl; clause = refl }

shrink_16 : Erase (node 1 0 5 (row [] 11 20 4 nil)) (23 ∷ []) (node 2 0 4 (row [] 11 20 3 nil)) true
unfolding marks marks_all root_marks count
shrink_16 = record { model = refl; clause = refl }

-- a Node16 shrinks under a Node4 root; the same with the two Node4 exchanged
shrink_under : Erase (node 1 0 4 (kid 3 0 (node 2 0 5 (row (3 ∷ []) 31 20 4 nil)) (row [] 11 20 2 nil))) (3 ∷ 23 ∷ []) (node 1 0 4 (kid 3 0 (node 3 0 4 (row (3 ∷ []) 31 20 3 nil)) (row [] 11 20 2 nil))) true
unfolding marks marks_all root_marks count
shrink_under = record { model = refl; clause = refl }

shrink_exchanged : Erase (node 1 0 4 (kid 3 0 (node 2 0 5 (row (3 ∷ []) 31 20 4 nil)) (row [] 11 20 2 nil))) (3 ∷ 23 ∷ []) (node 3 0 4 (kid 3 0 (node 1 0 4 (row (3 ∷ []) 31 20 3 nil)) (row [] 11 20 2 nil))) false
unfolding marks marks_all root_marks count
shrink_exchanged = record { model = refl; clause = refl }

-- ---- erase: one child is left of a Node4 (slot 3)

-- no Prefix above: a Leaf, a Prefix, a node
lone_leaf : Erase (n4 3 (two 5 (lf 2 (5 ∷ [])) 8 (lf 4 (8 ∷ [])))) (8 ∷ []) (lf 2 (5 ∷ [])) true
unfolding marks marks_all root_marks count
lone_leaf = record { model = refl; clause = refl }

lone_prefix : Erase (n4 3 (two 5 (prefix 1 0 (6 ∷ 7 ∷ []) (n4 2 (two 1 (lf 11 (5 ∷ 6 ∷ 7 ∷ 1 ∷ [])) 2 (lf 12 (5 ∷ 6 ∷ 7 ∷ 2 ∷ []))))) 9 (lf 4 (9 ∷ [])))) (9 ∷ []) (prefix 1 0 (5 ∷ 6 ∷ 7 ∷ []) (n4 2 (two 1 (lf 11 (5 ∷ 6 ∷ 7 ∷ 1 ∷ [])) 2 (lf 12 (5 ∷ 6 ∷ 7 ∷ 2 ∷ []))))) true
unfolding marks marks_all root_marks count
lone_prefix = record { model = refl; clause = refl }

lone_node : Erase (n4 3 (two 5 (n4 2 (two 1 (lf 11 (5 ∷ 1 ∷ [])) 2 (lf 12 (5 ∷ 2 ∷ [])))) 9 (lf 4 (9 ∷ [])))) (9 ∷ []) (prefix 6 0 (5 ∷ []) (n4 2 (two 1 (lf 11 (5 ∷ 1 ∷ [])) 2 (lf 12 (5 ∷ 2 ∷ []))))) true
unfolding marks marks_all root_marks count
lone_node = record { model = refl; clause = refl }

-- the Leaves below exchanged
lone_node_other : Erase (n4 3 (two 5 (n4 2 (two 1 (lf 11 (5 ∷ 1 ∷ [])) 2 (lf 12 (5 ∷ 2 ∷ [])))) 9 (lf 4 (9 ∷ [])))) (9 ∷ []) (prefix 6 0 (5 ∷ []) (n4 2 (two 1 (lf 12 (5 ∷ 1 ∷ [])) 2 (lf 11 (5 ∷ 2 ∷ []))))) false
unfolding marks marks_all root_marks count
lone_node_other = record { model = refl; clause = refl }

-- under a Prefix: a Leaf, a Prefix, a node
under_leaf : Erase (prefix 4 0 (5 ∷ []) (n4 3 (two 7 (lf 2 (5 ∷ 7 ∷ [])) 8 (lf 5 (5 ∷ 8 ∷ []))))) (5 ∷ 8 ∷ []) (lf 2 (5 ∷ 7 ∷ [])) true
unfolding marks marks_all root_marks count
under_leaf = record { model = refl; clause = refl }

under_prefix_lem : Erase (prefix 1 0 (5 ∷ []) (n4 3 (two 6 (prefix 9 0 (7 ∷ []) (n4 2 (two 1 (lf 11 (5 ∷ 6 ∷ 7 ∷ 1 ∷ [])) 2 (lf 12 (5 ∷ 6 ∷ 7 ∷ 2 ∷ []))))) 9 (lf 4 (5 ∷ 9 ∷ []))))) (5 ∷ 9 ∷ []) (prefix 1 0 (5 ∷ 6 ∷ 7 ∷ []) (n4 2 (two 1 (lf 11 (5 ∷ 6 ∷ 7 ∷ 1 ∷ [])) 2 (lf 12 (5 ∷ 6 ∷ 7 ∷ 2 ∷ []))))) true
unfolding marks marks_all root_marks count
under_prefix_lem = record { model = refl; clause = refl }

-- the lower body is kept
under_prefix_other : Erase (prefix 1 0 (5 ∷ []) (n4 3 (two 6 (prefix 9 0 (7 ∷ []) (n4 2 (two 1 (lf 11 (5 ∷ 6 ∷ 7 ∷ 1 ∷ [])) 2 (lf 12 (5 ∷ 6 ∷ 7 ∷ 2 ∷ []))))) 9 (lf 4 (5 ∷ 9 ∷ []))))) (5 ∷ 9 ∷ []) (prefix 9 0 (5 ∷ 6 ∷ 7 ∷ []) (n4 2 (two 1 (lf 11 (5 ∷ 6 ∷ 7 ∷ 1 ∷ [])) 2 (lf 12 (5 ∷ 6 ∷ 7 ∷ 2 ∷ []))))) false
unfolding marks marks_all root_marks count
under_prefix_other = record { model = refl; clause = refl }

under_node : Erase (prefix 1 0 (5 ∷ 6 ∷ []) (n4 3 (two 7 (n4 2 (two 1 (lf 11 (5 ∷ 6 ∷ 7 ∷ 1 ∷ [])) 2 (lf 12 (5 ∷ 6 ∷ 7 ∷ 2 ∷ [])))) 9 (lf 4 (5 ∷ 6 ∷ 9 ∷ []))))) (5 ∷ 6 ∷ 9 ∷ []) (prefix 1 0 (5 ∷ 6 ∷ 7 ∷ []) (n4 2 (two 1 (lf 11 (5 ∷ 6 ∷ 7 ∷ 1 ∷ [])) 2 (lf 12 (5 ∷ 6 ∷ 7 ∷ 2 ∷ []))))) true
unfolding marks marks_all root_marks count
under_node = record { model = refl; clause = refl }
