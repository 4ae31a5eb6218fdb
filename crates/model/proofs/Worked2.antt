-- Edition 2 and chains, computed: numbers derived by hand from document 02's words. F 4,096, N 16, D 128. Assumes nothing.
use Prim.Native.Nat.{ℕ}
use mathlib.Core.Path.{◌≡◌, refl}
use mathlib.Core.List.{[], ◌∷◌, ◌++◌}
use lib.ListN.{length, replicate}
use Rattle.layout.specs.Kind.{leaf_kind, prefix_kind, node4_kind}
use Rattle.model.specs.Edition.{edition1, edition2, escaped, unstamped}
use Rattle.model.specs.Tree.{Art, Change, Left, chain, cut_prefix, lone_child, under_prefix, idle}
use Rattle.model.specs.Tree.Art.{leaf, prefix, node}
use Rattle.model.specs.Tree.Kids.{nil, kid}
use Rattle.model.specs.Tree.Left.{gone}
use Rattle.model.specs.State.{Done, formatted, call_put, call_erase}

-- ---- "a byte 0 of the key becomes 0, 255, and the end is 0, 0"

e1 : escaped (7 ∷ []) ≡ 7 ∷ 0 ∷ 0 ∷ []
e1 = refl

e2 : escaped (0 ∷ 5 ∷ 0 ∷ []) ≡ 0 ∷ 255 ∷ 5 ∷ 0 ∷ 255 ∷ 0 ∷ 0 ∷ []
e2 = refl

-- 255 bytes 0: 512 walked bytes, the longest
e3 : length (escaped (replicate 255 0)) ≡ 512
e3 = refl

e4 : edition2.key_fault (replicate 255 0) ≡ 0
e4 = refl

e5 : edition2.key_fault (replicate 256 1) ≡ 3
e5 = refl

e6 : edition1.key_fault (0 ∷ []) ≡ 4
e6 = refl

-- ---- how many Prefixes

c0 : chain 0 ≡ 0
c0 = refl

c1 : chain 1 ≡ 1
c1 = refl

c2 : chain 112 ≡ 1
c2 = refl

c3 : chain 113 ≡ 2
c3 = refl

c4 : chain 224 ≡ 2
c4 = refl

c5 : chain 225 ≡ 3
c5 = refl

c6 : chain 510 ≡ 5
c6 = refl

-- ---- cuts: a chain of p bytes cut after q: Prefixes taken, freed

abbrev inner : Art
inner = node 4 (kid 1 0 (leaf (1 ∷ []) (unstamped [])) (kid 2 0 (leaf (2 ∷ []) (unstamped [])) nil))

-- the key whose walked string shares q bytes 9 with the chain, then has an 8
abbrev cut : ℕ → ℕ → Change Art
cut p q = cut_prefix edition2 0 (replicate q 9 ++ 8 ∷ []) (unstamped []) (replicate p 9) inner

-- 225 = 112 + 112 + 1; cut at 0: 224 = 112 + 112 stay: one fewer
k1 : (cut 225 0).takes ≡ leaf_kind ∷ node4_kind ∷ []
k1 = refl

k1' : (cut 225 0).frees ≡ prefix_kind ∷ []
k1' = refl

-- at 112: 112 and 112: one fewer
k2 : (cut 225 112).frees ≡ prefix_kind ∷ []
k2 = refl

-- at 111: 111 and 113: three as before
k3 : (cut 225 111).takes ≡ leaf_kind ∷ node4_kind ∷ []
k3 = refl

k3' : (cut 225 111).frees ≡ []
k3' = refl

-- 224 at 100: 100 and 123: three for two
k4 : (cut 224 100).takes ≡ leaf_kind ∷ node4_kind ∷ prefix_kind ∷ []
k4 = refl

-- document 01's list, for one Prefix: both parts, one, none
k5 : (cut 10 3).takes ≡ leaf_kind ∷ node4_kind ∷ prefix_kind ∷ []
k5 = refl

k6 : (cut 10 0).takes ≡ leaf_kind ∷ node4_kind ∷ []
k6 = refl

k6' : (cut 10 9).frees ≡ []
k6' = refl

k7 : (cut 1 0).frees ≡ prefix_kind ∷ []
k7 = refl

-- ---- joins, when a Node4 falls to one child

abbrev joined : ℕ → ℕ → Change Left
joined p q = under_prefix (replicate p 9) 8 (prefix (replicate q 9) inner) (idle gone)

-- 112 and 112 with the byte: 225: three for two
j1 : (joined 112 112).takes ≡ prefix_kind ∷ []
j1 = refl

-- 111 and 112: 224: two for two
j2 : (joined 111 112).takes ≡ []
j2 = refl

j2' : (joined 111 112).frees ≡ []
j2' = refl

-- 1 and 1: 3: "the lower body then freed"
j3 : (joined 1 1).frees ≡ prefix_kind ∷ []
j3 = refl

-- no Prefix above, a full one below: 113: one more
j4 : (lone_child 8 (prefix (replicate 112 9) inner) (idle gone)).takes ≡ prefix_kind ∷ []
j4 = refl

-- a full one above, an inner node below: 113: one more; one of 50: none
j5 : (under_prefix (replicate 112 9) 8 inner (idle gone)).takes ≡ prefix_kind ∷ []
j5 = refl

j6 : (under_prefix (replicate 50 9) 8 inner (idle gone)).takes ≡ []
j6 = refl

-- a Leaf below 300 bytes: all three Prefixes go
j7 : (under_prefix (replicate 300 9) 8 (leaf (1 ∷ []) (unstamped [])) (idle gone)).frees ≡ prefix_kind ∷ prefix_kind ∷ prefix_kind ∷ []
j7 = refl

-- ---- a frame of edition 2: two keys of 200 bytes that part at the last (`table2` has U, B and X of these frames)

abbrev s2 : Done
s2 = call_put edition2 (call_put edition2 (formatted 4096 16) (replicate 199 97 ++ 120 ∷ []) (unstamped (49 ∷ []))).state (replicate 199 97 ++ 121 ∷ []) (unstamped (50 ∷ []))

-- the erase of one frees its Leaf, the Node4 and both Prefixes
f1 : (call_erase edition2 s2.state (replicate 199 97 ++ 120 ∷ [])).state.free ≡ 0 ∷ 1 ∷ 2 ∷ 0 ∷ 1 ∷ 0 ∷ 0 ∷ 0 ∷ 1 ∷ []
f1 = refl

-- a third key that leaves the chain at byte 112, between its Prefixes: no Prefix more, and none freed
f2 : (call_put edition2 s2.state (replicate 112 97 ++ 98 ∷ []) (unstamped [])).state.free ≡ 0 ∷ 0 ∷ 0 ∷ 0 ∷ 0 ∷ 0 ∷ 0 ∷ 0 ∷ 1 ∷ []
f2 = refl
