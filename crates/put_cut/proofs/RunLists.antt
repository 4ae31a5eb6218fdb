-- Rows of bodies and runs of Prefixes as lists, and how many bodies a run has. Assumes nothing.
use Prim.Native.Nat.{ℕ, ◌+◌, ◌≤◌}
use mathlib.Core.Path.{◌≡◌, refl, sym, ap, subst, ◌∙◌}
use mathlib.Core.List.{List, [], ◌∷◌, ◌++◌, append_assoc, append-nil}
use native.Mathlib.Omega.{arith}
use lib.ListN.{length, get_or, take, drop, length-append, length-drop, take-append-drop}
use lib.Seq.{get_or-drop}
use Rattle.layout.specs.Kind.{prefix_kind}
use Rattle.model.specs.Edition.{Edition}
use Rattle.model.specs.Tree.{chain}
use Rattle.model.specs.Item.{Item, body, cover, sum}
use Rattle.model.specs.Frame.{Lay, IsNode, Below, View, Heap}
use Rattle.model.specs.Frame.Lay.{leaf, prefix, node}
use Rattle.model.proofs.ItemLaws.{sum_cons}
use Rattle.between.specs.Hole.{Step}
use Rattle.between.specs.Work.{Work}
use Rattle.between.specs.Lead.{NotLeaf}
use Rattle.between.specs.Since.{Changed, written, Since}
use Rattle.between.proofs.TreeLaws.{sum_none}
use Rattle.between.proofs.WorkLaws.{forest_first}
use Rattle.between.proofs.ChangeLaws.{changed_then}
use Rattle.between.proofs.SinceLaws.{since_start, since_also}
use Rattle.chain.specs.Row.{row_items, Named, unwound, bodies_of, bytes_of, tip_of, run_many}
use Rattle.chain.proofs.RunLaws.{below_not_leaf, run_art, run_chained}

-- ---- strings

pub no_bytes : (l : List ℕ) → length l ≡ 0 → l ≡ []
no_bytes [] e = refl
no_bytes (x ∷ l) e = absurd (omega arith)

pub none_past : (q : ℕ) (p : List ℕ) → length p ≤ q → drop q p ≡ []
none_past q p l = no_bytes (drop q p) (omega (arith, length-drop q p))

-- the path to what is left of a string
pub path_past : (path p u : List ℕ) (q : ℕ) → (path ++ p) ++ u ≡ (path ++ take q p) ++ (drop q p ++ u)
path_past path p u q = ap (λ y. (path ++ y) ++ u) (sym (take-append-drop q p)) ∙ ap (λ y. y ++ u) (sym (append_assoc path (take q p) (drop q p))) ∙ append_assoc (path ++ take q p) (drop q p) u

pub path_parts : (path p : List ℕ) (q : ℕ) → path ++ p ≡ (path ++ take q p) ++ drop q p
path_parts path p q = ap (λ y. path ++ y) (sym (take-append-drop q p)) ∙ sym (append_assoc path (take q p) (drop q p))

-- ---- rows

pub items_app : (a b : List (ℕ × ℕ)) (loose : List Item) → row_items (a ++ b) loose ≡ row_items a (row_items b loose)
items_app [] b loose = refl
items_app (x ∷ a) b loose = ap (λ (is : List Item). body x.0 prefix_kind x.1 ∷ is) (items_app a b loose)

pub sum_row : (w : Item → ℕ) (a : List (ℕ × ℕ)) (loose : List Item) → sum w (row_items a loose) ≡ sum w (row_items a []) + sum w loose
sum_row w [] loose = omega (arith, sum_none w)
sum_row w (x ∷ a) loose = let b = body x.0 prefix_kind x.1 in omega (arith, sum_row w a loose, sum_cons w b (row_items a loose), sum_cons w b (row_items a []))

pub unwound_app : (a b c : List (ℕ × ℕ)) → ◌≡◌ {A = List (ℕ × ℕ)} (unwound (a ++ b) c) (unwound b (unwound a c))
unwound_app [] b c = refl
unwound_app (x ∷ a) b c = unwound_app a b (x ∷ c)

pub unwound_on : (a b c : List (ℕ × ℕ)) → ◌≡◌ {A = List (ℕ × ℕ)} (unwound a (b ++ c)) (unwound a b ++ c)
unwound_on [] b c = refl
unwound_on (x ∷ a) b c = unwound_on a (x ∷ b) c

pub unwound_long : (a b : List (ℕ × ℕ)) → length (unwound a b) ≡ length a + length b
unwound_long [] b = omega arith
unwound_long (x ∷ a) b = omega (arith, unwound_long a (x ∷ b))

pub unwound_sum : (w : Item → ℕ) (a b : List (ℕ × ℕ)) → sum w (row_items (unwound a b) []) ≡ sum w (row_items a []) + sum w (row_items b [])
unwound_sum w [] b = omega (arith, sum_none w)
unwound_sum w (x ∷ a) b = let i = body x.0 prefix_kind x.1 in omega (arith, unwound_sum w a (x ∷ b), sum_cons w i (row_items b []), sum_cons w i (row_items a []))

pub none_left : (a b : List (ℕ × ℕ)) → length a ≡ 0 → ◌≡◌ {A = List (ℕ × ℕ)} b (unwound a b)
none_left [] b e = refl
none_left (x ∷ a) b e = absurd (omega arith)

-- without the first body
pub named_past : (row : List ℕ) (a : List (ℕ × ℕ)) (x : ℕ × ℕ) → Named row (a ++ x ∷ []) → Named (drop 1 row) a
named_past row [] x N = tt
named_past row (y ∷ a) x N =
    let e : length (a ++ x ∷ []) ≡ 1 + length a = omega (arith, length-append a (x ∷ [])) in
    (get_or-drop 1 row (length a) 0 ∙ ap (λ i. get_or row i 0) (sym e) ∙ N.0, named_past row a x N.1)

-- ---- runs

pub tip_tip : (t : Lay) → tip_of (tip_of t) ≡ tip_of t
tip_tip (leaf s o e k v) = refl
tip_tip (prefix s o p l) = tip_tip l
tip_tip (node s o kind ks) = refl

-- no Prefix stands below another: an inner node does
pub bare_node : (p : List ℕ) (l : Lay) → Below p l → run_many l ≡ 0 → IsNode l
bare_node p (leaf s o e k v) B z = absurd B
bare_node p (prefix s o q l) B z = absurd (omega arith)
bare_node p (node s o kind ks) B z = tt

-- what stands below a Prefix: a run of as many bodies as its bytes come to, above an inner node
pub run_below : {E : Edition} {f : List ℕ} {h : View} {xs : List Step} {s : ℕ} {loose : List Item} {ts : List (List ℕ × Lay)} (path p : List ℕ) (l : Lay) → Work E f h xs s ((path, l) ∷ ts) loose → Below p l
    → IsNode (tip_of l) × (length (bodies_of l) ≡ chain (length (bytes_of l)))
run_below {E} {f} {ts = ts} path p l W B =
    let T = (forest_first E f path l ts W.trees).0 in
    ((run_art E f path l T (below_not_leaf p l B)).1, run_chained E f path l T)

pub tip_not_leaf : (t : Lay) → IsNode (tip_of t) → NotLeaf t
tip_not_leaf (leaf s o e k v) n = absurd n
tip_not_leaf (prefix s o p l) n = tt
tip_not_leaf (node s o kind ks) n = tt

-- ---- what has changed since

-- the bodies of a row are to be rewritten
pub since_rows : {f : List ℕ} {h : View} → Heap f h → (a : List (ℕ × ℕ)) → Since f h f h [] (row_items a []) [] []
since_rows {f} {h} H a = subst (λ (y : List Item). Since f h f h [] y [] []) (append-nil (row_items a [])) (since_also (row_items a []) (since_start H))

-- they are
pub since_changed : {f0 f g : List ℕ} {h0 h : View} {ts rs gs es : List Item} {at : ℕ → ℕ} → Changed f g at → ((a : ℕ) → at a ≤ sum (cover a) rs) → Since f0 h0 f h ts rs gs es → Since f0 h0 g h ts rs gs es
since_changed {ts = ts} {rs = rs} {gs = gs} {es = es} C c Z = record { changed = changed_then (written ts rs gs es) Z.changed C (λ a z. (z, omega (arith, c a))); stepped = Z.stepped }
