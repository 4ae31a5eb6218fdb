-- In edition 1 a shared beginning stands on one Prefix: a path of 113 bytes leads to no inner node, so below a Prefix an inner node stands, and
-- a cut or a join stays within one body. What the code of edition 1 needs of chains. Assumes nothing.
use Prim.Native.Nat.{ℕ, zero, suc, ◌+◌, ◌-◌, ◌<◌, ◌≤◌}
use mathlib.Core.Path.{◌≡◌, refl, sym, ap, ◌∙◌}
use mathlib.Core.List.{List, [], ◌∷◌, ◌++◌, append_assoc}
use mathlib.Core.Bool.{true}
use native.Mathlib.Omega.{arith}
use lib.ListN.{length, drop, length-append}
use lib.Seq.{drop-append_seam}
use lib.Dec.{ltb, eqb}
use borrow.Author.Tests.{lt-ltb, le-ltb, ne_eqb}
use Rattle.layout.specs.Number.{Bytes}
use Rattle.layout.specs.Place.{prefix_most}
use Rattle.layout.specs.Kind.{prefix_kind}
use Rattle.model.specs.Strings.{pick, shared}
use Rattle.model.specs.Edition.{Edition, Legal, edition1, Value}
use Rattle.model.specs.Tree.{Art, Kids, Change, Left, is_inner, chain, prefixes, rechained, lone_child, under_prefix}
use Rattle.model.specs.Tree.Left.{kept}
use Rattle.model.specs.Frame.{Lay, IsNode, Below, atop, art, Tree}
use Rattle.model.specs.Frame.Lay.{leaf, prefix, node}
use Rattle.model.specs.Touch.{Touch, touch, holder, chain_slots, chain_long, touch_put, Above, held, under, touch_lone}
use Rattle.model.proofs.StringLaws.{eqb_cases, shared_at}
use Rattle.model.proofs.WellLaws.{parted_from}
use Rattle.model.proofs.StandsGood.{below_inside, tree_well}
use Rattle.model.proofs.Edition1.{key_passes, before_byte, lawful1, inside1, node_path1}
use Rattle.model.proofs.ChainLaws.{inner_atop}

-- ---- trees that stand

pub node_inner : (l : Lay) → IsNode l → is_inner (art l) ≡ true
node_inner (leaf s o e k v) I = absurd I
node_inner (prefix s o p l) I = absurd I
node_inner (node s o kind ks) I = refl

-- an inner node may stand below any Prefix
pub node_below : (p : List ℕ) (l : Lay) → IsNode l → Below p l
node_below p (leaf s o e k v) I = absurd I
node_below p (prefix s o q l) I = absurd I
node_below p (node s o kind ks) I = tt

-- the path to what stands below a Prefix is short
pub below_short : (f path p : List ℕ) (l : Lay) → Bytes f → Below p l → Tree edition1 f path l → length path ≤ prefix_most
below_short f path p l B H T = (inside1 path (below_inside lawful1 f path p l B H T)).short

-- so it is an inner node
pub below_node : (f path p : List ℕ) (l : Lay) → Bytes f → Below p l → Tree edition1 f (path ++ p) l → IsNode l
unfolding Tree
below_node f path p (leaf s o e k v) B H T = absurd H
below_node f path p (prefix s o q l) B H T = absurd (omega (arith, below_short f (path ++ p ++ q) q l B T.2 T.3, length-append (path ++ p) q, length-append path p, T.1.some))
below_node f path p (node s o kind ks) B H T = tt

-- n bytes above a tree go into one Prefix with those that it begins with
abbrev pub OneBody : ℕ → Lay → Type 0
OneBody n (leaf s o e k v) = Unit {0}
OneBody n (prefix s o p l) = IsNode l × (1 ≤ length p) × (n + length p ≤ prefix_most)
OneBody n (node s o kind ks) = n ≤ prefix_most

pub one_body : (f path : List ℕ) (n : ℕ) (l : Lay) → Bytes f → n ≤ length path → Tree edition1 f path l → OneBody n l
unfolding Tree
one_body f path n (leaf s o e k v) B h T = tt
one_body f path n (prefix s o p l) B h T =
    (below_node f path p l B T.2 T.3, T.1.some, omega (arith, below_short f (path ++ p) p l B T.2 T.3, length-append path p))
one_body f path n (node s o kind ks) B h T = omega (arith, (node_path1 kind _ path (tree_well edition1 f B path (node s o kind ks) T)).short)

-- ---- what put takes

-- "a Prefix if q > 0"
pub prefix_some : (q : ℕ) → 1 ≤ q → q ≤ prefix_most → prefixes (chain q) ≡ prefix_kind ∷ []
prefix_some q h g = let e : chain q ≡ 1 = omega arith in rw e

pub prefix_if : (q : ℕ) → q ≤ prefix_most → prefixes (chain q) ≡ pick (eqb q 0) [] (prefix_kind ∷ [])
prefix_if zero h = refl
prefix_if (suc q) h = rw (ne_eqb (suc q) 0 (λ z. omega arith)) (prefix_some (suc q) (omega arith) h)

-- "Both non-empty: one more Prefix. One: the old body is rewritten. None: it is freed."
pub cut_if : (q n : ℕ) → q < n → n ≤ prefix_most → prefixes (chain q + chain (n - suc q) - chain n) ≡ pick (eqb q 0) [] (pick (eqb (n - suc q) 0) [] (prefix_kind ∷ []))
cut_if q n h g = eqb_cases q 0
    (λ t e. let z : chain q + chain (n - suc q) - chain n ≡ 0 = omega arith in rw (t, z))
    (λ t e. eqb_cases (n - suc q) 0
    (λ u d. let z : chain q + chain (n - suc q) - chain n ≡ 0 = omega arith in rw (t, u, z))
    (λ u d. let z : chain q + chain (n - suc q) - chain n ≡ 1 = omega arith in rw (t, u, z)))

pub cut_frees : (q n : ℕ) → q < n → n ≤ prefix_most → prefixes (chain n - (chain q + chain (n - suc q))) ≡ pick (eqb q 0) (pick (eqb (n - suc q) 0) (prefix_kind ∷ []) []) []
cut_frees q n h g = eqb_cases q 0
    (λ t e. eqb_cases (n - suc q) 0
    (λ u d. let z : chain n - (chain q + chain (n - suc q)) ≡ 1 = omega arith in rw (t, u, z))
    (λ u d. let z : chain n - (chain q + chain (n - suc q)) ≡ 0 = omega arith in rw (t, u, z)))
    (λ t e. let z : chain n - (chain q + chain (n - suc q)) ≡ 0 = omega arith in rw (t, z))

-- two keys part within the bytes of one Prefix
pub parts_short : (k l path r r' : List ℕ) → Legal edition1 k → Legal edition1 l → (k ≡ l → ⊥) → edition1.walked k ≡ path ++ r → edition1.walked l ≡ path ++ r'
    → shared (drop (length path) (edition1.walked k)) (drop (length path) (edition1.walked l)) ≤ prefix_most
parts_short k l path r r' hk hl n e e' =
    let Q = parted_from lawful1 path k l r r' hk hl n e e' in
    let w = Q.w in
    let key = key_passes k hk.passes in
    let here : edition1.walked k ≡ (path ++ w) ++ Q.b ∷ Q.s = e ∙ ap (λ (x : List ℕ). path ++ x) Q.left ∙ sym (append_assoc path w (Q.b ∷ Q.s)) in
    let is : shared (drop (length path) (edition1.walked k)) (drop (length path) (edition1.walked l)) ≡ length w
    = ap (λ (x : List ℕ). shared (drop (length path) x) (drop (length path) (edition1.walked l))) e ∙ ap (λ (x : List ℕ). shared (drop (length path) (path ++ r)) (drop (length path) x)) e'
    ∙ ap (λ (x : List ℕ). shared x (drop (length path) (path ++ r'))) (drop-append_seam path r) ∙ ap (shared r) (drop-append_seam path r')
    ∙ ap (λ (x : List ℕ). shared x r') Q.left ∙ ap (shared (w ++ Q.b ∷ Q.s)) Q.right ∙ shared_at w Q.b Q.s Q.c Q.t Q.apart in
    let short = (before_byte k (path ++ w) Q.b Q.s key.chars here).1 in
    let most = key.short in
    omega (arith, length-append path w)

-- ---- what erase frees

module _ (c : Change Left) where
  -- a tree is left, and these Prefixes are freed too
  abbrev pub freeing : List ℕ → Art → Change Left
  freeing frees a = record { now = kept a; takes = c.takes; frees = frees ++ c.frees; extent = c.extent; dead = c.dead; fresh = c.fresh }

  rechained_by : (was now n : ℕ) (a : Art) → now - was ≡ 0 → was - now ≡ n → rechained was now a c ≡ freeing (prefixes n) a
  rechained_by was now n a e g = rw (e, g)

  -- "If it is a Prefix, the byte joins it"
  pub lone_one : (b : ℕ) (p : List ℕ) (a : Art) → is_inner a ≡ true → 1 ≤ length p → 1 + length p ≤ prefix_most → lone_child b (atop p a) c ≡ freeing [] (atop (b ∷ p) a)
  lone_one b p a i h g =
      ap (λ (x : Art). lone_child b x c) (sym (inner_atop p a i)) ∙ rechained_by (chain (length p)) (chain (suc (length p))) 0 (Art.prefix (b ∷ p) a) (omega arith) (omega arith)
      ∙ ap (freeing []) (inner_atop (b ∷ p) a i)

  module _ (p : List ℕ) (b : ℕ) (some : 1 ≤ length p) where
    -- "If that child is a Leaf, a Prefix just above is freed too."
    pub leaf_one : (k : List ℕ) (v : Value) → length p ≤ prefix_most → under_prefix p b (Art.leaf k v) c ≡ freeing (prefix_kind ∷ []) (Art.leaf k v)
    leaf_one k v g = ap (λ (x : List ℕ). freeing x (Art.leaf k v)) (prefix_some (length p) some g)

    -- "(and a Prefix above joins as well, the lower body then freed)"
    pub join_one : (q : List ℕ) (a : Art) → is_inner a ≡ true → 1 ≤ length q → length p + 1 + length q ≤ prefix_most → under_prefix p b (atop q a) c ≡ freeing (prefix_kind ∷ []) (atop (p ++ b ∷ q) a)
    join_one q a i h g =
        ap (λ (x : Art). under_prefix p b x c) (sym (inner_atop q a i))
        ∙ rechained_by (chain (length p) + chain (length q)) (chain (length p + suc (length q))) 1 (Art.prefix (p ++ b ∷ q) a) (omega arith) (omega arith)
        ∙ ap (freeing (prefix_kind ∷ [])) (inner_atop (p ++ b ∷ q) a i)

    -- "If it is an inner node, a Prefix above takes the byte"
    pub back_one : (kind : ℕ) (ks : Kids) → length p + 1 ≤ prefix_most → under_prefix p b (Art.node kind ks) c ≡ freeing [] (Art.prefix (p ++ b ∷ []) (Art.node kind ks))
    back_one kind ks g = rechained_by (chain (length p)) (chain (length p + 1)) 0 (Art.prefix (p ++ b ∷ []) (Art.node kind ks)) (omega arith) (omega arith)

-- ---- what is touched: document 01's lists

node_chain : (l : Lay) → IsNode l → (chain_slots l ≡ []) × (chain_long l ≡ 0)
node_chain (leaf s o e k v) I = absurd I
node_chain (prefix s o p l) I = absurd I
node_chain (node s o kind ks) I = (refl, refl)

module _ (s : ℕ) (p : List ℕ) (h : ℕ) (deep : Touch) where
  -- the lists of a cut after q bytes: of a chain, whose rest is told; and of one Prefix
  abbrev chain_cut : List ℕ → ℕ → ℕ → Touch
  chain_cut rest more q =
      let n = length p + more in
      let none = pick (ltb (chain (n - 1)) (chain n)) (touch (rest ++ holder h) (s ∷ [])) (touch (s ∷ rest ++ holder h) []) in
      pick (eqb q (length p)) deep (pick (eqb q 0) none (touch (s ∷ rest) []))

  abbrev pub one_cut : ℕ → Touch
  one_cut q = pick (eqb q (length p)) deep (pick (eqb q 0) (pick (eqb (length p) 1) (touch (holder h) (s ∷ [])) (touch (s ∷ holder h) [])) (touch (s ∷ []) []))

  cut_lists : (q : ℕ) → 1 ≤ length p → length p ≤ prefix_most → chain_cut [] 0 q ≡ one_cut q
  cut_lists q some most =
      let n : length p + 0 ≡ length p = omega arith in
      rw (n, fewer) refl
    where
      fewer : ltb (chain (length p - 1)) (chain (length p)) ≡ eqb (length p) 1
      fewer = eqb_cases (length p) 1
          (λ t i. rw t (lt-ltb (chain (length p - 1)) (chain (length p)) (omega arith)))
          (λ t i. rw t (le-ltb (chain (length p - 1)) (chain (length p)) (omega arith)))

-- "Both non-empty: one more Prefix. One: the old body is rewritten. None: it is freed."
pub cut_touch : (E : Edition) (s o : ℕ) (p : List ℕ) (l : Lay) (h d : ℕ) (k : List ℕ) (v : Value) → IsNode l → 1 ≤ length p → length p ≤ prefix_most
    → touch_put E (prefix s o p l) h d k v ≡ one_cut s p h (touch_put E l s (d + length p) k v) (shared p (drop d (E.walked k)))
cut_touch E s o p l h d k v I some most =
    let q = shared p (drop d (E.walked k)) in
    let deep = touch_put E l s (d + length p) k v in
    let c = node_chain l I in
    ap (λ (z : List ℕ). chain_cut s p h deep z (chain_long l) q) c.0 ∙ ap (λ (z : ℕ). chain_cut s p h deep [] z q) c.1 ∙ cut_lists s p h deep q some most

module _ (s g c o : ℕ) (q : List ℕ) (l : Lay) (I : IsNode l) where
  -- "If it is a Prefix, the byte joins it"
  pub lone_touch : (h : ℕ) → touch_lone (held h) s g (prefix c o q l) ≡ touch (c ∷ holder h) (g ∷ s ∷ [])
  lone_touch h = rw (node_chain l I).0 refl

  -- "(and a Prefix above joins as well, the lower body then freed)"
  pub join_touch : (p n : ℕ) (u : Above) → 1 ≤ length q → n + 1 + length q ≤ prefix_most → touch_lone (under p n u) s g (prefix c o q l) ≡ touch (p ∷ c ∷ []) (g ∷ s ∷ c ∷ [])
  join_touch p n u some most =
      let e : length q + 0 ≡ length q = omega arith in
      rw ((node_chain l I).0, (node_chain l I).1, e, lt-ltb (chain (n + suc (length q))) (suc (chain (length q))) (omega arith)) refl
