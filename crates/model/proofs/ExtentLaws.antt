-- The extent of a key: where a found value stands, and that its extent is one of the tree's. Assumes nothing.
use Prim.Native.Nat.{ℕ, ◌+◌, ◌-◌, ◌<◌, ◌≤◌}
use mathlib.Core.Path.{◌≡◌, refl, sym, ap}
use mathlib.Core.List.{List, [], ◌∷◌}
use mathlib.Core.Option.{Option, none, some}
use native.Mathlib.Omega.{arith}
use lib.ListN.{length, drop, get_or}
use lib.Dec.{eqb}
use Rattle.layout.specs.Place.{data_start}
use Rattle.model.specs.Strings.{same, shared}
use Rattle.model.specs.Edition.{Edition, text_of}
use Rattle.model.specs.Tree.{up8}
use Rattle.model.specs.State.{State}
use Rattle.model.specs.Item.{Item, body, extent, cover, sum}
use Rattle.model.specs.Frame.{Lay, LayKids, Root, bare, tree, items, items_all, root_items, freed, Stands}
use Rattle.model.specs.Frame.Lay.{leaf, prefix, node}
use Rattle.model.specs.Frame.LayKids.{nil, kid}
use Rattle.model.specs.Touch.{Part, find_lay, find_lay_kids, find_at, extent_at, dying}
use Rattle.model.proofs.StringLaws.{clash, bool_cases, same_true}
use Rattle.model.proofs.ItemLaws.{sum_app, sum_add}

abbrev pub placed : Option Part → ℕ
placed none = 0
placed (some c) = c.at

abbrev pub sized : Option Part → ℕ
sized none = 0
sized (some c) = c.long

-- a found value stands behind its key
module _ (E : Edition) (k : List ℕ) (c : Part) where
  mutual
    find_past : (l : Lay) (d : ℕ) → find_lay E l d k ≡ some c → length k ≤ c.at
    find_past (leaf s o e k' v') d h = bool_cases (same k k')
        (λ t.
        let q : some (record { at = e + length k'; long = length (text_of v'); stamp = v'.stamp }) ≡ some c = rw t at h in
        let x : c.at ≡ e + length k' = ap (λ (z : Option Part). placed z) (sym q) in
        omega (arith, ap length (same_true k k' t)))
        (λ t. let q : none ≡ some c = rw t at h in clash (cc))
    find_past (prefix s o q l) d h = bool_cases (eqb (shared q (drop d (E.walked k))) (length q)) (λ t. find_past l (d + length q) (rw t at h)) (λ t. let z : none ≡ some c = rw t at h in clash (cc))
    find_past (node s o kind ks) d h = finds_past ks d h

    finds_past : (ks : LayKids) (d : ℕ) → find_lay_kids E ks d k ≡ some c → length k ≤ c.at
    finds_past nil d h = clash (cc)
    finds_past (kid b j l ks) d h = bool_cases (eqb b (get_or (E.walked k) d 0)) (λ t. find_past l (d + 1) (rw t at h)) (λ t. finds_past ks d (rw t at h))

  pub root_past : (r : Root) → find_at E r k ≡ some c → length k ≤ c.at
  root_past (bare s o) h = clash (cc)
  root_past (tree l) h = find_past l 0 h

-- ---- its extent

unfoldable pub body_cover : ℕ → Item → ℕ
body_cover a (body s k o) = cover a (body s k o)
body_cover a (extent e n) = 0

unfoldable pub extent_cover : ℕ → Item → ℕ
extent_cover a (body s k o) = 0
extent_cover a (extent e n) = cover a (extent e n)

pub cover_split : (a : ℕ) (i : Item) → cover a i ≡ body_cover a i + extent_cover a i
unfolding body_cover extent_cover
cover_split a (body s k o) = omega arith
cover_split a (extent e n) = omega arith

pub cover_body : (a s k o : ℕ) → body_cover a (body s k o) ≡ cover a (body s k o)
unfolding body_cover
cover_body a s k o = refl

leaf_extent_lem : (a e at n long m : ℕ) → at ≡ e + n → n + long ≡ m → sum (cover a) (extent (at - n) (up8 (n + long)) ∷ []) ≡ extent_cover a (extent e (up8 m))
unfolding sum extent_cover
leaf_extent_lem a e at n long m p q = let z : at - n ≡ e = omega arith in rw (z, q) (omega arith)

module _ (E : Edition) (k : List ℕ) (c : Part) (a : ℕ) where
  mutual
    unfolding items items_all sum

    find_extent : (l : Lay) (d : ℕ) → find_lay E l d k ≡ some c → sum (cover a) (extent_at (length k) (some c)) ≤ sum (extent_cover a) (items l)
    find_extent (leaf s o e k' v') d h = bool_cases (same k k')
        (λ t.
        let q : some (record { at = e + length k'; long = length (text_of v'); stamp = v'.stamp }) ≡ some c = rw t at h in
        let x : c.at ≡ e + length k' = ap (λ (z : Option Part). placed z) (sym q) in
        let y : c.long ≡ length (text_of v') = ap (λ (z : Option Part). sized z) (sym q) in
        let n : length k ≡ length k' = ap length (same_true k k' t) in
        omega (arith, leaf_extent_lem a e c.at (length k) c.long (length k' + length (text_of v')) (omega arith) (omega arith)))
        (λ t. let q : none ≡ some c = rw t at h in clash (cc))
    find_extent (prefix s o q l) d h = bool_cases (eqb (shared q (drop d (E.walked k))) (length q))
        (λ t. omega (arith, find_extent l (d + length q) (rw t at h)))
        (λ t. let z : none ≡ some c = rw t at h in clash (cc))
    find_extent (node s o kind ks) d h = omega (arith, finds_extent ks d h)

    finds_extent : (ks : LayKids) (d : ℕ) → find_lay_kids E ks d k ≡ some c → sum (cover a) (extent_at (length k) (some c)) ≤ sum (extent_cover a) (items_all ks)
    finds_extent nil d h = clash (cc)
    finds_extent (kid b j l ks) d h =
        let p = sum_app (extent_cover a) (items l) (items_all ks) in
        bool_cases (eqb b (get_or (E.walked k) d 0)) (λ t. omega (arith, find_extent l (d + 1) (rw t at h))) (λ t. omega (arith, finds_extent ks d (rw t at h)))

  root_extent : (r : Root) → find_at E r k ≡ some c → sum (cover a) (extent_at (length k) (some c)) ≤ sum (extent_cover a) (root_items r)
  unfolding root_items
  root_extent (bare s o) h = clash (cc)
  root_extent (tree l) h = find_extent l 0 h

pub found_beside : (E : Edition) (k : List ℕ) (a : ℕ) (r : Root) (c : Option Part) → find_at E r k ≡ c → sum (cover a) (extent_at (length k) c) ≤ sum (extent_cover a) (root_items r)
unfolding sum
found_beside E k a r none h = omega arith
found_beside E k a r (some c) h = root_extent E k c a r h

pub dying_less : (v : Item → ℕ) (n : ℕ) (xs : List Item) → sum v (dying n xs) ≤ sum v xs
unfolding sum
dying_less v n xs = bool_cases (eqb n 0) (λ t. rw t (omega arith)) (λ t. rw t (omega arith))

-- it lies from D on
pub found_low : {E : Edition} {f : List ℕ} {s : State} (w : Stands E f s) (k : List ℕ) (a : ℕ) → a < data_start w.nums.N → sum (cover a) (extent_at (length k) (find_at E w.root k)) ≡ 0
found_low {E} w k a q = omega (
  arith,
  found_beside E k a w.root (find_at E w.root k) refl,
  sum_add (body_cover a) (extent_cover a) (cover a) (cover_split a) (root_items w.root),
  w.heap.sound.low a q,
  sum_app (cover a) (root_items w.root) (freed 1 w.lists),
)
