-- The lists of freed slots, a slot and a list at a time. Assumes nothing.
use Prim.Native.Nat.{ℕ, suc, ◌+◌, ◌<◌, ◌≤◌}
use mathlib.Core.Path.{◌≡◌, refl, sym, ap, ◌∙◌}
use mathlib.Core.List.{List, [], ◌∷◌, ◌++◌}
use native.Mathlib.Omega.{arith}
use lib.ListN.{length}
use Rattle.std.specs.Prelude.{Option, Some, None}
use Rattle.layout.specs.Number.{le}
use Rattle.layout.specs.Place.{at_head}
use Rattle.layout.specs.Kind.{number_of, crossing_kind}
use Rattle.layout.specs.declared.kind.Kind.{Kind as Named}
use Rattle.layout.specs.declared.kind.Kind.TheVariants as kind
use Rattle.layout.specs.Entry.{place_of, high_of}
use Rattle.model.specs.Item.{Item, body, on_slot, sum}
use Rattle.model.specs.Frame.{Chain, list_items, freed}
use Rattle.model.proofs.ItemLaws.{in_under, sum_app, sum_cons}
use Rattle.model.proofs.UniqueLaws.{chain_unique}
use Rattle.claims.specs.Units.{Each}
use Rattle.census.specs.declared.Sums.{Sums}
use Rattle.census.specs.Told.{Sited, Tally, BodyTaken, BodyTold, Told}
use Rattle.census.specs.Freed.{ChainItems, ListOf, ListItems, ListsOf, FreedItems}
use Rattle.census.proofs.ToldLaws.{tidy_slot, tidy_part, grown_none, told_no, told_yes, told_as, told_on, told_first, body_sited}

-- ---- along the links

-- what stands on a list that is not empty
chain_first : (f : List ℕ) (kind s : ℕ) (zs : List Item) → (s ≡ 0 → ⊥) → ChainItems f kind s zs → (ys : List Item) × ChainItems f kind (high_of f s) ys × (zs ≡ body s kind (place_of f s) ∷ ys)
unfolding Chain list_items
chain_first f kind s zs n C = go C.slots C.chain C.are
  where
    go : (xs : List (ℕ × ℕ)) → Chain f s xs → list_items kind xs ≡ zs → (ys : List Item) × ChainItems f kind (high_of f s) ys × (zs ≡ body s kind (place_of f s) ∷ ys)
    go [] c e = absurd (n c)
    go (x ∷ xs) c e =
        let q : x.0 ≡ s = sym c.0 in
        let p : x.1 ≡ place_of f s = sym c.1 ∙ ap (λ (v : ℕ). place_of f v) q in
        (list_items kind xs, record { slots = xs; chain = rw q at c.2; are = refl }, sym e ∙ rw (q, p))

chain_link : (f : List ℕ) (kind s o n : ℕ) → o ≡ place_of f s → n ≡ high_of f s → (ys : List Item) → ChainItems f kind n ys → ChainItems f kind s (body s kind o ∷ ys)
unfolding Chain list_items
chain_link f kind s o n e h ys C = record { slots = (s, o) ∷ C.slots; chain = (refl, sym e, rw h at C.chain); are = ap (λ (l : List Item). body s kind o ∷ l) C.are }

module _ {f : List ℕ} {d u b kind s : ℕ} {m : List ℕ} {t : Sums} where
  pub chain_end : s ≡ 0 → Tally u 0 t → Told (ChainItems f kind s) (ChainItems f kind s) f d u b m t m (Some t)
  unfolding Chain list_items
  chain_end e T = told_yes (record { items = []; are = record { slots = []; chain = e; are = refl }; grown = grown_none; sited = tt; tally = T })

  module _ (some : s ≡ 0 → ⊥) where
    pub chain_past : {m' : List ℕ} → u < s → Told (ChainItems f kind s) (ChainItems f kind s) f d u b m t m' None
    chain_past h =
        told_no
        (λ is B zs C Y.
        let w = chain_first f kind s zs some C in
        let Z = rw w.2 at Y in omega (arith, (tidy_slot s kind (place_of f s) (w.0 ++ is) Z).1))

    module _ {o : ℕ} (at : o ≡ place_of f s) {m' : List ℕ} where
      pub chain_bad : {m'' : List ℕ} {r : Option Sums} → r ≡ None → BodyTold d u b kind o m t m' r → Told (ChainItems f kind s) (ChainItems f kind s) f d u b m t m'' None
      chain_bad n T =
          told_no
          (λ is B zs C Y.
          let w = chain_first f kind s zs some C in
          let ys = w.0 in
          let o' = place_of f s in
          T.fails n is B s
          (rw at (tidy_part ys (body s kind o' ∷ is) (λ v. omega (arith, sum_app v zs is, ap (sum v) w.2, sum_cons v (body s kind o') ys, sum_app v ys (body s kind o' ∷ is), sum_cons v (body s kind o') is)) Y)))

      pub chain_more : {n : ℕ} {t' : Sums} {m'' : List ℕ} {r : Option Sums} → BodyTaken d u b kind o m t m' t' → s ≤ u → 1 ≤ kind → kind ≤ 8 → n ≡ high_of f s
          → Told (ChainItems f kind n) (ChainItems f kind n) f d u b m' t' m'' r → Told (ChainItems f kind s) (ChainItems f kind s) f d u b m t m'' r
      chain_more {n} T l h k e R =
          told_on (body s kind o ∷ []) (T.grown s) (body_sited s kind o (omega arith) l (sym at) h k T.low T.high, tt)
          (λ ys C. chain_link f kind s o n at e ys C)
          (λ zs is Y C. let w = chain_first f kind s zs some C in (w.0, rw e w.1, rw at w.2)) R

-- ---- one list

pub third_kind : (k : Named) → number_of k ≡ crossing_kind → k ≡ kind.Crossing
third_kind kind.Leaf e = absurd (omega arith)
third_kind kind.Prefix e = absurd (omega arith)
third_kind kind.Crossing e = refl
third_kind kind.Node4 e = absurd (omega arith)
third_kind kind.Node16 e = absurd (omega arith)
third_kind kind.Node48 e = absurd (omega arith)
third_kind kind.Node256 e = absurd (omega arith)
third_kind kind.EmptyRoot e = absurd (omega arith)

module _ {f : List ℕ} {d u b kind : ℕ} {m : List ℕ} {t : Sums} {m' : List ℕ} where
  pub list_some : {head : ℕ} {r : Option Sums} → (kind ≡ crossing_kind → ⊥) → head ≡ le 2 f (at_head kind) → Told (ChainItems f kind head) (ChainItems f kind head) f d u b m t m' r
      → Told (ListItems f kind) (ListItems f kind) f d u b m t m' r
  list_some n e T =
      told_as (λ xs C. record { slots = C.slots; list = record { chain = rw e at C.chain; third = λ q. absurd (n q) }; are = C.are })
      (λ xs L. record { slots = L.slots; chain = rw e L.list.chain; are = L.are }) T

  pub list_third : {head : ℕ} → kind ≡ crossing_kind → head ≡ le 2 f (at_head kind) → (head ≡ 0 → ⊥) → Told (ListItems f kind) (ListItems f kind) f d u b m t m' None
  unfolding Chain
  list_third q e n =
      told_no (λ is B xs L Y. n (e ∙ (let z = L.list.third q in let c = L.list.chain in rw z at c)))

pub list_none : {f : List ℕ} {d u b kind : ℕ} {m : List ℕ} {t : Sums} {head : ℕ} → head ≡ le 2 f (at_head kind) → head ≡ 0 → Tally u 0 t → Told (ListItems f kind) (ListItems f kind) f d u b m t m (Some t)
unfolding Chain list_items
list_none e z T =
    told_yes (record { items = []; are = record { slots = []; list = record { chain = sym e ∙ z; third = λ q. refl }; are = refl }; grown = grown_none; sited = tt; tally = T })

-- ---- all lists

-- no slot 0 among bodies that are sited
sited_zero : (f : List ℕ) (d u b k : ℕ) (l : List (ℕ × ℕ)) → Each (Sited f d u b) (list_items k l) → sum (on_slot 0) (list_items k l) ≡ 0
unfolding sum on_slot list_items
sited_zero f d u b k [] S = refl
sited_zero f d u b k (x ∷ l) S = let h = S.0.slotted in omega (arith, in_under x.0 1 0 (omega arith), sited_zero f d u b k l S.1)

-- the first list and the others
lists_split : (f : List ℕ) (kind : ℕ) (zs : List Item) → kind < 9 → FreedItems f kind zs
    → (l : List (ℕ × ℕ)) × ListOf f kind l × (ys : List Item) × FreedItems f (suc kind) ys × (zs ≡ list_items kind l ++ ys)
unfolding ListsOf freed
lists_split f kind zs h F = go F.lists F.eight F.are F.items
  where
    go : (ls : List (List (ℕ × ℕ))) → length ls + kind ≡ 9 → ListsOf f kind ls → freed kind ls ≡ zs
        → (l : List (ℕ × ℕ)) × ListOf f kind l × (ys : List Item) × FreedItems f (suc kind) ys × (zs ≡ list_items kind l ++ ys)
    go [] e L q = absurd (omega arith)
    go (l ∷ ls) e L q = (l, L.0, freed (suc kind) ls, record { lists = ls; eight = omega arith; are = L.1; items = refl }, sym q)

lists_join : (f : List ℕ) (kind next : ℕ) (xs ys : List Item) → next ≡ suc kind → ListItems f kind xs → FreedItems f next ys → FreedItems f kind (xs ++ ys)
unfolding ListsOf freed
lists_join f kind next xs ys z L F =
    let g = F.eight in
    record { lists = L.slots ∷ F.lists; eight = omega arith; are = (L.list, rw z at F.are); items = rw L.are (ap (λ (v : List Item). xs ++ v) (rw z at F.items)) }

module _ {f : List ℕ} {d u b kind : ℕ} {m : List ℕ} {t : Sums} {m' : List ℕ} {r : Option Sums} (T : Told (ListItems f kind) (ListItems f kind) f d u b m t m' r) where
  pub lists_bad : {m'' : List ℕ} → kind < 9 → r ≡ None → Told (FreedItems f kind) (FreedItems f kind) f d u b m t m'' None
  lists_bad h n =
      told_first n (λ zs is Y F. let w = lists_split f kind zs h F in (list_items kind w.0, record { slots = w.0; list = w.1; are = refl }, w.2, w.4)) T

  pub lists_more : {t' : Sums} {next : ℕ} {m'' : List ℕ} {r' : Option Sums} → r ≡ Some t' → kind < 9 → next ≡ kind + 1
      → Told (FreedItems f next) (FreedItems f next) f d u b m' t' m'' r' → Told (FreedItems f kind) (FreedItems f kind) f d u b m t m'' r'
  lists_more {t'} {next} g h e R =
      let K = T.holds t' g in
      let xs = K.items in
      let L = K.are in
      let l = L.slots in
      let z : next ≡ suc kind = omega arith in
      let own = sited_zero f d u b kind l (rw L.are K.sited) in
      told_on xs K.grown K.sited (λ ys F. lists_join f kind next xs ys z L F)
      (λ zs is Y F.
      let w = lists_split f kind zs h F in
      let y = w.2 in
      let clear : sum (on_slot 0) (list_items kind w.0) ≡ 0 = omega (arith, Y.zeroth, sum_app (on_slot 0) zs is, ap (sum (on_slot 0)) w.4, sum_app (on_slot 0) (list_items kind w.0) y) in
      let same = chain_unique f kind (le 2 f (at_head kind)) (le 2 f (at_head kind)) w.0 l clear own refl w.1.chain L.list.chain in
      (y, rw z w.3, w.4 ∙ ap (λ (v : List Item). v ++ y) (ap (list_items kind) same ∙ L.are)))
      R

pub lists_end : {f : List ℕ} {d u b kind : ℕ} {m : List ℕ} {t : Sums} → kind ≡ 9 → Tally u 0 t → Told (FreedItems f kind) (FreedItems f kind) f d u b m t m (Some t)
unfolding ListsOf freed
lists_end e T =
    told_yes (record { items = []; are = record { lists = []; eight = omega arith; are = tt; items = refl }; grown = grown_none; sited = tt; tally = T })
