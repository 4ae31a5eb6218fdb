-- The root's items: an EmptyRoot or a tree, by the kind of its slot. Assumes nothing.
use Prim.Native.Nat.{ℕ, ◌≤◌}
use mathlib.Core.Path.{◌≡◌, refl, sym, ap, ◌∙◌}
use mathlib.Core.List.{List, [], ◌∷◌, ◌++◌}
use native.Mathlib.Omega.{arith}
use Rattle.std.specs.Prelude.{Option, Some, None}
use Rattle.layout.specs.Entry.{place_of, high_of}
use Rattle.model.specs.Edition.{Edition}
use Rattle.model.specs.Item.{Item, body}
use Rattle.model.specs.Body.{Zero}
use Rattle.model.specs.Frame.{Lay, items, Root, bare, tree, slot_of, Entry, Tree, RootAt, root_slot, root_items}
use Rattle.model.proofs.UniqueLaws.{entry_unique, tree_unique}
use Rattle.census.specs.declared.Sums.{Sums}
use Rattle.census.specs.Told.{Told, BodyTaken}
use Rattle.census.proofs.ToldLaws.{tidy_slot, told_no, told_yes, told_as, body_sited, tally_body}
use Rattle.audit.specs.Walk.{TreeItems}
use Rattle.audit.specs.Audit.{RootItems, EmptyItems, EmptyTold}
use Rattle.audit.proofs.TreeLaws.{tree_first}

-- ---- an EmptyRoot

module _ {f : List ℕ} {o d u b : ℕ} {m : List ℕ} {t : Sums} {m' : List ℕ} where
  pub empty_good : {t' : Sums} → BodyTaken d u b 8 o m t m' t' → Zero f o 8 → EmptyTold f o d u b m t m' (Some t')
  empty_good T Z =
      record {
        of = λ s E a z. told_yes (record {
          items = body s 8 o ∷ [];
          are = record { zeros = Z; are = refl };
          grown = T.grown s;
          sited = (body_sited s 8 o a z E.place_is (omega arith) (omega arith) T.low T.high, tt);
          tally = tally_body T.tally;
        });
      }

-- ---- the root

-- a tree's root is no EmptyRoot
tree_kind : (Ed : Edition) (f : List ℕ) (s : ℕ) (l : Lay) → Tree Ed f [] l → slot_of l ≡ s → high_of f s ≡ 8 → ⊥
tree_kind Ed f s l T q e =
    let W : TreeItems Ed f [] s (items l) = record { lay = l; tree = T; slot = q; are = refl } in
    let h = (tree_first W).2.last in omega arith

bare_kind : (f : List ℕ) (s s' o : ℕ) → s' ≡ s → Entry f s' 8 o → (high_of f s ≡ 8) × (place_of f s ≡ o)
bare_kind f s s' o q E = let E' : Entry f s 8 o = rw q at E in (E'.kind_is, E'.place_is)

root_first : {Ed : Edition} (f : List ℕ) (s : ℕ) (xs : List Item) → RootItems Ed f s xs → (k : ℕ) × (o : ℕ) × (ys : List Item) × (xs ≡ body s k o ∷ ys)
unfolding RootAt root_items
root_first {Ed} f s xs W = go W.root W.at W.slot W.are
  where
    go : (r : Root) → RootAt Ed f r → root_slot r ≡ s → root_items r ≡ xs → (k : ℕ) × (o : ℕ) × (ys : List Item) × (xs ≡ body s k o ∷ ys)
    go (bare s' o) R q e = (8, o, [], sym e ∙ rw q)
    go (tree l) R q e =
        let T : TreeItems Ed f [] s xs = record { lay = l; tree = R; slot = q; are = e } in
        let w = tree_first T in (high_of f s, place_of f s, w.0, w.1)

root_as_empty : {Ed : Edition} (f : List ℕ) (s o : ℕ) (xs : List Item) → high_of f s ≡ 8 → place_of f s ≡ o → RootItems Ed f s xs → EmptyItems f s o xs
unfolding RootAt root_items
root_as_empty {Ed} f s o xs h p W = go W.root W.at W.slot W.are
  where
    go : (r : Root) → RootAt Ed f r → root_slot r ≡ s → root_items r ≡ xs → EmptyItems f s o xs
    go (bare s' o') R q e =
        let w = bare_kind f s s' o' q R.0 in
        let z : o' ≡ o = sym w.1 ∙ p in record { zeros = rw z at R.1; are = sym (rw (q, z) at (sym e)) }
    go (tree l) R q e = absurd (tree_kind Ed f s l R q h)

root_as_tree : {Ed : Edition} (f : List ℕ) (s : ℕ) (xs : List Item) → (high_of f s ≡ 8 → ⊥) → RootItems Ed f s xs → TreeItems Ed f [] s xs
unfolding RootAt root_items
root_as_tree {Ed} f s xs n W = go W.root W.at W.slot W.are
  where
    go : (r : Root) → RootAt Ed f r → root_slot r ≡ s → root_items r ≡ xs → TreeItems Ed f [] s xs
    go (bare s' o) R q e = absurd (n (bare_kind f s s' o q R.0).0)
    go (tree l) R q e = record { lay = l; tree = R; slot = q; are = e }

empty_as_root : {Ed : Edition} (f : List ℕ) (s o : ℕ) (xs : List Item) → Entry f s 8 o → EmptyItems f s o xs → RootItems Ed f s xs
unfolding RootAt root_items
empty_as_root f s o xs E X = record { root = bare s o; at = (E, X.zeros); slot = refl; are = X.are }

tree_as_root : {Ed : Edition} (f : List ℕ) (s : ℕ) (xs : List Item) → TreeItems Ed f [] s xs → RootItems Ed f s xs
unfolding RootAt root_items
tree_as_root f s xs T = record { root = tree T.lay; at = T.tree; slot = T.slot; are = T.are }

module _ {Ed : Edition} {f : List ℕ} {s d u b : ℕ} {m : List ℕ} {t : Sums} {m' : List ℕ} where
  pub root_slot_lem : (1 ≤ s → s ≤ u → ⊥) → Told (RootItems Ed f s) (RootItems Ed f s) f d u b m t m' None
  root_slot_lem h =
      told_no
      (λ is B xs W Y.
      let w = root_first f s xs W in
      let i = tidy_slot s w.0 w.1 (w.2 ++ is) (rw w.3 at Y) in h i.0 i.1)

  pub root_empty : {k o : ℕ} {r : Option Sums} → 1 ≤ s → s ≤ u → k ≡ high_of f s → o ≡ place_of f s → k ≡ 8 → EmptyTold f o d u b m t m' r → Told (RootItems Ed f s) (RootItems Ed f s) f d u b m t m' r
  root_empty {k} {o} a z ek eo e T =
      let E : Entry f s 8 o = record { kind_is = sym ek ∙ e; place_is = sym eo } in
      told_as (λ xs X. empty_as_root f s o xs E X) (λ xs W. root_as_empty f s o xs (sym ek ∙ e) (sym eo) W) (T.of s E a z)

  pub root_tree : {k : ℕ} {r : Option Sums} → k ≡ high_of f s → (k ≡ 8 → ⊥) → Told (TreeItems Ed f [] s) (TreeItems Ed f [] s) f d u b m t m' r → Told (RootItems Ed f s) (RootItems Ed f s) f d u b m t m' r
  root_tree ek n T = told_as (λ xs X. tree_as_root f s xs X) (λ xs W. root_as_tree f s xs (λ e. n (ek ∙ e)) W) T

-- a slot has one root
pub root_unique : {Ed : Edition} (f : List ℕ) (s : ℕ) (xs ys : List Item) → RootItems Ed f s xs → RootItems Ed f s ys → xs ≡ ys
unfolding RootAt root_items
root_unique {Ed} f s xs ys A B = sym A.are ∙ go A.root B.root A.at B.at A.slot B.slot ∙ B.are
  where
    go : (r q : Root) → RootAt Ed f r → RootAt Ed f q → root_slot r ≡ s → root_slot q ≡ s → root_items r ≡ root_items q
    go (bare s' o) (bare s'' o') R Q a b =
        let h = a ∙ sym b in
        let e = (entry_unique f s' s'' 8 8 o o' h R.0 Q.0).1 in rw (h, e)
    go (bare s' o) (tree l) R Q a b = absurd (tree_kind Ed f s l Q b (bare_kind f s s' o a R.0).0)
    go (tree l) (bare s' o) R Q a b = absurd (tree_kind Ed f s l R a (bare_kind f s s' o b Q.0).0)
    go (tree l) (tree l') R Q a b = ap items (tree_unique Ed f [] [] l l' R Q (a ∙ sym b))
