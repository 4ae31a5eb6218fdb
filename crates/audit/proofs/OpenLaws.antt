-- What was counted first and what is left: from what is told of the rest, what is told of the whole; parts in a row. Assumes nothing.
use Prim.Native.Nat.{ℕ}
use mathlib.Core.Path.{◌≡◌, refl, sym, ap, ◌∙◌}
use mathlib.Core.List.{List, [], ◌++◌, append_assoc}
use native.Mathlib.Omega.{arith}
use Rattle.std.specs.Prelude.{Option, Some}
use Rattle.model.specs.Edition.{Edition}
use Rattle.model.specs.Item.{Item, sum}
use Rattle.model.specs.Frame.{items}
use Rattle.model.proofs.ItemLaws.{sum_app}
use Rattle.model.proofs.UniqueLaws.{tree_unique}
use Rattle.census.specs.declared.Sums.{Sums}
use Rattle.census.specs.Told.{Tidy, Sited, Told}
use Rattle.census.proofs.ToldLaws.{tidy_same, tidy_part, each_app, grown_none, grown_on, told_no, told_on}
use Rattle.audit.specs.Walk.{TreeItems, Fails, Opens}

module _ {R W : List Item → Type 0} {f : List ℕ} {d u b : ℕ} {m : List ℕ} {t : Sums} {m' : List ℕ} {t' : Sums} (O : Opens R W f d u b m t m' t') where
  pub opens_told : {m'' : List ℕ} {r : Option Sums} → Told R R f d u b m' t' m'' r → Told W W f d u b m t m'' r
  opens_told T = told_on O.items O.grown O.sited O.join O.split T

  pub opens_fails : Fails R d u b m' t' → Fails W d u b m t
  opens_fails h = (opens_told (told_no {m' = m'} h)).fails refl

  -- and then what is left of the rest
  pub opens_on : {S : List Item → Type 0} {m'' : List ℕ} {t'' : Sums} → Opens S R f d u b m' t' m'' t'' → Opens S W f d u b m t m'' t''
  opens_on P =
      let xs = O.items in
      let ys = P.items in
      record {
        items = xs ++ ys;
        grown = grown_on xs ys O.grown P.grown;
        sited = each_app (Sited f d u b) xs ys O.sited P.sited;
        join = λ zs s. rw (append_assoc xs ys zs) (O.join (ys ++ zs) (P.join zs s));
        split = λ zs is Y w.
            let p = O.split zs is Y w in
            let qs = p.0 in
            let q = P.split qs (xs ++ is) (tidy_same (λ v. omega (arith, sum_app v zs is, ap (sum v) p.2, sum_app v xs qs, sum_app v qs (xs ++ is), sum_app v xs is)) Y) p.1 in
            (q.0, q.1, p.2 ∙ ap (λ (l : List Item). xs ++ l) q.2 ∙ sym (append_assoc xs ys q.0));
      }

-- the same items in other words
pub opens_as : {R W : List Item → Type 0} {f : List ℕ} {d u b : ℕ} {m : List ℕ} {t : Sums} → ((xs : List Item) → R xs → W xs) → ((xs : List Item) → W xs → R xs) → Opens R W f d u b m t m t
opens_as h p = record { items = []; grown = grown_none; sited = tt; join = h; split = λ zs is Y w. (zs, p zs w, refl) }

-- ---- one part and then another

pub record Row (H K : List Item → Type 0) (xs : List Item) : Type 0 where
  pub first : List Item
  pub rest : List Item
  pub head : H first
  pub tail : K rest
  pub are : xs ≡ first ++ rest

pub row_opens : {R W K : List Item → Type 0} {f : List ℕ} {d u b : ℕ} {m : List ℕ} {t : Sums} {m' : List ℕ} {t' : Sums} → Opens R W f d u b m t m' t' → Opens (Row R K) (Row W K) f d u b m t m' t'
row_opens {R} {W} {K} {f} {d} {u} {b} O =
    record {
      items = O.items;
      grown = O.grown;
      sited = O.sited;
      join = λ ys r.
          record { first = O.items ++ r.first; rest = r.rest; head = O.join r.first r.head; tail = r.tail; are = ap (λ (l : List Item). O.items ++ l) r.are ∙ sym (append_assoc O.items r.first r.rest) };
      split = λ zs is Y r.
          let Z : Tidy d u b (r.first ++ (r.rest ++ is)) = rw (r.are, append_assoc r.first r.rest is) at Y in
          let p = O.split r.first (r.rest ++ is) Z r.head in
          (p.0 ++ r.rest, record { first = p.0; rest = r.rest; head = p.1; tail = r.tail; are = refl }, r.are ∙ ap (λ (l : List Item). l ++ r.rest) p.2 ∙ append_assoc O.items p.0 r.rest);
    }

pub row_fails : {H K : List Item → Type 0} {d u b : ℕ} {m : List ℕ} {t : Sums} → Fails H d u b m t → Fails (Row H K) d u b m t
row_fails h is B zs r Y =
    h is B r.first r.head
    (tidy_part r.rest (r.first ++ is) (λ v. omega (arith, sum_app v zs is, ap (sum v) r.are, sum_app v r.first r.rest, sum_app v r.rest (r.first ++ is), sum_app v r.first is)) Y)

pub row_move : {A B C : List Item → Type 0} (xs : List Item) → Row A (Row B C) xs → Row (Row A B) C xs
row_move xs r =
    let s = r.tail in
    record {
      first = r.first ++ s.first;
      rest = s.rest;
      head = record { first = r.first; rest = s.first; head = r.head; tail = s.head; are = refl };
      tail = s.tail;
      are = r.are ∙ ap (λ (l : List Item). r.first ++ l) s.are ∙ sym (append_assoc r.first s.first s.rest);
    }

pub row_back : {A B C : List Item → Type 0} (xs : List Item) → Row (Row A B) C xs → Row A (Row B C) xs
row_back xs r =
    let s = r.head in
    record {
      first = s.first;
      rest = s.rest ++ r.rest;
      head = s.head;
      tail = record { first = s.rest; rest = r.rest; head = s.tail; tail = r.tail; are = refl };
      are = r.are ∙ ap (λ (l : List Item). l ++ r.rest) s.are ∙ append_assoc s.first s.rest r.rest;
    }

-- a tree that was counted
pub tree_opens : {Ed : Edition} {K : List Item → Type 0} {f path : List ℕ} {s d u b : ℕ} {m : List ℕ} {t : Sums} {m' : List ℕ} {r : Option Sums} {t' : Sums} → Told (TreeItems Ed f path s) (TreeItems Ed f path s) f d u b m t m' r → r ≡ Some t'
    → Opens K (Row (TreeItems Ed f path s) K) f d u b m t m' t'
tree_opens {Ed} {K} {f} {path} {t' = t'} T g =
    let k = T.holds t' g in
    record {
      items = k.items;
      grown = k.grown;
      sited = k.sited;
      join = λ ys r. record { first = k.items; rest = ys; head = k.are; tail = r; are = refl };
      split = λ zs is Y r.
          let h = r.head in
          let j = k.are in
          let same = tree_unique Ed f path path h.lay j.lay h.tree j.tree (h.slot ∙ sym j.slot) in
          let x : r.first ≡ k.items = sym h.are ∙ ap items same ∙ j.are in
          (r.rest, r.tail, r.are ∙ ap (λ (l : List Item). l ++ r.rest) x);
    }
