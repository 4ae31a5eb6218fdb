-- The slots on the path of a key, one body after the other: a Prefix that is matched to its end, one that is not, an inner node with the byte or
-- without it. Assumes nothing.
use Prim.Native.Nat.{ℕ, suc, ◌+◌, ◌/◌, ◌<◌, ◌≤◌}
use mathlib.Core.Path.{◌≡◌, refl, sym, ap, ◌∙◌}
use mathlib.Core.List.{List, [], ◌++◌, append-nil}
use mathlib.Core.Bool.{false}
use native.Mathlib.Omega.{arith}
use lib.ListN.{length, drop, get_or, length-append}
use lib.Seq.{drop-drop}
use lib.Dec.{eqb}
use borrow.Author.Tests.{eq-eqb, ne_eqb}
use Rattle.layout.specs.Place.{prefix_most}
use Rattle.model.specs.Strings.{pick, shared}
use Rattle.model.specs.Edition.{Edition}
use Rattle.model.specs.Tree.{Art, chain}
use Rattle.model.specs.Tree.Art.{leaf, prefix, node}
use Rattle.model.specs.Visits.{visits, visits_kids}
use Rattle.model.specs.Frame.{Lay, LayKids, atop, art, art_kids}
use Rattle.model.specs.Frame.LayKids.{nil, kid}
use Rattle.model.specs.Touch.{has_byte}
use Rattle.model.proofs.StringLaws.{eqb_cases}
use Rattle.model.proofs.ChainLaws.{Hung, shared_on, shared_off}
use Rattle.between.specs.Hole.{app}
use Rattle.between.proofs.KidsLaws.{not_byte}
use Rattle.between.proofs.LeadLaws.{other_byte}

-- ---- a chain of Prefixes, seen from its first

chain_one : (n : ℕ) → 1 ≤ n → n ≤ prefix_most → chain n ≡ 1
chain_one n h g = omega arith

chain_full : (n : ℕ) → chain (prefix_most + n) ≡ suc (chain n)
chain_full n = omega arith

part_one : (q : ℕ) → q < prefix_most → q / prefix_most ≡ 0
part_one q h = omega arith

part_full : (q : ℕ) → (prefix_most + q) / prefix_most ≡ suc (q / prefix_most)
part_full q = omega arith

full_past : (x n v v' : ℕ) → v' ≡ v → pick (eqb (prefix_most + x) (prefix_most + n)) (chain (prefix_most + n) + v') (suc ((prefix_most + x) / prefix_most)) ≡ suc (pick (eqb x n) (chain n + v) (suc (x / prefix_most)))
full_past x n v v' e = eqb_cases x n
    (λ t y. rw (t, eq-eqb (prefix_most + x) (prefix_most + n) (omega arith), chain_full n) (omega arith))
    (λ t y. rw (t, ne_eqb (prefix_most + x) (prefix_most + n) (λ z. y (omega arith)), part_full x) refl)

module _ (E : Edition) (p : List ℕ) (d : ℕ) (k : List ℕ) (some : 1 ≤ length p) (most : length p ≤ prefix_most) where
  -- matched to its end
  pub count_past : (a : Art) → Hung p a → shared p (drop d (E.walked k)) ≡ length p → visits E (atop p a) d k ≡ suc (visits E a (d + length p) k)
  count_past (leaf k' v') H h = absurd H
  count_past (node kind ks) H h = rw (eq-eqb (shared p (drop d (E.walked k))) (length p) h, chain_one (length p) some most) (omega arith)
  count_past (prefix q a) H h =
      let w = E.walked k in
      let x = shared q (drop (d + length p) w) in
      let z : shared (p ++ q) (drop d w) ≡ prefix_most + x = shared_on p q (drop d w) h ∙ rw (H, drop-drop prefix_most d w) refl in
      let m : length (p ++ q) ≡ prefix_most + length q = omega (arith, length-append p q) in
      rw (z, m) (full_past x (length q) (visits E a (d + length p + length q) k) (visits E a (d + (prefix_most + length q)) k) (ap (λ (n : ℕ). visits E a n k) (omega arith)))

  parted_one : (q : List ℕ) (v : ℕ) → shared p (drop d (E.walked k)) < length p → pick (eqb (shared (p ++ q) (drop d (E.walked k))) (length (p ++ q))) v (suc (shared (p ++ q) (drop d (E.walked k)) / prefix_most)) ≡ 1
  parted_one q v h =
      let r = drop d (E.walked k) in
      let e = shared_off p q r (λ z. omega arith) in
      rw (e, ne_eqb (shared p r) (length (p ++ q)) (λ z. omega (arith, length-append p q)), part_one (shared p r) (omega arith)) refl

  -- not matched to its end
  pub count_parted : (a : Art) → shared p (drop d (E.walked k)) < length p → visits E (atop p a) d k ≡ 1
  count_parted (leaf k' v') h = rw (append-nil p) at (parted_one [] (chain (length p) + 1) h)
  count_parted (node kind ks) h = rw (append-nil p) at (parted_one [] (chain (length p) + visits E (node kind ks) (d + length p) k) h)
  count_parted (prefix q a) h = parted_one q (chain (length (p ++ q)) + visits E a (d + length (p ++ q)) k) h

-- ---- among the children of an inner node

module _ (E : Edition) (k : List ℕ) (d b : ℕ) (e : get_or (E.walked k) d 0 ≡ b) where
  pub count_child : (j : ℕ) (t : Lay) (ls rs : LayKids) → has_byte b ls ≡ false → visits_kids E (art_kids (app ls (kid b j t rs))) d k ≡ visits E (art t) (d + 1) k
  unfolding app
  count_child j t nil rs h = rw (eq-eqb b (get_or (E.walked k) d 0) (sym e)) refl
  count_child j t (kid c i y ls) rs h = rw (other_byte E k d b j e c (has_byte b ls) h) (count_child j t ls rs (not_byte b c (has_byte b ls) h).1)

  pub count_missing : (ks : LayKids) → has_byte b ks ≡ false → visits_kids E (art_kids ks) d k ≡ 0
  count_missing nil h = refl
  count_missing (kid c i y ks) h = rw (other_byte E k d b 0 e c (has_byte b ks) h) (count_missing ks (not_byte b c (has_byte b ks) h).1)
