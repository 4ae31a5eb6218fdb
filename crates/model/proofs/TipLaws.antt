-- A chain with its places: its bytes in one string, what stands below it, and what erase makes of it. Assumes nothing.
use Prim.Native.Nat.{ℕ, ◌+◌}
use mathlib.Core.Path.{◌≡◌, refl, sym, ap, ◌∙◌}
use mathlib.Core.List.{List, [], ◌++◌, append-nil}
use mathlib.Core.Option.{none, some}
use native.Mathlib.Omega.{arith}
use lib.ListN.{length, drop, length-append}
use lib.Seq.{drop-drop}
use borrow.Author.Tests.{eq-eqb}
use Rattle.model.specs.Strings.{shared}
use Rattle.model.specs.Edition.{Edition}
use Rattle.model.specs.Tree.{Art, close_under, erase_tree}
use Rattle.model.specs.Frame.{Lay, IsNode, atop, art, Tree}
use Rattle.model.specs.Frame.Lay.{leaf, prefix, node}
use Rattle.model.specs.Touch.{chain_long, Part, find_lay}
use Rattle.model.proofs.StringLaws.{clash, eqb_cases}
use Rattle.model.proofs.ChainLaws.{shared_on}

-- ---- the chain at the top of a tree

-- its bytes, and what stands below it
abbrev pub chain_bytes : Lay → List ℕ
chain_bytes (leaf s o e k v) = []
chain_bytes (prefix s o p l) = p ++ chain_bytes l
chain_bytes (node s o kind ks) = []

abbrev pub tip : Lay → Lay
tip (leaf s o e k v) = leaf s o e k v
tip (prefix s o p l) = tip l
tip (node s o kind ks) = node s o kind ks

pub chain_long_lem : (l : Lay) → length (chain_bytes l) ≡ chain_long l
chain_long_lem (leaf s o e k v) = refl
chain_long_lem (prefix s o p l) = omega (arith, length-append p (chain_bytes l), chain_long_lem l)
chain_long_lem (node s o kind ks) = refl

module _ (E : Edition) (f : List ℕ) where
  -- a shared beginning with what stands below it
  pub tip_art : (path : List ℕ) (s o : ℕ) (q : List ℕ) (l : Lay) → Tree E f path (prefix s o q l) → IsNode (tip l) × (art (prefix s o q l) ≡ Art.prefix (q ++ chain_bytes l) (art (tip l)))
  unfolding Tree
  tip_art path s o q (leaf s' o' e k v) T = absurd T.2
  tip_art path s o q (prefix s' o' q' l) T = let on = tip_art (path ++ q) s' o' q' l T.3 in (on.0, ap (atop q) on.1)
  tip_art path s o q (node s' o' kind ks) T = (tt, ap (λ (z : List ℕ). Art.prefix z (art (node s' o' kind ks))) (sym (append-nil q)))

-- ---- erase

module _ (E : Edition) (k : List ℕ) where
  -- the key has all its bytes where look-up finds something
  tip_find : (c : Part) (l : Lay) (d : ℕ) → find_lay E l d k ≡ some c → shared (chain_bytes l) (drop d (E.walked k)) ≡ length (chain_bytes l)
  tip_find c (leaf s o e k' v) d h = refl
  tip_find c (prefix s o q l) d h = eqb_cases (shared q (drop d (E.walked k))) (length q)
      (λ t e. shared_on q (chain_bytes l) (drop d (E.walked k)) e ∙ rw (drop-drop (length q) d (E.walked k), tip_find c l (d + length q) (rw t at h)) (sym (length-append q (chain_bytes l))))
      (λ t e. let z : none ≡ some c = rw t at h in clash (cc))
  tip_find c (node s o kind ks) d h = refl

  pub tip_erase : (f path : List ℕ) (c : Part) (s o : ℕ) (q : List ℕ) (l : Lay) (d : ℕ) → Tree E f path (prefix s o q l) → find_lay E (prefix s o q l) d k ≡ some c
      → (let p = q ++ chain_bytes l in let e = erase_tree E (art (tip l)) (d + length p) k in erase_tree E (art (prefix s o q l)) d k ≡ close_under p e.now e)
  tip_erase f path c s o q l d T h =
      let m = tip_find c (prefix s o q l) d h in
      ap (λ (x : Art). erase_tree E x d k) (tip_art E f path s o q l T).1 ∙ rw (eq-eqb (shared (q ++ chain_bytes l) (drop d (E.walked k))) (length (q ++ chain_bytes l)) m) refl
