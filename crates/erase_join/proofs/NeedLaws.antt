-- What an erase takes where a Node4 falls to one child. Assumes nothing.
use Prim.Native.Nat.{ℕ, suc, ◌+◌, ◌-◌, ◌<◌}
use mathlib.Core.Path.{◌≡◌, refl, sym, subst, ◌∙◌}
use mathlib.Core.List.{List, [], ◌∷◌, ◌++◌}
use native.Mathlib.Omega.{arith}
use native.Mathlib.Decide.{ℕ_discrete}
use lib.ListN.{length, length-append}
use Rattle.layout.specs.Kind.{leaf_kind, node4_kind}
use Rattle.model.specs.Edition.{Edition}
use Rattle.model.specs.Tree.{Art, chain, prefixes, as_prefix, extent_of}
use Rattle.model.specs.State.{State, erase_change}
use Rattle.model.specs.Frame.{Lay, art, Stands}
use Rattle.model.specs.Frame.Lay.{leaf, prefix, node}
use Rattle.model.proofs.ChainLaws.{inner_atop, as_some}
use Rattle.model.proofs.OneBody.{node_inner}
use Rattle.between.specs.Hole.{Step, under, plug}
use Rattle.between.specs.Lead.{NotLeaf}
use Rattle.descent.specs.declared.spot.Body.{Body}
use Rattle.descent.specs.Spot.{Topped}
use Rattle.chain.specs.Row.{bodies_of, bytes_of, tip_of}
use Rattle.chain.specs.Shift.{lacks}
use Rattle.erase_join.specs.declared.lone.Lone.{Lone}
use Rattle.erase_join.specs.Lone.{IsLeaf, Full, Site, pair_of}
use Rattle.erase_join.proofs.SiteLaws.{leaves}
use Rattle.erase_join.proofs.JoinLaws.{over_leaves}
use Rattle.erase_join.proofs.RunLaws.{rows, run_some}
use Rattle.erase_join.proofs.UpLaws.{child_run, child_many, lone_change, run_change}
use Rattle.erase_join.proofs.OverLaws.{opened_above, over_change, leaf_change}

-- the erase of k leaves a tree and takes these bodies
pub record Taking (E : Edition) (k : List ℕ) (a : Art) (takes : List ℕ) : Type 0 where
  pub left : Art
  pub frees : List ℕ
  pub dead : ℕ
  pub is : erase_change E a k ≡ leaves left takes frees dead

module _ {E : Edition} {f k : List ℕ} {s : State} (w : Stands E f s) {l : Lone} where
  -- a Leaf is left, and frees what stands above
  pub leaf_taking : {xs : List Step} {b : Body} {first at : ℕ} → Topped xs b first at → (u : Lay) → IsLeaf u → (P : Site E k w.root xs l u) → Taking E k (art (plug xs (pair_of P))) []
  leaf_taking T (prefix n o p t) i P = absurd i
  leaf_taking T (node n o kind ks) i P = absurd i
  leaf_taking {xs} {b} {first} T (leaf n o e k' v') i P = elim (ℕ_discrete b.slot 0) [
    | yes z ↦ record { left = art (plug xs (leaf n o e k' v')); frees = node4_kind ∷ leaf_kind ∷ []; dead = extent_of k P.value; is = lone_change w P (T.without z) (leaf n o e k' v') [] (node4_kind ∷ leaf_kind ∷ []) refl }
    | no z ↦
        let R = T.run (omega arith) in
        let u = leaf n o e k' v' in
        subst (λ (zs : List Step). (Q : Site E k w.root zs l (leaf n o e k' v')) → Taking E k (art (plug zs (pair_of Q))) []) (sym R.is) (λ Q. record {
          left = art (plug R.up u);
          frees = prefixes (length (rows R.run)) ++ node4_kind ∷ leaf_kind ∷ [];
          dead = extent_of k Q.value;
          is = leaf_change w R.run R.up R.only R.free (run_some R.run first R.only R.top) Q refl;
        }) P
  ]

  -- no Prefix above has room
  pub full_taking : {xs : List Step} → Full xs → (u : Lay) → NotLeaf u → (P : Site E k w.root xs l u) → Taking E k (art (plug xs (pair_of P))) (prefixes (lacks u))
  full_taking {xs} h u i P =
      let R = child_run w P i in
      let lay = prefix 0 0 (l.byte ∷ bytes_of u) (tip_of u) in
      record {
        left = art (plug xs lay);
        frees = node4_kind ∷ leaf_kind ∷ [];
        dead = extent_of k P.value;
        is = run_change w u lay i (sym (inner_atop (l.byte ∷ bytes_of u) (art (tip_of u)) (node_inner (tip_of u) R.1))) xs h P;
      }

  -- the one just above has
  pub roomy_taking : (a : Body) (p : List ℕ) (xs : List Step) → length p < 112 → (u : Lay) → NotLeaf u → (P : Site E k w.root (under a.slot a.place p ∷ xs) l u) → Taking E k (art (plug (under a.slot a.place p ∷ xs) (pair_of P))) []
  roomy_taking a p xs room u i P =
      let R = child_run w P i in
      let at = (opened_above w a p xs P).1 in
      let q = (p ++ l.byte ∷ []) ++ bytes_of u in
      let lay = prefix 0 0 q (tip_of u) in
      let c = chain (length q) in
      let n = suc (length (bodies_of u)) - c in
      let lq : length q ≡ length p + 1 + length (bytes_of u) = omega (arith, length-append (p ++ l.byte ∷ []) (bytes_of u), length-append p (l.byte ∷ [])) in
      let is : art lay ≡ as_prefix q (art (tip_of u)) = sym (inner_atop q (art (tip_of u)) (node_inner (tip_of u) R.1)) ∙ sym (as_some q (art (tip_of u)) (omega arith)) in
      record {
        left = art (plug xs lay);
        frees = prefixes n ++ node4_kind ∷ leaf_kind ∷ [];
        dead = extent_of k P.value;
        is = over_change w a p xs P lay is (prefixes n ++ node4_kind ∷ leaf_kind ∷ []) (over_leaves l u lay (extent_of k P.value) R.0 R.1 p n at.some room is (child_many w P) (omega (arith, child_many w P, at.some)));
      }
