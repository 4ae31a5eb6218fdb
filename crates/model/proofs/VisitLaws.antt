-- The path of a key has at most one slot for each walked byte, and the last one: of every lawful edition. Assumes nothing.
use Prim.Native.Nat.{ℕ, suc, ◌+◌, ◌/◌, ◌≤◌}
use native.Mathlib.Omega.{arith}
use mathlib.Core.Path.{◌≡◌, ap, sym, ◌∙◌}
use mathlib.Core.List.{List, [], ◌∷◌, ◌++◌}
use mathlib.Core.Option.{Option, none, some}
use lib.ListN.{length, drop, length-append}
use Rattle.layout.specs.Place.{prefix_most}
use Rattle.model.specs.Strings.{shared}
use Rattle.model.specs.Edition.{Edition, Legal, Lawful}
use Rattle.model.specs.Tree.{Art, Kids, chain}
use Rattle.model.specs.Tree.Art.{leaf, prefix, node}
use Rattle.model.specs.Tree.Kids.{nil, kid}
use Rattle.model.specs.Visits.{visits, visits_kids, visits_in}
use Rattle.model.proofs.StringLaws.{eqb_cases, shared_at}
use Rattle.model.proofs.Well.{Well, WellKids}
use Rattle.model.proofs.WellLaws.{Walk, walk_start, walk_rest, walk_byte, walk_skip, walk_step, walk_on, node_inside, inner_inside}
use Rattle.model.proofs.FindLaws.{AtPrefix, at_prefix}
use Rattle.model.proofs.FindLaws.AtPrefix.{along, aside}
use Rattle.model.proofs.GoodState.{TreeOk}

-- a chain has no more Prefixes than bytes, also up to the one that does not match
chain_some : (n : ℕ) → 1 ≤ n → chain n ≤ n
chain_some n h = omega arith

chain_part : (q : ℕ) → q / prefix_most ≤ q
chain_part q = omega arith

module _ {E : Edition} (L : Lawful E) where
  rest_is : {path : List ℕ} {d : ℕ} {k : List ℕ} (r r' : List ℕ) → Walk E path d k r → Walk E path d k r' → length r ≡ length r'
  rest_is r r' w w' = ap length (sym (walk_rest r w) ∙ walk_rest r' w')

  bound_prefix : (p : List ℕ) (a : Art) (path : List ℕ) (d : ℕ) (k r : List ℕ) → 1 ≤ length p → Walk E path d k r → AtPrefix E p path d k
      → ((r' : List ℕ) → Walk E (path ++ p) (d + length p) k r' → visits E a (d + length p) k ≤ length r' + 1)
      → visits E (prefix p a) d k ≤ length r + 1
  bound_prefix p a path d k r s w (along r' e w') ih =
      let m = rest_is r (p ++ r') w w' in let n = ih r' (walk_skip p r' w') in
      let c = chain_some (length p) s in rw e (omega (arith, length-append p r'))
  bound_prefix p a path d k r s w (aside x b y c t e w' f n) ih =
      let m = rest_is r (x ++ b ∷ y) w w' in
      let q : shared p (drop d (E.walked k)) ≡ length x = rw (walk_rest (x ++ b ∷ y) w', f) (shared_at x c t b y (λ z. n (sym z))) in
      rw e (rw q (let o = chain_part (length x) in omega (arith, length-append x (b ∷ y))))

  bound_kid : (c j : ℕ) (a : Art) (ks : Kids) (path : List ℕ) (d : ℕ) (k : List ℕ) (b : ℕ) (s : List ℕ) → Walk E path d k (b ∷ s)
      → (Walk E (path ++ c ∷ []) (d + 1) k s → visits E a (d + 1) k ≤ length s + 1) → visits_kids E ks d k ≤ length s + 1
      → visits_kids E (kid c j a ks) d k ≤ length s + 1
  bound_kid c j a ks path d k b s w here on = eqb_cases c b
      (λ e q. rw (walk_byte b s w, e) (here (rw q (walk_step b s w))))
      (λ e n. rw (walk_byte b s w, e) on)

  mutual
    pub visits_bound : (a : Art) (path : List ℕ) → Well E a path → (d : ℕ) (k r : List ℕ) → Walk E path d k r → visits E a d k ≤ length r + 1
    visits_bound (leaf l v) path h d k r w = omega arith
    visits_bound (prefix p a) path h d k r w =
        bound_prefix p a path d k r h.0.some w (at_prefix L p path d k r (inner_inside L a (path ++ p) h.0.inner h.1) w)
        (λ r' w'. visits_bound a (path ++ p) h.1 (d + length p) k r' w')
    visits_bound (node kind ks) path h d k r w =
        let o = walk_on L r (node_inside L kind ks path h) w in
        let n = kids_bound ks path 0 h.1 d k o.0 o.1 o.2 in
        let m : length r ≡ suc (length o.1) = rest_is r (o.0 ∷ o.1) w o.2 in
        omega arith

    kids_bound : (ks : Kids) (path : List ℕ) (lo : ℕ) → WellKids E ks path lo → (d : ℕ) (k : List ℕ) (b : ℕ) (s : List ℕ) → Walk E path d k (b ∷ s)
        → visits_kids E ks d k ≤ length s + 1
    kids_bound nil path lo h d k b s w = omega arith
    kids_bound (kid c j a ks) path lo h d k b s w =
        bound_kid c j a ks path d k b s w (λ w'. visits_bound a (path ++ c ∷ []) h.2 (d + 1) k s w') (kids_bound ks path (suc c) h.3 d k b s w)

  pub visits_few : (t : Option Art) (k : List ℕ) → TreeOk E t → Legal E k → visits_in E t k ≤ length (E.walked k) + 1
  visits_few none k h l = omega arith
  visits_few (some a) k h l = visits_bound a [] h 0 k (E.walked k) (walk_start k l)
