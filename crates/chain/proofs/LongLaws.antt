-- How many bytes and how many bodies a run has: a legal walked string goes on from where it ends. Assumes nothing.
use Prim.Native.Nat.{ℕ, ◌+◌, ◌<◌, ◌≤◌}
use mathlib.Core.Path.{◌≡◌, refl}
use mathlib.Core.List.{List, [], ◌++◌}
use native.Mathlib.Omega.{arith}
use lib.ListN.{length, length-append}
use Rattle.layout.specs.Number.{Bytes}
use Rattle.model.specs.Edition.{Edition, Lawful}
use Rattle.model.specs.Frame.{Lay, Tree}
use Rattle.model.specs.Frame.Lay.{leaf, prefix, node}
use Rattle.model.specs.Touch.{chain_long}
use Rattle.model.proofs.WellLaws.{inside_short}
use Rattle.model.proofs.StandsGood.{below_inside}
use Rattle.between.specs.Lead.{NotLeaf}
use Rattle.between.proofs.TreeLaws.{prefix_parts}
use Rattle.chain.specs.Row.{bodies_of, bytes_of, run_long}
use Rattle.chain.proofs.RunLaws.{below_not_leaf, run_chained}

-- by either name
pub run_long_lem : (t : Lay) → run_long t ≡ length (bytes_of t)
run_long_lem (leaf s o e k v) = refl
run_long_lem (prefix s o p t) = omega (arith, run_long_lem t, length-append p (bytes_of t))
run_long_lem (node s o kind ks) = refl

pub chain_long_lem : (t : Lay) → chain_long t ≡ length (bytes_of t)
chain_long_lem (leaf s o e k v) = refl
chain_long_lem (prefix s o p t) = omega (arith, chain_long_lem t, length-append p (bytes_of t))
chain_long_lem (node s o kind ks) = refl

module _ {E : Edition} (L : Lawful E) (f : List ℕ) (B : Bytes f) where
  pub run_low : (path : List ℕ) (t : Lay) → Tree E f path t → NotLeaf t → length path + length (bytes_of t) < 512
  run_low path (leaf s o e k v) T n = absurd n
  run_low path (prefix s o p t) T n =
      let P = prefix_parts E f path s o p t T in
      omega (arith, run_low (path ++ p) t P.3 (below_not_leaf p t P.2), length-append path p, length-append p (bytes_of t))
  run_low path (node s o kind ks) T n = omega (arith, inside_short L path (below_inside L f path [] (node s o kind ks) B tt T), L.fields.words)

  -- no more bodies than a row has
  pub run_few : (path : List ℕ) (t : Lay) → Tree E f path t → NotLeaf t → length (bodies_of t) ≤ 5
  run_few path t T n = omega (arith, run_low path t T n, run_chained E f path t T)
