-- How many slots a look-up visits: those on the defined path of a key, the last one included.
use Rattle.std.specs.Prelude.{ℕ, suc, ◌+◌, ◌/◌, List, length, drop, get_or, eqb}
use Rattle.std.proofs.Math.Option.{Option, none, some}
use Rattle.layout.specs.Place.{prefix_most}
use Rattle.model.specs.Strings.{pick, shared}
use Rattle.model.specs.Edition.{Edition}
use Rattle.model.specs.Tree.{Art, Kids, chain}
use Rattle.model.specs.Tree.Art.{leaf, prefix, node}
use Rattle.model.specs.Tree.Kids.{nil, kid}

-- The path goes from the root past a Prefix that the key matches to its end, and past an inner node by the key's byte, to where it ends: at a
-- Leaf of this key or another, a Prefix that does not match, an inner node without the byte, or an EmptyRoot. Each body on it has one slot.
abbrev mutual
  -- d walked bytes lead to the tree
  pub visits : Edition → Art → ℕ → List ℕ → ℕ
  visits E (leaf k' v') d k = 1
  -- a shared beginning is a chain of Prefixes, each full but the last: all of them, or those up to the one that does not match
  visits E (prefix p a) d k =
      let q = shared p (drop d (E.walked k)) in
      let deep = chain (length p) + visits E a (d + length p) k in
      pick (eqb q (length p)) deep (suc (q / prefix_most))
  visits E (node kind ks) d k = suc (visits_kids E ks d k)

  -- 0 where no child has the byte
  pub visits_kids : Edition → Kids → ℕ → List ℕ → ℕ
  visits_kids E nil d k = 0
  visits_kids E (kid c j a ks) d k =
      let here = visits E a (d + 1) k in
      let on = visits_kids E ks d k in
      pick (eqb c (get_or (E.walked k) d 0)) here on

abbrev pub visits_in : Edition → Option Art → List ℕ → ℕ
visits_in E none k = 1
visits_in E (some a) k = visits E a 0 k
