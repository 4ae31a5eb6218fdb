-- Erase of a key that is there, at its spot in a good frame, where a Node4 is left with one child: what the join counts on.
use Rattle.std.specs.Prelude.{ℕ, ◌≡◌, List}
use Rattle.layout.specs.Kind.{number_of, node4_kind}
use Rattle.model.specs.Edition.{Edition}
use Rattle.descent.specs.declared.spot.Spot.{Spot}
use Rattle.erase_remove.specs.Erase.{EraseAt, counted}

-- the Leaf of key k at the spot stands in a Node4 of two
pub record Pair (E : Edition) (f k : List ℕ) (p : Spot) : Type 0 where
  pub at : EraseAt E f k p
  pub kind : number_of p.node.kind ≡ node4_kind
  pub two : counted f p ≡ 2
