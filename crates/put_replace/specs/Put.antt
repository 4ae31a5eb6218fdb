-- Put of a key that is there: what the edit counts on; and the stamp of a Leaf by itself.
use Rattle.std.specs.Prelude.{List, ℕ, ◌+◌, ◌≡◌}
use Rattle.layout.specs.Number.{le}
use Rattle.layout.specs.Place.{leaf_stamp}
use Rattle.model.specs.Edition.{Edition, Value}
use Rattle.moves.specs.Moved.{Only}
use Rattle.descent.specs.declared.spot.Spot.{Spot}
use Rattle.descent.specs.Spot.{ThisKey}
use Rattle.leaf_new.specs.Put.{PutAt}

pub record Present (E : Edition) (f k : List ℕ) (v : Value) (p : Spot) : Type 0 where
  pub put : PutAt E f k v p
  pub found : ThisKey k p put.way.steps put.way.sub

-- the Leaf at o has the stamp t: its field was written, and not if it was t before
pub record Restamped (f g : List ℕ) (o t : ℕ) : Type 0 where
  pub only : Only f g (o + leaf_stamp) (o + leaf_stamp + 8)
  pub stamp : le 8 g (o + leaf_stamp) ≡ t
  pub same : le 8 f (o + leaf_stamp) ≡ t → g ≡ f
