-- Put of a key whose way ends within a Prefix: what the edits count on.
use Rattle.std.specs.Prelude.{ℕ, ◌≤◌, ◌≡◌, List}
use Rattle.model.specs.Edition.{Edition, Value}
use Rattle.keys.specs.Word.{Spells}
use Rattle.descent.specs.declared.spot.Spot.{Spot}
use Rattle.descent.specs.Spot.{PartPrefix}
use Rattle.leaf_new.specs.Put.{PutAt}

-- a Prefix that matched for q of its bytes, and not for all; `word` is what the descent by the key reads
pub record AtPart (E : Edition) (f k word : List ℕ) (v : Value) (p : Spot) : Type 0 where
  pub put : PutAt E f k v p
  pub spells : Spells E k word
  pub part : PartPrefix E k p put.way.sub

-- "the part before has q bytes": none
pub record NoneBefore (E : Edition) (f k word : List ℕ) (v : Value) (p : Spot) : Type 0 where
  pub at : AtPart E f k word v p
  pub before : p.shared ≡ 0

-- or some
pub record SomeBefore (E : Edition) (f k word : List ℕ) (v : Value) (p : Spot) : Type 0 where
  pub at : AtPart E f k word v p
  pub before : 1 ≤ p.shared
