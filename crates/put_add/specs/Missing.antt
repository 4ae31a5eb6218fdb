-- Put of a key whose way ends at an inner node without its byte, and of the first record: what the edits count on.
use Rattle.std.specs.Prelude.{ℕ, ◌<◌, ◌≤◌, ◌≡◌, List, ◌∷◌, length}
use Rattle.std.proofs.Math.Option.{none}
use Rattle.layout.specs.Kind.{most, number_of}
use Rattle.model.specs.Edition.{Edition, Lawful, Legal, Value}
use Rattle.model.specs.State.{State}
use Rattle.model.specs.Body.{look_kid}
use Rattle.model.specs.Frame.{LayKids, pairs, bare, tree, Stands}
use Rattle.model.specs.Frame.Lay.{node}
use Rattle.between.specs.Hole.{Step, plug}
use Rattle.between.specs.Lead.{Leads}
use Rattle.keys.specs.Word.{Spells}
use Rattle.descent.specs.declared.spot.Spot.{Spot}
use Rattle.descent.specs.Spot.{NoByte}
use Rattle.leaf_new.specs.Put.{PutReady, PutAt}

-- w is what is read of the key; the node is not full
pub record Open (E : Edition) (f k w : List ℕ) (v : Value) (p : Spot) : Type 0 where
  pub put : PutAt E f k v p
  pub spells : Spells E k w
  pub missing : NoByte E k p put.way.sub
  pub few : length (pairs missing.kids) < most (number_of p.here.kind)

-- the node is full
pub record Full (E : Edition) (f k w : List ℕ) (v : Value) (p : Spot) : Type 0 where
  pub put : PutAt E f k v p
  pub spells : Spells E k w
  pub missing : NoByte E k p put.way.sub
  pub full : most (number_of p.here.kind) ≤ length (pairs missing.kids)

-- the frame is empty
pub record Vacant (E : Edition) (f k : List ℕ) (v : Value) : Type 0 where
  pub ready : PutReady E f k v
  pub slot : ℕ
  pub place : ℕ
  pub is : ready.stands.root ≡ bare slot place

-- of a good frame: the steps xs lead to the node of slot n, place o, this kind and children ks, which has no child at byte b; the key
-- goes there and on with b and r
pub record Lacks {E : Edition} {f : List ℕ} {st : State} (S : Stands E f st) (k : List ℕ) (xs : List Step) (n o kind : ℕ) (ks : LayKids) (b : ℕ) (r : List ℕ) : Type 0 where
  pub is : S.root ≡ tree (plug xs (node n o kind ks))
  pub leads : Leads E k xs (b ∷ r)
  pub absent : look_kid b (pairs ks) ≡ none
  pub lawful : Lawful E
  pub legal : Legal E k
