-- "frames from before must be packed once, by a call that still takes the old rule" (document 02, Q-3): that call, held to the demands.
use Rattle.std.specs.Prelude.{ℕ, ◌≡◌, List, [], ◌∷◌, length}
use Rattle.model.specs.Edition.{edition1, before1}
use Rattle.model.specs.Records.{Record}
use Rattle.model.specs.Promise.{PackBeforePromise}
use Rattle.demands.specs.Words.{Refusal, FirstOf, wrong_length, not_good, output_length, Holds}
use Rattle.demands.specs.Demands.{Packed}

pub record PackingBefore : Type 0 where
  -- demand 1
  pub refusals : (f o : List ℕ) (n : ℕ) (o' : List ℕ) → PackBeforePromise f o n o'
      → FirstOf (wrong_length f ∷ not_good before1 f ∷ output_length f o ∷ []) (0 ∷ []) n × (Refusal n → o' ≡ o)
  -- demand 2: the image is that of the set which the frame holds by the old rule, and by the new rule it is a good frame that holds it
  pub packs : (f o : List ℕ) (n : ℕ) (o' : List ℕ) (rs : List Record) → PackBeforePromise f o n o' → Holds before1 f rs → length o ≡ length f → Packed edition1 f rs n o'
  -- frames that are good by the new rule are taken too, for what they hold
  pub both : (f : List ℕ) (rs : List Record) → Holds edition1 f rs → Holds before1 f rs
