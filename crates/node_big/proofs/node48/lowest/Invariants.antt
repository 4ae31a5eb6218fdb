-- Every place passed is named by an entry; no entry passed names the place that is tried. Assumes nothing.
use mathlib.Core.Path.{◌≡◌}
use Rattle.layout.specs.Number.{byte_at}
use Rattle.layout.specs.Place.{node48_index}
use Rattle.model.specs.Body.{Named}
use Prim.Native.Nat.{ℕ, ◌+◌, ◌-◌, ◌<◌, ◌≤◌}
use Rattle.node_big.proofs.node48.lowest.Given as goal

abbrev pub invariant-loop-b : goal.invariant-loop-b
invariant-loop-b l = (l.place ≡ l.initial.place) × (l.b ≤ 256) × ((d : ℕ) → d < l.b → byte_at l.f (l.o + node48_index + d) ≡ l.place → ⊥)

abbrev pub decreases-loop-b : goal.decreases-loop-b
decreases-loop-b l = 256 - l.b

abbrev pub invariant-places : goal.invariant-places
invariant-places l = (1 ≤ l.place) × (l.place ≤ 49) × ((p : ℕ) → p < l.place → 1 ≤ p → Named l.f (l.o + node48_index) p)

abbrev pub decreases-places : goal.decreases-places
decreases-places l = 49 - l.place
