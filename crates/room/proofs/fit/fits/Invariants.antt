-- `fits` answers whether needs fit the room. The invariant: the sums are those of the places below k, and small. Assumes nothing.
use Prim.Native.Nat.{◌*◌, ◌≤◌}
use mathlib.Core.Path.{◌≡◌}
use Rattle.layout.specs.Kind.{body_size}
use Rattle.room.specs.Fit.{lacking}
use Rattle.room.proofs.FitLaws.{up_to}
use Rattle.room.proofs.fit.fits.Given as goal

abbrev pub invariant-loop-k : goal.invariant-loop-k
invariant-loop-k l =
    (l.slots ≡ up_to (lacking l.needs.bodies l.room.free) l.k)
    × (l.bytes ≡ up_to (λ j. lacking l.needs.bodies l.room.free j * body_size j) l.k)
    × (l.slots ≤ l.k * 65536)
    × (l.bytes ≤ l.k * 67633152)
