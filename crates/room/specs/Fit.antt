-- "No room is given exactly if the fresh slots needed exceed N - U, or the fresh bodies and the extent exceed F - B": needs, an array by
-- kind and an extent, against room, an array of free counts with the slots and bytes left.
use Rattle.std.specs.Prelude.{ℕ, ◌+◌, ◌-◌, ◌*◌, ◌<◌, ◌≤◌, ◌≡◌, List, map, get_or}
use Rattle.layout.specs.Kind.{body_size}
use Rattle.model.specs.State.{State, kinds, tally, total}
use Rattle.room.specs.declared.fit.Room.{Room}
use Rattle.room.specs.declared.fit.Needs.{Needs}

-- the bodies of kind k that no list gives
abbrev pub lacking : List ℕ → List ℕ → ℕ → ℕ
lacking needs free k = get_or needs k 0 - get_or free k 0

-- the slots and bytes that those of all kinds take
unfoldable pub slots_needed : List ℕ → List ℕ → ℕ
slots_needed needs free = total (map (lacking needs free) kinds)

unfoldable pub bytes_needed : List ℕ → List ℕ → ℕ
bytes_needed needs free = total (map (λ k. lacking needs free k * body_size k) kinds)

pub record Fit (r : Room) (n : Needs) : Type 0 where
  pub slots : slots_needed n.bodies r.free ≤ r.slots
  pub bytes : bytes_needed n.bodies r.free + n.extent ≤ r.bytes

-- needs that no sum of them can wrap
pub record Small (n : Needs) : Type 0 where
  pub bodies : (k : ℕ) → k < 9 → get_or n.bodies k 0 < 65536
  pub extent : n.extent < 4294967296

-- the needs of a change that takes bodies of these kinds and an extent of x bytes
pub record Asks (n : Needs) (takes : List ℕ) (x : ℕ) : Type 0 where
  pub bodies : n.bodies ≡ map (tally takes) kinds
  pub extent : n.extent ≡ x

-- the room of a state for some needs: of the free bodies of a kind, those that are asked for are counted
pub record RoomOf (r : Room) (s : State) (n : Needs) : Type 0 where
  pub free : (k : ℕ) → k < 9 → lacking n.bodies r.free k ≡ lacking n.bodies s.free k
  pub slots : r.slots ≡ s.N - s.U
  pub bytes : r.bytes ≡ s.F - s.B
