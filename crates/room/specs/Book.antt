-- The numbers of a frame through a row of takes, before it is known to have room for them.
use Rattle.std.specs.Prelude.{ℕ, ◌+◌, ◌-◌, ◌*◌, ◌≤◌, List, [], ◌∷◌, map, length, get_or}
use Rattle.layout.specs.Kind.{body_size, Kind}
use Rattle.model.specs.State.{total, kinds, tally}
use Rattle.model.specs.Frame.{View}
use Rattle.room.specs.View.{taken}

-- how many bodies of a kind are free
unfoldable pub have : View → ℕ → ℕ
have h j = get_or (0 ∷ map length h.lists) j 0

-- one body after the other is taken
unfoldable pub taken_all : View → List ℕ → View
taken_all h [] = h
taken_all h (k ∷ ks) = taken_all (taken h k) ks

-- fresh bodies of kind j that a row of takes needs; their slots and bytes
abbrev pub needed : View → List ℕ → ℕ → ℕ
needed h ks j = tally ks j - have h j

unfoldable pub slots_for : View → List ℕ → ℕ
slots_for h ks = total (map (needed h ks) kinds)

unfoldable pub bytes_for : View → List ℕ → ℕ
bytes_for h ks = total (map (λ j. needed h ks j * body_size j) kinds)

-- room for a row of takes and x bytes more
pub record RoomFor (h : View) (ks : List ℕ) (x : ℕ) : Type 0 where
  pub slots : h.nums.U + slots_for h ks ≤ h.nums.N
  pub bytes : h.nums.B + bytes_for h ks + x ≤ h.nums.F

-- all are kinds that a body can have
pub data Kinds : List ℕ → Type 0 where
  nil : Kinds []
  cons : {k : ℕ} {ks : List ℕ} → Kind k → Kinds ks → Kinds (k ∷ ks)
