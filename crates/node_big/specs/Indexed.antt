-- Node48 and Node256: the lowest empty place, what a call on such a body counts on, and what its writes leave.
use Rattle.std.specs.Prelude.{ℕ, ◌+◌, ◌*◌, ◌-◌, ◌<◌, ◌≤◌, ◌≡◌, List, length}
use Rattle.std.proofs.Math.Option.{some}
use Rattle.layout.specs.Number.{byte_at, le}
use Rattle.layout.specs.Place.{node_count, node_zero, node48_index, node48_children, node256_children}
use Rattle.model.specs.Body.{byte_in, Named, Node48At, Node256At, look_kid}
use Rattle.moves.specs.Moved.{Only}

-- "a new child takes the lowest empty place": r is the lowest from 1 to 48 that no entry of the index names; 49 if there is none
pub record Lowest (f : List ℕ) (index r : ℕ) : Type 0 where
  pub first : 1 ≤ r
  pub last : r ≤ 49
  pub lower : (p : ℕ) → p < r → 1 ≤ p → Named f index p
  pub free : r < 49 → Named f index r → ⊥

-- "children carried over from another kind take places 1, 2 and so on in byte order": the first n of them
abbrev pub Numbered : List ℕ → ℕ → ℕ → List (ℕ × ℕ) → Type 0
Numbered f o n ks = (i : ℕ) → i < n → byte_at f (o + node48_index + byte_in ks i) ≡ i + 1

-- ---- a body of some children, with room for one more, with byte b among them

pub record In48 (f : List ℕ) (o : ℕ) : Type 0 where
  pub kids : List (ℕ × ℕ)
  pub node : Node48At f o kids

pub record Open48 (f : List ℕ) (o : ℕ) : Type 0 where
  pub kids : List (ℕ × ℕ)
  pub node : Node48At f o kids
  pub few : length kids < 48

pub record Has48 (f : List ℕ) (o b : ℕ) : Type 0 where
  pub kids : List (ℕ × ℕ)
  pub node : Node48At f o kids
  pub child : ℕ
  pub has : look_kid b kids ≡ some child

pub record In256 (f : List ℕ) (o : ℕ) : Type 0 where
  pub kids : List (ℕ × ℕ)
  pub node : Node256At f o kids

pub record Open256 (f : List ℕ) (o : ℕ) : Type 0 where
  pub kids : List (ℕ × ℕ)
  pub node : Node256At f o kids
  pub few : length kids < 256

pub record Has256 (f : List ℕ) (o b : ℕ) : Type 0 where
  pub kids : List (ℕ × ℕ)
  pub node : Node256At f o kids
  pub child : ℕ
  pub has : look_kid b kids ≡ some child

-- ---- g is f with the entry of byte b set to x, the child at place p to s and the count to n

pub record Wrote48 (f g : List ℕ) (o b x p s n : ℕ) : Type 0 where
  pub only : Only f g o (o + 456)
  pub zeros : (i : ℕ) → node_zero ≤ i → i < node48_index → byte_at g (o + i) ≡ byte_at f (o + i)
  pub count : le 2 g (o + node_count) ≡ n
  pub entry : byte_at g (o + node48_index + b) ≡ x
  pub other : (d : ℕ) → d < 256 → (d ≡ b → ⊥) → byte_at g (o + node48_index + d) ≡ byte_at f (o + node48_index + d)
  pub child : le 4 g (o + node48_children + 4 * (p - 1)) ≡ s
  pub rest : (q : ℕ) → q < 48 → (q + 1 ≡ p → ⊥) → le 4 g (o + node48_children + 4 * q) ≡ le 4 f (o + node48_children + 4 * q)

pub record Wrote256 (f g : List ℕ) (o b s n : ℕ) : Type 0 where
  pub only : Only f g o (o + 1032)
  pub zeros : (i : ℕ) → node_zero ≤ i → i < node256_children → byte_at g (o + i) ≡ byte_at f (o + i)
  pub count : le 2 g (o + node_count) ≡ n
  pub child : le 4 g (o + node256_children + 4 * b) ≡ s
  pub rest : (d : ℕ) → d < 256 → (d ≡ b → ⊥) → le 4 g (o + node256_children + 4 * d) ≡ le 4 f (o + node256_children + 4 * d)
