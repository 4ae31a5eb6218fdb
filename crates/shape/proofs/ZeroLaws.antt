-- Zero bytes by the first place and the number of them. Assumes nothing.
use Prim.Native.Nat.{ℕ, ◌+◌, ◌-◌}
use mathlib.Core.Path.{◌≡◌}
use mathlib.Core.List.{List}
use native.Mathlib.Omega.{arith}
use Rattle.model.specs.Body.{Zero}
use Rattle.pieces.specs.Range.{Blank}

pub blank_zero : (f : List ℕ) (o n : ℕ) → Blank f o (o + n) → Zero f o n
blank_zero f o n h i l = h (o + i) (omega arith) (omega arith)

pub zero_blank : (f : List ℕ) (o n : ℕ) → Zero f o n → Blank f o (o + n)
zero_blank f o n h a x y = let e : o + (a - o) ≡ a = omega arith in rw e at (h (a - o) (omega arith))
