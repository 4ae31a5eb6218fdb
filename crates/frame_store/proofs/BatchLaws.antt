-- The number and the place of an exported batch in one. Assumes nothing.
use Prim.Native.Nat.{ℕ, ◌+◌, ◌*◌, ◌/◌, ◌%◌, ◌<◌}
use mathlib.Core.Path.{◌≡◌}
use mathlib.Core.List.{List}
use native.Mathlib.Omega.{arith}
use Rattle.model.specs.Edition.{Edition}
use Rattle.batch.specs.Batch.{BatchPromise}
use Rattle.frame_store.specs.Batch.{Batched}

low_byte : (n at : ℕ) → n < 256 → (n + 256 * at) % 256 ≡ n
low_byte n at h = omega arith

above : (n at : ℕ) → n < 256 → (n + 256 * at) / 256 ≡ at
above n at h = omega arith

pub batched : (E : Edition) {f g b lent : List ℕ} (n at : ℕ) {f' g' lent' : List ℕ} → BatchPromise E f g b lent n at f' g' lent' → n < 256 → Batched E f g b lent (n + 256 * at) f' g' lent'
batched E n at P h = rw (low_byte n at h, above n at h) P
