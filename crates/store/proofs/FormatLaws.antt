-- The two ends of format. Assumes nothing.
use Prim.Native.Nat.{ℕ}
use mathlib.Core.Path.{◌≡◌, refl}
use mathlib.Core.List.{List, []}
use lib.ListN.{length}
use Rattle.model.specs.Edition.{Edition}
use Rattle.model.specs.Image.{image}
use Rattle.model.specs.Promise.{FormatOk, FormatPromise}
use Rattle.blank.specs.Limits.{Limits}

pub refused : (E : Edition) (f : List ℕ) (len cap : ℕ) → (FormatOk f len cap → ⊥) → FormatPromise E f len cap 1 f
refused E f len cap n = record { done0 = λ ok. absurd (n ok); limits1 = λ h. (refl, refl) }

pub formatted : (E : Edition) (f f' : List ℕ) (len cap : ℕ) → length f ≡ len → Limits len cap → f' ≡ image E (length f) cap [] → FormatPromise E f len cap 0 f'
formatted E f f' len cap e L h = record { done0 = λ ok. (refl, rw e at h); limits1 = λ n. absurd (n (L.long, L.slots, L.room, e)) }
