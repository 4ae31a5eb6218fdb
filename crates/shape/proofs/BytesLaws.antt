-- The string that stands at a place of a frame, and what its bytes say of it. Assumes nothing.
use Prim.Native.Nat.{ℕ, zero, suc, ◌+◌, ◌<◌, ◌≤◌}
use mathlib.Core.Path.{◌≡◌, refl, ap, sym, ◌∙◌}
use mathlib.Core.List.{List, [], ◌∷◌, ◌++◌}
use native.Mathlib.Omega.{arith}
use lib.ListN.{length, get_or, take, length-append, length-take, get_or-append}
use lib.Seq.{get_or-take, ext_get_or, length-take-le}
use Rattle.layout.specs.Number.{byte_at}
use Rattle.model.specs.Body.{Text}
use Rattle.model.specs.Frame.{Begins}

-- ---- n bytes from a place

abbrev pub bytes_from : List ℕ → ℕ → ℕ → List ℕ
bytes_from f o zero = []
bytes_from f o (suc n) = byte_at f o ∷ bytes_from f (o + 1) n

pub bytes_long : (f : List ℕ) (o n : ℕ) → length (bytes_from f o n) ≡ n
bytes_long f o zero = refl
bytes_long f o (suc n) = ap suc (bytes_long f (o + 1) n)

pub bytes_text : (f : List ℕ) (o n : ℕ) → Text f o (bytes_from f o n)
bytes_text f o zero i l = absurd (omega arith)
bytes_text f o (suc n) zero l = let e : o + 0 ≡ o = omega arith in rw e
bytes_text f o (suc n) (suc i) l = let e : o + suc i ≡ o + 1 + i = omega arith in rw e (bytes_text f (o + 1) n i (omega arith))

pub bytes_append : (f : List ℕ) (o m n : ℕ) → bytes_from f o (m + n) ≡ bytes_from f o m ++ bytes_from f (o + m) n
bytes_append f o zero n = let e : o + 0 ≡ o = omega arith in let z : 0 + n ≡ n = omega arith in rw (e, z) refl
bytes_append f o (suc m) n =
    let e : o + suc m ≡ o + 1 + m = omega arith in
    let z : suc m + n ≡ suc (m + n) = omega arith in
    rw (e, z) (ap (λ (l : List ℕ). byte_at f o ∷ l) (bytes_append f (o + 1) m n))

-- the first of two strings that stand one behind the other
pub text_left : (f : List ℕ) (o : ℕ) (p q : List ℕ) → Text f o (p ++ q) → Text f o p
text_left f o p q t i l = t i (simp length-append (omega arith)) ∙ get_or-append p q 0 i l

-- ---- paths

-- a string begins with a path, by its places
pub record BeginsAt (w path : List ℕ) : Type 0 where
  pub short : length path ≤ length w
  pub same : (i : ℕ) → i < length path → get_or w i 0 ≡ get_or path i 0

pub begins_at : (w path : List ℕ) → Begins w path → BeginsAt w path
begins_at w path e =
    let n = simp length-take at (ap length e) in
    record {
      short = omega arith;
      same = λ i l. sym (get_or-take (length path) w i 0 l) ∙ ap (λ (s : List ℕ). get_or s i 0) e;
    }

pub at_begins : (w path : List ℕ) → BeginsAt w path → Begins w path
at_begins w path h =
    let n = length-take-le (length path) w h.short in
    ext_get_or 0 (take (length path) w) path n (λ i l. get_or-take (length path) w i 0 (omega arith) ∙ h.same i (omega arith))
