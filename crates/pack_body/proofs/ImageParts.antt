-- The packed image from its parts: header, entries, bodies, and zero everywhere else. Assumes nothing.
use Prim.Native.Nat.{ℕ, ◌+◌, ◌*◌, ◌<◌, ◌≤◌}
use mathlib.Core.Path.{◌≡◌, refl, sym, ◌∙◌}
use mathlib.Core.List.{List, [], ◌++◌}
use mathlib.Core.Option.{some}
use native.Mathlib.Omega.{arith}
use lib.ListN.{length, length-append}
use Rattle.layout.specs.Number.{byte_at}
use Rattle.layout.specs.Place.{entry_at, data_start}
use Rattle.model.specs.Edition.{Edition}
use Rattle.model.specs.Tree.{Art}
use Rattle.model.specs.Image.{numbers, padded, slots, size, entries, bodies, header, image_of}
use Rattle.model.specs.Body.{Has}
use Rattle.model.proofs.Well.{Well}
use Rattle.model.proofs.TextLaws.{has_at, length_numbers, length_padded}
use Rattle.model.proofs.PackedBytes.{length_bodies, length_entries, length_table}
use Rattle.pack_body.proofs.HasLaws.{has_padded, three_has, has_whole}

-- a frame of f bytes and n slots that has the r records of a tree, packed
pub record Parts (E : Edition) (f n r : ℕ) (a : Art) (m : List ℕ) : Type 0 where
  pub long : length m ≡ f
  pub slots_fit : slots a ≤ n
  pub bytes_fit : data_start n + size a ≤ f
  pub head : Has m 0 (header E f n (data_start n + size a) (slots a) r)
  pub table : Has m (entry_at 1) (numbers 4 (entries a (data_start n)))
  pub bodies_at : Has m (data_start n) (bodies a 1 (data_start n))
  -- "All else is zero."
  pub above : (x : ℕ) → entry_at (slots a + 1) ≤ x → x < data_start n → byte_at m x ≡ 0
  pub rest : (x : ℕ) → data_start n + size a ≤ x → x < f → byte_at m x ≡ 0

pub image_of_parts : (E : Edition) (f n r : ℕ) (a : Art) (m : List ℕ) → Well E a [] → Parts E f n r a m → m ≡ image_of E f n r (some a)
image_of_parts E f n r a m W P =
    let d = data_start n in
    let H = header E f n (d + size a) (slots a) r in
    let D = numbers 4 (entries a d) in
    let T = padded (4 * n) D in
    let B = bodies a 1 d in
    let long = P.long in
    let slots_fit = P.slots_fit in
    let bytes_fit = P.bytes_fit in
    let e : length D ≡ 4 * slots a = omega (arith, length_numbers (entries a d), length_entries a d) in
    let t : length T ≡ 4 * n = length_table a n d slots_fit in
    let b : length B ≡ size a = length_bodies E a [] W 1 d in
    let Th : Has m 64 T = has_padded (4 * n) D (omega arith) (omega arith) P.table (λ i l. P.above (64 + length D + i) (omega arith) (omega arith)) in
    let all : length (H ++ T ++ B) ≡ d + size a = omega (arith, length-append H T, length-append (H ++ T) B, length_header) in
    let front : Has m 0 (H ++ T ++ B) = three_has 64 (4 * n) H T B refl t P.head Th (has_at (0 + (64 + 4 * n)) B (omega arith) P.bodies_at) in
    has_whole m (padded f (H ++ T ++ B)) (length_padded f (H ++ T ++ B) (omega arith) ∙ sym long)
    (has_padded f (H ++ T ++ B) (omega arith) (omega arith) front (λ i l.
    let z : 0 + length (H ++ T ++ B) + i ≡ length (H ++ T ++ B) + i = omega arith in
    rw z (P.rest (length (H ++ T ++ B) + i) (omega arith) (omega arith))))
  where
    length_header : length (header E f n (data_start n + size a) (slots a) r) ≡ 64
    length_header = refl
