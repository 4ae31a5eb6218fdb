-- The bytes that are written are the image of no records. Assumes nothing.
use Prim.Native.Nat.{ℕ, ◌+◌, ◌<◌, ◌≤◌}
use mathlib.Core.Path.{◌≡◌, ap, sym, ◌∙◌}
use mathlib.Core.List.{List, []}
use native.Mathlib.Omega.{arith}
use native.Mathlib.Decide.{dec_lt}
use lib.ListN.{length, get_or-eq_default}
use Rattle.layout.specs.Number.{byte_at, le, put, Bytes}
use Rattle.layout.specs.Place.{entry_at, data_start}
use Rattle.layout.specs.Kind.{empty_root_kind}
use Rattle.layout.specs.Entry.{entry_of}
use Rattle.layout.proofs.NumberLaws.{le_same, le_put, length_put, bytes_put, get_or_put_off}
use Rattle.layout.proofs.EntryLaws.{entry_lt}
use Rattle.fields.specs.Header.{header_of, put_header, HeaderFits}
use Rattle.fields.specs.declared.header.Header.{Header}
use Rattle.fields.proofs.HeaderLaws.{header_put, length_put_header, byte_put_header}
use Rattle.moves.specs.Moved.{Cleared}
use Rattle.model.specs.Edition.{Edition}
use Rattle.model.specs.Image.{image}
use Rattle.model.proofs.FormatLaws.{Fields, Formatted, format_image}
use Rattle.blank.specs.Limits.{Limits}
use mathlib.Core.Logic.{inl, inr}

-- the header that format writes
abbrev pub fresh_header : ℕ → ℕ → ℕ → Header
fresh_header e f n = record { edition = e; frame_length = f; slot_capacity = n; data_start = data_start n; next_byte = data_start n + 8; slots_given = 1; «records» = 0; dead_bytes = 0; root = 1 }

-- small enough for every field
fits : (e f n : ℕ) → e < 4294967296 → Limits f n → HeaderFits (fresh_header e f n)
fits e f n h L =
    let a = L.long in let b = L.slots in
    record {
      edition = h;
      frame_length = omega arith;
      slot_capacity = omega arith;
      data_start = omega arith;
      next_byte = omega arith;
      slots_given = omega arith;
      records = omega arith;
      dead_bytes = omega arith;
      root = omega arith;
    }

-- the frame is zeroed, the header written, and slot 1's entry
module _ (E : Edition) (small : E.number < 4294967296) (f g : List ℕ) (n : ℕ) (L : Limits (length f) n) (C : Cleared f g 0 (length f)) where
  abbrev pub headed : List ℕ
  headed = put_header g (fresh_header E.number (length f) n)

  abbrev pub laid : List ℕ
  laid = put 4 headed (entry_at 1) (entry_of empty_root_kind (data_start n))

  long : length g ≡ length f
  long = C.rest.size

  zero : (a : ℕ) → byte_at g a ≡ 0
  zero a = elim (dec_lt a (length f)) [
    | yes p ↦ C.zeros a (omega arith) (omega arith)
    | no p ↦ get_or-eq_default g 0 (omega (arith, long))
  ]

  is_header : header_of headed ≡ fresh_header E.number (length f) n
  is_header = let a = L.long in header_put g (fresh_header E.number (length f) n) (omega (arith, long)) (fits E.number (length f) n small L)

  fields : Fields E (length f) n (data_start n + 8) 1 0 headed
  unfolding header_of
  fields =
      let e = is_header in let a = L.long in
      record {
        edition = ap (λ (x : Header). x.edition) e;
        stored = ap (λ (x : Header). x.frame_length) e;
        slots_at = ap (λ (x : Header). x.slot_capacity) e;
        data_at = ap (λ (x : Header). x.data_start) e;
        bump_at = ap (λ (x : Header). x.next_byte) e;
        given_at = ap (λ (x : Header). x.slots_given) e;
        records_at = ap (λ (x : Header). x.records) e;
        dead_at = ap (λ (x : Header). x.dead_bytes) e;
        root_at = ap (λ (x : Header). x.root) e;
        zeros = λ a p q. byte_put_header g (fresh_header E.number (length f) n) a (omega arith) ∙ zero a;
      }

  -- the entry lies behind the header
  same : (a : ℕ) → a < 64 → byte_at laid a ≡ byte_at headed a
  same a l = get_or_put_off 4 headed 64 (entry_of empty_root_kind (data_start n)) a (inl (omega arith))

  field : (w o : ℕ) → o + w ≤ 64 → le w laid o ≡ le w headed o
  field w o l = le_same w laid headed o (λ a p q. same a (omega arith))

  long_laid : length laid ≡ length f
  long_laid = length_put 4 headed 64 (entry_of empty_root_kind (data_start n)) ∙ length_put_header g (fresh_header E.number (length f) n) ∙ long

  bytes : Bytes laid
  unfolding put_header
  bytes =
      let z : Bytes g = λ a. (let e = zero a in omega arith) in
      bytes_put 4 headed 64 (entry_of empty_root_kind (data_start n))
      (bytes_put 2 _ 32 _ (bytes_put 4 _ 28 _ (bytes_put 4 _ 24 _ (bytes_put 4 _ 20 _ (bytes_put 4 _ 16 _ (bytes_put 4 _ 12 _ (bytes_put 4 _ 8 _ (bytes_put 4 _ 4 _ (bytes_put 4 g 0 E.number z)))))))))

  is_formatted : Formatted E laid n
  is_formatted =
      let p = fields in let a = L.long in let b = L.slots in
      record {
        fields = record {
          edition = field 4 0 (omega arith) ∙ p.edition;
          stored = field 4 4 (omega arith) ∙ p.stored ∙ sym long_laid;
          slots_at = field 4 8 (omega arith) ∙ p.slots_at;
          data_at = field 4 12 (omega arith) ∙ p.data_at;
          bump_at = field 4 16 (omega arith) ∙ p.bump_at;
          given_at = field 4 20 (omega arith) ∙ p.given_at;
          records_at = field 4 24 (omega arith) ∙ p.records_at;
          dead_at = field 4 28 (omega arith) ∙ p.dead_at;
          root_at = field 2 32 (omega arith) ∙ p.root_at;
          zeros = λ c x y. same c y ∙ p.zeros c x y;
        };
        entry = le_put 4 headed 64 (entry_of empty_root_kind (data_start n)) (omega (arith, length_put_header g (fresh_header E.number (length f) n), long)) (entry_lt 8 (data_start n) (omega arith) (omega arith));
        rest = λ c x. get_or_put_off 4 headed 64 (entry_of empty_root_kind (data_start n)) c (inr (omega arith)) ∙ byte_put_header g (fresh_header E.number (length f) n) c (omega arith) ∙ zero c;
      }

  pub laid_out : laid ≡ image E (length f) n []
  laid_out =
      rw long_laid at (format_image E laid n small bytes (rw long_laid L.long) L.slots (rw long_laid L.room) is_formatted)
