-- What is written in a lent part of the output that starts at a body's offset, and the entry of its slot, said of the whole output.
-- Assumes nothing.
use Prim.Native.Nat.{ℕ, ◌+◌, ◌-◌, ◌≤◌}
use mathlib.Core.Path.{◌≡◌, refl, sym, ap, ◌∙◌}
use mathlib.Core.List.{List, [], ◌∷◌, ◌++◌}
use native.Mathlib.Omega.{arith}
use lib.ListN.{length, length-append}
use borrow.Rule.Slice.PartMut.{put_mid, mid_of}
use Rattle.layout.specs.Number.{byte_at, put}
use Rattle.layout.specs.Place.{entry_at}
use Rattle.layout.specs.Kind.{leaf_kind, prefix_kind, body_size}
use Rattle.layout.specs.Entry.{entry_of}
use Rattle.layout.proofs.KindLaws.{range_inner}
use Rattle.model.specs.Edition.{Value, text_of}
use Rattle.model.specs.Tree.{extent_of}
use Rattle.model.specs.Tree.Art.{leaf}
use Rattle.model.specs.Image.{digits, padded, size, bodies}
use Rattle.model.specs.Body.{Zero, Has}
use Rattle.model.proofs.TextLaws.{has_at, length_padded}
use Rattle.model.proofs.PackedBytes.{extent_fits}
use Rattle.moves.specs.Moved.{Only}
use Rattle.moves.proofs.MoveLaws.{only_put}
use Rattle.pack_body.specs.Part.{part_body, LeafCopies, LeafCopied, PrefixCopies, PrefixCopied, NodeStarted, ChildWritten}
use Rattle.pack_body.proofs.HasLaws.{has_put}
use Rattle.pack_body.proofs.PartLaws.{part_long, part_byte, part_zero, part_has, part_only}
use Rattle.pack.specs.declared.bodies.Next.{Next}
use Rattle.pack.specs.Laid.{Room, Laid, LeafFits, LeafLaid, PrefixFits, PrefixLaid, NodeFits, ChildLaid}
use Rattle.pack.proofs.LaidLaws.{laid_made}
use Rattle.pack.proofs.NodeLaws.{length_part}

-- a part from a place on, to the end
module _ (a : ℕ) (xs : List ℕ) (h : a ≤ length xs) where
  whole : a + (length xs - a) ≤ length xs
  whole = omega arith

  -- what the part holds
  tail_has : (bs : List ℕ) → Has xs a bs → Has (mid_of a (length xs - a) xs) 0 bs
  tail_has bs H =
      let n = part_long a (length xs - a) xs whole in
      let fit = H.fits in
      record { fits = omega arith; text = λ i l. part_byte a (length xs - a) xs whole (0 + i) (omega arith) ∙ (ap (λ (j : ℕ). byte_at xs (a + j)) (zero_plus i) ∙ H.text i l) }
    where
      zero_plus : (i : ℕ) → 0 + i ≡ i
      zero_plus i = omega arith

  tail_only : {n : ℕ} (ys : List ℕ) → Only (mid_of a (length xs - a) xs) ys 0 n → Only xs (put_mid a (length xs - a) xs ys) a (a + n)
  tail_only {n} ys O =
      let P = part_only a (length xs - a) xs whole ys O in
      let z : a + 0 ≡ a = omega arith in
      record { size = P.size; below = λ x l. P.below x (omega arith); above = λ x l. P.above x l }

  tail_put : (bs ys : List ℕ) → Has ys 0 bs → Has (put_mid a (length xs - a) xs ys) a bs
  tail_put bs ys H = has_at a bs (omega arith) (part_has a (length xs - a) xs whole ys bs H)

-- ---- an entry, and a part from the next place on

module _ {m : ℕ} {at : Next} {out : List ℕ} (R : Room 1 m at out) (e : ℕ) {next : List ℕ} (p : next ≡ put 4 out (entry_at at.slot) e) where
  entry_only : Only out next (entry_at at.slot) (entry_at at.slot + 4)
  entry_only = rw p (only_put 4 out (entry_at at.slot) e)

  lent : at.place ≤ length next
  lent = let f = R.fits in let s = entry_only.size in omega arith

  lent_room : m ≤ length (mid_of at.place (length next - at.place) next)
  lent_room = let f = R.fits in let s = entry_only.size in omega (arith, part_long at.place (length next - at.place) next (omega arith))

  lent_zero : Zero (mid_of at.place (length next - at.place) next) 0 m
  lent_zero =
      let f = R.fits in let s = entry_only.size in let t = R.table in
      part_zero at.place (length next - at.place) next (omega arith) 0 m (omega arith)
      (λ i l. entry_only.above (at.place + 0 + i) (omega arith) ∙ R.zeros (at.place + 0 + i) (omega arith) (omega arith))

  lent_laid : {r : Next} (bs ys : List ℕ) (n : ℕ) → length bs ≡ n → Only (mid_of at.place (length next - at.place) next) ys 0 n → Has ys 0 bs → r.slot ≡ at.slot + 1 → r.place ≡ at.place + n
      → Laid (e ∷ []) bs at out (put_mid at.place (length next - at.place) next ys) r
  lent_laid {r} bs ys n l O H q w =
      let t = R.table in let f = R.fits in
      let K : Has next (entry_at at.slot) (digits 4 e) = rw p (has_put 4 out (entry_at at.slot) e (omega arith)) in
      let F : Only next (put_mid at.place (length next - at.place) next ys) at.place (at.place + length bs) = rw l (tail_only at.place next lent ys O) in
      laid_made e bs at r (omega arith) entry_only K F (tail_put at.place next lent bs ys H) q (omega arith)

-- ---- the kinds

length_leaf : (s o : ℕ) (k : List ℕ) (v : Value) → length (bodies (leaf k v) s o) ≡ size (leaf k v)
length_leaf s o k v =
    let D = digits 4 (o + body_size leaf_kind) ++ digits 2 (length k) ++ digits 2 (length (text_of v)) ++ digits 8 v.stamp in
    length-append (padded 16 D) (padded (extent_of k v) (k ++ text_of v)) ∙ ap (λ (n : ℕ). 16 + n) (length_padded (extent_of k v) (k ++ text_of v) (extent_fits k v))

pub length_prefix : (child : ℕ) (p : List ℕ) → length p ≤ 112 → length (padded 16 (digits 4 child ++ digits 2 (length p)) ++ padded 112 p) ≡ 128
length_prefix child p h = length-append (padded 16 (digits 4 child ++ digits 2 (length p))) (padded 112 p) ∙ ap (λ (n : ℕ). 16 + n) (length_padded 112 p h)

module _ {f : List ℕ} {o : ℕ} {out : List ℕ} {at : Next} (L : LeafFits f o out at) {next : List ℕ} (p : next ≡ put 4 out (entry_at at.slot) (entry_of leaf_kind at.place)) where
  pub leaf_lent : LeafCopies f o (mid_of at.place (length next - at.place) next) at.place
  leaf_lent =
      let R = L.room in
      let l = R.limit in let g = R.fits in
      record { extent = L.extent; key = L.key; value = L.value; inside = L.inside; stands = L.stands; room = lent_room R (entry_of leaf_kind at.place) p; zeros = lent_zero R (entry_of leaf_kind at.place) p; low = omega arith }

  module _ {ys : List ℕ} {used : ℕ} (C : LeafCopied f o (mid_of at.place (length next - at.place) next) ys at.place used) where
    pub leaf_end : at.place + used ≤ 524288
    leaf_end = let R = L.room in let l = R.limit in let g = R.fits in omega (arith, (C.is L.extent L.key L.value L.stands).0)

    pub leaf_laid : {r : Next} → r.slot ≡ at.slot + 1 → r.place ≡ at.place + used → LeafLaid f o out at (put_mid at.place (length next - at.place) next ys) r
    leaf_laid a b =
        record {
          of = λ e k v S.
              let w = C.is e k v S in
              lent_laid L.room (entry_of leaf_kind at.place) p (bodies (leaf k v) at.slot at.place) ys used (length_leaf at.slot at.place k v ∙ sym w.0) C.only (w.1 at.slot) a b;
        }

module _ {f : List ℕ} {o : ℕ} {out : List ℕ} {at : Next} (L : PrefixFits f o out at) {next : List ℕ} (p : next ≡ put 4 out (entry_at at.slot) (entry_of prefix_kind at.place)) where
  pub prefix_lent : PrefixCopies f o (mid_of at.place (length next - at.place) next)
  prefix_lent = record { bytes = L.bytes; below = L.below; stands = L.stands; room = lent_room L.room (entry_of prefix_kind at.place) p }

  pub prefix_laid : {ys : List ℕ} {r : Next} → PrefixCopied f o (mid_of at.place (length next - at.place) next) ys (at.slot + 1) → r.slot ≡ at.slot + 1 → r.place ≡ at.place + 128
      → PrefixLaid f o out at (put_mid at.place (length next - at.place) next ys) r
  prefix_laid {ys} C a b =
      record {
        of = λ q below S. lent_laid L.room (entry_of prefix_kind at.place) p (padded 16 (digits 4 (at.slot + 1) ++ digits 2 (length q)) ++ padded 112 q) ys 128 (length_prefix (at.slot + 1) q S.most) C.only (C.is q below S) a b;
      }

module _ {kind : ℕ} {out : List ℕ} {at : Next} (L : NodeFits kind out at) {next : List ℕ} (p : next ≡ put 4 out (entry_at at.slot) (entry_of kind at.place)) where
  pub node_lent : (4 ≤ kind) × (kind ≤ 7) × (body_size kind ≤ length (mid_of at.place (length next - at.place) next)) × Zero (mid_of at.place (length next - at.place) next) 0 (body_size kind)
  node_lent = (L.low, L.high, lent_room L.room (entry_of kind at.place) p, lent_zero L.room (entry_of kind at.place) p)

  pub node_laid : {ys : List ℕ} {r : Next} (n : ℕ) → NodeStarted (mid_of at.place (length next - at.place) next) ys kind n → r.slot ≡ at.slot + 1 → r.place ≡ at.place + body_size kind
      → Laid (entry_of kind at.place ∷ []) (part_body kind n [] []) at out (put_mid at.place (length next - at.place) next ys) r
  node_laid {ys} n C a b =
      lent_laid L.room (entry_of kind at.place) p (part_body kind n [] []) ys (body_size kind) (length_part kind n [] [] (range_inner kind L.low L.high) refl (omega arith)) C.only C.is a b

pub child_laid : {out ys : List ℕ} {place kind i b slot : ℕ} → place ≤ length out → ChildWritten (mid_of place (length out - place) out) ys kind i b slot
    → ChildLaid place kind i b slot out (put_mid place (length out - place) out ys)
child_laid {out} {ys} {place} {kind} {i} {b} {slot} h W =
    record {
      only = tail_only place out h ys W.only;
      more = λ n bs ss x y A H. tail_put place out h (part_body kind n (bs ++ b ∷ []) (ss ++ slot ∷ [])) ys (W.more n bs ss x y A (tail_has place out h (part_body kind n bs ss) H));
    }
