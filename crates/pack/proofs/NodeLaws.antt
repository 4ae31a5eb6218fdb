-- A packed node: its slots, size, entries and bytes are its own and its children's, whatever places these have; and the bytes of its body,
-- with only the first of its children too. Assumes nothing.
use Prim.Native.Nat.{ℕ, suc, ◌+◌, ◌≤◌}
use mathlib.Core.Path.{◌≡◌, refl, ap, ◌∙◌}
use mathlib.Core.List.{List, ◌∷◌, ◌++◌}
use native.Mathlib.Omega.{arith}
use lib.ListN.{length, length-append}
use Rattle.layout.specs.Kind.{Inner, body_size, most}
use Rattle.layout.specs.Kind.Inner.{node4, node16, node48, node256}
use Rattle.layout.specs.Entry.{entry_of}
use Rattle.model.specs.Tree.{Kids, count, unnumbered}
use Rattle.model.specs.Tree.Kids.{nil, kid}
use Rattle.model.specs.Image.{digits, numbers, padded, spread, up_from, smallest, node_of, slots, slots_kids, size, size_kids, bytes_of, child_slots, node_body, entries, entries_kids, bodies, bodies_kids}
use Rattle.model.specs.Frame.{LayKids, pairs}
use Rattle.model.proofs.KidsLaws.{carried_same, carried_slots, carried_size}
use Rattle.model.proofs.PackedBytes.{length_node}
use Rattle.pack_body.specs.Part.{part_body}
use Rattle.pack.specs.Walk.{packed_run}

-- ---- places do not matter

unnumbered_bytes : (ks : Kids) → bytes_of (unnumbered ks) ≡ bytes_of ks
unnumbered_bytes nil = refl
unnumbered_bytes (kid b j a ks) = rw (unnumbered_bytes ks)

unnumbered_child_slots : (s : ℕ) (ks : Kids) → child_slots s (unnumbered ks) ≡ child_slots s ks
unnumbered_child_slots s nil = refl
unnumbered_child_slots s (kid b j a ks) = rw (unnumbered_child_slots (s + slots a) ks)

unnumbered_entries : (o : ℕ) (ks : Kids) → entries_kids (unnumbered ks) o ≡ entries_kids ks o
unnumbered_entries o nil = refl
unnumbered_entries o (kid b j a ks) = rw (unnumbered_entries (o + size a) ks)

unnumbered_bodies : (s o : ℕ) (ks : Kids) → bodies_kids (unnumbered ks) s o ≡ bodies_kids ks s o
unnumbered_bodies s o nil = refl
unnumbered_bodies s o (kid b j a ks) = rw (unnumbered_bodies (s + slots a) (o + size a) ks)

-- a body and what stands behind it
pub glue : (kind : ℕ) {x x' y y' z z' : List ℕ} → x ≡ x' → y ≡ y' → z ≡ z' → node_body kind x y ++ z ≡ node_body kind x' y' ++ z'
glue kind {x} {x'} {y} {y'} {z} {z'} p q r =
    ap (λ (u : List ℕ). node_body kind u y ++ z) p ∙ ap (λ (u : List ℕ). node_body kind x' u ++ z) q ∙ ap (λ (u : List ℕ). node_body kind x' y' ++ u) r

-- ---- a packed node

module _ (ks : Kids) where
  abbrev small : ℕ
  small = smallest (count ks)

  pub node_slots : slots (node_of ks) ≡ 1 + slots_kids ks
  node_slots = ap (λ (n : ℕ). 1 + n) (carried_slots small ks)

  pub node_size : size (node_of ks) ≡ body_size small + size_kids ks
  node_size = ap (λ (n : ℕ). body_size small + n) (carried_size small ks)

  pub node_entries : (o : ℕ) → entries (node_of ks) o ≡ entry_of small o ∷ entries_kids ks (o + body_size small)
  node_entries o = ap (λ (es : List ℕ). entry_of small o ∷ es) (carried_same small ks (λ ls. entries_kids ls (o + body_size small)) (unnumbered_entries (o + body_size small)))

  pub node_bodies : (s o : ℕ) → bodies (node_of ks) s o ≡ node_body small (bytes_of ks) (child_slots (s + 1) ks) ++ bodies_kids ks (s + 1) (o + body_size small)
  node_bodies s o =
      glue small (carried_same small ks bytes_of unnumbered_bytes) (carried_same small ks (child_slots (s + 1)) (unnumbered_child_slots (s + 1)))
      (carried_same small ks (λ ls. bodies_kids ls (s + 1) (o + body_size small)) (unnumbered_bodies (s + 1) (o + body_size small)))

-- as many packed children as there are
pub count_run : (ks : LayKids) → count (packed_run ks) ≡ length (pairs ks)
unfolding pairs
count_run LayKids.nil = refl
count_run (LayKids.kid b j l ks) = ap suc (count_run ks)

-- ---- the body of a node while only the first of its children are there

front : (x y z : List ℕ) → length x ≡ length y → length (x ++ z) ≡ length (y ++ z)
front x y z e = omega (arith, length-append x z, length-append y z)

-- the count's bytes are two, whatever it is
pub length_part : (kind n : ℕ) (bs ss : List ℕ) → Inner kind → length bs ≡ length ss → length ss ≤ most kind → length (part_body kind n bs ss) ≡ body_size kind
unfolding part_body
length_part kind n bs ss node4 e o =
    front (padded 4 (digits 2 n) ++ padded 4 bs) (padded 4 (digits 2 (length bs)) ++ padded 4 bs) (padded 16 (numbers 4 ss)) (front (padded 4 (digits 2 n)) (padded 4 (digits 2 (length bs))) (padded 4 bs) refl)
    ∙ length_node 4 bs ss node4 e o
length_part kind n bs ss node16 e o =
    front (padded 8 (digits 2 n) ++ padded 16 bs) (padded 8 (digits 2 (length bs)) ++ padded 16 bs) (padded 64 (numbers 4 ss)) (front (padded 8 (digits 2 n)) (padded 8 (digits 2 (length bs))) (padded 16 bs) refl)
    ∙ length_node 5 bs ss node16 e o
length_part kind n bs ss node48 e o =
    let index = spread 256 0 bs (up_from 1 (length bs)) in
    front (padded 8 (digits 2 n) ++ index) (padded 8 (digits 2 (length bs)) ++ index) (padded 192 (numbers 4 ss)) (front (padded 8 (digits 2 n)) (padded 8 (digits 2 (length bs))) index refl)
    ∙ length_node 6 bs ss node48 e o
length_part kind n bs ss node256 e o =
    front (padded 8 (digits 2 n)) (padded 8 (digits 2 (length bs))) (numbers 4 (spread 256 0 bs ss)) refl ∙ length_node 7 bs ss node256 e o
