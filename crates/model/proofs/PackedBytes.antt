-- The packed image's bytes: how many there are, that all are below 256, and that sizes are multiples of 8. Assumes nothing.
use Prim.Native.Nat.{ℕ, zero, suc, ◌+◌, ◌*◌, ◌/◌, ◌%◌, ◌≤◌}
use mathlib.Core.Path.{◌≡◌, refl, sym, ap, ◌∙◌}
use mathlib.Core.List.{List, [], ◌∷◌, ◌++◌}
use mathlib.Core.Option.{Option, none, some}
use native.Mathlib.Omega.{arith}
use lib.ListN.{length, take, drop, length-append}
use Rattle.layout.specs.Number.{Bytes}
use Rattle.layout.specs.Place.{data_start, prefix_most}
use Rattle.layout.specs.Kind.{empty_root_kind, Inner, body_size, most}
use Rattle.layout.specs.Kind.Inner.{node4, node16, node48, node256}
use Rattle.layout.specs.Entry.{entry_of}
use Rattle.layout.proofs.KindLaws.{inner_range, size_eighth}
use Rattle.model.specs.Strings.{All, Byte}
use Rattle.model.specs.Edition.{Edition, Value, text_of}
use Rattle.model.specs.Tree.{Art, Kids, count, extent_of, chain}
use Rattle.model.specs.Tree.Art.{leaf, prefix, node}
use Rattle.model.specs.Tree.Kids.{nil, kid}
use Rattle.model.specs.Image.{digits, numbers, padded, slots, slots_kids, size, size_kids, bytes_of, child_slots, spread, up_from, node_body, chain_entries, chain_bodies, entries, entries_kids, bodies, bodies_kids, header, image_of}
use Rattle.model.proofs.Well.{Well, WellKids}
use Rattle.model.proofs.GoodState.{TreeOk, tree_slots, tree_size}
use Rattle.model.proofs.StringLaws.{all_append, eqb_cases}
use Rattle.model.proofs.TextLaws.{length_numbers, length_padded, all_bytes, all_padded, all_digits, all_numbers}
use Rattle.model.proofs.NodeImage.{length_spread}

-- ---- lengths

pub length_bytes : (ks : Kids) → length (bytes_of ks) ≡ count ks
length_bytes nil = refl
length_bytes (kid b j a ks) = ap suc (length_bytes ks)

pub length_slots : (s : ℕ) (ks : Kids) → length (child_slots s ks) ≡ count ks
length_slots s nil = refl
length_slots s (kid b j a ks) = ap suc (length_slots (s + slots a) ks)

part : (x : List ℕ) (m n : ℕ) (y : List ℕ) → length x ≡ m → length y ≤ n → length (x ++ padded n y) ≡ m + n
part x m n y e o = length-append x (padded n y) ∙ rw (e, length_padded n y o)

pub length_node : (kind : ℕ) (bs ss : List ℕ) → Inner kind → length bs ≡ length ss → length ss ≤ most kind → length (node_body kind bs ss) ≡ body_size kind
length_node kind bs ss node4 e o =
    let k = length_numbers ss in
    part (padded 4 (digits 2 (length bs)) ++ padded 4 bs) 8 16 (numbers 4 ss) (part (padded 4 (digits 2 (length bs))) 4 4 bs refl (omega arith)) (omega arith)
length_node kind bs ss node16 e o =
    let k = length_numbers ss in
    part (padded 8 (digits 2 (length bs)) ++ padded 16 bs) 24 64 (numbers 4 ss) (part (padded 8 (digits 2 (length bs))) 8 16 bs refl (omega arith)) (omega arith)
length_node kind bs ss node48 e o =
    let k = length_numbers ss in
    part (padded 8 (digits 2 (length bs)) ++ spread 256 0 bs (up_from 1 (length bs))) 264 192 (numbers 4 ss)
    (length-append (padded 8 (digits 2 (length bs))) (spread 256 0 bs (up_from 1 (length bs))) ∙ ap (λ (z : ℕ). 8 + z) (length_spread 256 0 bs (up_from 1 (length bs)))) (omega arith)
length_node kind bs ss node256 e o =
    length-append (padded 8 (digits 2 (length bs))) (numbers 4 (spread 256 0 bs ss))
    ∙ ap (λ (z : ℕ). 8 + z) (length_numbers (spread 256 0 bs ss) ∙ ap (λ (z : ℕ). 4 * z) (length_spread 256 0 bs ss))

pub extent_fits : (k : List ℕ) (v : Value) → length (k ++ text_of v) ≤ extent_of k v
extent_fits k v = let n = length-append k (text_of v) in omega arith

pub take_short : (n : ℕ) (p : List ℕ) → length (take n p) ≤ n
take_short zero p = omega arith
take_short (suc n) [] = omega arith
take_short (suc n) (x ∷ p) = let on = take_short n p in omega arith

pub chain_eight : (n : ℕ) → n * 128 % 8 ≡ 0
chain_eight n = omega arith

pub length_chain : (n : ℕ) (p : List ℕ) (s : ℕ) → length (chain_bodies n p s) ≡ n * 128
length_chain zero p s = refl
length_chain (suc n) p s =
    let H = padded 16 (digits 4 (s + 1) ++ digits 2 (length (take prefix_most p))) in
    let on = length_chain n (drop prefix_most p) (s + 1) in
    omega (arith, length-append (H ++ padded prefix_most (take prefix_most p)) (chain_bodies n (drop prefix_most p) (s + 1)), part H 16 prefix_most (take prefix_most p) refl (take_short prefix_most p))

pub length_chain_entries : (n o : ℕ) → length (chain_entries n o) ≡ n
length_chain_entries zero o = refl
length_chain_entries (suc n) o = ap suc (length_chain_entries n (o + 128))

module _ (E : Edition) where
  mutual
    pub length_bodies : (a : Art) (path : List ℕ) → Well E a path → (s o : ℕ) → length (bodies a s o) ≡ size a
    length_bodies (leaf k v) path h s o = part (padded 16 (digits 4 (o + 16) ++ digits 2 (length k) ++ digits 2 (length (text_of v)) ++ digits 8 v.stamp)) 16 (extent_of k v) (k ++ text_of v) refl (extent_fits k v)
    length_bodies (prefix p a) path h s o =
        let n = chain (length p) in
        length-append (chain_bodies n p s) (bodies a (s + n) (o + n * 128)) ∙ rw (length_chain n p s, length_bodies a (path ++ p) h.1 (s + n) (o + n * 128))
    length_bodies (node kind ks) path h s o =
        let m = length_bytes ks in let n = length_slots (s + 1) ks in
        let here = length_node kind (bytes_of ks) (child_slots (s + 1) ks) h.0.sort (m ∙ sym n) (rw n h.0.at_most) in
        length-append (node_body kind (bytes_of ks) (child_slots (s + 1) ks)) (bodies_kids ks (s + 1) (o + body_size kind))
        ∙ rw (here, length_bodies_kids ks path 0 h.1 (s + 1) (o + body_size kind))

    pub length_bodies_kids : (ks : Kids) (path : List ℕ) (lo : ℕ) → WellKids E ks path lo → (s o : ℕ) → length (bodies_kids ks s o) ≡ size_kids ks
    length_bodies_kids nil path lo h s o = refl
    length_bodies_kids (kid c j a ks) path lo h s o =
        length-append (bodies a s o) (bodies_kids ks (s + slots a) (o + size a))
        ∙ rw (length_bodies a (path ++ c ∷ []) h.2 s o, length_bodies_kids ks path (suc c) h.3 (s + slots a) (o + size a))

mutual
  pub length_entries : (a : Art) (o : ℕ) → length (entries a o) ≡ slots a
  length_entries (leaf k v) o = refl
  length_entries (prefix p a) o =
      let n = chain (length p) in
      length-append (chain_entries n o) (entries a (o + n * 128)) ∙ rw (length_chain_entries n o, length_entries a (o + n * 128))
  length_entries (node kind ks) o = let on = length_entries_kids ks (o + body_size kind) in omega arith

  pub length_entries_kids : (ks : Kids) (o : ℕ) → length (entries_kids ks o) ≡ slots_kids ks
  length_entries_kids nil o = refl
  length_entries_kids (kid c j a ks) o = length-append (entries a o) (entries_kids ks (o + size a)) ∙ rw (length_entries a o, length_entries_kids ks (o + size a))

-- the table of entries
pub length_table : (a : Art) (n o : ℕ) → slots a ≤ n → length (padded (4 * n) (numbers 4 (entries a o))) ≡ 4 * n
length_table a n o h = length_padded (4 * n) (numbers 4 (entries a o)) (omega (arith, length_numbers (entries a o), length_entries a o))

pub length_header : (E : Edition) (f n b u r : ℕ) → length (header E f n b u r) ≡ 64
length_header E f n b u r = refl

pub length_image : (E : Edition) (f n r : ℕ) (t : Option Art) → TreeOk E t → tree_slots t ≤ n → data_start n + tree_size t ≤ f → length (image_of E f n r t) ≡ f
length_image E f n r none h o l =
    let H = header E f n (data_start n + 8) 1 0 in
    length_padded f (H ++ padded (4 * n) (digits 4 (entry_of empty_root_kind (data_start n)))) (omega (arith, part H 64 (4 * n) (digits 4 (entry_of empty_root_kind (data_start n))) refl (omega arith)))
length_image E f n r (some a) h o l =
    let H = header E f n (data_start n + size a) (slots a) r in
    let T = padded (4 * n) (numbers 4 (entries a (data_start n))) in
    let B = bodies a 1 (data_start n) in
    let x = length-append H T in let y = length-append (H ++ T) B in
    length_padded f (H ++ T ++ B) (omega (arith, length_header E f n (data_start n + size a) (slots a) r, length_table a n (data_start n) o, length_bodies E a [] h 1 (data_start n)))

-- ---- all are bytes

all_spread : (n b : ℕ) (bs gs : List ℕ) → All Byte gs → All Byte (spread n b bs gs)
all_spread zero b bs gs h = tt
all_spread (suc n) b [] gs h = (omega arith, all_spread n (b + 1) [] gs h)
all_spread (suc n) b (x ∷ bs) [] h = (omega arith, all_spread n (b + 1) bs [] tt)
all_spread (suc n) b (x ∷ bs) (g ∷ gs) h = eqb_cases b x
    (λ t q. rw t (h.0, all_spread n (b + 1) bs gs h.1))
    (λ t q. rw t (omega arith, all_spread n (b + 1) (x ∷ bs) (g ∷ gs) h))

all_up : (i n : ℕ) → i + n ≤ 256 → All Byte (up_from i n)
all_up i zero h = tt
all_up i (suc n) h = (omega arith, all_up (i + 1) n (omega arith))

all_three : (x y z : List ℕ) → All Byte x → All Byte y → All Byte z → All Byte (x ++ y ++ z)
all_three x y z a b c = all_append Byte (x ++ y) z (all_append Byte x y a b) c

all_node : (kind : ℕ) (bs ss : List ℕ) → Inner kind → length bs ≤ most kind → All Byte bs → All Byte (node_body kind bs ss)
all_node kind bs ss node4 l h =
    all_three (padded 4 (digits 2 (length bs))) (padded 4 bs) (padded 16 (numbers 4 ss)) (all_padded 4 (digits 2 (length bs)) (all_digits 2 (length bs))) (all_padded 4 bs h) (all_padded 16 (numbers 4 ss) (all_numbers ss))
all_node kind bs ss node16 l h =
    all_three (padded 8 (digits 2 (length bs))) (padded 16 bs) (padded 64 (numbers 4 ss)) (all_padded 8 (digits 2 (length bs)) (all_digits 2 (length bs))) (all_padded 16 bs h) (all_padded 64 (numbers 4 ss) (all_numbers ss))
all_node kind bs ss node48 l h =
    all_three (padded 8 (digits 2 (length bs))) (spread 256 0 bs (up_from 1 (length bs))) (padded 192 (numbers 4 ss)) (all_padded 8 (digits 2 (length bs)) (all_digits 2 (length bs)))
    (all_spread 256 0 bs (up_from 1 (length bs)) (all_up 1 (length bs) (omega arith))) (all_padded 192 (numbers 4 ss) (all_numbers ss))
all_node kind bs ss node256 l h =
    all_append Byte (padded 8 (digits 2 (length bs))) (numbers 4 (spread 256 0 bs ss)) (all_padded 8 (digits 2 (length bs)) (all_digits 2 (length bs))) (all_numbers (spread 256 0 bs ss))

all_kid_bytes : (E : Edition) (ks : Kids) (path : List ℕ) (lo : ℕ) → WellKids E ks path lo → All Byte (bytes_of ks)
all_kid_bytes E nil path lo h = tt
all_kid_bytes E (kid c j a ks) path lo h = (h.1, all_kid_bytes E ks path (suc c) h.3)

all_take : (n : ℕ) (p : List ℕ) → All Byte p → All Byte (take n p)
all_take zero p h = tt
all_take (suc n) [] h = tt
all_take (suc n) (x ∷ p) h = (h.0, all_take n p h.1)

all_drop : (n : ℕ) (p : List ℕ) → All Byte p → All Byte (drop n p)
all_drop zero p h = h
all_drop (suc n) [] h = tt
all_drop (suc n) (x ∷ p) h = all_drop n p h.1

all_chain : (n : ℕ) (p : List ℕ) (s : ℕ) → All Byte p → All Byte (chain_bodies n p s)
all_chain zero p s h = tt
all_chain (suc n) p s h =
    let D = digits 4 (s + 1) ++ digits 2 (length (take prefix_most p)) in
    all_three (padded 16 D) (padded prefix_most (take prefix_most p)) (chain_bodies n (drop prefix_most p) (s + 1))
    (all_padded 16 D (all_append Byte (digits 4 (s + 1)) (digits 2 (length (take prefix_most p))) (all_digits 4 (s + 1)) (all_digits 2 (length (take prefix_most p)))))
    (all_padded prefix_most (take prefix_most p) (all_take prefix_most p h)) (all_chain n (drop prefix_most p) (s + 1) (all_drop prefix_most p h))

module _ (E : Edition) where
  mutual
    pub all_bodies : (a : Art) (path : List ℕ) → Well E a path → (s o : ℕ) → All Byte (bodies a s o)
    all_bodies (leaf k v) path h s o =
        let C = digits 4 (o + 16) ++ digits 2 (length k) ++ digits 2 (length (text_of v)) in
        let D = C ++ digits 8 v.stamp in
        all_append Byte (padded 16 D) (padded (extent_of k v) (k ++ text_of v))
        (all_padded 16 D (all_append Byte C (digits 8 v.stamp)
        (all_three (digits 4 (o + 16)) (digits 2 (length k)) (digits 2 (length (text_of v))) (all_digits 4 (o + 16)) (all_digits 2 (length k)) (all_digits 2 (length (text_of v)))) (all_digits 8 v.stamp)))
        (all_padded (extent_of k v) (k ++ text_of v) (all_append Byte k (text_of v) h.starts.legal.bytes h.fits.bytes))
    all_bodies (prefix p a) path h s o =
        let n = chain (length p) in
        all_append Byte (chain_bodies n p s) (bodies a (s + n) (o + n * 128)) (all_chain n p s h.0.chars) (all_bodies a (path ++ p) h.1 (s + n) (o + n * 128))
    all_bodies (node kind ks) path h s o =
        all_append Byte (node_body kind (bytes_of ks) (child_slots (s + 1) ks)) (bodies_kids ks (s + 1) (o + body_size kind))
        (all_node kind (bytes_of ks) (child_slots (s + 1) ks) h.0.sort (rw (length_bytes ks) h.0.at_most) (all_kid_bytes E ks path 0 h.1))
        (all_bodies_kids ks path 0 h.1 (s + 1) (o + body_size kind))

    all_bodies_kids : (ks : Kids) (path : List ℕ) (lo : ℕ) → WellKids E ks path lo → (s o : ℕ) → All Byte (bodies_kids ks s o)
    all_bodies_kids nil path lo h s o = tt
    all_bodies_kids (kid c j a ks) path lo h s o =
        all_append Byte (bodies a s o) (bodies_kids ks (s + slots a) (o + size a)) (all_bodies a (path ++ c ∷ []) h.2 s o) (all_bodies_kids ks path (suc c) h.3 (s + slots a) (o + size a))

all_header : (E : Edition) (f n b u r : ℕ) → All Byte (header E f n b u r)
all_header E f n b u r =
    let N = E.number ∷ f ∷ n ∷ data_start n ∷ b ∷ u ∷ r ∷ 0 ∷ [] in
    all_padded 64 (numbers 4 N ++ digits 2 1) (all_append Byte (numbers 4 N) (digits 2 1) (all_numbers N) (all_digits 2 1))

pub bytes_image : (E : Edition) (f n r : ℕ) (t : Option Art) → TreeOk E t → Bytes (image_of E f n r t)
bytes_image E f n r none h =
    let H = header E f n (data_start n + 8) 1 0 in
    let T = padded (4 * n) (digits 4 (entry_of empty_root_kind (data_start n))) in
    all_bytes (padded f (H ++ T)) (all_padded f (H ++ T) (all_append Byte H T (all_header E f n (data_start n + 8) 1 0) (all_padded (4 * n) (digits 4 (entry_of empty_root_kind (data_start n))) (all_digits 4 (entry_of empty_root_kind (data_start n))))))
bytes_image E f n r (some a) h =
    let H = header E f n (data_start n + size a) (slots a) r in
    let T = padded (4 * n) (numbers 4 (entries a (data_start n))) in
    let B = bodies a 1 (data_start n) in
    all_bytes (padded f (H ++ T ++ B)) (all_padded f (H ++ T ++ B)
    (all_three H T B (all_header E f n (data_start n + size a) (slots a) r) (all_padded (4 * n) (numbers 4 (entries a (data_start n))) (all_numbers (entries a (data_start n)))) (all_bodies E a [] h 1 (data_start n))))

-- ---- multiples of 8

pub inner_eighth : {kind : ℕ} → Inner kind → body_size kind % 8 ≡ 0
inner_eighth {kind} i = let r = inner_range i in size_eighth kind (omega arith) (omega arith)

pub eighths : (a b : ℕ) → a % 8 ≡ 0 → b % 8 ≡ 0 → (a + b) % 8 ≡ 0
eighths a b h g = omega arith

module _ (E : Edition) where
  mutual
    pub size_eight : (a : Art) (path : List ℕ) → Well E a path → size a % 8 ≡ 0
    size_eight (leaf k v) path h = up (length k + length (text_of v))
      where
        up : (n : ℕ) → (16 + (n + 7) / 8 * 8) % 8 ≡ 0
        up n = omega arith
    size_eight (prefix p a) path h = eighths (chain (length p) * 128) (size a) (chain_eight (chain (length p))) (size_eight a (path ++ p) h.1)
    size_eight (node kind ks) path h = eighths (body_size kind) (size_kids ks) (inner_eighth h.0.sort) (size_eight_kids ks path 0 h.1)

    pub size_eight_kids : (ks : Kids) (path : List ℕ) (lo : ℕ) → WellKids E ks path lo → size_kids ks % 8 ≡ 0
    size_eight_kids nil path lo h = refl
    size_eight_kids (kid c j a ks) path lo h = eighths (size a) (size_kids ks) (size_eight a (path ++ c ∷ []) h.2) (size_eight_kids ks path (suc c) h.3)
