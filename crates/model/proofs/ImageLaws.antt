-- The packed image of a tree is a good frame, and stands for that tree with nothing freed and nothing dead. So two trees with the
-- same image are equal: the image can be read back. Assumes nothing.
use Prim.Native.Nat.{ℕ, zero, suc, ◌+◌, ◌*◌, ◌%◌, ◌<◌, ◌≤◌}
use mathlib.Core.Path.{◌≡◌, refl, sym, ap, subst, ◌∙◌}
use mathlib.Core.List.{List, [], ◌∷◌, ◌++◌, append_assoc, append-nil}
use mathlib.Core.Bool.{false}
use mathlib.Core.Option.{Option, none, some}
use native.Mathlib.Omega.{arith}
use native.Mathlib.Decide.{dec_lt}
use lib.ListN.{length, replicate, take, drop, length-append, take-append-drop, get_or-eq_default}
use lib.Seq.{take-append_seam, length-take-le}
use lib.Dec.{eqb}
use borrow.Author.Tests.{eqb-true}
use Rattle.layout.specs.Number.{byte_at, Bytes}
use Rattle.layout.specs.Place.{entry_at, data_start, node48_index, prefix_most}
use Rattle.layout.specs.Kind.{leaf_kind, prefix_kind, node48_kind, body_size}
use Rattle.layout.specs.Entry.{entry_of}
use Rattle.layout.proofs.EntryLaws.{entry_lt}
use Rattle.layout.proofs.KindLaws.{inner_range, size_least}
use Rattle.model.specs.Edition.{Edition, FitsFields, Value, text_of}
use Rattle.model.specs.Tree.{Art, Kids, extent_of, chain}
use Rattle.model.specs.Records.{records, records_of}
use Rattle.model.specs.State.{State}
use Rattle.model.specs.Image.{digits, numbers, padded, slots, size, bytes_of, child_slots, node_body, chain_entries, chain_bodies, entries, entries_kids, bodies, bodies_kids, header, image_of}
use Rattle.model.specs.Item.{sum, leafy}
use Rattle.model.specs.Body.{Has, look_kid, LeafAt, PrefixAt}
use Rattle.model.specs.Frame.{Lay, slot_of, Below, tree, pairs, items, Entry, Places, NodeOf, Tree, Trees, RootAt, root_items, FrameLength, SlotCapacity, Clean, Stands}
use Rattle.model.proofs.Well.{Well, WellKids, Zeros, Placed}
use Rattle.model.proofs.GoodState.{TreeOk, tree_slots, tree_size}
use Rattle.model.proofs.StringLaws.{bool_cases}
use Rattle.model.proofs.UniqueLaws.{look_first, look_later}
use Rattle.model.proofs.StandsGood.{records_items}
use Rattle.model.proofs.ItemLaws.{in_yes}
use Rattle.model.proofs.TextLaws.{has_left, has_right, has_at, has_three, has_number, padded_left, padded_zero, padded_past, length_numbers, length_padded}
use Rattle.model.proofs.NodeImage.{firsts, seconds, or_zero, placed, inner_at}
use Rattle.model.proofs.PackedBytes.{length_bytes, length_slots, length_node, take_short, chain_eight, length_chain, length_chain_entries, length_bodies, length_entries, length_table, length_image, bytes_image, extent_fits, inner_eighth, eighths, size_eight}
use Rattle.model.proofs.LayLaws.{lay_of, lay_kids, lay_chain, Firm, well_firm, chain_less, nil_of, slot_chain, art_lay, slot_lay, inner_lay, slots_pos, records_slots, lay_firsts, lay_seconds, lay_length, lay_asc, lay_live, none8, lay_cover, lay_sound, Numbered, InOrder, InOrderKids}
use Rattle.model.proofs.FormatLaws.{has_self, has_fields, packed_numbers, fields_header, fields_lists, entry_holds, data_eight, empty_stands}

-- ---- single bodies

pub leaf_at : (m : List ℕ) (o e n : ℕ) (k : List ℕ) (v : Value) → e < 4294967296 → length k ≤ 65535 → length (text_of v) ≤ 65535 → v.stamp < 18446744073709551616 → length (k ++ text_of v) ≤ n
    → Has m o (padded 16 (digits 4 e ++ digits 2 (length k) ++ digits 2 (length (text_of v)) ++ digits 8 v.stamp)) → Has m e (padded n (k ++ text_of v)) → LeafAt m o e k v
leaf_at m o e n k v he hk hv hs hn H X =
    let C = digits 4 e ++ digits 2 (length k) ++ digits 2 (length (text_of v)) in
    let G = padded_left 16 (C ++ digits 8 v.stamp) H in
    let T = has_three 4 2 2 (digits 4 e) (digits 2 (length k)) (digits 2 (length (text_of v))) refl refl refl (has_left C (digits 8 v.stamp) G) in
    let z : o + 0 ≡ o = omega arith in
    let x = padded_left n (k ++ text_of v) X in
    record {
      room = rw (length-append k (text_of v)) at x.fits;
      extent = rw z (has_number 4 e he T.first);
      key_length = has_number 2 (length k) (omega arith) T.second;
      value_length = has_number 2 (length (text_of v)) (omega arith) T.third;
      stamp = has_number 8 v.stamp hs (has_right C (digits 8 v.stamp) 8 refl G);
      text = x.text;
    }

pub prefix_at : (m : List ℕ) (o c : ℕ) (p : List ℕ) → 1 ≤ length p → length p ≤ prefix_most → c < 4294967296
    → Has m o (padded 16 (digits 4 c ++ digits 2 (length p))) → Has m (o + 16) (padded prefix_most p) → PrefixAt m o p c
prefix_at m o c p h l hc H X =
    let D = digits 4 c ++ digits 2 (length p) in
    let G = padded_left 16 D H in
    let z : o + 0 ≡ o = omega arith in
    let n = length_padded prefix_most p l in
    let fit = X.fits in
    record {
      room = omega arith;
      some = h;
      most = l;
      child = rw z (has_number 4 c hc (has_left (digits 4 c) (digits 2 (length p)) G));
      long = has_number 2 (length p) (omega arith) (has_right (digits 4 c) (digits 2 (length p)) 4 refl G);
      zeros = padded_zero 16 D H;
      text = (padded_left prefix_most p X).text;
      rest = padded_zero prefix_most p X;
    }

-- ---- the places of a packed node's children

places_zero : (m : List ℕ) (o kind : ℕ) (ks : Kids) (s p : ℕ) → eqb kind node48_kind ≡ false → Zeros ks → Places m o kind (lay_kids ks s p)
unfolding Places
places_zero m o kind Kids.nil s p e Z = tt
places_zero m o kind (Kids.kid b j a ks) s p e Z = (rw e (sym Z.0), places_zero m o kind ks (s + slots a) (p + size a) e Z.1)

module _ (E : Edition) (m : List ℕ) (o : ℕ) (qs : List (ℕ × ℕ)) (entry : (b : ℕ) → b < 256 → byte_at m (o + node48_index + b) ≡ or_zero (look_kid b qs)) where
  places_48 : (i : ℕ) (ks : Kids) (path : List ℕ) (lo s p : ℕ) → WellKids E ks path lo → Numbered i ks
      → ((b : ℕ) → lo ≤ b → look_kid b qs ≡ look_kid b (placed i (pairs (lay_kids ks s p)))) → Places m o node48_kind (lay_kids ks s p)
  unfolding Places pairs
  places_48 i Kids.nil path lo s p W N h = tt
  places_48 i (Kids.kid b j a ks) path lo s p W N h =
      let rest = placed (i + 1) (pairs (lay_kids ks (s + slots a) (p + size a))) in (
        entry b W.1 ∙ ap or_zero (h b W.0 ∙ look_first b (b, i) rest refl) ∙ sym N.0,
        places_48 (i + 1) ks path (suc b) (s + slots a) (p + size a) W.3 N.1 (λ c l. h c (omega (arith, W.0)) ∙ look_later c (b, i) rest (λ e. omega arith)),
      )

places_of : (E : Edition) (m : List ℕ) (o kind : ℕ) (ks : Kids) (path : List ℕ) (s p : ℕ) → WellKids E ks path 0 → Placed kind ks → (kind ≡ node48_kind → Numbered 1 ks)
    → (kind ≡ node48_kind → (b : ℕ) → b < 256 → byte_at m (o + node48_index + b) ≡ or_zero (look_kid b (placed 1 (pairs (lay_kids ks s p))))) → Places m o kind (lay_kids ks s p)
places_of E m o kind ks path s p W P N entry = bool_cases (eqb kind node48_kind)
    (λ t. let k = eqb-true kind node48_kind t in rw k (places_48 E m o (placed 1 (pairs (lay_kids ks s p))) (entry k) 1 ks path 0 s p W (N k) (λ b l. refl)))
    (λ t. places_zero m o kind ks s p t (rw t at P))

-- ---- the tree

body_as : (m : List ℕ) (o kind : ℕ) (bs ss bs' ss' : List ℕ) → bs ≡ bs' → ss ≡ ss' → Has m o (node_body kind bs ss) → Has m o (node_body kind bs' ss')
body_as m o kind bs ss bs' ss' e h H = subst (λ (x : List ℕ). Has m o (node_body kind bs' x)) h (subst (λ (x : List ℕ). Has m o (node_body kind x ss)) e H)

pub numbers_append : (xs ys : List ℕ) → numbers 4 (xs ++ ys) ≡ numbers 4 xs ++ numbers 4 ys
numbers_append [] ys = refl
numbers_append (x ∷ xs) ys = rw (numbers_append xs ys)

-- the entries of the slots from s on
abbrev pub Entries : List ℕ → ℕ → List ℕ → Type 0
Entries m s es = Has m (entry_at s) (numbers 4 es)

entries_left : (m : List ℕ) (s : ℕ) (xs ys : List ℕ) → Entries m s (xs ++ ys) → Entries m s xs
entries_left m s xs ys h = has_left (numbers 4 xs) (numbers 4 ys) (rw (numbers_append xs ys) at h)

entries_right : (m : List ℕ) (s : ℕ) (xs ys : List ℕ) (n : ℕ) → length xs ≡ n → Entries m s (xs ++ ys) → Entries m (s + n) ys
entries_right m s xs ys n e h =
    let k = length_numbers xs in
    has_at (entry_at (s + n)) (numbers 4 ys) (omega arith) (has_right (numbers 4 xs) (numbers 4 ys) (4 * n) (omega arith) (rw (numbers_append xs ys) at h))

entry_first : (m : List ℕ) (s kind o : ℕ) (es : List ℕ) → kind ≤ 8 → o < 1048576 → o % 8 ≡ 0 → Entries m s (entry_of kind o ∷ es) → Entry m s kind o
entry_first m s kind o es k l e h =
    entry_holds m s kind o l e (has_number 4 (entry_of kind o) (entry_lt kind o (omega arith) l) (has_left (digits 4 (entry_of kind o)) (numbers 4 es) h))

-- there are fewer slots than bytes
slots_small : (m : List ℕ) (s : ℕ) (es : List ℕ) → length m ≤ 524288 → Entries m s es → s + length es ≤ 131072
slots_small m s es l h = let k = length_numbers es in let fit = h.fits in omega arith

place_small : (m : List ℕ) (o : ℕ) (xs : List ℕ) → length m ≤ 524288 → Has m o xs → o < 1048576
place_small m o xs l h = let fit = h.fits in omega arith

module _ (E : Edition) (fit : FitsFields E) (m : List ℕ) (long : length m ≤ 524288) where
  leaf_here : (k : List ℕ) (v : Value) (path : List ℕ) (s o : ℕ) → Well E (Art.leaf k v) path → o % 8 ≡ 0 → Entries m s (entries (Art.leaf k v) o) → Has m o (bodies (Art.leaf k v) s o)
      → Tree E m path (lay_of (Art.leaf k v) s o)
  unfolding Tree
  leaf_here k v path s o W e es bs =
      let D = padded 16 (digits 4 (o + 16) ++ digits 2 (length k) ++ digits 2 (length (text_of v)) ++ digits 8 v.stamp) in
      let X = padded (extent_of k v) (k ++ text_of v) in
      let H = has_left D X bs in
      let b = H.fits in (
        entry_first m s leaf_kind o [] (omega arith) (omega arith) e es,
        record {
          at = leaf_at m o (o + 16) (extent_of k v) k v (omega arith) (fit.keys k W.starts.legal) W.fits.passes (let a = W.fits.stamp in let b = fit.stamps in omega arith) (extent_fits k v) H (has_right D X 16 refl bs);
          eights = eighths o 16 e refl;
          legal = W.starts.legal.passes;
          begins = ap (λ (w : List ℕ). take (length path) w) W.starts.word ∙ take-append_seam path W.starts.rest;
          stamped = W.fits.stamp;
        },
      )

  node_here : (kind : ℕ) (ks : Kids) (path : List ℕ) (s o : ℕ) → Well E (Art.node kind ks) path → InOrder (Art.node kind ks) → s + slots (Art.node kind ks) ≤ 131072
      → Has m o (node_body kind (bytes_of ks) (child_slots (s + 1) ks)) → NodeOf m o kind (lay_kids ks (s + 1) (o + body_size kind))
  node_here kind ks path s o W O h H =
      let p = o + body_size kind in
      let ps = pairs (lay_kids ks (s + 1) p) in
      let n = lay_length ks (s + 1) p in
      let least = W.0.least in
      let most' = W.0.at_most in
      let H' = body_as m o kind (bytes_of ks) (child_slots (s + 1) ks) (firsts ps) (seconds ps) (lay_firsts ks (s + 1) p) (lay_seconds ks (s + 1) p) H in
      let I = inner_at m o kind ps W.0.sort (rw n most') (lay_asc E ks path 0 (s + 1) p W.1 (omega arith)) (lay_live ks (s + 1) p (omega arith)) H' in
      record {
        inner = I.body;
        least = rw n least;
        at_most = rw n most';
        places = places_of E m o kind ks path (s + 1) p W.1 W.0.places O.0 I.entry;
      }

  -- a Prefix above the rest of its chain is full; above what the chain leads to it need not be
  chain_below : (n : ℕ) (p : List ℕ) (s o : ℕ) (l : Lay) → suc n ≡ chain (length p) → ((q : List ℕ) → Below q l) → Below (take prefix_most p) (lay_chain n (drop prefix_most p) s o l)
  chain_below zero p s o l e B = B (take prefix_most p)
  chain_below (suc n) p s o l e B = length-take-le prefix_most p (omega arith)

  chain_at : (n : ℕ) (p path : List ℕ) (s o : ℕ) (l : Lay) → n ≡ chain (length p) → ((q : List ℕ) → Below q l) → o % 8 ≡ 0 → Entries m s (chain_entries n o) → Has m o (chain_bodies n p s)
      → slot_of l ≡ s + n → Tree E m (path ++ p) l → Tree E m path (lay_chain n p s o l)
  unfolding Tree
  chain_at zero p path s o l e B h es bs q T = let z : path ++ p ≡ path = rw (nil_of p (omega arith)) (append-nil path) in rw z at T
  chain_at (suc n) p path s o l e B h es bs q T =
      let t = take prefix_most p in let u = drop prefix_most p in
      let H = padded 16 (digits 4 (s + 1) ++ digits 2 (length t)) in
      let short = take_short prefix_most p in
      let X = has_three 16 prefix_most (n * 128) H (padded prefix_most t) (chain_bodies n u (s + 1)) refl (length_padded prefix_most t short) (length_chain n u (s + 1)) bs in
      let few = slots_small m s (chain_entries (suc n) o) long es in
      let z : path ++ t ++ u ≡ path ++ p = append_assoc path t u ∙ ap (λ (x : List ℕ). path ++ x) (take-append-drop prefix_most p) in
      let c : slot_of (lay_chain n u (s + 1) (o + 128) l) ≡ s + 1 = slot_chain n u (s + 1) (o + 128) l (omega arith) in
      let room = X.room in (
        entry_first m s prefix_kind o (chain_entries n (o + 128)) (omega arith) (omega arith) h es,
        rw c (prefix_at m o (s + 1) t (take_some p (omega arith)) short (omega arith) X.first X.second),
        chain_below n p (s + 1) (o + 128) l e B,
        chain_at n u (path ++ t) (s + 1) (o + 128) l (chain_less n p e) B (eighths o 128 h refl) (entries_right m s (entry_of prefix_kind o ∷ []) (chain_entries n (o + 128)) 1 refl es) X.third
            (omega arith) (rw z T),
      )
    where
      take_some : (p : List ℕ) → 1 ≤ length p → 1 ≤ length (take prefix_most p)
      take_some [] g = absurd (omega arith)
      take_some (x ∷ p) g = omega arith

  mutual
    unfolding Tree Trees

    pub tree_at : (a : Art) (path : List ℕ) (s o : ℕ) → Well E a path → InOrder a → o % 8 ≡ 0 → Entries m s (entries a o) → Has m o (bodies a s o) → Tree E m path (lay_of a s o)
    tree_at (Art.leaf k v) path s o W O e es bs = leaf_here k v path s o W e es bs
    tree_at (Art.prefix p a) path s o W O e es bs =
        let n = chain (length p) in
        let l = lay_of a (s + n) (o + n * 128) in
        let here = tree_at a (path ++ p) (s + n) (o + n * 128) W.1 O (eighths o (n * 128) e (chain_eight n))
        (entries_right m s (chain_entries n o) (entries a (o + n * 128)) n (length_chain_entries n o) es) (has_right (chain_bodies n p s) (bodies a (s + n) (o + n * 128)) (n * 128) (length_chain n p s) bs) in
        chain_at n p path s o l refl (λ q. inner_lay a (s + n) (o + n * 128) q W.0.inner) e (entries_left m s (chain_entries n o) (entries a (o + n * 128)) es)
        (has_left (chain_bodies n p s) (bodies a (s + n) (o + n * 128)) bs) (slot_lay a (s + n) (o + n * 128)) here
    tree_at (Art.node kind ks) path s o W O e es bs =
        let B = node_body kind (bytes_of ks) (child_slots (s + 1) ks) in
        let rest = bodies_kids ks (s + 1) (o + body_size kind) in
        let n = length_slots (s + 1) ks in
        let len = length_node kind (bytes_of ks) (child_slots (s + 1) ks) W.0.sort (length_bytes ks ∙ sym n) (rw n W.0.at_most) in
        let few = slots_small m s (entries (Art.node kind ks) o) long es in
        let range = inner_range W.0.sort in
        let H = has_left B rest bs in (
          entry_first m s kind o (entries_kids ks (o + body_size kind)) (omega arith) (place_small m o B long H) e es,
          node_here kind ks path s o W O (omega (arith, length_entries (Art.node kind ks) o)) H,
          trees_at ks path 0 (s + 1) (o + body_size kind) W.1 O.1 (eighths o (body_size kind) e (inner_eighth W.0.sort))
              (entries_right m s (entry_of kind o ∷ []) (entries_kids ks (o + body_size kind)) 1 refl es) (has_right B rest (body_size kind) len bs),
        )

    trees_at : (ks : Kids) (path : List ℕ) (lo s o : ℕ) → WellKids E ks path lo → InOrderKids ks → o % 8 ≡ 0 → Entries m s (entries_kids ks o) → Has m o (bodies_kids ks s o) → Trees E m path (lay_kids ks s o)
    trees_at Kids.nil path lo s o W O e es bs = tt
    trees_at (Kids.kid b j a ks) path lo s o W O e es bs = (
      tree_at a (path ++ b ∷ []) s o W.2 O.0 e (entries_left m s (entries a o) (entries_kids ks (o + size a)) es) (has_left (bodies a s o) (bodies_kids ks (s + slots a) (o + size a)) bs),
      trees_at ks path (suc b) (s + slots a) (o + size a) W.3 O.1 (eighths o (size a) e (size_eight E a (path ++ b ∷ []) W.2))
          (entries_right m s (entries a o) (entries_kids ks (o + size a)) (slots a) (length_entries a o) es)
          (has_right (bodies a s o) (bodies_kids ks (s + slots a) (o + size a)) (size a) (length_bodies E a (path ++ b ∷ []) W.2 s o) bs),
    )

-- ---- the whole image

root_tree : (E : Edition) (m : List ℕ) (l : Lay) → Tree E m [] l → RootAt E m (tree l)
unfolding RootAt
root_tree E m l T = T

tree_items : (l : Lay) → root_items (tree l) ≡ items l
unfolding root_items
tree_items l = refl

-- the state that a packed frame stands for
abbrev pub image_state : ℕ → ℕ → Option Art → State
image_state f n t = record {
  F = f;
  N = n;
  B = data_start n + tree_size t;
  U = tree_slots t;
  R = length (records_of t);
  X = 0;
  free = replicate 9 0;
  tree = t;
}

abbrev pub TreeInOrder : Option Art → Type 0
TreeInOrder none = Unit {0}
TreeInOrder (some a) = InOrder a

-- what an image needs: F and N within their limits, and room for the tree
pub record ImageFits (f n : ℕ) (t : Option Art) : Type 0 where
  pub limits : FrameLength f
  pub cap : SlotCapacity n
  pub room : data_start n + 8 ≤ f
  pub slots_fit : tree_slots t ≤ n
  pub bytes_fit : data_start n + tree_size t ≤ f

-- a frame that has the header, the entries and the bodies of a packed tree
pub record Laid (E : Edition) (f n : ℕ) (a : Art) (m : List ℕ) : Type 0 where
  pub long : length m ≡ f
  pub bytes : Bytes m
  pub head : Has m 0 (header E f n (data_start n + size a) (slots a) (length (records a)))
  pub table : Has m 64 (padded (4 * n) (numbers 4 (entries a (data_start n))))
  pub bodies : Has m (data_start n) (bodies a 1 (data_start n))
  pub past : (x : ℕ) → data_start n + size a ≤ x → byte_at m x ≡ 0

size_some : (E : Edition) (a : Art) (path : List ℕ) → Well E a path → 8 ≤ size a
size_some E (Art.leaf k v) path W = omega arith
size_some E (Art.prefix p a) path W = let o = W.0.some in omega arith
size_some E (Art.node kind ks) path W = let r = inner_range W.0.sort in omega (arith, size_least kind (omega arith) (omega arith))

counted_tree : (E : Edition) (m : List ℕ) (a : Art) (d : ℕ) → Firm a → Tree E m [] (lay_of a 1 d) → length (records a) ≡ sum leafy (root_items (tree (lay_of a 1 d)))
counted_tree E m a d F T = rw (tree_items (lay_of a 1 d), records_items E m [] (lay_of a 1 d) T, art_lay a 1 d F)

-- bodies and extents lie end to end, so what they do not cover lies past them
laid_clean : (d : ℕ) (a : Art) (m : List ℕ) → ((x : ℕ) → d + size a ≤ x → byte_at m x ≡ 0) → Clean m d (root_items (tree (lay_of a 1 d)))
laid_clean d a m past =
    rw (tree_items (lay_of a 1 d))
    record {
      zero = λ x p c. elim (dec_lt x (d + size a)) [
        | yes q ↦ absurd (omega (arith, lay_cover a 1 d x, in_yes d (size a) x p q))
        | no q ↦ past x (omega arith)
      ];
    }

pub laid_stands : (E : Edition) (f n : ℕ) (a : Art) (m : List ℕ) → FitsFields E → Well E a [] → InOrder a → ImageFits f n (some a) → Laid E f n a m
    → Stands E m (image_state f n (some a))
laid_stands E f n a m fit W O F L =
    let d = data_start n in
    let r = length (records a) in
    let limits = F.limits in
    let cap = F.cap in
    let slots_fit = F.slots_fit in
    let bytes_fit = F.bytes_fit in
    let few = records_slots a in
    let long = L.long in
    let some = size_some E a [] W in
    let d8 : d % 8 ≡ 0 = data_eight n cap.0 in
    let fields = has_fields E f n (d + size a) (slots a) r m fit.number (omega arith) (omega arith) (omega arith) (omega arith) (omega arith) L.head in
    let here = tree_at E fit m (omega arith) a [] 1 d W O d8 (padded_left (4 * n) (numbers 4 (entries a d)) L.table) L.bodies in
    let k = length_numbers (entries a d) in
    let k' = length_entries a d in
    record {
      bytes = L.bytes;
      nums = packed_numbers E f n (d + size a) (slots a) r;
      lists = none8;
      root = tree (lay_of a 1 d);
      heap = record {
        header = fields_header E f n (d + size a) (slots a) r m fields long limits cap (eighths d (size a) d8 (size_eight E a [] W), omega arith, bytes_fit) (slots_pos a, slots_fit)
            (λ x p q. padded_past (4 * n) (numbers 4 (entries a d)) L.table x (omega arith) q);
        lists = fields_lists E f n (d + size a) (slots a) r m fields;
        clean = λ w. laid_clean d a m L.past;
        sound = rw (tree_items (lay_of a 1 d)) (lay_sound a d);
      };
      edition_is = refl;
      root_is = sym (slot_lay a 1 d);
      root_at = root_tree E m (lay_of a 1 d) here;
      counted = counted_tree E m a d (well_firm E a [] W) here;
      state = rw (art_lay a 1 d (well_firm E a [] W));
    }

pub image_laid : (E : Edition) (f n : ℕ) (a : Art) → Well E a [] → ImageFits f n (some a) → Laid E f n a (image_of E f n (length (records a)) (some a))
image_laid E f n a W F =
    let d = data_start n in
    let r = length (records a) in
    let m = image_of E f n r (some a) in
    let H = header E f n (d + size a) (slots a) r in
    let T = padded (4 * n) (numbers 4 (entries a d)) in
    let B = bodies a 1 d in
    let P = has_three 64 (4 * n) (size a) H T B refl (length_table a n d F.slots_fit) (length_bodies E a [] W 1 d) (padded_left f (H ++ T ++ B) (has_self m)) in
    record {
      long = length_image E f n r (some a) W F.slots_fit F.bytes_fit;
      bytes = bytes_image E f n r (some a) W;
      head = P.first;
      table = P.second;
      bodies = has_at d B (omega arith) P.third;
      past = λ x p. past_end f (H ++ T ++ B) m x (has_self m) (length_image E f n r (some a) W F.slots_fit F.bytes_fit)
          (omega (arith, length-append (H ++ T) B, length-append H T, length_table a n d F.slots_fit, length_bodies E a [] W 1 d));
    }
  where
    past_end : (f : ℕ) (bs m : List ℕ) (x : ℕ) → Has m 0 (padded f bs) → length m ≡ f → length bs ≤ x → byte_at m x ≡ 0
    past_end f bs m x h l p = elim (dec_lt x f) [ yes q ↦ padded_past f bs h x (omega arith) (omega arith) | no q ↦ get_or-eq_default m 0 (omega arith) ]

-- the packed image stands for its tree
pub image_stands : (E : Edition) (f n : ℕ) (t : Option Art) → FitsFields E → TreeOk E t → TreeInOrder t → ImageFits f n t
    → Stands E (image_of E f n (length (records_of t)) t) (image_state f n t)
image_stands E f n none fit W O F = empty_stands E f n fit.number F.limits F.cap F.room
image_stands E f n (some a) fit W O F = laid_stands E f n a (image_of E f n (length (records a)) (some a)) fit W O F (image_laid E f n a W F)
