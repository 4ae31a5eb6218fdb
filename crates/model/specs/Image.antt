-- "The packed image": the bytes that document 01 defines for F, N and a set of records.
use Rattle.std.specs.Prelude.{ℕ, zero, suc, ◌+◌, ◌-◌, ◌*◌, ◌/◌, ◌%◌, List, [], ◌∷◌, ◌++◌, length, replicate, take, drop, leb, eqb}
use Rattle.std.proofs.Math.Option.{Option, none, some}
use Rattle.layout.specs.Place.{data_start, prefix_most}
use Rattle.layout.specs.Kind.{leaf_kind, prefix_kind, node4_kind, node16_kind, node48_kind, node256_kind, empty_root_kind, body_size}
use Rattle.layout.specs.Entry.{entry_of}
use Rattle.model.specs.Strings.{pick}
use Rattle.model.specs.Edition.{Edition, text_of}
use Rattle.model.specs.Tree.{Art, Kids, count, carried, extent_of, chain}
use Rattle.model.specs.Tree.Art.{leaf, prefix, node}
use Rattle.model.specs.Tree.Kids.{nil, kid}
use Rattle.model.specs.Records.{Record}
use Rattle.model.specs.State.{put_in}

-- ---- from records to the tree

-- "a node of the smallest kind that holds their next bytes (4, 16, 48, 256)"
abbrev pub smallest : ℕ → ℕ
smallest n = pick (leb n 4) node4_kind (pick (leb n 16) node16_kind (pick (leb n 48) node48_kind node256_kind))

abbrev pub node_of : Kids → Art
node_of ks = node (smallest (count ks)) (carried (smallest (count ks)) ks)

-- every inner node at the smallest kind; "Node48 places ascend too"
abbrev mutual
  pub packed : Art → Art
  packed (leaf k v) = leaf k v
  packed (prefix p a) = prefix p (packed a)
  packed (node kind ks) = node_of (packed_kids ks)

  pub packed_kids : Kids → Kids
  packed_kids nil = nil
  packed_kids (kid c j a ks) = kid c 0 (packed a) (packed_kids ks)

abbrev pub packed_tree : Option Art → Option Art
packed_tree none = none
packed_tree (some a) = some (packed a)

-- the records put into an empty frame, the last one first
abbrev pub put_all : Edition → List Record → Option Art
put_all E [] = none
put_all E (r ∷ rs) = some (put_in E (put_all E rs) r.key r.value).now

-- the tree of a set of records. (specs/Words has it in document 01's words: one record is a Leaf; more share
-- a longest beginning and part at a node of the smallest kind.)
abbrev pub tree_of : Edition → List Record → Option Art
tree_of E rs = packed_tree (put_all E rs)

-- ---- from the tree to bytes

-- a number as w bytes
abbrev pub digits : ℕ → ℕ → List ℕ
digits zero n = []
digits (suc w) n = n % 256 ∷ digits w (n / 256)

abbrev pub numbers : ℕ → List ℕ → List ℕ
numbers w [] = []
numbers w (n ∷ ns) = digits w n ++ numbers w ns

-- "All else is zero."
abbrev pub padded : ℕ → List ℕ → List ℕ
padded n bs = bs ++ replicate (n - length bs) 0

-- slots and bytes of a tree
abbrev mutual
  pub slots : Art → ℕ
  slots (leaf k v) = 1
  slots (prefix p a) = chain (length p) + slots a
  slots (node kind ks) = 1 + slots_kids ks

  pub slots_kids : Kids → ℕ
  slots_kids nil = 0
  slots_kids (kid b j a ks) = slots a + slots_kids ks

abbrev mutual
  pub size : Art → ℕ
  size (leaf k v) = body_size leaf_kind + extent_of k v
  size (prefix p a) = chain (length p) * body_size prefix_kind + size a
  size (node kind ks) = body_size kind + size_kids ks

  pub size_kids : Kids → ℕ
  size_kids nil = 0
  size_kids (kid b j a ks) = size a + size_kids ks

-- a node's bytes, and its children's slots where the first has slot s: "Slots are numbered from 1 in the order of visit, parent
-- first and each child with all below it before the next child"
abbrev pub bytes_of : Kids → List ℕ
bytes_of nil = []
bytes_of (kid b j a ks) = b ∷ bytes_of ks

abbrev pub child_slots : ℕ → Kids → List ℕ
child_slots s nil = []
child_slots s (kid b j a ks) = s ∷ child_slots (s + slots a) ks

-- what a table of n has at the bytes from b on: 0 or, of the bytes bs, what is given to each
abbrev pub spread : ℕ → ℕ → List ℕ → List ℕ → List ℕ
spread zero b bs given = []
spread (suc n) b [] given = 0 ∷ spread n (b + 1) [] given
spread (suc n) b (x ∷ bs) [] = 0 ∷ spread n (b + 1) bs []
spread (suc n) b (x ∷ bs) (g ∷ gs) =
    let here : List ℕ = g ∷ spread n (b + 1) bs gs in
    let on : List ℕ = 0 ∷ spread n (b + 1) (x ∷ bs) (g ∷ gs) in
    pick (eqb b x) here on

-- n numbers from i
abbrev pub up_from : ℕ → ℕ → List ℕ
up_from i zero = []
up_from i (suc n) = i ∷ up_from (i + 1) n

-- the body of an inner node: count, zero, bytes or index, children
abbrev pub node_body : ℕ → List ℕ → List ℕ → List ℕ
node_body kind bs ss =
    pick (eqb kind node4_kind) (padded 4 (digits 2 (length bs)) ++ padded 4 bs ++ padded 16 (numbers 4 ss))
    (pick (eqb kind node16_kind) (padded 8 (digits 2 (length bs)) ++ padded 16 bs ++ padded 64 (numbers 4 ss))
    (pick (eqb kind node48_kind) (padded 8 (digits 2 (length bs)) ++ spread 256 0 bs (up_from 1 (length bs)) ++ padded 192 (numbers 4 ss))
    (padded 8 (digits 2 (length bs)) ++ numbers 4 (spread 256 0 bs ss))))

-- "a chain of Prefixes, each full but the last, in live and packed frames": the entries of n Prefixes, the first of them at o
abbrev pub chain_entries : ℕ → ℕ → List ℕ
chain_entries zero o = []
chain_entries (suc n) o = entry_of prefix_kind o ∷ chain_entries n (o + body_size prefix_kind)

-- and the bodies, which hold the bytes p; the first has slot s, and each names the next slot
abbrev pub chain_bodies : ℕ → List ℕ → ℕ → List ℕ
chain_bodies zero p s = []
chain_bodies (suc n) p s =
    padded 16 (digits 4 (s + 1) ++ digits 2 (length (take prefix_most p))) ++ padded prefix_most (take prefix_most p) ++ chain_bodies n (drop prefix_most p) (s + 1)

-- "bodies follow one another from D in that order, a Leaf's extent right after its body": the entries of a tree whose first
-- body lies at o, and the bodies and extents of one whose first slot is s
abbrev mutual
  pub entries : Art → ℕ → List ℕ
  entries (leaf k v) o = entry_of leaf_kind o ∷ []
  entries (prefix p a) o = chain_entries (chain (length p)) o ++ entries a (o + chain (length p) * body_size prefix_kind)
  entries (node kind ks) o = entry_of kind o ∷ entries_kids ks (o + body_size kind)

  pub entries_kids : Kids → ℕ → List ℕ
  entries_kids nil o = []
  entries_kids (kid b j a ks) o = entries a o ++ entries_kids ks (o + size a)

abbrev mutual
  pub bodies : Art → ℕ → ℕ → List ℕ
  bodies (leaf k v) s o =
      padded (body_size leaf_kind) (digits 4 (o + body_size leaf_kind) ++ digits 2 (length k) ++ digits 2 (length (text_of v)) ++ digits 8 v.stamp) ++ padded (extent_of k v) (k ++ text_of v)
  bodies (prefix p a) s o = chain_bodies (chain (length p)) p s ++ bodies a (s + chain (length p)) (o + chain (length p) * body_size prefix_kind)
  bodies (node kind ks) s o = node_body kind (bytes_of ks) (child_slots (s + 1) ks) ++ bodies_kids ks (s + 1) (o + body_size kind)

  pub bodies_kids : Kids → ℕ → ℕ → List ℕ
  bodies_kids nil s o = []
  bodies_kids (kid b j a ks) s o = bodies a s o ++ bodies_kids ks (s + slots a) (o + size a)

-- edition, F, N, D, B, U, R, X, root slot 1, empty lists, zero
abbrev pub header : Edition → ℕ → ℕ → ℕ → ℕ → ℕ → List ℕ
header E f n b u r = padded 64 (numbers 4 (E.number ∷ f ∷ n ∷ data_start n ∷ b ∷ u ∷ r ∷ 0 ∷ []) ++ digits 2 1)

-- "an EmptyRoot frame as format leaves it if empty"
abbrev pub image_of : Edition → ℕ → ℕ → ℕ → Option Art → List ℕ
image_of E f n r none = padded f (header E f n (data_start n + body_size empty_root_kind) 1 0 ++ padded (4 * n) (digits 4 (entry_of empty_root_kind (data_start n))))
image_of E f n r (some a) =
    padded f (header E f n (data_start n + size a) (slots a) r ++ padded (4 * n) (numbers 4 (entries a (data_start n))) ++ bodies a 1 (data_start n))

abbrev pub image : Edition → ℕ → ℕ → List Record → List ℕ
image E f n rs = image_of E f n (length rs) (tree_of E rs)
