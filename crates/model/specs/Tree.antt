-- The live tree of a frame without slots and places, and what look-up, put and erase make of it: "What a call needs and frees",
-- item by item.
use Rattle.std.specs.Prelude.{ℕ, zero, suc, ◌+◌, ◌-◌, ◌*◌, ◌/◌, List, [], ◌∷◌, ◌++◌, Bool, true, false, length, take, drop, get_or, replicate, ltb, eqb}
use Rattle.std.proofs.Math.Option.{Option, none, some}
use Rattle.layout.specs.Place.{prefix_most}
use Rattle.layout.specs.Kind.{leaf_kind, prefix_kind, node4_kind, node48_kind, most, shrink_mark, kind_up, kind_down}
use Rattle.model.specs.Strings.{pick, same, shared}
use Rattle.model.specs.Edition.{Edition, Value, text_of}

mutual
  pub data Art : Type 0 where
    -- a key and its value
    leaf : List ℕ → Value → Art
    -- bytes that all keys below share, and the node below
    prefix : List ℕ → Art → Art
    -- an inner node's kind and its children
    node : ℕ → Kids → Art

  pub data Kids : Type 0 where
    nil : Kids
    -- the child's byte, its place (of a Node48, 1 to 48; else 0), the child, and the children at higher bytes
    kid : ℕ → ℕ → Art → Kids → Kids

abbrev pub is_inner : Art → Bool
is_inner (leaf k v) = false
is_inner (prefix p a) = false
is_inner (node kind ks) = true

-- the children in use
abbrev pub count : Kids → ℕ
count nil = 0
count (kid b i a ks) = suc (count ks)

-- a child has byte b
abbrev pub has : ℕ → Kids → Bool
has b nil = false
has b (kid c j a ks) = pick (eqb b c) true (has b ks)

-- "An extent is key then value, its size rounded up to a multiple of 8."
abbrev pub up8 : ℕ → ℕ
up8 n = (n + 7) / 8 * 8

abbrev pub extent_of : List ℕ → Value → ℕ
extent_of k v = up8 (length k + length (text_of v))

-- ---- children

-- a child joins in byte order
abbrev pub join : ℕ → ℕ → Art → Kids → Kids
join b i a nil = kid b i a nil
join b i a (kid c j x ks) = pick (ltb b c) (kid b i a (kid c j x ks)) (kid c j x (join b i a ks))

-- some child has place i
abbrev pub taken : ℕ → Kids → Bool
taken i nil = false
taken i (kid c j x ks) = pick (eqb i j) true (taken i ks)

-- "a new child takes the lowest empty place": the first of the n places from i that no child has
abbrev pub lowest_from : ℕ → ℕ → Kids → ℕ
lowest_from zero i ks = i
lowest_from (suc n) i ks = let on = lowest_from n (i + 1) ks in pick (taken i ks) on i

-- the place that a new child of a node of a kind takes
abbrev pub place_in : ℕ → Kids → ℕ
place_in kind ks = pick (eqb kind node48_kind) (lowest_from 48 1 ks) 0

-- "children carried over from another kind take places 1, 2 and so on in byte order"
abbrev pub numbered : ℕ → Kids → Kids
numbered i nil = nil
numbered i (kid b j a ks) = kid b i a (numbered (i + 1) ks)

abbrev pub unnumbered : Kids → Kids
unnumbered nil = nil
unnumbered (kid b j a ks) = kid b 0 a (unnumbered ks)

abbrev pub carried : ℕ → Kids → Kids
carried kind ks = pick (eqb kind node48_kind) (numbered 1 ks) (unnumbered ks)

-- "A shared beginning longer than 112 bytes is a chain of Prefixes, each full but the last": how many Prefixes n bytes come to. The tree has
-- the shared beginning whole.
abbrev pub chain : ℕ → ℕ
chain n = (n + (prefix_most - 1)) / prefix_most

abbrev pub prefixes : ℕ → List ℕ
prefixes n = replicate n prefix_kind

-- a shared beginning becomes a Prefix, if it is not empty
abbrev pub as_prefix : List ℕ → Art → Art
as_prefix [] a = a
as_prefix (x ∷ xs) a = prefix (x ∷ xs) a

-- a Node4 of two children
abbrev pub fork : ℕ → Art → ℕ → Art → Art
fork b x c y = node node4_kind (join b 0 x (kid c 0 y nil))

-- ---- what a call makes

-- the tree (or the children) after it, the kinds of the bodies that it takes and of those that it frees, the size of the
-- extent that it takes, that of the extent that dies, and whether the key was new
pub record Change (A : Type 0) : Type 0 where
  pub now : A
  pub takes : List ℕ
  pub frees : List ℕ
  pub extent : ℕ
  pub dead : ℕ
  pub fresh : Bool

abbrev pub over : {A B : Type 0} → (A → B) → Change A → Change B
over f c = record { now = f c.now; takes = c.takes; frees = c.frees; extent = c.extent; dead = c.dead; fresh = c.fresh }

-- nothing happens
abbrev pub idle : {A : Type 0} → A → Change A
idle a = record { now = a; takes = []; frees = []; extent = 0; dead = 0; fresh = false }

-- ---- look up

abbrev mutual
  pub find_tree : Edition → Art → ℕ → List ℕ → Option Value
  find_tree E (leaf k' v') d k = pick (same k k') (some v') none
  find_tree E (prefix p a) d k =
      let deep = find_tree E a (d + length p) k in
      pick (eqb (shared p (drop d (E.walked k))) (length p)) deep none
  find_tree E (node kind ks) d k = find_kids E ks d k

  pub find_kids : Edition → Kids → ℕ → List ℕ → Option Value
  find_kids E nil d k = none
  find_kids E (kid c j a ks) d k =
      let here = find_tree E a (d + 1) k in
      let on = find_kids E ks d k in
      pick (eqb c (get_or (E.walked k) d 0)) here on

-- ---- put

-- "Put, key absent: the extent, a Leaf, and" these takes; these frees
abbrev pub new_key : List ℕ → Value → Art → List ℕ → List ℕ → Change Art
new_key k v a takes frees = record { now = a; takes = leaf_kind ∷ takes; frees = frees; extent = extent_of k v; dead = 0; fresh = true }

-- at a Leaf. "Put, key present: with the same value length the extent is overwritten and nothing is needed; otherwise a new
-- extent, and the old one's size is added to X." "a Leaf with another key, q walked bytes shared from there: a Node4, and a Prefix
-- if q > 0"
abbrev pub put_leaf : Edition → ℕ → List ℕ → Value → List ℕ → Value → Change Art
put_leaf E d k v k' v' =
    pick (same k k')
    (pick (eqb (length (text_of v)) (length (text_of v')))
    (record { now = leaf k v; takes = []; frees = []; extent = 0; dead = 0; fresh = false })
    (record { now = leaf k v; takes = []; frees = []; extent = extent_of k v; dead = extent_of k' v'; fresh = false }))
    (let r = drop d (E.walked k) in let r' = drop d (E.walked k') in let q = shared r r' in
    new_key k v (as_prefix (take q r) (fork (get_or r q 0) (leaf k v) (get_or r' q 0) (leaf k' v'))) (node4_kind ∷ prefixes (chain q)) [])

-- "a Prefix of p bytes matched for q < p: a Node4; the part before has q bytes, the part after p - 1 - q. Both non-empty: one
-- more Prefix. One: the old body is rewritten. None: it is freed." Of a chain: "need or free as many Prefixes as the frame then has more or
-- fewer, in place of document 01's list"
abbrev pub cut_prefix : Edition → ℕ → List ℕ → Value → List ℕ → Art → Change Art
cut_prefix E d k v p a =
    let r = drop d (E.walked k) in let q = shared p r in
    let after = drop (suc q) p in
    new_key k v
    (as_prefix (take q p) (fork (get_or r q 0) (leaf k v) (get_or p q 0) (as_prefix after a)))
    (node4_kind ∷ prefixes (chain q + chain (length after) - chain (length p)))
    (prefixes (chain (length p) - (chain q + chain (length after))))

-- "an inner node without that byte: nothing if not full, else the next kind, and the old body is freed"
abbrev pub add_child : Edition → ℕ → List ℕ → Value → ℕ → Kids → Change Art
add_child E d k v kind ks =
    let b = get_or (E.walked k) d 0 in
    let grown = carried (kind_up kind) ks in
    pick (ltb (count ks) (most kind))
    (new_key k v (node kind (join b (place_in kind ks) (leaf k v) ks)) [] [])
    (new_key k v (node (kind_up kind) (join b (place_in (kind_up kind) grown) (leaf k v) grown)) (kind_up kind ∷ []) (kind ∷ []))

abbrev mutual
  -- d walked bytes lead to the tree
  pub put_tree : Edition → Art → ℕ → List ℕ → Value → Change Art
  put_tree E (leaf k' v') d k v = put_leaf E d k v k' v'
  put_tree E (prefix p a) d k v =
      let deep = over (λ x. prefix p x) (put_tree E a (d + length p) k v) in
      let cut = cut_prefix E d k v p a in
      pick (eqb (shared p (drop d (E.walked k))) (length p)) deep cut
  put_tree E (node kind ks) d k v =
      let deep = over (λ x. node kind x) (put_kids E ks d k v) in
      let add = add_child E d k v kind ks in
      pick (has (get_or (E.walked k) d 0) ks) deep add

  -- the child at the key's byte is changed, the others stay
  pub put_kids : Edition → Kids → ℕ → List ℕ → Value → Change Kids
  put_kids E nil d k v = idle nil
  put_kids E (kid c j a ks) d k v =
      let here = over (λ x. kid c j x ks) (put_tree E a (d + 1) k v) in
      let on = over (λ xs. kid c j a xs) (put_kids E ks d k v) in
      pick (eqb c (get_or (E.walked k) d 0)) here on

-- ---- erase

-- what is left of a subtree: nothing; of a Node4 one child with its byte; or the tree
pub data Left : Type 0 where
  gone : Left
  one : ℕ → Art → Left
  kept : Art → Left

pub data LeftKids : Type 0 where
  fewer : Kids → LeftKids  -- the child is gone
  still : Kids → LeftKids  -- the child is changed or as it was

-- an inner node after one of its children went: "A Node256 that falls to 37, a Node48 to 12, a Node16 to 3 needs a body of the
-- next smaller kind and frees its own. A Node4 that falls to one child is freed."
abbrev pub less_one : ℕ → Kids → Change Left → Change Left
less_one kind nil c = c
less_one kind (kid b j a nil) c = record { now = one b a; takes = c.takes; frees = kind ∷ c.frees; extent = 0; dead = c.dead; fresh = false }
less_one kind (kid b j a (kid b' j' a' ks)) c =
    let all = kid b j a (kid b' j' a' ks) in
    pick (eqb (count all) (shrink_mark kind))
    (record { now = kept (node (kind_down kind) (carried (kind_down kind) all)); takes = kind_down kind ∷ c.takes; frees = kind ∷ c.frees; extent = 0; dead = c.dead; fresh = false })
    (record { now = kept (node kind all); takes = c.takes; frees = c.frees; extent = 0; dead = c.dead; fresh = false })

-- the tree a is left, and `now` Prefixes stand where `was` stood: the more are needed, the fewer freed
abbrev pub rechained : ℕ → ℕ → Art → Change Left → Change Left
rechained was now a c = record { now = kept a; takes = prefixes (now - was) ++ c.takes; frees = prefixes (was - now) ++ c.frees; extent = c.extent; dead = c.dead; fresh = c.fresh }

-- one child is left, and no Prefix stands above. "If it is a Prefix, the byte joins it .. If it is an inner node .. where there is
-- none, a Prefix is needed."
abbrev pub lone_child : ℕ → Art → Change Left → Change Left
lone_child b (leaf k v) c = over (λ x. kept (leaf k v)) c
lone_child b (prefix p a) c = rechained (chain (length p)) (chain (suc (length p))) (prefix (b ∷ p) a) c
lone_child b (node kind ks) c = rechained 0 (chain 1) (prefix (b ∷ []) (node kind ks)) c

-- one child is left, under a Prefix of bytes p. "If that child is a Leaf, a Prefix just above is freed too. If it is a Prefix, the
-- byte joins it (and a Prefix above joins as well, the lower body then freed). If it is an inner node, a Prefix above takes the byte"
abbrev pub under_prefix : List ℕ → ℕ → Art → Change Left → Change Left
under_prefix p b (leaf k v) c = record { now = kept (leaf k v); takes = c.takes; frees = prefixes (chain (length p)) ++ c.frees; extent = c.extent; dead = c.dead; fresh = c.fresh }
under_prefix p b (prefix p' a) c = rechained (chain (length p) + chain (length p')) (chain (length p + suc (length p'))) (prefix (p ++ b ∷ p') a) c
under_prefix p b (node kind ks) c = rechained (chain (length p)) (chain (length p + 1)) (prefix (p ++ b ∷ []) (node kind ks)) c

abbrev pub close : Left → Change Left → Change Left
close gone c = c
close (one b a) c = lone_child b a c
close (kept a) c = c

abbrev pub close_under : List ℕ → Left → Change Left → Change Left
close_under p gone c = c
close_under p (one b a) c = under_prefix p b a c
close_under p (kept a) c = over (λ x. kept (prefix p a)) c

abbrev pub after_kids : ℕ → LeftKids → Change LeftKids → Change Left
after_kids kind (fewer ks) c = less_one kind ks (over (λ x. gone) c)
after_kids kind (still ks) c = over (λ x. kept (node kind ks)) c

abbrev pub cons_kid : ℕ → ℕ → Art → LeftKids → LeftKids
cons_kid c j a (fewer ks) = fewer (kid c j a ks)
cons_kid c j a (still ks) = still (kid c j a ks)

abbrev pub from_child : ℕ → ℕ → Kids → Left → LeftKids
from_child c j ks gone = fewer ks
from_child c j ks (one b a) = still ks
from_child c j ks (kept a) = still (kid c j a ks)

abbrev mutual
  -- d walked bytes lead to the tree. Of a Node4 with one child left the caller, which knows what stands above, does the rest.
  -- "the Leaf is freed and its extent's size goes to X"
  pub erase_tree : Edition → Art → ℕ → List ℕ → Change Left
  erase_tree E (leaf k' v') d k =
      pick (same k k') (record { now = gone; takes = []; frees = leaf_kind ∷ []; extent = 0; dead = extent_of k' v'; fresh = false }) (idle (kept (leaf k' v')))
  erase_tree E (prefix p a) d k =
      let deep = erase_tree E a (d + length p) k in
      let r = close_under p deep.now deep in
      pick (eqb (shared p (drop d (E.walked k))) (length p)) r (idle (kept (prefix p a)))
  erase_tree E (node kind ks) d k =
      let c = erase_kids E ks d k in after_kids kind c.now c

  pub erase_kids : Edition → Kids → ℕ → List ℕ → Change LeftKids
  erase_kids E nil d k = idle (still nil)
  erase_kids E (kid c j a ks) d k =
      let e = erase_tree E a (d + 1) k in
      let e' = close e.now e in
      let here = over (λ x. from_child c j ks e'.now) e' in
      let on = erase_kids E ks d k in
      pick (eqb c (get_or (E.walked k) d 0)) here (over (λ xs. cons_kid c j a xs) on)
