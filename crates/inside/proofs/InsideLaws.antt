-- Which case the tree at a slot is, by the slot's entry; and the tree of a good frame lies in it. Assumes nothing.
use Prim.Native.Nat.{ℕ, ◌+◌, ◌-◌, ◌*◌, ◌<◌, ◌≤◌}
use mathlib.Core.Path.{◌≡◌, refl, sym, ap, ◌∙◌}
use mathlib.Core.List.{List, [], ◌++◌}
use native.Mathlib.Omega.{arith}
use native.Mathlib.Decide.{dec_le}
use lib.ListN.{length}
use Rattle.layout.specs.declared.kind.Kind.{Kind as Named}
use Rattle.layout.specs.declared.kind.Kind.TheVariants as kind
use Rattle.layout.specs.Number.{Bytes}
use Rattle.layout.specs.Kind.{number_of, leaf_kind, prefix_kind, body_size}
use Rattle.layout.specs.Entry.{high_of, place_of}
use Rattle.model.specs.Edition.{Edition, Lawful, Value}
use Rattle.model.specs.State.{State}
use Rattle.model.specs.Item.{Item, body, on_slot, cover, sum}
use Rattle.model.specs.Frame.{Lay, LayKids, Root, tree, root_items, slot_of, items, items_all, freed, Below, IsNode, Entry, Tree, Stands}
use Rattle.model.specs.Frame.Lay.{leaf, prefix, node}
use Rattle.model.specs.Frame.LayKids.{nil, kid}
use Rattle.model.proofs.ItemLaws.{in_yes, sum_app}
use Rattle.model.proofs.OneBody.{node_below}
use Rattle.model.proofs.StandsGood.{below_inside}
use Rattle.model.proofs.WellLaws.{inside_short}
use Rattle.inside.specs.Inside.{SlotIn, Inside, InsideAll}

-- ---- which case it is, by the entry

-- the entry of a tree's slot, said of the slot
pub entry_at_lem : (f : List ℕ) (s' s kind kind' o o' : ℕ) → s' ≡ s → high_of f s ≡ kind' → place_of f s ≡ o' → Entry f s' kind o → (kind ≡ kind') × (o ≡ o')
entry_at_lem f s' s kind kind' o o' q h p E = let F : Entry f s kind o = rw q at E in (sym F.kind_is ∙ h, sym F.place_is ∙ p)

-- a live slot's entry names a kind
pub slot_kind : (E : Edition) (f path : List ℕ) (s : ℕ) (l : Lay) → Tree E f path l → slot_of l ≡ s → (1 ≤ high_of f s) × (high_of f s ≤ 8)
unfolding Tree
slot_kind E f path s (leaf s' o e k v) T q = let h : high_of f s ≡ leaf_kind = rw q at T.0.kind_is in (omega arith, omega arith)
slot_kind E f path s (prefix s' o p l) T q = let h : high_of f s ≡ prefix_kind = rw q at T.0.kind_is in (omega arith, omega arith)
slot_kind E f path s (node s' o kind ks) T q = let h : high_of f s ≡ kind = rw q at T.0.kind_is in let r = T.1.inner.range in (omega arith, omega arith)

-- what is no Leaf by its name is none by its number, nor a Prefix
pub not_leaf : (k : Named) {h : ℕ} → number_of k ≡ h → (k ≡ kind.Leaf → ⊥) → h ≡ leaf_kind → ⊥
not_leaf k {h} e n q = n (named k (e ∙ q))
  where
    named : (k : Named) → number_of k ≡ leaf_kind → k ≡ kind.Leaf
    named kind.Leaf e = refl
    named kind.Prefix e = absurd (omega (arith, e))
    named kind.Crossing e = absurd (omega (arith, e))
    named kind.Node4 e = absurd (omega (arith, e))
    named kind.Node16 e = absurd (omega (arith, e))
    named kind.Node48 e = absurd (omega (arith, e))
    named kind.Node256 e = absurd (omega (arith, e))
    named kind.EmptyRoot e = absurd (omega (arith, e))

pub not_prefix : (k : Named) {h : ℕ} → number_of k ≡ h → (k ≡ kind.Prefix → ⊥) → h ≡ prefix_kind → ⊥
not_prefix k {h} e n q = n (named k (e ∙ q))
  where
    named : (k : Named) → number_of k ≡ prefix_kind → k ≡ kind.Prefix
    named kind.Leaf e = absurd (omega (arith, e))
    named kind.Prefix e = refl
    named kind.Crossing e = absurd (omega (arith, e))
    named kind.Node4 e = absurd (omega (arith, e))
    named kind.Node16 e = absurd (omega (arith, e))
    named kind.Node48 e = absurd (omega (arith, e))
    named kind.Node256 e = absurd (omega (arith, e))
    named kind.EmptyRoot e = absurd (omega (arith, e))

pub record IsLeaf (s o : ℕ) (l : Lay) : Type 0 where
  pub extent : ℕ
  pub key : List ℕ
  pub value : Value
  pub is : l ≡ leaf s o extent key value

pub record IsPrefix (s o : ℕ) (l : Lay) : Type 0 where
  pub bytes : List ℕ
  pub below : Lay
  pub is : l ≡ prefix s o bytes below

pub record IsInner (f : List ℕ) (s : ℕ) (l : Lay) : Type 0 where
  pub kids : LayKids
  pub is : l ≡ node s (place_of f s) (high_of f s) kids

module _ (E : Edition) (f path : List ℕ) (s o : ℕ) where
  pub leaf_lay : (l : Lay) → Tree E f path l → slot_of l ≡ s → high_of f s ≡ leaf_kind → place_of f s ≡ o → IsLeaf s o l
  unfolding Tree
  leaf_lay (leaf s' o' e k v) T q h p = let w = entry_at_lem f s' s leaf_kind leaf_kind o' o q h p T.0 in let y = w.1 in record { extent = e; key = k; value = v; is = cc }
  leaf_lay (prefix s' o' b l) T q h p = absurd (omega (arith, (entry_at_lem f s' s prefix_kind leaf_kind o' o q h p T.0).0))
  leaf_lay (node s' o' kind ks) T q h p = absurd (omega (arith, (entry_at_lem f s' s kind leaf_kind o' o q h p T.0).0, T.1.inner.range))

  pub prefix_lay : (l : Lay) → Tree E f path l → slot_of l ≡ s → high_of f s ≡ prefix_kind → place_of f s ≡ o → IsPrefix s o l
  unfolding Tree
  prefix_lay (leaf s' o' e k v) T q h p = absurd (omega (arith, (entry_at_lem f s' s leaf_kind prefix_kind o' o q h p T.0).0))
  prefix_lay (prefix s' o' b l) T q h p = let w = entry_at_lem f s' s prefix_kind prefix_kind o' o q h p T.0 in let y = w.1 in record { bytes = b; below = l; is = cc }
  prefix_lay (node s' o' kind ks) T q h p = absurd (omega (arith, (entry_at_lem f s' s kind prefix_kind o' o q h p T.0).0, T.1.inner.range))

pub inner_lay : (E : Edition) (f path : List ℕ) (s : ℕ) (l : Lay) → Tree E f path l → slot_of l ≡ s → 4 ≤ high_of f s → IsInner f s l
unfolding Tree
inner_lay E f path s (leaf s' o e k v) T q low = absurd (omega (arith, (entry_at_lem f s' s leaf_kind (high_of f s) o (place_of f s) q refl refl T.0).0))
inner_lay E f path s (prefix s' o b l) T q low = absurd (omega (arith, (entry_at_lem f s' s prefix_kind (high_of f s) o (place_of f s) q refl refl T.0).0))
inner_lay E f path s (node s' o kind ks) T q low = let w = entry_at_lem f s' s kind (high_of f s) o (place_of f s) q refl refl T.0 in let y = w.0 in let z = w.1 in record { kids = ks; is = cc }

-- ---- the path to what may stand below a Prefix, and to an inner node, is no whole word

module _ {E : Edition} (L : Lawful E) (f path : List ℕ) where
  pub below_short : (p : List ℕ) (l : Lay) → Bytes f → Below p l → Tree E f path l → length path < E.longest
  below_short p l B H T = inside_short L path (below_inside L f path p l B H T)

  pub node_short : (l : Lay) → Bytes f → IsNode l → Tree E f path l → length path < E.longest
  node_short l B I T = below_short [] l B (node_below [] l I) T

-- ---- the tree lies in the frame

-- every slot's entry lies in the frame
pub slot_in : (f : List ℕ) (s : ℕ) (l : Lay) → Inside f l → slot_of l ≡ s → SlotIn f s
unfolding Inside
slot_in f s (leaf s' o e k v) I q = rw q at I.0
slot_in f s (prefix s' o p l) I q = rw q at I.0
slot_in f s (node s' o kind ks) I q = rw q at I.0

-- ---- entries and Leaves of a good frame lie in it

-- some of the items of a good frame: their slots are 1 to u, and they end before b
record Among (u b : ℕ) (is : List Item) : Type 0 where
  pub zeroth : sum (on_slot 0) is ≡ 0
  pub past : (s : ℕ) → u < s → sum (on_slot s) is ≡ 0
  pub high : (a : ℕ) → b ≤ a → sum (cover a) is ≡ 0

-- fewer of them
among_less : {u b : ℕ} {is js : List Item} → ((w : Item → ℕ) → sum w js ≤ sum w is) → Among u b is → Among u b js
among_less h A =
    record { zeroth = omega (arith, h (on_slot 0), A.zeroth); past = λ s l. omega (arith, h (on_slot s), A.past s l); high = λ a l. omega (arith, h (cover a), A.high a l) }

module _ (f : List ℕ) (u b : ℕ) (table : 64 + 4 * u ≤ length f) (within : b ≤ length f) where
  module _ (s kind o : ℕ) (is : List Item) (h : (w : Item → ℕ) → w (body s kind o) ≤ sum w is) (A : Among u b is) where
    slot_inside : SlotIn f s
    unfolding on_slot
    slot_inside =
        record {
          first = elim (dec_le 1 s) [ yes p ↦ p | no p ↦ absurd (omega (arith, in_yes s 1 0 (omega arith) (omega arith), h (on_slot 0), A.zeroth)) ];
          last = elim (dec_le s u) [ yes p ↦ omega arith | no p ↦ absurd (omega (arith, in_yes s 1 s (omega arith) (omega arith), h (on_slot s), A.past s (omega arith))) ];
        }

    body_inside : 1 ≤ body_size kind → o + body_size kind ≤ length f
    unfolding cover
    body_inside n = elim (dec_le (o + body_size kind) b) [
      | yes p ↦ omega arith
      | no p ↦ let a = o + (body_size kind - 1) in absurd (omega (arith, in_yes o (body_size kind) a (omega arith) (omega arith), h (cover a), A.high a (omega arith)))
    ]

  mutual
    unfolding Inside InsideAll items items_all sum

    inside_tree : (l : Lay) → Among u b (items l) → Inside f l
    inside_tree (leaf s o e k v) A =
        (slot_inside s leaf_kind o (items (leaf s o e k v)) (λ w. omega arith) A, body_inside s leaf_kind o (items (leaf s o e k v)) (λ w. omega arith) A (omega arith))
    inside_tree (prefix s o p l) A = (slot_inside s prefix_kind o (items (prefix s o p l)) (λ w. omega arith) A, inside_tree l (among_less (λ w. omega arith) A))
    inside_tree (node s o kind ks) A = (slot_inside s kind o (items (node s o kind ks)) (λ w. omega arith) A, inside_all ks (among_less (λ w. omega arith) A))

    inside_all : (ks : LayKids) → Among u b (items_all ks) → InsideAll f ks
    inside_all nil A = tt
    inside_all (kid c j l ks) A =
        (inside_tree l (among_less (λ w. omega (arith, sum_app w (items l) (items_all ks))) A), inside_all ks (among_less (λ w. omega (arith, sum_app w (items l) (items_all ks))) A))

-- of the whole frame
pub stands_inside : (E : Edition) (f : List ℕ) (st : State) (S : Stands E f st) (l : Lay) → S.root ≡ tree l → Inside f l
unfolding root_items
stands_inside E f st S l r =
    let H = S.heap.header in
    let W = S.heap.sound in
    let a = H.size in let b = H.given_in in let c = H.bump_in in
    let m = S.nums in
    inside_tree f m.U m.B (omega arith) (omega arith) l
    (among_less {is = root_items S.root ++ freed 1 S.lists}
    (λ w. omega (arith, sum_app w (root_items S.root) (freed 1 S.lists), ap (λ (x : Root). sum w (root_items x)) r))
    (record { zeroth = W.zeroth; past = W.past; high = W.high }))
