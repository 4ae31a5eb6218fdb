-- The packed layout of a tree: slots in the order of visit, bodies and extents one behind the other. It takes each of its slots
-- once and each of its bytes once, so its items are sound. Assumes nothing.
use Prim.Native.Nat.{ℕ, zero, suc, ◌+◌, ◌*◌, ◌≤◌}
use mathlib.Core.Path.{◌≡◌, refl, sym, ap, ◌∙◌}
use mathlib.Core.List.{List, [], ◌∷◌, ◌++◌}
use mathlib.Core.Bool.{true}
use native.Mathlib.Omega.{arith}
use native.Mathlib.Decide.{dec_lt}
use lib.ListN.{length, take, drop, length-append, length-drop, take-append-drop}
use lib.Dec.{eqb}
use borrow.Author.Tests.{eqb-false}
use Rattle.layout.specs.Place.{prefix_most}
use Rattle.layout.specs.Kind.{leaf_kind, prefix_kind, node48_kind, body_size}
use Rattle.model.specs.Edition.{Edition}
use Rattle.model.specs.Tree.{Art, Kids, count, extent_of, chain, as_prefix, numbered, unnumbered, carried, is_inner}
use Rattle.model.specs.Records.{records, records_kids}
use Rattle.model.specs.Image.{slots, slots_kids, size, size_kids, bytes_of, child_slots, smallest, packed, packed_kids}
use Rattle.model.specs.Item.{Item, inside, on_slot, cover, bulk, sum, Sound}
use Rattle.model.specs.Body.{Asc}
use Rattle.model.specs.Frame.{Lay, LayKids, slot_of, Below, atop, art, art_kids, items, items_all, pairs, list_items, freed}
use Rattle.model.proofs.Well.{Well, WellKids}
use Rattle.model.proofs.ChainLaws.{as_some, atop_as}
use Rattle.model.proofs.StringLaws.{bool_cases}
use Rattle.model.proofs.ItemLaws.{in_yes, in_under, in_over, in_where, sum_app}
use Rattle.model.proofs.NodeImage.{firsts, seconds, Live}

-- ---- the layout of a tree whose first slot is s and whose first body lies at o

-- n Prefixes with the bytes p above l
abbrev pub lay_chain : ℕ → List ℕ → ℕ → ℕ → Lay → Lay
lay_chain zero p s o l = l
lay_chain (suc n) p s o l = Lay.prefix s o (take prefix_most p) (lay_chain n (drop prefix_most p) (s + 1) (o + body_size prefix_kind) l)

abbrev mutual
  pub lay_of : Art → ℕ → ℕ → Lay
  lay_of (Art.leaf k v) s o = Lay.leaf s o (o + body_size leaf_kind) k v
  lay_of (Art.prefix p a) s o = lay_chain (chain (length p)) p s o (lay_of a (s + chain (length p)) (o + chain (length p) * body_size prefix_kind))
  lay_of (Art.node kind ks) s o = Lay.node s o kind (lay_kids ks (s + 1) (o + body_size kind))

  pub lay_kids : Kids → ℕ → ℕ → LayKids
  lay_kids Kids.nil s o = LayKids.nil
  lay_kids (Kids.kid b j a ks) s o = LayKids.kid b j (lay_of a s o) (lay_kids ks (s + slots a) (o + size a))

-- a Prefix is not empty, and stands above an inner node
abbrev mutual
  pub Firm : Art → Type 0
  Firm (Art.leaf k v) = Unit {0}
  Firm (Art.prefix p a) = (1 ≤ length p) × (is_inner a ≡ true) × Firm a
  Firm (Art.node kind ks) = FirmKids ks

  pub FirmKids : Kids → Type 0
  FirmKids Kids.nil = Unit {0}
  FirmKids (Kids.kid b j a ks) = Firm a × FirmKids ks

mutual
  pub well_firm : (E : Edition) (a : Art) (path : List ℕ) → Well E a path → Firm a
  well_firm E (Art.leaf k v) path W = tt
  well_firm E (Art.prefix p a) path W = (W.0.some, W.0.inner, well_firm E a (path ++ p) W.1)
  well_firm E (Art.node kind ks) path W = well_firm_kids E ks path 0 W.1

  pub well_firm_kids : (E : Edition) (ks : Kids) (path : List ℕ) (lo : ℕ) → WellKids E ks path lo → FirmKids ks
  well_firm_kids E Kids.nil path lo W = tt
  well_firm_kids E (Kids.kid b j a ks) path lo W = (well_firm E a (path ++ b ∷ []) W.2, well_firm_kids E ks path (suc b) W.3)

-- ---- a chain

pub nil_of : (p : List ℕ) → length p ≡ 0 → p ≡ []
nil_of [] e = refl
nil_of (x ∷ p) e = absurd (omega arith)

pub chain_less : (n : ℕ) (p : List ℕ) → suc n ≡ chain (length p) → n ≡ chain (length (drop prefix_most p))
chain_less n p e = rw (length-drop prefix_most p) (omega arith)

pub art_chain : (n : ℕ) (p : List ℕ) (s o : ℕ) (l : Lay) → n ≡ chain (length p) → is_inner (art l) ≡ true → art (lay_chain n p s o l) ≡ as_prefix p (art l)
art_chain zero p s o l e i = rw (nil_of p (omega arith))
art_chain (suc n) p s o l e i =
    let on = art_chain n (drop prefix_most p) (s + 1) (o + 128) l (chain_less n p e) i in
    ap (λ (x : Art). atop (take prefix_most p) x) on ∙ atop_as (take prefix_most p) (drop prefix_most p) (art l) i ∙ ap (λ (x : List ℕ). Art.prefix x (art l)) (take-append-drop prefix_most p)
    ∙ sym (as_some p (art l) (omega arith))

mutual
  pub art_lay : (a : Art) (s o : ℕ) → Firm a → art (lay_of a s o) ≡ a
  art_lay (Art.leaf k v) s o F = refl
  art_lay (Art.prefix p a) s o F =
      let n = chain (length p) in
      let on = art_lay a (s + n) (o + n * 128) F.2 in
      art_chain n p s o (lay_of a (s + n) (o + n * 128)) refl (rw on F.1) ∙ as_some p (art (lay_of a (s + n) (o + n * 128))) F.0 ∙ ap (λ (x : Art). Art.prefix p x) on
  art_lay (Art.node kind ks) s o F = ap (λ (x : Kids). Art.node kind x) (art_lay_kids ks (s + 1) (o + body_size kind) F)

  pub art_lay_kids : (ks : Kids) (s o : ℕ) → FirmKids ks → art_kids (lay_kids ks s o) ≡ ks
  art_lay_kids Kids.nil s o F = refl
  art_lay_kids (Kids.kid b j a ks) s o F = let x = art_lay a s o F.0 in let y = art_lay_kids ks (s + slots a) (o + size a) F.1 in cc

pub slot_chain : (n : ℕ) (p : List ℕ) (s o : ℕ) (l : Lay) → slot_of l ≡ s + n → slot_of (lay_chain n p s o l) ≡ s
slot_chain zero p s o l e = omega arith
slot_chain (suc n) p s o l e = refl

pub slot_lay : (a : Art) (s o : ℕ) → slot_of (lay_of a s o) ≡ s
slot_lay (Art.leaf k v) s o = refl
slot_lay (Art.prefix p a) s o = let n = chain (length p) in slot_chain n p s o (lay_of a (s + n) (o + n * 128)) (slot_lay a (s + n) (o + n * 128))
slot_lay (Art.node kind ks) s o = refl

pub inner_lay : (a : Art) (s o : ℕ) (p : List ℕ) → is_inner a ≡ true → Below p (lay_of a s o)
inner_lay (Art.leaf k v) s o p e = let z : ◌≡◌ {A = ℕ} 0 1 = cc in absurd (omega arith)
inner_lay (Art.prefix q a) s o p e = let z : ◌≡◌ {A = ℕ} 0 1 = cc in absurd (omega arith)
inner_lay (Art.node kind ks) s o p e = tt

pub slots_pos : (a : Art) → 1 ≤ slots a
slots_pos (Art.leaf k v) = omega arith
slots_pos (Art.prefix p a) = let on = slots_pos a in omega arith
slots_pos (Art.node kind ks) = omega arith

mutual
  pub records_slots : (a : Art) → length (records a) ≤ slots a
  records_slots (Art.leaf k v) = omega arith
  records_slots (Art.prefix p a) = let on = records_slots a in omega arith
  records_slots (Art.node kind ks) = let on = records_slots_kids ks in omega arith

  records_slots_kids : (ks : Kids) → length (records_kids ks) ≤ slots_kids ks
  records_slots_kids Kids.nil = omega arith
  records_slots_kids (Kids.kid b j a ks) = omega (arith, length-append (records a) (records_kids ks), records_slots a, records_slots_kids ks)

-- ---- the children's bytes and slots

pub lay_firsts : (ks : Kids) (s o : ℕ) → bytes_of ks ≡ firsts (pairs (lay_kids ks s o))
unfolding pairs
lay_firsts Kids.nil s o = refl
lay_firsts (Kids.kid b j a ks) s o = ap (λ (l : List ℕ). b ∷ l) (lay_firsts ks (s + slots a) (o + size a))

pub lay_seconds : (ks : Kids) (s o : ℕ) → child_slots s ks ≡ seconds (pairs (lay_kids ks s o))
unfolding pairs
lay_seconds Kids.nil s o = refl
lay_seconds (Kids.kid b j a ks) s o = let x = slot_lay a s o in let y = lay_seconds ks (s + slots a) (o + size a) in cc

pub lay_length : (ks : Kids) (s o : ℕ) → length (pairs (lay_kids ks s o)) ≡ count ks
unfolding pairs
lay_length Kids.nil s o = refl
lay_length (Kids.kid b j a ks) s o = ap suc (lay_length ks (s + slots a) (o + size a))

pub lay_asc : (E : Edition) (ks : Kids) (path : List ℕ) (lo s o : ℕ) → WellKids E ks path lo → s + slots_kids ks ≤ 4294967296 → Asc lo (pairs (lay_kids ks s o))
unfolding pairs Asc
lay_asc E Kids.nil path lo s o W h = tt
lay_asc E (Kids.kid b j a ks) path lo s o W h =
    let e = slot_lay a s o in
    let p = slots_pos a in
    (W.0, W.1, omega arith, lay_asc E ks path (suc b) (s + slots a) (o + size a) W.3 (omega arith))

pub lay_live : (ks : Kids) (s o : ℕ) → 1 ≤ s → Live (pairs (lay_kids ks s o))
unfolding pairs
lay_live Kids.nil s o h = tt
lay_live (Kids.kid b j a ks) s o h = (rw (slot_lay a s o) h, lay_live ks (s + slots a) (o + size a) (omega arith))

-- ---- its items

in_none : (lo a : ℕ) → inside lo 0 a ≡ 0
in_none lo a = elim (dec_lt a lo) [ yes p ↦ in_under lo 0 a p | no p ↦ in_over lo 0 a (omega arith) ]

-- an interval in two parts
in_split : (lo m n a : ℕ) → inside lo (m + n) a ≡ inside lo m a + inside (lo + m) n a
in_split lo m n a = elim (dec_lt a lo) [
  | yes p ↦ omega (arith, in_under lo (m + n) a p, in_under lo m a p, in_under (lo + m) n a (omega arith))
  | no p ↦ elim (dec_lt a (lo + m)) [
    | yes q ↦ omega (arith, in_yes lo (m + n) a (omega arith) (omega arith), in_yes lo m a (omega arith) q, in_under (lo + m) n a q)
    | no q ↦ elim (dec_lt a (lo + m + n)) [
      | yes r ↦ omega (arith, in_yes lo (m + n) a (omega arith) (omega arith), in_over lo m a (omega arith), in_yes (lo + m) n a (omega arith) r)
      | no r ↦ omega (arith, in_over lo (m + n) a (omega arith), in_over lo m a (omega arith), in_over (lo + m) n a (omega arith))
    ]
  ]
]

chain_slots_lem : (n : ℕ) (p : List ℕ) (s o t : ℕ) (l : Lay) → sum (on_slot t) (items (lay_chain n p s o l)) ≡ inside s n t + sum (on_slot t) (items l)
unfolding items sum on_slot
chain_slots_lem zero p s o t l = omega (arith, in_none s t)
chain_slots_lem (suc n) p s o t l =
    let e : suc n ≡ 1 + n = omega arith in
    rw e (omega (arith, in_split s 1 n t, chain_slots_lem n (drop prefix_most p) (s + 1) (o + 128) t l))

chain_cover : (n : ℕ) (p : List ℕ) (s o x : ℕ) (l : Lay) → sum (cover x) (items (lay_chain n p s o l)) ≡ inside o (n * 128) x + sum (cover x) (items l)
unfolding items sum cover
chain_cover zero p s o x l = omega (arith, in_none o x)
chain_cover (suc n) p s o x l =
    let e : suc n * 128 ≡ 128 + n * 128 = omega arith in
    rw e (omega (arith, in_split o 128 (n * 128) x, chain_cover n (drop prefix_most p) (s + 1) (o + 128) x l))

mutual
  unfolding items items_all sum on_slot

  pub lay_slots : (a : Art) (s o t : ℕ) → sum (on_slot t) (items (lay_of a s o)) ≡ inside s (slots a) t
  lay_slots (Art.leaf k v) s o t = omega arith
  lay_slots (Art.prefix p a) s o t =
      let n = chain (length p) in
      omega (arith, in_split s n (slots a) t, chain_slots_lem n p s o t (lay_of a (s + n) (o + n * 128)), lay_slots a (s + n) (o + n * 128) t)
  lay_slots (Art.node kind ks) s o t = omega (arith, in_split s 1 (slots_kids ks) t, lay_slots_kids ks (s + 1) (o + body_size kind) t)

  lay_slots_kids : (ks : Kids) (s o t : ℕ) → sum (on_slot t) (items_all (lay_kids ks s o)) ≡ inside s (slots_kids ks) t
  lay_slots_kids Kids.nil s o t = sym (in_none s t)
  lay_slots_kids (Kids.kid b j a ks) s o t =
      omega (arith, in_split s (slots a) (slots_kids ks) t, sum_app (on_slot t) (items (lay_of a s o)) (items_all (lay_kids ks (s + slots a) (o + size a))), lay_slots a s o t, lay_slots_kids ks (s + slots a) (o + size a) t)

mutual
  unfolding items items_all sum cover

  pub lay_cover : (a : Art) (s o x : ℕ) → sum (cover x) (items (lay_of a s o)) ≡ inside o (size a) x
  lay_cover (Art.leaf k v) s o x = omega (arith, in_split o 16 (extent_of k v) x)
  lay_cover (Art.prefix p a) s o x =
      let n = chain (length p) in
      omega (arith, in_split o (n * 128) (size a) x, chain_cover n p s o x (lay_of a (s + n) (o + n * 128)), lay_cover a (s + n) (o + n * 128) x)
  lay_cover (Art.node kind ks) s o x = omega (arith, in_split o (body_size kind) (size_kids ks) x, lay_cover_kids ks (s + 1) (o + body_size kind) x)

  lay_cover_kids : (ks : Kids) (s o x : ℕ) → sum (cover x) (items_all (lay_kids ks s o)) ≡ inside o (size_kids ks) x
  lay_cover_kids Kids.nil s o x = sym (in_none o x)
  lay_cover_kids (Kids.kid b j a ks) s o x =
      omega (arith, in_split o (size a) (size_kids ks) x, sum_app (cover x) (items (lay_of a s o)) (items_all (lay_kids ks (s + slots a) (o + size a))), lay_cover a s o x, lay_cover_kids ks (s + slots a) (o + size a) x)

-- eight empty lists
abbrev pub none8 : List (List (ℕ × ℕ))
none8 = [] ∷ [] ∷ [] ∷ [] ∷ [] ∷ [] ∷ [] ∷ [] ∷ []

pub none_freed : (w : Item → ℕ) → sum w (freed 1 none8) ≡ 0
unfolding freed list_items sum
none_freed w = refl

pub with_none : (w : Item → ℕ) (is : List Item) → sum w (is ++ freed 1 none8) ≡ sum w is
with_none w is = omega (arith, sum_app w is (freed 1 none8), none_freed w)

chain_bulk : (n : ℕ) (p : List ℕ) (s o : ℕ) (l : Lay) → sum bulk (items (lay_chain n p s o l)) ≡ n * 128 + sum bulk (items l)
unfolding items sum bulk
chain_bulk zero p s o l = omega arith
chain_bulk (suc n) p s o l = omega (arith, chain_bulk n (drop prefix_most p) (s + 1) (o + 128) l)

mutual
  unfolding items items_all sum bulk

  lay_bulk : (a : Art) (s o : ℕ) → sum bulk (items (lay_of a s o)) ≡ size a
  lay_bulk (Art.leaf k v) s o = omega arith
  lay_bulk (Art.prefix p a) s o =
      let n = chain (length p) in omega (arith, chain_bulk n p s o (lay_of a (s + n) (o + n * 128)), lay_bulk a (s + n) (o + n * 128))
  lay_bulk (Art.node kind ks) s o = omega (arith, lay_bulk_kids ks (s + 1) (o + body_size kind))

  lay_bulk_kids : (ks : Kids) (s o : ℕ) → sum bulk (items_all (lay_kids ks s o)) ≡ size_kids ks
  lay_bulk_kids Kids.nil s o = refl
  lay_bulk_kids (Kids.kid b j a ks) s o =
      omega (arith, sum_app bulk (items (lay_of a s o)) (items_all (lay_kids ks (s + slots a) (o + size a))), lay_bulk a s o, lay_bulk_kids ks (s + slots a) (o + size a))

pub lay_sound : (a : Art) (d : ℕ) → Sound d (slots a) (d + size a) 0 (items (lay_of a 1 d) ++ freed 1 none8)
lay_sound a d =
    let is = items (lay_of a 1 d) in
    let s : (t : ℕ) → sum (on_slot t) (is ++ freed 1 none8) ≡ inside 1 (slots a) t = λ t. with_none (on_slot t) is ∙ lay_slots a 1 d t in
    let c : (x : ℕ) → sum (cover x) (is ++ freed 1 none8) ≡ inside d (size a) x = λ x. with_none (cover x) is ∙ lay_cover a 1 d x in
    record {
      once = λ t p q. s t ∙ in_yes 1 (slots a) t p (omega arith);
      zeroth = s 0 ∙ in_under 1 (slots a) 0 (omega arith);
      past = λ t p. s t ∙ in_over 1 (slots a) t (omega arith);
      apart = λ x. omega (arith, c x, (in_where d (size a) x).few);
      low = λ x p. c x ∙ in_under d (size a) x p;
      high = λ x p. c x ∙ in_over d (size a) x p;
      accounted = omega (arith, with_none bulk is, lay_bulk a 1 d);
    }

-- ---- "children carried over from another kind take places 1, 2 and so on in byte order"

abbrev pub Numbered : ℕ → Kids → Type 0
Numbered i Kids.nil = Unit {0}
Numbered i (Kids.kid b j a ks) = (j ≡ i) × Numbered (i + 1) ks

-- every Node48 of the tree has its places in byte order
abbrev mutual
  pub InOrder : Art → Type 0
  InOrder (Art.leaf k v) = Unit {0}
  InOrder (Art.prefix p a) = InOrder a
  InOrder (Art.node kind ks) = (kind ≡ node48_kind → Numbered 1 ks) × InOrderKids ks

  pub InOrderKids : Kids → Type 0
  InOrderKids Kids.nil = Unit {0}
  InOrderKids (Kids.kid b j a ks) = InOrder a × InOrderKids ks

numbered_is : (i : ℕ) (ks : Kids) → Numbered i (numbered i ks)
numbered_is i Kids.nil = tt
numbered_is i (Kids.kid b j a ks) = (refl, numbered_is (i + 1) ks)

numbered_order : (i : ℕ) (ks : Kids) → InOrderKids ks → InOrderKids (numbered i ks)
numbered_order i Kids.nil h = tt
numbered_order i (Kids.kid b j a ks) h = (h.0, numbered_order (i + 1) ks h.1)

unnumbered_order : (ks : Kids) → InOrderKids ks → InOrderKids (unnumbered ks)
unnumbered_order Kids.nil h = tt
unnumbered_order (Kids.kid b j a ks) h = (h.0, unnumbered_order ks h.1)

carried_order : (kind : ℕ) (ks : Kids) → InOrderKids ks → InOrder (Art.node kind (carried kind ks))
carried_order kind ks h = bool_cases (eqb kind node48_kind)
    (λ t. rw t (λ e. numbered_is 1 ks, numbered_order 1 ks h))
    (λ t. rw t (λ e. let z = eqb-false kind node48_kind t e in absurd z, unnumbered_order ks h))

mutual
  pub packed_order : (a : Art) → InOrder (packed a)
  packed_order (Art.leaf k v) = tt
  packed_order (Art.prefix p a) = packed_order a
  packed_order (Art.node kind ks) = carried_order (smallest (count (packed_kids ks))) (packed_kids ks) (packed_order_kids ks)

  packed_order_kids : (ks : Kids) → InOrderKids (packed_kids ks)
  packed_order_kids Kids.nil = tt
  packed_order_kids (Kids.kid b j a ks) = (packed_order a, packed_order_kids ks)
