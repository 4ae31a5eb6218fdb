-- The seek on its way: one law for each exit and each step. Assumes nothing.
use Prim.Native.Nat.{ℕ, suc, ◌+◌, ◌<◌, ◌≤◌}
use native.Mathlib.Omega.{arith}
use mathlib.Core.Path.{◌≡◌, refl, sym, ap, ◌∙◌}
use mathlib.Core.List.{List, [], ◌∷◌, ◌++◌}
use mathlib.Core.Bool.{true, false}
use mathlib.Core.Option.{Option, none, some}
use lib.ListN.{length, length-append, take, drop, get_or, drop_of_length-le}
use lib.Seq.{drop-cons}
use native.Mathlib.Decide.{ℕ_discrete}
use lib.Dec.{ltb, eqb, leb}
use borrow.Author.Tests.{le-ltb, eq-eqb}
use Rattle.layout.specs.Number.{le}
use Rattle.layout.specs.Place.{prefix_child, prefix_length, prefix_bytes}
use Rattle.layout.specs.Kind.{leaf_kind, prefix_kind}
use Rattle.layout.specs.Entry.{high_of, place_of}
use Rattle.model.specs.Edition.{Edition, Value}
use Rattle.model.specs.Body.{InnerAt, Asc, look_kid, LeafAt, PrefixAt}
use Rattle.model.specs.Frame.{Lay, LayKids, slot_of, pairs, Tree, Trees}
use Rattle.model.specs.Frame.Lay.{leaf, prefix, node}
use Rattle.model.proofs.StringLaws.{bool_cases}
use Rattle.model.proofs.StandsGood.{bytes_text}
use Rattle.model.proofs.UniqueLaws.{tree_unique}
use Rattle.node.specs.Kids.{next_kid}
use Rattle.keys.proofs.KeyLaws.{text_part}
use Rattle.listing.specs.Seek.{Leafy, leaves, leaves_all, weigh, reach, first_from, first_leaf, or_else, kids_from, leaves_at, Kept}
use Rattle.listing.proofs.SeekLaws.{weigh_append, weigh_byte, seek_above, seek_below, node_tail, node_byte}
use Rattle.std.specs.Prelude.{Option as Optional, Some, None}
use Rattle.seek.specs.declared.Spare.{Spare}
use Rattle.inside.specs.Inside.{Inside, InsideAll}
use Rattle.inside.proofs.InsideLaws.{entry_at_lem, below_short, node_short}
use Rattle.seek.specs.Seek.{Fallback, Falls, Is, SoughtAt, Guided, Seeking, Nearer, LeafSome}
use Rattle.seek.proofs.DownLaws.{Full, tree_full}
use Rattle.seek.proofs.LeafLaws.{key_there}
use Rattle.seek.proofs.SeekLaws.{tree_under, trees_kept, kids_none, kids_some, kid_gone, kid_there}

-- ---- choices

or_none : (x : Option Leafy) → or_else x none ≡ x
or_none none = refl
or_none (some a) = refl

or_assoc : (x y z : Option Leafy) → or_else (or_else x y) z ≡ or_else x (or_else y z)
or_assoc none y z = refl
or_assoc (some a) y z = refl

or_full : (xs : List Leafy) (z : Option Leafy) → Full xs → or_else (first_leaf xs) z ≡ first_leaf xs
or_full xs z h = rw h.is

-- an undecided path is no longer than the text
pub open_short : (g : List ℕ) (t : ℕ) (p : List ℕ) → weigh g t p ≡ 1 → length p ≤ length g
open_short g t [] e = omega arith
open_short [] t (x ∷ p) e = bool_cases (leb t x) (λ u. let z : ◌≡◌ {A = ℕ} 2 1 = rw u at e in absurd (omega arith)) (λ u. let z : ◌≡◌ {A = ℕ} 0 1 = rw u at e in absurd (omega arith))
open_short (b ∷ g) t (x ∷ p) e = bool_cases (ltb b x)
    (λ u. let z : ◌≡◌ {A = ℕ} 2 1 = rw u at e in absurd (omega arith))
    (λ u. bool_cases (eqb b x) (λ v. let n = open_short g t p (rw (u, v) at e) in omega arith) (λ v. let z : ◌≡◌ {A = ℕ} 0 1 = rw (u, v) at e in absurd (omega arith)))

pub start : {E : Edition} {f : List ℕ} (g w : List ℕ) (t : ℕ) {s : ℕ} → Guided E f g w t s → Seeking E f g w t s s 0 None
start {E} {f} g w t {s} P =
    let S = P.sub in
    let e : S.path ≡ [] = empty S.path S.deep in
    record {
      sub = S;
      guides = P.guides;
      undecided = rw e;
      spare = none;
      falls = record { to = refl };
      whole = λ path l T q. ap (λ (x : Lay). first_from g t (leaves x)) (tree_unique E f path S.path l S.lay T S.tree (q ∙ sym S.slot_is)) ∙ sym (or_none (first_from g t (leaves S.lay)));
    }
  where
    empty : (p : List ℕ) → length p ≡ 0 → p ≡ []
    empty [] h = refl
    empty (x ∷ p) h = absurd (omega arith)

module _ {E : Edition} {f g w : List ℕ} {t s s' d : ℕ} {p : Optional Spare} (K : Seeking E f g w t s s' d p) where
  pub spare_falls : Falls E f p
  spare_falls = record { leafy = K.spare; fallback = K.falls }

  as_is : (x y : Option Leafy) {r : Optional ℕ} → x ≡ y → Is y r → Is x r
  as_is x y e h = rw e h

  -- nothing in this tree
  pub fell : {r : Optional ℕ} → first_from g t (leaves K.sub.lay) ≡ none → Is K.spare r → SoughtAt E f g t s r
  fell e h path l T q = as_is (first_from g t (leaves l)) K.spare (K.whole path l T q ∙ rw e) h

  -- all of this tree
  pub this_falls : Fallback E f (Some (record { slot = s'; depth = d })) (first_leaf (leaves K.sub.lay))
  this_falls = record { to = record { sub = K.sub; first = refl } }

  pub stood : {r : Optional ℕ} → first_from g t (leaves K.sub.lay) ≡ first_leaf (leaves K.sub.lay) → Is (first_leaf (leaves K.sub.lay)) r → SoughtAt E f g t s r
  stood e h path l T q =
      as_is (first_from g t (leaves l)) (first_leaf (leaves K.sub.lay))
      (K.whole path l T q ∙ rw e (or_full (leaves K.sub.lay) K.spare (tree_full E f K.sub.path K.sub.lay K.sub.tree))) h

  -- ---- a Leaf

  module _ {o : ℕ} (h : high_of f s' ≡ leaf_kind) (q : place_of f s' ≡ o) where
    leaf_case : (path : List ℕ) (l : Lay) → Inside f l → Tree E f path l → slot_of l ≡ s' → (L : LeafSome E f o) × (leaves l ≡ record { place = o; key = L.key } ∷ [])
    unfolding Tree Inside
    leaf_case path (leaf s1 o' e k v) I T i =
        let z = (entry_at_lem f s1 s' leaf_kind leaf_kind o' o i h q T.0).1 in
        (record { extent = e; key = k; value = v; at = rw z at T.1.at; room = rw z at I.1; legal = record { passes = T.1.legal; bytes = bytes_text f e k K.sub.bytes (key_there T.1.at) } }, ap (λ (y : ℕ). record { place = y; key = k } ∷ []) z)
    leaf_case path (prefix s1 o' b l) I T i = absurd (omega (arith, (entry_at_lem f s1 s' prefix_kind leaf_kind o' o i h q T.0).0))
    leaf_case path (node s1 o' kind ks) I T i = absurd (omega (arith, (entry_at_lem f s1 s' kind leaf_kind o' o i h q T.0).0, T.1.inner.range))

    leaf_is : (L : LeafSome E f o) × (leaves K.sub.lay ≡ record { place = o; key = L.key } ∷ [])
    leaf_is = leaf_case K.sub.path K.sub.lay K.sub.inside K.sub.tree K.sub.slot_is

    pub leaf_some : LeafSome E f o
    leaf_some = leaf_is.0

    pub leaf_hit : ((e : ℕ) (k : List ℕ) (v : Value) → LeafAt f o e k v → true ≡ reach g t k) → SoughtAt E f g t s (Some o)
    leaf_hit H =
        let L = leaf_is.0 in
        let r = H L.extent L.key L.value L.at in
        stood (rw (leaf_is.1, ← r)) (record { at = record { leaf = record { place = o; key = L.key }; is = rw leaf_is.1; place = refl } })

    pub leaf_miss : {r : Optional ℕ} → ((e : ℕ) (k : List ℕ) (v : Value) → LeafAt f o e k v → false ≡ reach g t k) → Is K.spare r → SoughtAt E f g t s r
    leaf_miss H i =
        let L = leaf_is.0 in
        let r = H L.extent L.key L.value L.at in
        fell (rw (leaf_is.1, ← r)) i

  -- ---- a Prefix

  pub record AtPrefix (o : ℕ) : Type 0 where
    pub bytes : List ℕ
    pub below : Lay
    pub at : PrefixAt f o bytes (slot_of below)
    pub tree : Tree E f (K.sub.path ++ bytes) below
    pub inside : Inside f below
    pub leaves_are : leaves K.sub.lay ≡ leaves below
    pub short : length (K.sub.path ++ bytes) < E.longest

  module _ {o : ℕ} (h : high_of f s' ≡ prefix_kind) (q : place_of f s' ≡ o) where
    prefix_case : (l : Lay) → l ≡ K.sub.lay → Inside f l → Tree E f K.sub.path l → slot_of l ≡ s' → AtPrefix o
    unfolding Tree Inside
    prefix_case (leaf s1 o' e k v) u I T i = absurd (omega (arith, (entry_at_lem f s1 s' leaf_kind prefix_kind o' o i h q T.0).0))
    prefix_case (prefix s1 o' b l) u I T i =
        let z = (entry_at_lem f s1 s' prefix_kind prefix_kind o' o i h q T.0).1 in
        record {
          bytes = b;
          below = l;
          at = rw z at T.1;
          tree = T.3;
          inside = I.1;
          leaves_are = sym (ap leaves u);
          short = below_short K.sub.lawful f (K.sub.path ++ b) b l K.sub.bytes T.2 T.3;
        }
    prefix_case (node s1 o' kind ks) u I T i = absurd (omega (arith, (entry_at_lem f s1 s' kind prefix_kind o' o i h q T.0).0, T.1.inner.range))

    pub at_prefix : AtPrefix o
    at_prefix = prefix_case K.sub.lay refl K.sub.inside K.sub.tree K.sub.slot_is

    pub prefix_room : o + 128 ≤ length f
    prefix_room = at_prefix.at.room

    module _ {n : ℕ} (en : n ≡ le 2 f (o + prefix_length)) where
      long : n ≡ length at_prefix.bytes
      long = en ∙ at_prefix.at.long

      pub prefix_fits : (n ≤ 112) × (d ≤ 512) × (d + n ≤ 512) × (d ≤ length w)
      prefix_fits =
          let m = at_prefix.at.most in let a = at_prefix.short in let e = K.sub.deep in let l = long in
          let u = open_short w t K.sub.path K.undecided in
          let f = K.sub.lawful.fields.words in
          (omega arith, omega (arith, length-append K.sub.path at_prefix.bytes), omega (arith, length-append K.sub.path at_prefix.bytes), omega arith)

      pub prefix_some : 1 ≤ n
      prefix_some = let m = at_prefix.at.some in let l = long in omega arith

      text_is : take n (drop (o + prefix_bytes) f) ≡ at_prefix.bytes
      text_is =
          let r = at_prefix.at.room in let m = at_prefix.at.most in
          rw long (text_part f (o + prefix_bytes) at_prefix.bytes (omega arith) at_prefix.at.text)

      abbrev here : ℕ
      here = weigh (drop d w) t (take n (drop (o + prefix_bytes) f))

      weighs : weigh w t (K.sub.path ++ at_prefix.bytes) ≡ here
      weighs = weigh_append w t K.sub.path at_prefix.bytes ∙ rw (K.undecided, K.sub.deep, ← text_is)

      pub prefix_above : {r : Optional ℕ} → 2 ≡ here → Is (first_leaf (leaves K.sub.lay)) r → SoughtAt E f g t s r
      prefix_above e i =
          stood (rw at_prefix.leaves_are (seek_above K.guides (K.sub.path ++ at_prefix.bytes) at_prefix.below (weighs ∙ sym e) (tree_under E f (K.sub.path ++ at_prefix.bytes) at_prefix.below at_prefix.tree))) i

      pub prefix_below : {r : Optional ℕ} → 0 ≡ here → Is K.spare r → SoughtAt E f g t s r
      prefix_below e i =
          fell (rw at_prefix.leaves_are (seek_below K.guides (K.sub.path ++ at_prefix.bytes) at_prefix.below (weighs ∙ sym e) (tree_under E f (K.sub.path ++ at_prefix.bytes) at_prefix.below at_prefix.tree))) i

      pub prefix_on : {c : ℕ} → c ≡ le 4 f (o + prefix_child) → 1 ≡ here → Seeking E f g w t s c (d + n) p
      prefix_on {c} ec e =
          let a = at_prefix.short in let l = long in let z = K.sub.deep in
          record {
            sub = record {
              lawful = K.sub.lawful;
              lay = at_prefix.below;
              path = K.sub.path ++ at_prefix.bytes;
              tree = at_prefix.tree;
              slot_is = sym (ec ∙ at_prefix.at.child);
              inside = at_prefix.inside;
              bytes = K.sub.bytes;
              deep = omega (arith, length-append K.sub.path at_prefix.bytes);
              short = omega (arith, length-append K.sub.path at_prefix.bytes);
            };
            guides = K.guides;
            undecided = weighs ∙ sym e;
            spare = K.spare;
            falls = K.falls;
            whole = λ path l T i. K.whole path l T i ∙ rw at_prefix.leaves_are;
          }

  -- ---- an inner node

  pub record AtNode (o kind : ℕ) : Type 0 where
    pub kids : LayKids
    pub inner : InnerAt f o kind (pairs kids)
    pub asc : Asc 0 (pairs kids)
    pub trees : Trees E f K.sub.path kids
    pub inside : InsideAll f kids
    pub leaves_are : leaves K.sub.lay ≡ leaves_all kids
    pub short : d < E.longest

  module _ {o kind : ℕ} (ek : kind ≡ high_of f s') (x : kind ≡ leaf_kind → ⊥) (y : kind ≡ prefix_kind → ⊥) (q : place_of f s' ≡ o) where
    node_case : (l : Lay) → l ≡ K.sub.lay → Inside f l → Tree E f K.sub.path l → slot_of l ≡ s' → AtNode o kind
    unfolding Tree Inside
    node_case (leaf s1 o' e k v) u I T i = absurd (x (ek ∙ rw i at T.0.kind_is))
    node_case (prefix s1 o' b l) u I T i = absurd (y (ek ∙ rw i at T.0.kind_is))
    node_case (node s1 o' kind' ks) u I T i =
        let z = entry_at_lem f s1 s' kind' kind o' o i (sym ek) q T.0 in
        let A : InnerAt f o kind (pairs ks) = rw (z.0, z.1) at T.1.inner in
        let m = node_short K.sub.lawful f K.sub.path (node s1 o' kind' ks) K.sub.bytes tt T in
        let e = K.sub.deep in
        record { kids = ks; inner = A; asc = rising A; trees = T.2; inside = I.1; leaves_are = sym (ap leaves u); short = omega arith }
      where
        rising : {ks : List (ℕ × ℕ)} → InnerAt f o kind ks → Asc 0 ks
        rising A = let r = A.range in elim (ℕ_discrete kind 4) [
          | yes e ↦ (A.four e).asc
          | no a ↦ elim (ℕ_discrete kind 5) [
            | yes e ↦ (A.five e).asc
            | no b ↦ elim (ℕ_discrete kind 6) [
              | yes e ↦ (A.six e).asc
              | no c ↦ (A.seven (omega arith)).asc
            ]
          ]
        ]

    pub at_node : AtNode o kind
    at_node = node_case K.sub.lay refl K.sub.inside K.sub.tree K.sub.slot_is

    abbrev kept : Kept E K.sub.path 0 at_node.kids
    kept = trees_kept E f K.sub.path 0 at_node.kids at_node.asc at_node.trees

    -- the first child from a byte on, or what there was
    pub nearer_falls : {r : Optional Spare} (lo : ℕ) → Nearer f o kind lo d p r → Fallback E f r (or_else (first_leaf (leaves_all (kids_from lo at_node.kids))) K.spare)
    nearer_falls {r} lo N = elim (ℕ_discrete (next_kid lo (pairs at_node.kids)).0 256) [
      | yes e ↦
          let z = N.lacking (pairs at_node.kids) at_node.inner e in
          rw (kids_none E K.sub.lawful f K.sub.path d K.sub.bytes K.sub.deep at_node.short 0 lo at_node.kids at_node.asc e, z) K.falls
      | no e ↦
          let z = N.having (pairs at_node.kids) at_node.inner e in
          let S = kids_some E K.sub.lawful f K.sub.path d K.sub.bytes K.sub.deep at_node.short 0 lo at_node.kids at_node.asc at_node.trees at_node.inside e in
          rw z (record { to = record { sub = S.0; first = rw S.1 (or_full (leaves S.0.lay) K.spare (tree_full E f S.0.path S.0.lay S.0.tree)) } })
    ]

    -- the bound ends here
    pub node_end : {r : Optional ℕ} → length w ≤ d → Is (or_else (first_leaf (leaves_all (kids_from t at_node.kids))) K.spare) r → SoughtAt E f g t s r
    node_end {r} e i path l T j =
        let z = drop_of_length-le w {i = length K.sub.path} (let y = K.sub.deep in omega arith) in
        as_is (first_from g t (leaves l)) (or_else (first_leaf (leaves_all (kids_from t at_node.kids))) K.spare)
        (K.whole path l T j ∙ rw (at_node.leaves_are, node_tail K.guides K.sub.path K.undecided 0 at_node.kids kept z)) i

    module _ (e : d < length w) where
      next_byte : drop (length K.sub.path) w ≡ get_or w d 0 ∷ drop (suc d) w
      next_byte = rw K.sub.deep (drop-cons w d 0 e)

      split : (path : List ℕ) (l : Lay) → Tree E f path l → slot_of l ≡ s → first_from g t (leaves l)
          ≡ or_else (first_from g t (leaves_at (get_or w d 0) at_node.kids)) (or_else (first_leaf (leaves_all (kids_from (suc (get_or w d 0)) at_node.kids))) K.spare)
      split path l T j =
          K.whole path l T j
          ∙ rw (at_node.leaves_are, node_byte K.guides K.sub.path K.undecided 0 at_node.kids (get_or w d 0) (drop (suc d) w) kept next_byte) (or_assoc (first_from g t (leaves_at (get_or w d 0) at_node.kids)) (first_leaf (leaves_all (kids_from (suc (get_or w d 0)) at_node.kids))) K.spare)

      -- no child has the byte
      pub node_miss : {r : Optional ℕ} → ((ks : List (ℕ × ℕ)) → InnerAt f o kind ks → none ≡ look_kid (get_or w d 0) ks)
          → Is (or_else (first_leaf (leaves_all (kids_from (suc (get_or w d 0)) at_node.kids))) K.spare) r → SoughtAt E f g t s r
      node_miss {r} C i path l T j =
          as_is (first_from g t (leaves l)) (or_else (first_leaf (leaves_all (kids_from (suc (get_or w d 0)) at_node.kids))) K.spare)
          (split path l T j ∙ rw (kid_gone E K.sub.lawful f K.sub.path d K.sub.bytes K.sub.deep at_node.short (get_or w d 0) at_node.kids at_node.trees at_node.inside (C (pairs at_node.kids) at_node.inner))) i

      -- one has
      pub node_on : {p' : Optional Spare} {c : ℕ} → Nearer f o kind (suc (get_or w d 0)) d p p' → ((ks : List (ℕ × ℕ)) → InnerAt f o kind ks → some c ≡ look_kid (get_or w d 0) ks) → Seeking E f g w t s c (d + 1) p'
      node_on {p'} {c} N C =
          let S = kid_there E K.sub.lawful f K.sub.path d K.sub.bytes K.sub.deep at_node.short (get_or w d 0) c at_node.kids at_node.trees at_node.inside (C (pairs at_node.kids) at_node.inner) in
          record {
            sub = S.0;
            guides = K.guides;
            undecided = ap (λ (x : List ℕ). weigh w t x) S.1 ∙ weigh_byte w t K.sub.path (get_or w d 0) (drop (suc d) w) (get_or w d 0) K.undecided next_byte ∙ rw (le-ltb (get_or w d 0) (get_or w d 0) (omega arith), eq-eqb (get_or w d 0) (get_or w d 0) refl);
            spare = or_else (first_leaf (leaves_all (kids_from (suc (get_or w d 0)) at_node.kids))) K.spare;
            falls = nearer_falls (suc (get_or w d 0)) N;
            whole = λ path l T j. split path l T j ∙ rw S.2;
          }
