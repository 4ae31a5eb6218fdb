-- Two frames that one promise permits of one frame, key and value are equal up to what docs/ lists. Assumes nothing.
use Prim.Native.Nat.{ℕ, ◌+◌, ◌<◌, ◌≤◌}
use mathlib.Core.Path.{◌≡◌, refl, sym, ◌∙◌}
use mathlib.Core.List.{List, [], ◌∷◌, ◌++◌}
use mathlib.Core.Bool.{Bool, true, false}
use native.Mathlib.Omega.{arith}
use native.Mathlib.Decide.{dec_le}
use lib.ListN.{length}
use Rattle.layout.specs.Number.{byte_at, Bytes}
use Rattle.layout.specs.Kind.{body_size}
use Rattle.model.specs.Edition.{Edition, Value, text_of}
use Rattle.model.specs.State.{State, Write, put_change, on_write, on_erase}
use Rattle.model.specs.Item.{Item, body, extent, on_slot, cover, sum}
use Rattle.model.specs.Body.{LeafAt, PrefixAt}
use Rattle.model.specs.Frame.{Lay, LayKids, slot_of, art, art_kids, Root, bare, tree, root_art, root_items, RootAt, Tree, Trees, NodeOf, freed, Stands}
use Rattle.model.specs.Frame.Lay.{leaf, prefix, node}
use Rattle.model.specs.Frame.LayKids.{nil, kid}
use Rattle.model.specs.Touch.{Touch, among, is_body, put_touch, erase_touch, find_at, extent_at, dying, Outside}
use Rattle.model.specs.Promise.{changes, erase_kinds, WritePromise, ErasePromise}
use Rattle.model.specs.Freedom.{Alike, LeafTwins, PrefixTwins, NodeTwins, Twins, TwinsAll, RootTwins, UpTo}
use Rattle.model.proofs.StringLaws.{clash}
use Rattle.model.proofs.ItemLaws.{in_where, sum_app, slot_once}
use Rattle.model.proofs.ShapeLaws.{prefix_same, atop_leaf, atop_node}
use Rattle.model.proofs.AlikeLaws.{alike, result_of, arts_same, put_number, erase_number, put_same_cap, erase_same_cap}
use Rattle.model.proofs.CleanLaws.{stands_clean}
use Rattle.model.proofs.ExtentLaws.{dying_less}
use Rattle.model.proofs.BytesLaws.{leaf_twin, text_twin, prefix_twin, node_twin}
use Rattle.model.proofs.SettledLaws.{is_body_lem, is_body_self, slot_of_body, same_numbers, numbers_agree}
use Rattle.model.proofs.KeptLaws.{still_there, kept_byte, not_gone, cover_at, extent_beside, none_beside}

-- ---- body by body

module _ (E : Edition) (f g : List ℕ) (F : Bytes f) (G : Bytes g) where
  leaf_twins : (o e o' e' : ℕ) (k : List ℕ) (v : Value) (k' : List ℕ) (v' : Value) → k ≡ k' → v ≡ v' → LeafAt f o e k v → LeafAt g o' e' k' v' → LeafTwins f o e g o' e' (length k + length (text_of v))
  leaf_twins o e o' e' k v k' v' ek ev A B =
      let B' : LeafAt g o' e' k v = rw (ek, ev) B in
      record { names = (A.extent, B.extent); copied = leaf_twin f g F G o o' e e' k v A B'; text = text_twin f g F G o o' e e' k v A B' }

  prefix_twins : (o o' c c' : ℕ) (q q' : List ℕ) → q ≡ q' → PrefixAt f o q c → PrefixAt g o' q' c' → PrefixTwins f o c g o' c'
  prefix_twins o o' c c' q q' e A B =
      let B' : PrefixAt g o' q c' = rw e B in record { names = (A.child, B.child); copied = prefix_twin f g F G o o' q c c' A B' }

  node_twins : (o o' kind kind' : ℕ) (ks ks' : LayKids) → kind ≡ kind' → art_kids ks ≡ art_kids ks' → NodeOf f o kind ks → NodeOf g o' kind' ks' → NodeTwins f o g o' kind ks ks'
  node_twins o o' kind kind' ks ks' e h A B = let B' : NodeOf g o' kind ks' = rw e B in node_twin f g F G ks ks' h o o' kind A B'

  mutual
    unfolding Tree Trees Twins TwinsAll

    twins : (l : Lay) (p p' : List ℕ) (l' : Lay) → Tree E f p l → Tree E g p' l' → art l ≡ art l' → Twins f g l l'
    twins (leaf s o e k v) p p' (leaf s' o' e' k' v') T U h = leaf_twins o e o' e' k v k' v' (cc) (cc) T.1.at U.1.at
    twins (leaf s o e k v) p p' (prefix s' o' q' l') T U h = atop_leaf q' (art l') k v (sym h)
    twins (leaf s o e k v) p p' (node s' o' kind' ks') T U h = clash (cc)
    twins (prefix s o q l) p p' (leaf s' o' e' k' v') T U h = atop_leaf q (art l) k' v' h
    twins (prefix s o q l) p p' (prefix s' o' q' l') T U h =
        let e = prefix_same E f g p p' s o q l s' o' q' l' T U h in (prefix_twins o o' (slot_of l) (slot_of l') q q' e.0 T.1 U.1, twins l (p ++ q) (p' ++ q') l' T.3 U.3 e.1)
    twins (prefix s o q l) p p' (node s' o' kind' ks') T U h = atop_node q (art l) kind' (art_kids ks') h
    twins (node s o kind ks) p p' (leaf s' o' e' k' v') T U h = clash (cc)
    twins (node s o kind ks) p p' (prefix s' o' q' l') T U h = atop_node q' (art l') kind (art_kids ks) (sym h)
    twins (node s o kind ks) p p' (node s' o' kind' ks') T U h =
        let e : art_kids ks ≡ art_kids ks' = cc in (node_twins o o' kind kind' ks ks' (cc) e T.1 U.1, twins_all ks p p' ks' T.2 U.2 e)

    twins_all : (ks : LayKids) (p p' : List ℕ) (ks' : LayKids) → Trees E f p ks → Trees E g p' ks' → art_kids ks ≡ art_kids ks' → TwinsAll f g ks ks'
    twins_all nil p p' nil T U h = tt
    twins_all nil p p' (kid b' j' l' ks') T U h = clash (cc)
    twins_all (kid b j l ks) p p' nil T U h = clash (cc)
    twins_all (kid b j l ks) p p' (kid b' j' l' ks') T U h =
        let e : art l ≡ art l' = cc in
        let i : art_kids ks ≡ art_kids ks' = cc in
        (twins l (p ++ b ∷ []) (p' ++ b' ∷ []) l' T.0 U.0 e, twins_all ks p p' ks' T.1 U.1 i)

  root_twins : (r r' : Root) → RootAt E f r → RootAt E g r' → root_art r ≡ root_art r' → RootTwins f g r r'
  unfolding RootAt RootTwins
  root_twins (bare s o) (bare s' o') T U h = λ j l u. T.1 j u ∙ sym (U.1 j u)
  root_twins (bare s o) (tree l') T U h = clash (cc)
  root_twins (tree l) (bare s' o') T U h = clash (cc)
  root_twins (tree l) (tree l') T U h = let e : art l ≡ art l' = cc in twins l [] [] l' T U e

-- ---- a slot has one kind and one place

pub slot_find : (s : ℕ) (is : List Item) → 1 ≤ sum (on_slot s) is → (k : ℕ) × (o : ℕ) × (1 ≤ sum (is_body s k o) is)
unfolding sum on_slot
slot_find s [] h = absurd (omega arith)
slot_find s (extent e n ∷ is) h = let B = slot_find s is (omega arith) in (B.0, B.1, omega (arith, B.2))
slot_find s (body t k o ∷ is) h = elim (dec_le 1 (on_slot s (body t k o))) [
  | yes q ↦
      let w = (in_where t 1 s).is q in
      let e : s ≡ t = omega arith in
      let z : is_body s k o (body t k o) ≡ 1 = rw e (is_body_self t k o) in
      (k, o, omega arith)
  | no q ↦ let B = slot_find s is (omega arith) in (B.0, B.1, omega (arith, B.2))
]

pub one_place : (s k o k' o' : ℕ) (is : List Item) → sum (on_slot s) is ≤ 1 → 1 ≤ sum (is_body s k o) is → 1 ≤ sum (is_body s k' o') is → (k ≡ k') × (o ≡ o')
unfolding sum
one_place s k o k' o' [] h p q = absurd (omega arith)
one_place s k o k' o' (extent e n ∷ is) h p q = one_place s k o k' o' is (omega arith) (omega arith) (omega arith)
one_place s k o k' o' (body t c a ∷ is) h p q =
    let u = slot_of_body s k o (body t c a ∷ []) in
    let v = slot_of_body s k' o' (body t c a ∷ []) in
    elim (dec_le 1 (is_body s k o (body t c a))) [
      | yes x ↦ elim (dec_le 1 (is_body s k' o' (body t c a))) [
        | yes y ↦ let i = is_body_lem s k o t c a x in let j = is_body_lem s k' o' t c a y in (i.1 ∙ sym j.1, i.2 ∙ sym j.2)
        | no y ↦ absurd (omega (arith, slot_of_body s k' o' is))
      ]
      | no x ↦ elim (dec_le 1 (is_body s k' o' (body t c a))) [
        | yes y ↦ absurd (omega (arith, slot_of_body s k o is))
        | no y ↦ one_place s k o k' o' is (omega arith) (omega arith) (omega arith)
      ]
    ]

-- ---- one result of a step

-- the key's extent lies beside every body
abbrev Beside : Root → List Item → Type 0
Beside r xs = (s k o a : ℕ) → 1 ≤ sum (is_body s k o) (root_items r) → sum (cover a) xs + cover a (body s k o) ≤ sum (cover a) (root_items r)

module _ {E : Edition} {f f' : List ℕ} {s s' : State} (w : Stands E f s) (w' : Stands E f' s') {kinds : List ℕ} {t : Touch} {xs dies : List Item} {new : Bool}
    (O : Outside f f' w.root w'.root w.lists w'.lists kinds t xs dies new) where
  place_kept : (s k o k0 o0 : ℕ) → 1 ≤ sum (is_body s k0 o0) (root_items w.root) → 1 ≤ sum (is_body s k o) (root_items w'.root) → o ≡ o0
  place_kept s k o k0 o0 h p =
      let R = root_items w'.root in
      let L = freed 1 w'.lists in
      (one_place s k o k0 o0 (R ++ L) (slot_once w'.heap.sound s) (omega (arith, sum_app (is_body s k o) R L))
      (O.keeps s k0 o0 (omega (arith, sum_app (is_body s k0 o0) (root_items w.root) (freed 1 w.lists))))).1

  bytes_kept : w'.nums.N ≡ w.nums.N → Beside w'.root xs → Beside w.root dies → (s k o : ℕ) → 1 ≤ sum (is_body s k o) (root_items w.root) → among s (t.goes ++ t.rewrites) ≡ false → (j : ℕ) → j < body_size k
      → byte_at f' (o + j) ≡ byte_at f (o + j)
  bytes_kept cap beside before s k o h n j u =
      let g = not_gone s t.goes t.rewrites n in
      kept_byte w w' O cap s k o h g n (o + j) (cover_at s k o j u) (beside s k o (o + j) (still_there w w' O cap s k o h g n)) (before s k o (o + j) h)

-- ---- two results of one step

module _ {E : Edition} {f f' f'' : List ℕ} {s s' : State} (w : Stands E f s) (w' : Stands E f' s') (w'' : Stands E f'' s') {kinds : List ℕ} {t : Touch} {xs' xs'' dies : List Item} {new : Bool}
    (O : Outside f f' w.root w'.root w.lists w'.lists kinds t xs' dies new) (Q : Outside f f'' w.root w''.root w.lists w''.lists kinds t xs'' dies new) (wiped : E.wiped ≡ true) where
  up_to : Alike w.root w'.root w''.root → Alike w.root w''.root w'.root → w'.nums.N ≡ w.nums.N → Beside w'.root xs' → Beside w''.root xs'' → Beside w.root dies
      → UpTo w.root kinds t dies f' f'' w'.root w''.root w'.lists w''.lists xs' xs''
  up_to A B cap I J I0 =
      let N = same_numbers w' w'' refl in
      record {
        forth = A;
        back = B;
        places = λ s k o k' o' h p q. let F = slot_find s (root_items w.root) h in place_kept w w' O s k o F.0 F.1 F.2 p ∙ sym (place_kept w w'' Q s k' o' F.0 F.1 F.2 q);
        kept = λ s k o h n j l u. bytes_kept w w' O cap I I0 s k o h n j u ∙ sym (bytes_kept w w'' Q (sym N.N ∙ cap) J I0 s k o h n j u);
        bodies = root_twins E f' f'' w'.bytes w''.bytes w'.root w''.root w'.root_at w''.root_at (arts_same w' w'');
        size = w'.heap.header.size ∙ N.F ∙ sym w''.heap.header.size;
        numbers = λ a l. numbers_agree E f' f'' w'.bytes w''.bytes a w'.nums w''.nums w'.heap.header w''.heap.header N l;
        other = λ a h g. O.other a h ∙ sym (Q.other a g);
        zeros = (stands_clean w' wiped, stands_clean w'' wiped);
      }

-- ---- put and erase

module _ {E : Edition} {a : Write} {f k : List ℕ} {v : Value} {n m : ℕ} {f' f'' : List ℕ} (P : WritePromise E a f k v n f') (Q : WritePromise E a f k v m f'') {s : State} (w : Stands E f s) (done : changes n ≡ true) where
  abbrev one : Stands E f' (on_write E a s k v).state
  one = (P.after s w).0

  abbrev other : Stands E f'' (on_write E a s k v).state
  other = (Q.after s w).0

  pub put_up_to : E.wiped ≡ true → UpTo w.root ((put_change E s k v).takes ++ (put_change E s k v).frees) (put_touch E w.root k v) (dying (put_change E s k v).dead (extent_at (length k) (find_at E w.root k))) f' f'' one.root other.root one.lists other.lists
      (extent_at (length k) (find_at E one.root k)) (extent_at (length k) (find_at E other.root k))
  put_up_to wiped =
      let O = (P.after s w).1 done in
      let O' = (Q.after s w).1 (rw (← put_number P Q w) done) in
      let R = result_of w.root one O in
      let S = result_of w.root other O' in
      let e = arts_same one other in
      up_to w one other O O' wiped (alike f w.root_at R S e) (alike f w.root_at S R (sym e)) (put_same_cap a k v w one) (extent_beside E k one.root) (extent_beside E k other.root)
      (λ s' k' o' a h. omega (arith, dying_less (cover a) (put_change E s k v).dead (extent_at (length k) (find_at E w.root k)), extent_beside E k w.root s' k' o' a h))

module _ {E : Edition} {f k : List ℕ} {n m : ℕ} {f' f'' : List ℕ} (P : ErasePromise E f k n f') (Q : ErasePromise E f k m f'') {s : State} (w : Stands E f s) (done : n ≡ 0) (more : 2 ≤ s.R) where
  abbrev eone : Stands E f' (on_erase E s k).state
  eone = (P.after s w).0

  abbrev eother : Stands E f'' (on_erase E s k).state
  eother = (Q.after s w).0

  pub erase_up_to : E.wiped ≡ true → UpTo w.root (erase_kinds E w.root k) (erase_touch E w.root k) (extent_at (length k) (find_at E w.root k)) f' f'' eone.root eother.root eone.lists eother.lists [] []
  erase_up_to wiped =
      let O = (P.after s w).1 done more in
      let O' = (Q.after s w).1 (sym (erase_number P Q w) ∙ done) more in
      let R = result_of w.root eone O in
      let S = result_of w.root eother O' in
      let e = arts_same eone eother in
      up_to w eone eother O O' wiped (alike f w.root_at R S e) (alike f w.root_at S R (sym e)) (erase_same_cap k w eone) (none_beside eone.root) (none_beside eother.root) (extent_beside E k w.root)
