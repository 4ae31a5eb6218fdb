-- Two frames that one promise permits, with one tree and the same lists: they agree on every byte but padding. Assumes nothing.
use Prim.Native.Nat.{ℕ, suc, ◌+◌, ◌-◌, ◌*◌, ◌/◌, ◌<◌, ◌≤◌}
use mathlib.Core.Path.{◌≡◌, refl, sym, ap, ◌∙◌}
use mathlib.Core.List.{List, [], ◌∷◌, ◌++◌}
use mathlib.Core.Bool.{Bool, true, false}
use mathlib.Core.Option.{Option, none, some}
use native.Mathlib.Omega.{arith}
use native.Mathlib.Decide.{dec_le, dec_lt, ℕ_discrete}
use lib.ListN.{length, get_or, drop, length-append}
use lib.Dec.{eqb}
use borrow.Author.Tests.{eq-eqb}
use Rattle.layout.specs.Number.{le, byte_at, Bytes}
use Rattle.layout.specs.Place.{at_edition, at_f, at_n, at_d, data_start, at_b, at_u, at_r, at_x, at_root, at_head, at_spare, entry_at}
use Rattle.layout.specs.Kind.{leaf_kind, prefix_kind, empty_root_kind, body_size}
use Rattle.layout.specs.Entry.{high_of}
use Rattle.layout.proofs.NumberLaws.{le_inj}
use Rattle.model.specs.Strings.{pick, same, shared}
use Rattle.model.specs.Edition.{Edition, Value, text_of}
use Rattle.model.specs.State.{State, Write, put_change, on_write, on_erase}
use Rattle.model.specs.Tree.{up8, extent_of}
use Rattle.model.specs.Item.{Item, body, extent, inside, on_slot, cover, on_entry, sum}
use Rattle.model.specs.Body.{Zero}
use Rattle.model.specs.Frame.{Lay, LayKids, slot_of, Root, bare, tree, items, items_all, root_items, root_slot, RootAt, Tree, Trees, Entry, Numbers, Header, Chain, Lists, list_items, freed, state_of, Stands}
use Rattle.model.specs.Frame.Lay.{leaf, prefix, node}
use Rattle.model.specs.Frame.LayKids.{nil, kid}
use Rattle.model.specs.Touch.{Touch, Part, among, not_in, those, of_kinds, is_body, touched, find_lay, find_lay_kids, find_at, extent_at, Outside}
use Rattle.model.specs.Promise.{changes, WritePromise, ErasePromise}
use Rattle.model.specs.Freedom.{padding}
use Rattle.model.proofs.StringLaws.{clash, bool_cases, eqb_cases, same_true}
use Rattle.model.proofs.ItemLaws.{in_where, in_yes, sum_app, slot_once}
use Rattle.model.proofs.ShiftLaws.{Result}
use Rattle.model.proofs.AlikeLaws.{slot_stays, result_of, put_number, erase_number, put_same_cap, erase_same_cap}
use Rattle.model.proofs.CleanLaws.{stands_clean, freed_bare}
use Rattle.model.proofs.ExtentLaws.{dying_less, placed, sized, root_past, found_low}
use Rattle.model.proofs.BytesLaws.{entry_bytes, leaf_bytes, prefix_bytes_lem, node_bytes}

-- ---- where a live body stands, by its entry or by itself

unfoldable pub stood : ℕ → Item → ℕ
stood a (body s k o) = inside (entry_at s) 4 a + inside o (body_size k) a
stood a (extent e n) = 0

stood_body : (a s k o : ℕ) → stood a (body s k o) ≡ inside (entry_at s) 4 a + inside o (body_size k) a
unfolding stood
stood_body a s k o = refl

stood_extent : (a e n : ℕ) → stood a (extent e n) ≡ 0
unfolding stood
stood_extent a e n = refl

hit : {A : Type 0} (a s k o : ℕ) → 1 ≤ stood a (body s k o) → (entry_at s ≤ a → a < entry_at s + 4 → A) → (o ≤ a → a < o + body_size k → A) → A
hit a s k o h E B = elim (dec_le 1 (inside (entry_at s) 4 a)) [
  | yes q ↦ let w = (in_where (entry_at s) 4 a).is q in E w.0 w.1
  | no q ↦ let w = (in_where o (body_size k) a).is (omega (arith, stood_body a s k o)) in B w.0 w.1
]

-- a list settles the number that leads to it
chain_head : (f g : List ℕ) (h h' : ℕ) (xs : List (ℕ × ℕ)) → Chain f h xs → Chain g h' xs → h ≡ h'
unfolding Chain
chain_head f g h h' [] C D = C ∙ sym D
chain_head f g h h' (x ∷ xs) C D = C.0 ∙ sym D.0

-- the numbers that two frames of one state have in common
pub record SameNumbers (n m : Numbers) : Type 0 where
  pub edition : n.edition ≡ m.edition
  pub F : n.F ≡ m.F
  pub N : n.N ≡ m.N
  pub B : n.B ≡ m.B
  pub U : n.U ≡ m.U
  pub R : n.R ≡ m.R
  pub X : n.X ≡ m.X

pub same_numbers : {E : Edition} {f f' : List ℕ} {s s' : State} (w : Stands E f s) (w' : Stands E f' s') → s ≡ s' → SameNumbers w.nums w'.nums
same_numbers w w' e =
    let st : state_of w.nums w.lists w.root ≡ state_of w'.nums w'.lists w'.root = sym w.state ∙ e ∙ w'.state in
    record {
      edition = w.edition_is ∙ sym w'.edition_is;
      F = ap (λ (z : State). z.F) st;
      N = ap (λ (z : State). z.N) st;
      B = ap (λ (z : State). z.B) st;
      U = ap (λ (z : State). z.U) st;
      R = ap (λ (z : State). z.R) st;
      X = ap (λ (z : State). z.X) st;
    }

module _ (E : Edition) (f g : List ℕ) (F : Bytes f) (G : Bytes g) (a : ℕ) where
  here : (s k o : ℕ) → 1 ≤ stood a (body s k o) → Entry f s k o → Entry g s k o → ((b : ℕ) → o ≤ b → b < o + body_size k → byte_at f b ≡ byte_at g b) → byte_at f a ≡ byte_at g a
  here s k o h A B bytes = hit a s k o h (entry_bytes f g F G s k o A B a) (bytes a)

  mutual
    unfolding Tree Trees items items_all sum

    tree_agrees : (p : List ℕ) (l : Lay) → Tree E f p l → Tree E g p l → 1 ≤ sum (stood a) (items l) → byte_at f a ≡ byte_at g a
    tree_agrees p (leaf s o e k v) T U h = here s leaf_kind o (omega (arith, stood_extent a e (extent_of k v))) T.0 U.0 (leaf_bytes f g F G o e k v T.1.at U.1.at)
    tree_agrees p (prefix s o q l) T U h = elim (dec_le 1 (stood a (body s prefix_kind o))) [
      | yes t ↦ here s prefix_kind o t T.0 U.0 (prefix_bytes_lem f g F G o q (slot_of l) T.1 U.1)
      | no t ↦ tree_agrees (p ++ q) l T.3 U.3 (omega arith)
    ]
    tree_agrees p (node s o kind ks) T U h = elim (dec_le 1 (stood a (body s kind o))) [
      | yes t ↦ here s kind o t T.0 U.0 (node_bytes f g F G o kind ks T.1 U.1)
      | no t ↦ trees_agree p ks T.2 U.2 (omega arith)
    ]

    trees_agree : (p : List ℕ) (ks : LayKids) → Trees E f p ks → Trees E g p ks → 1 ≤ sum (stood a) (items_all ks) → byte_at f a ≡ byte_at g a
    trees_agree p nil T U h = absurd (omega arith)
    trees_agree p (kid b j l ks) T U h = elim (dec_le 1 (sum (stood a) (items l))) [
      | yes t ↦ tree_agrees (p ++ b ∷ []) l T.0 U.0 t
      | no t ↦ trees_agree p ks T.1 U.1 (omega (arith, sum_app (stood a) (items l) (items_all ks)))
    ]

  root_agrees : (r : Root) → RootAt E f r → RootAt E g r → 1 ≤ sum (stood a) (root_items r) → byte_at f a ≡ byte_at g a
  unfolding RootAt root_items sum
  root_agrees (bare s o) T U h = here s empty_root_kind o (omega arith) T.0 U.0 (zero_row o T.1 U.1)
    where
      zero_row : (o : ℕ) → Zero f o 8 → Zero g o 8 → (b : ℕ) → o ≤ b → b < o + 8 → byte_at f b ≡ byte_at g b
      zero_row o P Q b l u =
          let e : o + (b - o) ≡ b = omega arith in
          let r : byte_at f (o + (b - o)) ≡ byte_at g (o + (b - o)) = P (b - o) (omega arith) ∙ sym (Q (b - o) (omega arith)) in
          rw e at r
  root_agrees (tree l) T U h = tree_agrees [] l T U h

  -- ---- the lists

  chain_agrees : (k h h' : ℕ) (xs : List (ℕ × ℕ)) → Chain f h xs → Chain g h' xs → 1 ≤ sum (on_entry a) (list_items k xs) → byte_at f a ≡ byte_at g a
  unfolding Chain list_items sum on_entry
  chain_agrees k h h' [] C D t = absurd (omega arith)
  chain_agrees k h h' (x ∷ xs) C D t = elim (dec_le 1 (inside (entry_at x.0) 4 a)) [
    | yes q ↦
        let w = (in_where (entry_at x.0) 4 a).is q in
        let e = chain_head f g (high_of f x.0) (high_of g x.0) xs C.2 D.2 in
        entry_bytes f g F G x.0 (high_of f x.0) x.1 (record { kind_is = refl; place_is = C.1 }) (record { kind_is = sym e; place_is = D.1 }) a w.0 w.1
    | no q ↦ chain_agrees k (high_of f x.0) (high_of g x.0) xs C.2 D.2 (omega arith)
  ]

  lists_agree : (k n : ℕ) (ls : List (List (ℕ × ℕ))) → ((i : ℕ) → i < length ls → Chain f (le 2 f (at_head (n + i + 1))) (get_or ls i [])) → ((i : ℕ) → i < length ls → Chain g (le 2 g (at_head (n + i + 1))) (get_or ls i []))
      → 1 ≤ sum (on_entry a) (freed k ls) → byte_at f a ≡ byte_at g a
  unfolding freed sum
  lists_agree k n [] C D h = absurd (omega arith)
  lists_agree k n (l ∷ ls) C D h = elim (dec_le 1 (sum (on_entry a) (list_items k l))) [
    | yes q ↦ chain_agrees k (le 2 f (at_head (n + 0 + 1))) (le 2 g (at_head (n + 0 + 1))) l (C 0 (omega arith)) (D 0 (omega arith)) q
    | no q ↦ lists_agree (suc k) (n + 1) ls
        (λ i t. let e : n + 1 + i + 1 ≡ n + suc i + 1 = omega arith in rw e (C (suc i) (omega arith)))
        (λ i t. let e : n + 1 + i + 1 ≡ n + suc i + 1 = omega arith in rw e (D (suc i) (omega arith)))
        (omega (arith, sum_app (on_entry a) (list_items k l) (freed (suc k) ls)))
  ]

  -- ---- the header's fields

  half : (n : ℕ) → (2 * (n / 2) ≤ n) × (n < 2 * (n / 2) + 2)
  half n = (omega arith, omega arith)

  heads_agree : (ls : List (List (ℕ × ℕ))) → Lists f ls → Lists g ls → 34 ≤ a → a < 50 → byte_at f a ≡ byte_at g a
  heads_agree ls L M l u =
      let i = (a - 34) / 2 in
      let h = half (a - 34) in
      let q : i < 8 = omega arith in
      le_inj 2 f g (at_head (i + 1)) F G (chain_head f g (le 2 f (at_head (i + 1))) (le 2 g (at_head (i + 1))) (get_or ls i []) (L.chains i q) (M.chains i q)) a (omega arith) (omega arith)

  pub numbers_agree : (n m : Numbers) → Header f n → Header g m → SameNumbers n m → a < at_root → byte_at f a ≡ byte_at g a
  numbers_agree n m H K e u = elim (dec_lt a 4) [
    | yes h ↦ le_inj 4 f g at_edition F G (H.edition ∙ ap (λ (X : Edition). X.number) e.edition ∙ sym K.edition) a (omega arith) (omega arith)
    | no h ↦ elim (dec_lt a 8) [
      | yes i ↦ le_inj 4 f g at_f F G (H.stored ∙ e.F ∙ sym K.stored) a (omega arith) (omega arith)
      | no i ↦ elim (dec_lt a 12) [
        | yes j ↦ le_inj 4 f g at_n F G (H.slots_at ∙ e.N ∙ sym K.slots_at) a (omega arith) (omega arith)
        | no j ↦ elim (dec_lt a 16) [
          | yes t ↦ le_inj 4 f g at_d F G (H.data_at ∙ ap data_start e.N ∙ sym K.data_at) a (omega arith) (omega arith)
          | no t ↦ elim (dec_lt a 20) [
            | yes v ↦ le_inj 4 f g at_b F G (H.bump_at ∙ e.B ∙ sym K.bump_at) a (omega arith) (omega arith)
            | no v ↦ elim (dec_lt a 24) [
              | yes x ↦ le_inj 4 f g at_u F G (H.given_at ∙ e.U ∙ sym K.given_at) a (omega arith) (omega arith)
              | no x ↦ elim (dec_lt a 28) [
                | yes y ↦ le_inj 4 f g at_r F G (H.records_at ∙ e.R ∙ sym K.records_at) a (omega arith) (omega arith)
                | no y ↦ le_inj 4 f g at_x F G (H.dead_at ∙ e.X ∙ sym K.dead_at) a (omega arith) (omega arith)
              ]
            ]
          ]
        ]
      ]
    ]
  ]

  fields_agree : (ls : List (List (ℕ × ℕ))) (n m : Numbers) → Header f n → Header g m → Lists f ls → Lists g ls → SameNumbers n m → n.root ≡ m.root → a < at_spare → byte_at f a ≡ byte_at g a
  fields_agree ls n m H K L M e er u = elim (dec_lt a 32) [
    | yes h ↦ numbers_agree n m H K e h
    | no h ↦ elim (dec_lt a 34) [
      | yes i ↦ le_inj 2 f g at_root F G (H.root_at ∙ er ∙ sym K.root_at) a (omega arith) (omega arith)
      | no i ↦ heads_agree ls L M (omega arith) (omega arith)
    ]
  ]

  -- ---- the key's extent: key and value

  module _ (k : List ℕ) (c : Part) (low : c.at ≤ a + length k) (high : a < c.at + c.long) where
    leaf_text : (p : List ℕ) (s o e : ℕ) (k' : List ℕ) (v' : Value) (d : ℕ) → find_lay E (leaf s o e k' v') d k ≡ some c → Tree E f p (leaf s o e k' v') → Tree E g p (leaf s o e k' v') → byte_at f a ≡ byte_at g a
    unfolding Tree
    leaf_text p s o e k' v' d h T U = bool_cases (same k k')
        (λ t.
        let q : some (record { at = e + length k'; long = length (text_of v'); stamp = v'.stamp }) ≡ some c = rw t at h in
        let x : c.at ≡ e + length k' = ap (λ (z : Option Part). placed z) (sym q) in
        let y : c.long ≡ length (text_of v') = ap (λ (z : Option Part). sized z) (sym q) in
        let n : length k ≡ length k' = ap length (same_true k k' t) in
        let m = length-append k' (text_of v') in
        let z : e + (a - e) ≡ a = omega arith in
        let r : byte_at f (e + (a - e)) ≡ byte_at g (e + (a - e)) = T.1.at.text (a - e) (omega arith) ∙ sym (U.1.at.text (a - e) (omega arith)) in
        rw z at r)
        (λ t. let q : none ≡ some c = rw t at h in clash (cc))

    mutual
      unfolding Tree Trees

      text_agrees : (p : List ℕ) (l : Lay) (d : ℕ) → find_lay E l d k ≡ some c → Tree E f p l → Tree E g p l → byte_at f a ≡ byte_at g a
      text_agrees p (leaf s o e k' v') d h T U = leaf_text p s o e k' v' d h T U
      text_agrees p (prefix s o q l) d h T U = bool_cases (eqb (shared q (drop d (E.walked k))) (length q))
          (λ t. text_agrees (p ++ q) l (d + length q) (rw t at h) T.3 U.3)
          (λ t. let z : none ≡ some c = rw t at h in clash (cc))
      text_agrees p (node s o kind ks) d h T U = texts_agree p ks d h T.2 U.2

      texts_agree : (p : List ℕ) (ks : LayKids) (d : ℕ) → find_lay_kids E ks d k ≡ some c → Trees E f p ks → Trees E g p ks → byte_at f a ≡ byte_at g a
      texts_agree p nil d h T U = clash (cc)
      texts_agree p (kid b j l ks) d h T U = bool_cases (eqb b (get_or (E.walked k) d 0))
          (λ t. text_agrees (p ++ b ∷ []) l (d + 1) (rw t at h) T.0 U.0)
          (λ t. texts_agree p ks d (rw t at h) T.1 U.1)

    root_text : (r : Root) → find_at E r k ≡ some c → RootAt E f r → RootAt E g r → byte_at f a ≡ byte_at g a
    unfolding RootAt
    root_text (bare s o) h T U = clash (cc)
    root_text (tree l) h T U = text_agrees [] l 0 h T U

-- ---- bodies among items

pub is_body_lem : (s k o s' k' o' : ℕ) → 1 ≤ is_body s k o (body s' k' o') → (s ≡ s') × (k ≡ k') × (o ≡ o')
is_body_lem s k o s' k' o' h =
    eqb_cases s s'
    (λ t e. eqb_cases k k'
    (λ u q. eqb_cases o o' (λ v z. (e, q, z)) (λ v z. let y : 1 ≤ 0 = rw (t, u, v) at h in absurd (omega arith)))
    (λ u q. let y : 1 ≤ 0 = rw (t, u) at h in absurd (omega arith)))
    (λ t e. let y : 1 ≤ 0 = rw t at h in absurd (omega arith))

is_body_few : (s k o s' k' o' : ℕ) → is_body s k o (body s' k' o') ≤ 1
is_body_few s k o s' k' o' = go (eqb s s') (eqb k k') (eqb o o')
  where
    go : (x y z : Bool) → pick x (pick y (pick z 1 0) 0) 0 ≤ 1
    go true true true = omega arith
    go true true false = omega arith
    go true false z = omega arith
    go false y z = omega arith

pub is_body_self : (s k o : ℕ) → is_body s k o (body s k o) ≡ 1
is_body_self s k o = rw (eq-eqb s s refl, eq-eqb k k refl, eq-eqb o o refl) refl

-- a body that is there has its weight
pub body_weighs : (v : Item → ℕ) (s k o : ℕ) (is : List Item) → 1 ≤ sum (is_body s k o) is → v (body s k o) ≤ sum v is
unfolding sum
body_weighs v s k o [] h = absurd (omega arith)
body_weighs v s k o (extent e n ∷ is) h = omega (arith, body_weighs v s k o is (omega arith))
body_weighs v s k o (body s' k' o' ∷ is) h = elim (dec_le 1 (is_body s k o (body s' k' o'))) [
  | yes q ↦ let w = is_body_lem s k o s' k' o' q in let e : v (body s k o) ≡ v (body s' k' o') = rw (w.0, w.1, w.2) refl in omega arith
  | no q ↦ omega (arith, body_weighs v s k o is (omega arith))
]

record Covers (a : ℕ) (is : List Item) : Type 0 where
  pub s : ℕ
  pub k : ℕ
  pub o : ℕ
  pub there : 1 ≤ sum (is_body s k o) is
  pub covers : 1 ≤ cover a (body s k o)

-- one of those covers byte a
those_find : (a : ℕ) (ss : List ℕ) (is : List Item) → 1 ≤ sum (cover a) (those ss is) → Covers a is
unfolding sum
those_find a ss [] h = absurd (omega arith)
those_find a ss (extent e n ∷ is) h = let F = those_find a ss is h in record { s = F.s; k = F.k; o = F.o; there = omega (arith, F.there); covers = F.covers }
those_find a ss (body s k o ∷ is) h = elim (dec_le 1 (cover a (body s k o))) [
  | yes q ↦ record { s = s; k = k; o = o; there = omega (arith, is_body_self s k o); covers = q }
  | no q ↦
      let F = those_find a ss is (bool_cases (among s ss) (λ t. let g : 1 ≤ cover a (body s k o) + sum (cover a) (those ss is) = rw t at h in omega arith) (λ t. rw t at h)) in
      record { s = F.s; k = F.k; o = F.o; there = omega (arith, F.there); covers = F.covers }
]

pub slot_of_body : (s k o : ℕ) (is : List Item) → sum (is_body s k o) is ≤ sum (on_slot s) is
unfolding sum on_slot
slot_of_body s k o [] = omega arith
slot_of_body s k o (extent e n ∷ is) = omega (arith, slot_of_body s k o is)
slot_of_body s k o (body s' k' o' ∷ is) = elim (dec_le 1 (is_body s k o (body s' k' o'))) [
  | yes q ↦ omega (arith, slot_of_body s k o is, in_yes s' 1 s (omega (arith, (is_body_lem s k o s' k' o' q).0)) (omega (arith, (is_body_lem s k o s' k' o' q).0)), is_body_few s k o s' k' o')
  | no q ↦ omega (arith, slot_of_body s k o is)
]

-- a taken body is one of the tree after
taken_stood : (a : ℕ) (R is : List Item) → sum (on_entry a) (not_in R is) + sum (cover a) (not_in R is) ≤ sum (stood a) is
unfolding sum on_entry cover stood
taken_stood a R [] = omega arith
taken_stood a R (extent e n ∷ is) = omega (arith, taken_stood a R is)
taken_stood a R (body s k o ∷ is) = bool_cases (eqb (sum (on_slot s) R) 0) (λ t. rw t (omega (arith, taken_stood a R is))) (λ t. rw t (omega (arith, taken_stood a R is)))

pub kinds_less : (v : Item → ℕ) (ks : List ℕ) (is : List Item) → sum v (of_kinds ks is) ≤ sum v is
unfolding sum
kinds_less v ks [] = omega arith
kinds_less v ks (extent e n ∷ is) = omega (arith, kinds_less v ks is)
kinds_less v ks (body s k o ∷ is) = bool_cases (among k ks) (λ t. rw t (omega (arith, kinds_less v ks is))) (λ t. rw t (omega (arith, kinds_less v ks is)))

cover_stood : (a s k o : ℕ) → cover a (body s k o) ≤ stood a (body s k o)
unfolding cover stood
cover_stood a s k o = omega arith

-- ---- what a step frees is zero after it

module _ {E : Edition} {f f' : List ℕ} {s' : State} (w' : Stands E f' s') (wiped : E.wiped ≡ true) {r : Root} {ls : List (List (ℕ × ℕ))} {kinds : List ℕ} {t : Touch} {xs dies : List Item} {new : Bool}
    (O : Outside f f' r w'.root ls w'.lists kinds t xs dies new) where
  bare_zero : (a : ℕ) → data_start w'.nums.N ≤ a → sum (cover a) (root_items w'.root) ≡ 0 → byte_at f' a ≡ 0
  bare_zero a h z = (stands_clean w' wiped).zero a (omega (arith, w'.heap.header.data_at)) z

  -- a body that it frees
  pub gone_zero : (s k o a : ℕ) → 1 ≤ sum (is_body s k o) (root_items r) → 1 ≤ cover a (body s k o) → among s t.goes ≡ true → byte_at f' a ≡ 0
  gone_zero s k o a there covers q =
      let R' = root_items w'.root in
      let F' = freed 1 w'.lists in
      let on : 1 ≤ sum (is_body s k o) F' = omega (
        arith,
        O.keeps s k o (omega (arith, sum_app (is_body s k o) (root_items r) (freed 1 ls))),
        sum_app (is_body s k o) R' F',
        slot_of_body s k o R',
        O.leaves s q,
        slot_once w'.heap.sound s,
        sum_app (on_slot s) R' F',
      ) in
      let z = freed_bare w' a (omega (arith, body_weighs (cover a) s k o F' on)) in
      bare_zero a z.0 z.1

  -- the extent that dies
  pub dead_zero : (a : ℕ) → data_start w'.nums.N ≤ a → 1 ≤ sum (cover a) dies → byte_at f' a ≡ 0
  dead_zero a d h = bare_zero a d (O.vacant a h)

-- ---- the two frames

module _ {E : Edition} {f f' f'' : List ℕ} {r r' : Root} {ls ls' : List (List (ℕ × ℕ))} {kinds : List ℕ} {t : Touch} {xs dies : List Item} {new : Bool} {s' s'' : State} (w' : Stands E f' s') (w'' : Stands E f'' s'')
    (e' : w'.root ≡ r') (e'' : w''.root ≡ r') (l' : w'.lists ≡ ls') (l'' : w''.lists ≡ ls') (es : s' ≡ s'') (O : Outside f f' r r' ls ls' kinds t xs dies new) (Q : Outside f f'' r r' ls ls' kinds t xs dies new) (wiped : E.wiped ≡ true) (a : ℕ)
    (low : a < data_start w'.nums.N → sum (cover a) dies ≡ 0) (text : 1 ≤ sum (cover a) xs → byte_at f' a ≡ byte_at f'' a) where
  rest : 1 ≤ sum (stood a) (root_items r') → byte_at f' a ≡ byte_at f'' a
  rest h = root_agrees E f' f'' w'.bytes w''.bytes a r' (rw e' at w'.root_at) (rw e'' at w''.root_at) h

  sound : (s : ℕ) → sum (on_slot s) (root_items r') + sum (on_slot s) (freed 1 ls') ≤ 1
  sound s =
      let h = slot_once w'.heap.sound s in
      let g : sum (on_slot s) (root_items r' ++ freed 1 ls') ≤ 1 = rw (e', l') at h in omega (arith, sum_app (on_slot s) (root_items r') (freed 1 ls'))

  mine : Outside f f' r w'.root ls w'.lists kinds t xs dies new
  mine = rw (e', l') O

  theirs : Outside f f'' r w''.root ls w''.lists kinds t xs dies new
  theirs = rw (e'', l'') Q

  result : Result E f' r r' t.goes
  result = rw e' at (result_of r w' mine)

  kept_body : Covers a (root_items r) → byte_at f' a ≡ byte_at f'' a
  kept_body C =
      let s = C.s in
      let k = C.k in
      let o = C.o in
      bool_cases (among s t.goes)
      (λ q. gone_zero w' wiped mine s k o a C.there C.covers q ∙ sym (gone_zero w'' wiped theirs s k o a C.there C.covers q))
      (λ q.
      let live = slot_stays result s (omega (arith, C.there, slot_of_body s k o (root_items r))) q in
      let there : 1 ≤ sum (is_body s k o) (root_items r') = omega (
        arith,
        O.keeps s k o (omega (arith, C.there, sum_app (is_body s k o) (root_items r) (freed 1 ls))),
        sum_app (is_body s k o) (root_items r') (freed 1 ls'),
        slot_of_body s k o (freed 1 ls'),
        sound s,
      ) in
      rest (omega (arith, body_weighs (stood a) s k o (root_items r') there, cover_stood a s k o, C.covers)))

  numbers : 1 ≤ inside at_b (at_spare - at_b) a → byte_at f' a ≡ byte_at f'' a
  numbers h =
      let i = (in_where at_b (at_spare - at_b) a).is h in
      fields_agree E f' f'' w'.bytes w''.bytes a ls' w'.nums w''.nums w'.heap.header w''.heap.header (rw l' at w'.heap.lists) (rw l'' at w''.heap.lists) (same_numbers w' w'' es)
      (w'.root_is ∙ ap root_slot (e' ∙ sym e'') ∙ sym w''.root_is) (omega (arith, i.1))

  links : 1 ≤ sum (on_entry a) (of_kinds kinds (freed 1 ls')) → byte_at f' a ≡ byte_at f'' a
  links h =
      let A : Lists f' ls' = rw l' at w'.heap.lists in
      let B : Lists f'' ls' = rw l'' at w''.heap.lists in
      let n = A.eight in
      lists_agree E f' f'' w'.bytes w''.bytes a 1 0 ls'
      (λ i q. let e : 0 + i + 1 ≡ i + 1 = omega arith in rw e (A.chains i (omega arith)))
      (λ i q. let e : 0 + i + 1 ≡ i + 1 = omega arith in rw e (B.chains i (omega arith)))
      (omega (arith, kinds_less (on_entry a) kinds (freed 1 ls')))

  -- where an extent died
  dead_byte : 1 ≤ sum (cover a) dies → byte_at f' a ≡ byte_at f'' a
  dead_byte h =
      let d : data_start w'.nums.N ≤ a = elim (dec_lt a (data_start w'.nums.N)) [ yes q ↦ absurd (omega (arith, low q)) | no q ↦ omega arith ] in
      dead_zero w' wiped mine a d h ∙ sym (dead_zero w'' wiped theirs a (omega (arith, ap data_start (same_numbers w' w'' es).N)) h)

  -- every byte but, of the key's extent, what `text` does not say
  agree : byte_at f' a ≡ byte_at f'' a
  agree =
      let R = root_items r in
      let R' = root_items r' in
      let T = taken_stood a R R' in
      elim (ℕ_discrete (touched a r r' ls' kinds t xs dies) 0) [
        | yes z ↦ O.other a z ∙ sym (Q.other a z)
        | no z ↦ elim (dec_le 1 (inside at_b (at_spare - at_b) a)) [
          | yes h ↦ numbers h
          | no h ↦ elim (dec_le 1 (sum (on_entry a) (not_in R R') + sum (cover a) (not_in R R'))) [
            | yes i ↦ rest (omega arith)
            | no i ↦ elim (dec_le 1 (sum (on_entry a) (of_kinds kinds (freed 1 ls')))) [
              | yes j ↦ links j
              | no j ↦ elim (dec_le 1 (sum (cover a) (those (t.goes ++ t.rewrites) R))) [
                | yes u ↦ kept_body (those_find a (t.goes ++ t.rewrites) R u)
                | no u ↦ elim (dec_le 1 (sum (cover a) xs)) [ yes v ↦ text v | no v ↦ dead_byte (omega arith) ]
              ]
            ]
          ]
        ]
      ]

-- ---- the key's extent: its text, or its padding

past : (p l n u a : ℕ) → a < p - n + u → p + l ≤ a → n ≤ p → a < p + l + (u - (n + l))
past p l n u a h g q = omega arith

none_covers : {A : Type 0} (a : ℕ) → 1 ≤ sum (cover a) [] → A
unfolding sum
none_covers a h = absurd (omega arith)

text_or : (E : Edition) (f g : List ℕ) (F : Bytes f) (G : Bytes g) (a : ℕ) (k : List ℕ) (r : Root) → RootAt E f r → RootAt E g r → (c : Option Part) → find_at E r k ≡ c → sum (cover a) (padding (length k) c) ≡ 0
    → 1 ≤ sum (cover a) (extent_at (length k) c) → byte_at f a ≡ byte_at g a
unfolding sum cover
text_or E f g F G a k r T U none e p h = absurd (omega arith)
text_or E f g F G a k r T U (some c) e p h =
    let n = length k + c.long in
    let i = (in_where (c.at - length k) (up8 n) a).is (omega arith) in
    elim (dec_lt a (c.at + c.long)) [
      | yes l ↦ root_text E f g F G a k c (omega arith) l r e T U
      | no l ↦ absurd (omega (arith, in_yes (c.at + c.long) (up8 n - n) a (omega arith) (past c.at c.long (length k) (up8 n) a i.1 (omega arith) (root_past E k c r e))))
    ]

-- ---- put and erase

module _ {E : Edition} {b : Write} {f k : List ℕ} {v : Value} {n m : ℕ} {f' f'' : List ℕ} (P : WritePromise E b f k v n f') (Q : WritePromise E b f k v m f'') {s : State} (w : Stands E f s) (done : changes n ≡ true) where
  abbrev one : Stands E f' (on_write E b s k v).state
  one = (P.after s w).0

  abbrev other : Stands E f'' (on_write E b s k v).state
  other = (Q.after s w).0

  -- with the same slots, places and lists the two frames agree on every byte but the padding of the key's extent
  pub put_bytes : E.wiped ≡ true → one.root ≡ other.root → one.lists ≡ other.lists → (a : ℕ) → sum (cover a) (padding (length k) (find_at E one.root k)) ≡ 0 → byte_at f' a ≡ byte_at f'' a
  put_bytes wiped er el a pad =
      let O = (P.after s w).1 done in
      let m' : changes m ≡ true = rw (← put_number P Q w) done in
      let O2 = rw (← er, ← el) at ((Q.after s w).1 m') in
      agree one other refl (sym er) refl (sym el) refl O O2 wiped a (λ h. omega (arith, dying_less (cover a) (put_change E s k v).dead (extent_at (length k) (find_at E w.root k)), found_low w k a (omega (arith, ap data_start (put_same_cap b k v w one))))) (text_or E f' f'' one.bytes other.bytes a k one.root one.root_at (rw (← er) at other.root_at) (find_at E one.root k) refl pad)

module _ {E : Edition} {f k : List ℕ} {n m : ℕ} {f' f'' : List ℕ} (P : ErasePromise E f k n f') (Q : ErasePromise E f k m f'') {s : State} (w : Stands E f s) (done : n ≡ 0) (more : 2 ≤ s.R) where
  abbrev eone : Stands E f' (on_erase E s k).state
  eone = (P.after s w).0

  abbrev eother : Stands E f'' (on_erase E s k).state
  eother = (Q.after s w).0

  -- on every byte
  pub erase_bytes : E.wiped ≡ true → eone.root ≡ eother.root → eone.lists ≡ eother.lists → (a : ℕ) → byte_at f' a ≡ byte_at f'' a
  erase_bytes wiped er el a =
      let O2 = rw (← er, ← el) at ((Q.after s w).1 (sym (erase_number P Q w) ∙ done) more) in
      agree eone eother refl (sym er) refl (sym el) refl ((P.after s w).1 done more) O2 wiped a (λ h. found_low w k a (omega (arith, ap data_start (erase_same_cap k w eone)))) (λ h. none_covers a h)
