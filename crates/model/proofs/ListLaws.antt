-- A list of a kind that put or erase neither takes nor frees is the same list after it: the same slots and places in the same order. So two
-- frames that one promise permits have it in common. Of erase where the path below a Prefix is no longer than one. Assumes nothing.
use Prim.Native.Nat.{ℕ, zero, suc, ◌+◌, ◌-◌, ◌*◌, ◌<◌, ◌≤◌}
use mathlib.Core.Path.{◌≡◌, refl, sym, ap, ◌∙◌}
use mathlib.Core.List.{List, [], ◌∷◌, ◌++◌, map, append_assoc, append-nil}
use mathlib.Core.Bool.{Bool, true, false}
use mathlib.Core.Logic.{◌⊎◌, inl, inr, ⊎_elim}
use mathlib.Core.Option.{Option, none, some}
use native.Mathlib.Omega.{arith}
use native.Mathlib.Decide.{dec_le}
use lib.ListN.{length, get_or, drop, length-append, length-drop, get_or-map}
use lib.Dec.{ltb, eqb}
use borrow.Author.Tests.{ltb-true, eq-eqb, ne_eqb}
use Rattle.layout.specs.Number.{le, byte_at}
use Rattle.layout.specs.Place.{at_b, at_spare, at_head, entry_at, data_start, prefix_most}
use Rattle.layout.specs.Kind.{leaf_kind, prefix_kind, empty_root_kind, body_size, most, shrink_mark}
use Rattle.layout.specs.Entry.{place_of, high_of, entry_place, entry_high}
use Rattle.layout.proofs.NumberLaws.{le_same, le_zero}
use Rattle.model.specs.Strings.{pick, same, shared}
use Rattle.model.specs.Edition.{Edition, Value}
use Rattle.model.specs.Tree as model
use Rattle.model.specs.Tree.{Art, Kids, extent_of, Change, over, has, chain, prefixes, put_tree, put_kids, find_tree, Left, gone, one, kept, LeftKids, fewer, still, less_one, close, close_under, after_kids, cons_kid, from_child, erase_tree, erase_kids}
use Rattle.model.specs.State.{State, Done, tally, kinds, room, after, put_in, put_change, Write, on_write, erase_change, tree_left, erase_done, erase_found, erase_in, on_erase}
use Rattle.model.specs.Item.{Item, body, extent, on_slot, cover, on_entry, leafy, sum}
use Rattle.model.specs.Frame.{Lay, LayKids, Root, bare, tree, Below, art, art_kids, NodeOf, root_art, items, items_all, root_items, RootAt, Tree, Trees, Chain, list_items, freed, Stands}
use Rattle.model.specs.Frame.Lay.{leaf, prefix, node}
use Rattle.model.specs.Frame.LayKids.{nil, kid}
use Rattle.model.specs.Touch.{Touch, among, of_kinds, is_body, chain_slots, chain_long, size, has_byte, without, touch_put, touch_put_kids, put_touch, Above, held, under, chain_above, last_of, touch_lone, touch_lost, touch_erase, touch_erase_kids, touch_child, erase_touch, Part, find_lay, find_lay_kids, find_at, extent_at, Outside}
use Rattle.model.specs.Promise.{changes, WritePromise, erase_kinds, ErasePromise}
use Rattle.model.proofs.Commute.{write_cases}
use Rattle.model.proofs.StringLaws.{clash, bool_cases, eqb_cases}
use Rattle.model.proofs.WellLaws.{two}
use Rattle.model.proofs.ItemLaws.{in_where, in_yes, in_over, sum_app, slot_once, entry_few}
use Rattle.model.proofs.UniqueLaws.{chain_unique, list_zero}
use Rattle.model.proofs.StandsGood.{node_well, bodied, sound_bodies}
use Rattle.model.proofs.ChainLaws.{shared_off, below_hung, put_atop}
use Rattle.model.proofs.TipLaws.{chain_bytes, tip, chain_long_lem, tip_art, tip_erase}
use Rattle.model.proofs.AlikeLaws.{slot_stays, result_of, put_number, erase_number, put_same_cap, erase_same_cap}
use Rattle.model.proofs.ExtentLaws.{dying_less, found_low}
use Rattle.model.proofs.SettledLaws.{is_body_lem, is_body_self, body_weighs, slot_of_body, kinds_less}
use Rattle.model.proofs.KeptLaws.{taken_less, those_less, not_gone}
use Rattle.model.proofs.UpToLaws.{slot_find, one_place}
use Rattle.model.proofs.OtherLeafLaws.{erase_found_lem}

-- ---- the freed bodies of a kind are those of its list

list_other : (s k o j : ℕ) → (k ≡ j → ⊥) → (xs : List (ℕ × ℕ)) → sum (is_body s k o) (list_items j xs) ≡ 0
unfolding sum list_items
list_other s k o j n [] = refl
list_other s k o j n (x ∷ xs) = elim (dec_le 1 (is_body s k o (body x.0 j x.1))) [
  | yes q ↦ absurd (n (is_body_lem s k o x.0 j x.1 q).1)
  | no q ↦ omega (arith, list_other s k o j n xs)
]

freed_none : (s k o j : ℕ) → k < j → (ls : List (List (ℕ × ℕ))) → sum (is_body s k o) (freed j ls) ≡ 0
unfolding sum freed
freed_none s k o j h [] = refl
freed_none s k o j h (l ∷ ls) = omega (arith, sum_app (is_body s k o) (list_items j l) (freed (suc j) ls), list_other s k o j (λ e. omega arith) l, freed_none s k o (suc j) (omega arith) ls)

freed_list : (s k o j : ℕ) (ls : List (List (ℕ × ℕ))) (i : ℕ) → k ≡ j + i → sum (is_body s k o) (freed j ls) ≡ sum (is_body s k o) (list_items k (get_or ls i []))
unfolding sum freed list_items
freed_list s k o j [] i e = refl
freed_list s k o j (l ∷ ls) zero e =
    let z : j ≡ k = omega arith in
    let g : sum (is_body s k o) (list_items j l) ≡ sum (is_body s k o) (list_items k l) = rw z refl in
    omega (arith, sum_app (is_body s k o) (list_items j l) (freed (suc j) ls), freed_none s k o (suc j) (omega arith) ls)
freed_list s k o j (l ∷ ls) (suc i) e =
    omega (arith, sum_app (is_body s k o) (list_items j l) (freed (suc j) ls), list_other s k o j (λ z. omega arith) l, freed_list s k o (suc j) ls i (omega arith))

-- those of other kinds beside a freed body
kinds_beside : (v : Item → ℕ) (ks : List ℕ) (s k o : ℕ) (is : List Item) → among k ks ≡ false → 1 ≤ sum (is_body s k o) is → sum v (of_kinds ks is) + v (body s k o) ≤ sum v is
unfolding sum
kinds_beside v ks s k o [] h q = absurd (omega arith)
kinds_beside v ks s k o (extent e n ∷ is) h q = omega (arith, kinds_beside v ks s k o is h (omega arith))
kinds_beside v ks s k o (body s' k' o' ∷ is) h q = elim (dec_le 1 (is_body s k o (body s' k' o'))) [
  | yes p ↦
      let w = is_body_lem s k o s' k' o' p in
      let e : v (body s k o) ≡ v (body s' k' o') = rw (w.0, w.1, w.2) refl in
      let g : among k' ks ≡ false = rw w.1 at h in
      rw g (omega (arith, kinds_less v ks is))
  | no p ↦ bool_cases (among k' ks) (λ t. rw t (omega (arith, kinds_beside v ks s k o is h (omega arith)))) (λ t. rw t (omega (arith, kinds_beside v ks s k o is h (omega arith))))
]

-- a chain that begins with a slot of a list of one frame and is as long is that list
tail_same : (f : List ℕ) (k s o h : ℕ) (xs : List (ℕ × ℕ)) → sum (on_slot 0) (list_items k xs) ≡ 0 → Chain f h xs → 1 ≤ sum (is_body s k o) (list_items k xs)
    → (ys : List (ℕ × ℕ)) → sum (on_slot 0) (list_items k ys) ≡ 0 → Chain f s ys → (length ys ≤ length xs) × (length ys ≡ length xs → ys ≡ xs)
unfolding sum list_items Chain
tail_same f k s o h [] X C q ys Y D = absurd (omega arith)
tail_same f k s o h (x ∷ xs) X C q ys Y D = elim (dec_le 1 (is_body s k o (body x.0 k x.1))) [
  | yes p ↦
      let e : ys ≡ x ∷ xs = chain_unique f k s h ys (x ∷ xs) Y X ((is_body_lem s k o x.0 k x.1 p).0 ∙ sym C.0) D C in
      (omega (arith, ap length e), λ z. e)
  | no p ↦ let on = tail_same f k s o (high_of f x.0) xs (omega arith) C.2 (omega arith) ys Y D in (omega (arith, on.0), λ z. absurd (omega (arith, on.0)))
]

none_long : (xs : List (ℕ × ℕ)) → 0 ≡ length xs → [] ≡ xs
none_long [] h = refl
none_long (x ∷ xs) h = absurd (omega arith)

-- ---- a step that frees no live body of the kind

module _ {E : Edition} {f f' : List ℕ} {st st' : State} (w : Stands E f st) (w' : Stands E f' st') {kinds : List ℕ} {t : Touch} {xs dies : List Item} {new : Bool}
    (O : Outside f f' w.root w'.root w.lists w'.lists kinds t xs dies new) (same_n : w'.nums.N ≡ w.nums.N) (above : (a : ℕ) → a < data_start w.nums.N → sum (cover a) xs + sum (cover a) dies ≡ 0)
    (k i : ℕ) (is : k ≡ 1 + i) (kind : i < 8) (off : among k kinds ≡ false) (sized : 1 ≤ body_size k) (live : (s o : ℕ) → 1 ≤ sum (is_body s k o) (root_items w.root) → among s t.goes ≡ false) where
  -- the list of kind k before and after
  abbrev L : List (ℕ × ℕ)
  L = get_or w.lists i []

  abbrev L' : List (ℕ × ℕ)
  L' = get_or w'.lists i []

  -- a slot that stands on it after
  module _ (s o : ℕ) (there : 1 ≤ sum (is_body s k o) (freed 1 w'.lists)) where
    listed : 1 ≤ sum (on_slot s) (freed 1 w'.lists)
    listed = omega (arith, slot_of_body s k o (freed 1 w'.lists))

    not_live : sum (on_slot s) (root_items w'.root) ≡ 0
    not_live = omega (arith, listed, slot_once w'.heap.sound s, sum_app (on_slot s) (root_items w'.root) (freed 1 w'.lists))

    given : (1 ≤ s) × (s ≤ w'.nums.U)
    given =
        let R' = root_items w'.root in
        let F' = freed 1 w'.lists in (
          elim (dec_le 1 s) [ yes h ↦ h | no h ↦ let e : s ≡ 0 = omega arith in let g : 1 ≤ sum (on_slot 0) F' = rw e at listed in absurd (omega (arith, w'.heap.sound.zeroth, sum_app (on_slot 0) R' F')) ],
          elim (dec_le s w'.nums.U) [ yes h ↦ h | no h ↦ absurd (omega (arith, listed, w'.heap.sound.past s (omega arith), sum_app (on_slot s) R' F')) ],
        )

    -- its entry is as it was
    entry_kept : (a : ℕ) → entry_at s ≤ a → a < entry_at s + 4 → byte_at f' a ≡ byte_at f a
    unfolding on_entry
    entry_kept a l u =
        let R = root_items w.root in
        let R' = root_items w'.root in
        let F' = freed 1 w'.lists in
        let g = w'.heap.header.given_in in
        let d : a < data_start w.nums.N = omega (arith, same_n, given) in
        O.other a (omega (
          arith,
          given,
          in_over at_b (at_spare - at_b) a (omega (arith, given)),
          in_yes (entry_at s) 4 a l u,
          kinds_beside (on_entry a) kinds s k o F' off there,
          entry_few w'.heap.sound a,
          sum_app (on_entry a) R' F',
          taken_less (on_entry a) R R',
          taken_less (cover a) R R',
          w'.heap.sound.low a (omega (arith, same_n)),
          sum_app (cover a) R' F',
          those_less (cover a) (t.goes ++ t.rewrites) R,
          w.heap.sound.low a d,
          sum_app (cover a) R (freed 1 w.lists),
          above a d,
        ))

    entry_same : le 4 f' (entry_at s) ≡ le 4 f (entry_at s)
    entry_same = le_same 4 f' f (entry_at s) entry_kept

    -- it was given out before: the entries above U are zero, and no body stands at 0
    was_given : place_of f' s ≡ o → s ≤ w.nums.U
    unfolding cover
    was_given e = elim (dec_le s w.nums.U) [
      | yes h ↦ h
      | no h ↦
          let z : le 4 f (entry_at s) ≡ 0 = le_zero 4 f (entry_at s) (λ a l u. w.heap.header.above a (omega arith) (omega (arith, same_n, given, w'.heap.header.given_in))) in
          let p : place_of f' s ≡ 0 = ap entry_place (entry_same ∙ z) in
          let c : cover 0 (body s k o) ≡ 1 = in_yes o (body_size k) 0 (omega arith) (omega arith) in
          absurd (omega (arith, w'.heap.sound.low 0 (omega arith), sum_app (cover 0) (root_items w'.root) (freed 1 w'.lists), body_weighs (cover 0) s k o (freed 1 w'.lists) there))
    ]

    -- and it stood on the list: a live body of the kind stays live
    was_listed : place_of f' s ≡ o → 1 ≤ sum (is_body s k o) (list_items k L)
    was_listed e =
        let R = root_items w.root in
        let F = freed 1 w.lists in
        let R' = root_items w'.root in
        let F' = freed 1 w'.lists in
        let B = slot_find s (R ++ F) (omega (arith, w.heap.sound.once s given.0 (was_given e))) in
        let q = one_place s B.0 B.1 k o (R' ++ F') (slot_once w'.heap.sound s) (O.keeps s B.0 B.1 B.2) (omega (arith, sum_app (is_body s k o) R' F')) in
        let was : 1 ≤ sum (is_body s k o) (R ++ F) = rw (q.0, q.1) at B.2 in
        elim (dec_le 1 (sum (is_body s k o) R)) [
          | yes h ↦ absurd (omega (arith, not_live, slot_stays (result_of w.root w' O) s (omega (arith, slot_of_body s k o R)) (live s o h)))
          | no h ↦ omega (arith, sum_app (is_body s k o) R F, freed_list s k o 1 w.lists i is)
        ]

  -- what the list links after, the frame linked before
  chain_before : (h : ℕ) (ys : List (ℕ × ℕ)) → ((s o : ℕ) → sum (is_body s k o) (list_items k ys) ≤ sum (is_body s k o) (freed 1 w'.lists)) → Chain f' h ys → Chain f h ys
  unfolding Chain list_items sum
  chain_before h [] H C = C
  chain_before h (y ∷ ys) H C =
      let e = entry_same y.0 y.1 (omega (arith, H y.0 y.1, is_body_self y.0 k y.1)) in
      let n : high_of f' y.0 ≡ high_of f y.0 = ap entry_high e in
      let p : place_of f' y.0 ≡ place_of f y.0 = ap entry_place e in
      (C.0, sym p ∙ C.1, chain_before (high_of f y.0) ys (λ s o. omega (arith, H s o)) (rw n at C.2))

  zero_free : {g : List ℕ} {sg : State} (v : Stands E g sg) → sum (on_slot 0) (list_items k (get_or v.lists i [])) ≡ 0
  zero_free v = rw is (list_zero 1 v.lists i (omega (arith, v.heap.sound.zeroth, sum_app (on_slot 0) (root_items v.root) (freed 1 v.lists))))

  pub list_same : length L' ≡ length L → L' ≡ L
  unfolding Chain list_items sum
  list_same long = go L' refl long
    where
      go : (ys : List (ℕ × ℕ)) → L' ≡ ys → length ys ≡ length L → ys ≡ L
      go [] e n = none_long L n
      go (y ∷ ys) e n =
          let H : (s o : ℕ) → sum (is_body s k o) (list_items k (y ∷ ys)) ≤ sum (is_body s k o) (freed 1 w'.lists) = λ s o. omega (arith, freed_list s k o 1 w'.lists i is, ap (λ (z : List (ℕ × ℕ)). sum (is_body s k o) (list_items k z)) e) in
          let C : Chain f' (le 2 f' (at_head (i + 1))) (y ∷ ys) = rw e at (w'.heap.lists.chains i kind) in
          let here : 1 ≤ sum (is_body y.0 k y.1) (freed 1 w'.lists) = omega (arith, H y.0 y.1, is_body_self y.0 k y.1) in
          let D = chain_before (le 2 f' (at_head (i + 1))) (y ∷ ys) H C in
          let D' : Chain f y.0 (y ∷ ys) = (refl, D.1, D.2) in
          (tail_same f k y.0 y.1 (le 2 f (at_head (i + 1))) L (zero_free w) (w.heap.lists.chains i kind) (was_listed y.0 y.1 here C.1) (y ∷ ys) (rw e at (zero_free w')) D').1 n

-- ---- how many a list has after a call

none_right : (k : ℕ) (xs ys : List ℕ) → among k (xs ++ ys) ≡ false → among k ys ≡ false
none_right k [] ys h = h
none_right k (x ∷ xs) ys h = bool_cases (eqb k x) (λ t. let z : true ≡ false = rw t at h in clash (cc)) (λ t. none_right k xs ys (rw t at h))

tally_none : (k : ℕ) (xs : List ℕ) → among k xs ≡ false → tally xs k ≡ 0
tally_none k [] h = refl
tally_none k (x ∷ xs) h = eqb_cases x k
    (λ t e. let q : eqb k x ≡ true = eq-eqb k x (sym e) in let z : true ≡ false = rw q at h in clash (cc))
    (λ t e. let q : eqb k x ≡ false = ne_eqb k x (λ z. e (sym z)) in rw t (tally_none k xs (rw q at h)))

kind_at : (g : ℕ → ℕ) (k : ℕ) → k ≤ 8 → get_or (map g kinds) k 0 ≡ g k
kind_at g zero o = refl
kind_at g (suc zero) o = refl
kind_at g (suc (suc zero)) o = refl
kind_at g (suc (suc (suc zero))) o = refl
kind_at g (suc (suc (suc (suc zero)))) o = refl
kind_at g (suc (suc (suc (suc (suc zero))))) o = refl
kind_at g (suc (suc (suc (suc (suc (suc zero)))))) o = refl
kind_at g (suc (suc (suc (suc (suc (suc (suc zero))))))) o = refl
kind_at g (suc (suc (suc (suc (suc (suc (suc (suc zero)))))))) o = refl
kind_at g (suc (suc (suc (suc (suc (suc (suc (suc (suc k))))))))) o = absurd (omega arith)

abbrev free_at : State → ℕ → ℕ
free_at s k = get_or s.free k 0

module _ (k : ℕ) (kind : k ≤ 8) where
  after_free : {A : Type 0} (s : State) (c : Change A) (r : ℕ) (t : Option Art) → among k (c.takes ++ c.frees) ≡ false → free_at (after s c r t) k ≡ free_at s k
  after_free s c r t h =
      kind_at (λ j. (get_or s.free j 0 - tally c.takes j) + tally c.frees j) k kind
      ∙ (let x = tally_none k c.takes (not_gone k c.takes c.frees h) in let y = tally_none k c.frees (none_right k c.takes c.frees h) in omega arith)

  put_free : (E : Edition) (a : Write) (s : State) (x : List ℕ) (v : Value) → (let c = put_change E s x v in among k (c.takes ++ c.frees) ≡ false) → free_at (on_write E a s x v).state k ≡ free_at s k
  put_free E a s x v h =
      let c = put_change E s x v in
      write_cases E a s x v (λ d. free_at d.state k ≡ free_at s k)
      (bool_cases (room s c) (λ t. rw t (after_free s c (pick c.fresh (s.R + 1) s.R) (some c.now) h)) (λ t. rw t refl)) (λ n. refl)

list_long : {E : Edition} {f : List ℕ} {s : State} (w : Stands E f s) (k i : ℕ) → k ≡ 1 + i → free_at s k ≡ length (get_or w.lists i [])
list_long w k i e =
    let z : k ≡ suc i = omega arith in
    ap (λ (x : State). free_at x k) w.state ∙ rw z (get_or-map length w.lists i [])

-- ---- the bodies that a put frees are of kinds that it frees

record Frees (s : ℕ) (is : List Item) (frees : List ℕ) : Type 0 where
  pub kind : ℕ
  pub place : ℕ
  pub there : 1 ≤ sum (is_body s kind place) is
  pub freed : among kind frees ≡ true

frees_up : {s : ℕ} {is js : List Item} {gs hs : List ℕ} → ((k o : ℕ) → sum (is_body s k o) is ≤ sum (is_body s k o) js) → ((x : ℕ) → among x gs ≡ true → among x hs ≡ true) → Frees s is gs → Frees s js hs
frees_up h g F = record { kind = F.kind; place = F.place; there = omega (arith, F.there, h F.kind F.place); freed = g F.kind F.freed }

first_frees : (s t k o : ℕ) (is : List Item) (gs : List ℕ) → among s (t ∷ []) ≡ true → among k gs ≡ true → Frees s (body t k o ∷ is) gs
unfolding sum
first_frees s t k o is gs h g = eqb_cases s t
    (λ q e. record { kind = k; place = o; there = rw e (omega (arith, is_body_self t k o)); freed = g })
    (λ q e. let z : false ≡ true = rw q at h in clash (cc))

-- a chain's body is a Prefix
chain_frees : (s : ℕ) (l : Lay) (gs : List ℕ) → among s (chain_slots l) ≡ true → among prefix_kind gs ≡ true → Frees s (items l) gs
unfolding items sum
chain_frees s (leaf t o e k v) gs h g = clash (cc)
chain_frees s (prefix t o p l) gs h g = eqb_cases s t
    (λ q e. record { kind = prefix_kind; place = o; there = rw e (omega (arith, is_body_self t prefix_kind o)); freed = g })
    (λ q e. frees_up (λ k i. omega arith) (λ x y. y) (chain_frees s l gs (rw q at h) g))
chain_frees s (node t o kind ks) gs h g = clash (cc)

among_last : (s : ℕ) (ss : List ℕ) → among s (last_of ss) ≡ true → among s ss ≡ true
among_last s [] h = h
among_last s (a ∷ []) h = h
among_last s (a ∷ b ∷ ss) h = bool_cases (eqb s a) (λ t. rw t refl) (λ t. rw t (among_last s (b ∷ ss) h))

prefixes_some : (n : ℕ) → 1 ≤ n → among prefix_kind (prefixes n) ≡ true
prefixes_some zero h = absurd (omega arith)
prefixes_some (suc n) h = refl

has_is : (b : ℕ) (ks : LayKids) → has b (art_kids ks) ≡ has_byte b ks
has_is b nil = refl
has_is b (kid c j l ks) = ap (pick (eqb b c) true) (has_is b ks)

count_is : (ks : LayKids) → model.count (art_kids ks) ≡ size ks
count_is nil = refl
count_is (kid c j l ks) = ap suc (count_is ks)

module _ (E : Edition) (k : List ℕ) (v : Value) where
  -- a chain that loses its first byte, and with it a body
  first_cut : (p : List ℕ) (a : Art) (d : ℕ) → shared p (drop d (E.walked k)) ≡ 0 → 1 ≤ length p → chain (length p - 1) < chain (length p) → among prefix_kind (put_tree E (Art.prefix p a) d k v).frees ≡ true
  first_cut p a d q h g =
      let t : eqb (shared p (drop d (E.walked k))) (length p) ≡ false = ne_eqb (shared p (drop d (E.walked k))) (length p) (λ e. omega arith) in
      let z : (put_tree E (Art.prefix p a) d k v).frees ≡ prefixes (chain (length p) - (chain (shared p (drop d (E.walked k))) + chain (length (drop (suc (shared p (drop d (E.walked k)))) p)))) = rw t refl in
      ap (among prefix_kind) z ∙ rw q (prefixes_some (chain (length p) - (chain 0 + chain (length (drop 1 p)))) (omega (arith, length-drop 1 p)))

  cut_kind : (f path : List ℕ) (s o : ℕ) (p : List ℕ) (l : Lay) (d : ℕ) → Tree E f path (prefix s o p l) → (shared p (drop d (E.walked k)) ≡ length p → ⊥) → shared p (drop d (E.walked k)) ≡ 0
      → (let n = length p + chain_long l in chain (n - 1) < chain n) → among prefix_kind (put_tree E (art (prefix s o p l)) d k v).frees ≡ true
  unfolding Tree
  cut_kind f path s o p l d T n q g =
      let m = length-append p (chain_bytes l) in
      let i = chain_long_lem l in
      let e : length p + chain_long l ≡ length (p ++ chain_bytes l) = omega arith in
      ap (λ (x : Art). among prefix_kind (put_tree E x d k v).frees) (tip_art E f path s o p l T).1
      ∙ first_cut (p ++ chain_bytes l) (art (tip l)) d (shared_off p (chain_bytes l) (drop d (E.walked k)) n ∙ q) (omega (arith, T.1.some)) (rw e at g)

  module _ (f : List ℕ) (s : ℕ) where
    mutual
      unfolding Tree Trees items items_all sum

      goes_frees : (l : Lay) (h d : ℕ) (p : List ℕ) → Tree E f p l → among s (touch_put E l h d k v).goes ≡ true → Frees s (items l) (put_tree E (art l) d k v).frees
      goes_frees (leaf t o e k' v') h d p T g = bool_cases (same k k') (λ a. let z : false ≡ true = rw a at g in clash (cc)) (λ a. let z : false ≡ true = rw a at g in clash (cc))
      goes_frees (prefix t o q l) h d p T g = eqb_cases (shared q (drop d (E.walked k))) (length q)
          (λ a e. frees_up (λ c i. omega arith) (λ x y. ap (λ (z : Change Art). among x z.frees) (put_atop E q (art l) d k v (below_hung q l T.2) e) ∙ y) (goes_frees l t (d + length q) (p ++ q) T.3 (rw a at g)))
          (λ a e.
          let n = length q + chain_long l in
          eqb_cases (shared q (drop d (E.walked k))) 0
          (λ b z. bool_cases (ltb (chain (n - 1)) (chain n))
          (λ c. first_frees s t prefix_kind o (items l) (put_tree E (art (prefix t o q l)) d k v).frees (rw (a, b, c) at g) (cut_kind f p t o q l d T e z (ltb-true (chain (n - 1)) (chain n) c)))
          (λ c. let z : false ≡ true = rw (a, b, c) at g in clash (cc)))
          (λ b z. let z : false ≡ true = rw (a, b) at g in clash (cc)))
      goes_frees (node t o kind ks) h d p T g = bool_cases (has_byte (get_or (E.walked k) d 0) ks)
          (λ a. let a' = has_is (get_or (E.walked k) d 0) ks ∙ a in rw a' (frees_up (λ c i. omega arith) (λ x y. y) (all_frees ks t d p T.2 (rw a at g))))
          (λ a. let a' = has_is (get_or (E.walked k) d 0) ks ∙ a in bool_cases (ltb (size ks) (most kind))
          (λ b. let z : false ≡ true = rw (a, b) at g in clash (cc))
          (λ b. let b' : ltb (model.count (art_kids ks)) (most kind) ≡ false = rw (count_is ks) b in
          rw (a', b') (first_frees s t kind o (items_all ks) (kind ∷ []) (rw (a, b) at g) (rw (eq-eqb kind kind refl) refl))))

      all_frees : (ks : LayKids) (h d : ℕ) (p : List ℕ) → Trees E f p ks → among s (touch_put_kids E ks h d k v).goes ≡ true → Frees s (items_all ks) (put_kids E (art_kids ks) d k v).frees
      all_frees nil h d p T g = clash (cc)
      all_frees (kid b j l ks) h d p T g = bool_cases (eqb b (get_or (E.walked k) d 0))
          (λ a. rw a (frees_up (λ c i. omega (arith, sum_app (is_body s c i) (items l) (items_all ks))) (λ x y. y) (goes_frees l h (d + 1) (p ++ b ∷ []) T.0 (rw a at g))))
          (λ a. rw a (frees_up (λ c i. omega (arith, sum_app (is_body s c i) (items l) (items_all ks))) (λ x y. y) (all_frees ks h d p T.1 (rw a at g))))

    root_frees : (r : Root) → RootAt E f r → among s (put_touch E r k v).goes ≡ true → Frees s (root_items r) (put_in E (root_art r) k v).frees
    unfolding RootAt root_items
    root_frees (bare t o) T g = first_frees s t empty_root_kind o [] (empty_root_kind ∷ []) g refl
    root_frees (tree l) T g = goes_frees l 0 0 [] T g

-- ---- put

body_some : (k i : ℕ) → k ≡ 1 + i → i < 8 → 1 ≤ body_size k
body_some k zero e h = rw e (omega arith)
body_some k (suc zero) e h = rw e (omega arith)
body_some k (suc (suc zero)) e h = rw e (omega arith)
body_some k (suc (suc (suc zero))) e h = rw e (omega arith)
body_some k (suc (suc (suc (suc zero)))) e h = rw e (omega arith)
body_some k (suc (suc (suc (suc (suc zero))))) e h = rw e (omega arith)
body_some k (suc (suc (suc (suc (suc (suc zero)))))) e h = rw e (omega arith)
body_some k (suc (suc (suc (suc (suc (suc (suc zero))))))) e h = rw e (omega arith)
body_some k (suc (suc (suc (suc (suc (suc (suc (suc i)))))))) e h = absurd (omega arith)

module _ {E : Edition} {f : List ℕ} {st : State} (w : Stands E f st) (k : ℕ) where
  -- no body of kind k is freed where only others are
  spared : (frees goes : List ℕ) → among k frees ≡ false → ((s : ℕ) → among s goes ≡ true → Frees s (root_items w.root) frees) → (s o : ℕ) → 1 ≤ sum (is_body s k o) (root_items w.root) → among s goes ≡ false
  spared frees goes off all s o h = bool_cases (among s goes)
      (λ t.
      let F = all s t in
      let R = root_items w.root in
      let e = (one_place s k o F.kind F.place R (omega (arith, slot_once w.heap.sound s, sum_app (on_slot s) R (freed 1 w.lists))) h F.there).0 in
      let z : true ≡ false = sym F.freed ∙ rw e at off in clash (cc))
      (λ t. t)

module _ {E : Edition} {a : Write} {f x : List ℕ} {v : Value} {n : ℕ} {f' : List ℕ} (P : WritePromise E a f x v n f') {s : State} (w : Stands E f s) (done : changes n ≡ true) (k : ℕ) (low : 1 ≤ k) (high : k ≤ 8)
    (off : let c = put_change E s x v in among k (c.takes ++ c.frees) ≡ false) where
  abbrev after_put : Stands E f' (on_write E a s x v).state
  after_put = (P.after s w).0

  pub put_list : get_or after_put.lists (k - 1) [] ≡ get_or w.lists (k - 1) []
  put_list =
      let c = put_change E s x v in
      let w' = after_put in
      let cap = put_same_cap a x v w w' in
      let is : k ≡ 1 + (k - 1) = omega arith in
      let t : s.tree ≡ root_art w.root = ap (λ (z : State). z.tree) w.state in
      let frees_off : among k (put_in E (root_art w.root) x v).frees ≡ false = rw t at (none_right k c.takes c.frees off) in
      list_same w w' ((P.after s w).1 done) cap
      (λ a l. omega (arith, found_low w' x a (omega (arith, cap)), found_low w x a l, dying_less (cover a) c.dead (extent_at (length x) (find_at E w.root x))))
      k (k - 1) is (omega arith) off (body_some k (k - 1) is (omega arith))
      (spared w k (put_in E (root_art w.root) x v).frees (put_touch E w.root x v).goes frees_off (λ u. root_frees E x v f u w.root w.root_at))
      (sym (list_long w' k (k - 1) is) ∙ put_free k high E a s x v off ∙ list_long w k (k - 1) is)

-- ---- the bodies that an erase frees are of kinds that it frees

among_after : (c : ℕ) (ys xs : List ℕ) → among c xs ≡ true → among c (ys ++ xs) ≡ true
among_after c [] xs h = h
among_after c (y ∷ ys) xs h = bool_cases (eqb c y) (λ t. rw t refl) (λ t. rw t (among_after c ys xs h))

among_prefixes : (n : ℕ) (xs : List ℕ) → 1 ≤ n → among prefix_kind (prefixes n ++ xs) ≡ true
among_prefixes zero xs h = absurd (omega arith)
among_prefixes (suc n) xs h = refl

-- what is freed stays freed
close_more : (l : Left) (c : Change Left) (x : ℕ) → among x c.frees ≡ true → among x (close l c).frees ≡ true
close_more gone c x h = h
close_more (one b (Art.leaf k v)) c x h = h
close_more (one b (Art.prefix p a)) c x h = among_after x (prefixes (chain (length p) - chain (suc (length p)))) c.frees h
close_more (one b (Art.node kind ks)) c x h = among_after x (prefixes (0 - chain 1)) c.frees h
close_more (kept a) c x h = h

under_more : (p : List ℕ) (l : Left) (c : Change Left) (x : ℕ) → among x c.frees ≡ true → among x (close_under p l c).frees ≡ true
under_more p gone c x h = h
under_more p (one b (Art.leaf k v)) c x h = among_after x (prefixes (chain (length p))) c.frees h
under_more p (one b (Art.prefix q a)) c x h = among_after x (prefixes (chain (length p) + chain (length q) - chain (length p + suc (length q)))) c.frees h
under_more p (one b (Art.node kind ks)) c x h = among_after x (prefixes (chain (length p) - chain (length p + 1))) c.frees h
under_more p (kept a) c x h = h

less_more : (kind x : ℕ) (ks : Kids) (c : Change Left) → among x c.frees ≡ true → among x (less_one kind ks c).frees ≡ true
less_more kind x Kids.nil c h = h
less_more kind x (Kids.kid b j a Kids.nil) c h = among_after x (kind ∷ []) c.frees h
less_more kind x (Kids.kid b j a (Kids.kid b' j' a' ks)) c h =
    bool_cases (eqb (model.count (Kids.kid b j a (Kids.kid b' j' a' ks))) (shrink_mark kind)) (λ t. rw t (among_after x (kind ∷ []) c.frees h)) (λ t. rw t h)

less_kind : (kind b j : ℕ) (a : Art) (b' j' : ℕ) (a' : Art) (ks : Kids) (c : Change Left) → eqb (model.count (Kids.kid b j a (Kids.kid b' j' a' ks))) (shrink_mark kind) ≡ true
    → among kind (less_one kind (Kids.kid b j a (Kids.kid b' j' a' ks)) c).frees ≡ true
less_kind kind b j a b' j' a' ks c t = rw t (rw (eq-eqb kind kind refl) refl)

after_more : (kind x : ℕ) (l : LeftKids) (c : Change LeftKids) → among x c.frees ≡ true → among x (after_kids kind l c).frees ≡ true
after_more kind x (fewer ks) c h = less_more kind x ks (over (λ y. gone) c) h
after_more kind x (still ks) c h = h

-- a Prefix above a Leaf goes, and of two that join the lower
under_leaf : (p : List ℕ) (b : ℕ) (k : List ℕ) (v : Value) (l : Left) (c : Change Left) → l ≡ one b (Art.leaf k v) → 1 ≤ length p → among prefix_kind (close_under p l c).frees ≡ true
under_leaf p b k v l c e h = rw e (among_prefixes (chain (length p)) c.frees (omega arith))

under_join : (p : List ℕ) (b : ℕ) (q : List ℕ) (a : Art) (l : Left) (c : Change Left) → l ≡ one b (Art.prefix q a) → chain (length p + suc (length q)) < chain (length p) + chain (length q) → among prefix_kind (close_under p l c).frees ≡ true
under_join p b q a l c e h = rw e (among_prefixes (chain (length p) + chain (length q) - chain (length p + suc (length q))) c.frees (omega arith))

-- where the last of full Prefixes has i bytes, it alone counts
fewer_all : (n j i m : ℕ) → n ≡ prefix_most * j + i → 1 ≤ i → i ≤ prefix_most → chain (i + suc m) < suc (chain m) → chain (n + suc m) < chain n + chain m
fewer_all n j i m e a b h = omega arith

-- what is left of a body, below a node or the root field, or below a Prefix of bytes bs
abbrev close_by : Above → List ℕ → Change Left → Change Left
close_by (held h) bs c = close c.now c
close_by (under q i u) bs c = close_under bs c.now c

closing : (u : Above) (bs : List ℕ) (c : Change Left) (x : ℕ) → among x c.frees ≡ true → among x (close_by u bs c).frees ≡ true
closing (held h) bs c x g = close_more c.now c x g
closing (under q i u) bs c x g = under_more bs c.now c x g

-- n bytes stand just above, in Prefixes that are full but the last
abbrev Filled : Above → ℕ → Type 0
Filled (held h) n = n ≡ 0
Filled (under p i u) n = (1 ≤ i) × (i ≤ prefix_most) × ((j : ℕ) × (n ≡ prefix_most * j + i))

-- the bytes bs of a chain stand above the rest of it: all of them full, if a Prefix follows
abbrev Hangs : Above → List ℕ → Lay → Type 0
Hangs u bs (leaf s o e k v) = ⊥
Hangs u bs (prefix s o p l) = (j : ℕ) × (length bs ≡ prefix_most * j)
Hangs (held h) bs (node s o kind ks) = ⊥
Hangs (under p i u) bs (node s o kind ks) = Filled (under p i u) (length bs)

hangs_on : (s : ℕ) (q : List ℕ) (l : Lay) (u : Above) (bs : List ℕ) → 1 ≤ length q → length q ≤ prefix_most → Below q l → ((j : ℕ) × (length bs ≡ prefix_most * j)) → Hangs (under s (length q) u) (bs ++ q) l
hangs_on s q (leaf t o e k v) u bs h g B R = absurd B
hangs_on s q (prefix t o p l) u bs h g B R = (suc R.0, omega (arith, R.1, length-append bs q))
hangs_on s q (node t o kind ks) u bs h g B R = (h, g, (R.0, omega (arith, R.1, length-append bs q)))

-- a slot that goes is that of a body of a kind that is freed, or of a Prefix just above, and a Prefix is freed
abbrev Goes : Above → ℕ → List Item → List ℕ → Type 0
Goes u s is fs = Frees s is fs ⊎ ((among s (chain_above u) ≡ true) × (among prefix_kind fs ≡ true))

-- past a Prefix of slot t
goes_past : (t i o s : ℕ) (u : Above) (is : List Item) (fs : List ℕ) → Goes (under t i u) s is fs → Goes u s (body t prefix_kind o ∷ is) fs
unfolding sum
goes_past t i o s u is fs G = ⊎_elim
    (λ F. inl (frees_up (λ k i. omega arith) (λ x y. y) F))
    (λ n. eqb_cases s t (λ q e. inl (record { kind = prefix_kind; place = o; there = rw e (omega (arith, is_body_self t prefix_kind o)); freed = n.1 })) (λ q e. inr (rw q at n.0, n.1))) G

goes_at : (u : Above) (bs : List ℕ) (s : ℕ) (is : List Item) (c c' : Change Left) → c ≡ c' → Goes u s is (close_by u bs c').frees → Goes u s is (close_by u bs c).frees
goes_at u bs s is c c' e G = rw e G

without_size : (b : ℕ) (ks : LayKids) → size ks ≤ suc (size (without b ks))
without_size b nil = omega arith
without_size b (kid c j l ks) = bool_cases (eqb b c) (λ t. rw t (omega arith)) (λ t. rw t (omega (arith, without_size b ks)))

without_items : (w : Item → ℕ) (b : ℕ) (ks : LayKids) → sum w (items_all (without b ks)) ≤ sum w (items_all ks)
unfolding items_all
without_items w b nil = omega arith
without_items w b (kid c j l ks) = bool_cases (eqb b c)
    (λ t. rw t (omega (arith, sum_app w (items l) (items_all ks))))
    (λ t. rw t (omega (arith, sum_app w (items l) (items_all ks), sum_app w (items l) (items_all (without b ks)), without_items w b ks)))

without_trees : (E : Edition) (f p : List ℕ) (b : ℕ) (ks : LayKids) → Trees E f p ks → Trees E f p (without b ks)
unfolding Trees
without_trees E f p b nil T = tt
without_trees E f p b (kid c j l ks) T = bool_cases (eqb b c) (λ t. rw t T.1) (λ t. rw t (T.0, without_trees E f p b ks T.1))

node_two : (f : List ℕ) (o kind : ℕ) (ks : LayKids) → NodeOf f o kind ks → 2 ≤ size ks
node_two f o kind ks N = omega (arith, two kind (art_kids ks) (node_well f o kind ks N), count_is ks)

module _ (E : Edition) (f : List ℕ) (s : ℕ) where
  -- a node of slot n, kind and place lost its Leaf of slot g
  module _ (n kind o g og : ℕ) (is : List Item) (node_in : 1 ≤ sum (is_body n kind o) is) (leaf_in : 1 ≤ sum (is_body g leaf_kind og) is) where
    two_go : (u : Above) (fs : List ℕ) → among leaf_kind fs ≡ true → among kind fs ≡ true → (ss : List ℕ) → among s (g ∷ n ∷ ss) ≡ true → (among s ss ≡ true → Goes u s is fs) → Goes u s is fs
    two_go u fs a b ss h on = eqb_cases s g
        (λ t e. inl (record { kind = leaf_kind; place = og; there = rw e leaf_in; freed = a }))
        (λ t e. eqb_cases s n (λ t' e'. inl (record { kind = kind; place = o; there = rw e' node_in; freed = b })) (λ t' e'. on (rw (t, t') at h)))

    -- of the chain below, the last goes where the bytes are one body fewer
    join_goes : (a i : ℕ) (u : Above) (bs : List ℕ) (t o' : ℕ) (r : List ℕ) (l : Lay) (b : ℕ) (p : List ℕ) (c : Change Left) → c.now ≡ one b (art (prefix t o' r l)) → Filled (under a i u) (length bs) → Tree E f p (prefix t o' r l)
        → ((k i : ℕ) → sum (is_body s k i) (items (prefix t o' r l)) ≤ sum (is_body s k i) is) → (let m = length r + chain_long l in among s (pick (ltb (chain (i + suc m)) (suc (chain m))) (last_of (t ∷ chain_slots l)) []) ≡ true)
        → Goes (under a i u) s is (close_under bs c.now c).frees
    join_goes a i u bs t o' r l b p c en R T I q =
        let m = length r + chain_long l in
        let e : length (r ++ chain_bytes l) ≡ m = omega (arith, length-append r (chain_bytes l), chain_long_lem l) in
        bool_cases (ltb (chain (i + suc m)) (suc (chain m)))
        (λ t'.
        let less = fewer_all (length bs) R.2.0 i m R.2.1 R.0 R.1 (ltb-true (chain (i + suc m)) (suc (chain m)) t') in
        let freed' = under_join bs b (r ++ chain_bytes l) (art (tip l)) c.now c (en ∙ ap (one b) (tip_art E f p t o' r l T).1) (rw e less) in
        inl (frees_up I (λ x w. w) (chain_frees s (prefix t o' r l) (close_under bs c.now c).frees (among_last s (t ∷ chain_slots l) (rw t' at q)) freed')))
        (λ t'. let z : false ≡ true = rw t' at q in clash (cc))

    one_goes : (u : Above) (bs : List ℕ) (l : Lay) (b : ℕ) (p : List ℕ) (c : Change Left) → c.now ≡ one b (art l) → among leaf_kind c.frees ≡ true → among kind c.frees ≡ true → Filled u (length bs) → Tree E f (p ++ b ∷ []) l
        → ((k i : ℕ) → sum (is_body s k i) (items l) ≤ sum (is_body s k i) is) → among s (touch_lone u n g l).goes ≡ true → Goes u s is (close_by u bs c).frees
    one_goes (held h) bs (leaf t i e k v) b p c en x y R T I q = two_go (held h) (close_by (held h) bs c).frees (closing (held h) bs c leaf_kind x) (closing (held h) bs c kind y) [] q (λ z. clash (cc))
    one_goes (held h) bs (prefix t i r l) b p c en x y R T I q = two_go (held h) (close_by (held h) bs c).frees (closing (held h) bs c leaf_kind x) (closing (held h) bs c kind y) [] q (λ z. clash (cc))
    one_goes (held h) bs (node t i kind' ks) b p c en x y R T I q = two_go (held h) (close_by (held h) bs c).frees (closing (held h) bs c leaf_kind x) (closing (held h) bs c kind y) [] q (λ z. clash (cc))
    one_goes (under a j u) bs (leaf t i e k v) b p c en x y R T I q =
        two_go (under a j u) (close_by (under a j u) bs c).frees (closing (under a j u) bs c leaf_kind x) (closing (under a j u) bs c kind y) (a ∷ chain_above u) q
        (λ z. inr (z, under_leaf bs b k v c.now c en (omega (arith, R.0, R.2.1))))
    one_goes (under a j u) bs (prefix t i r l) b p c en x y R T I q =
        let m = length r + chain_long l in
        two_go (under a j u) (close_by (under a j u) bs c).frees (closing (under a j u) bs c leaf_kind x) (closing (under a j u) bs c kind y) (pick (ltb (chain (j + suc m)) (suc (chain m))) (last_of (t ∷ chain_slots l)) []) q
        (join_goes a j u bs t i r l b (p ++ b ∷ []) c en R T I)
    one_goes (under a j u) bs (node t i kind' ks) b p c en x y R T I q = two_go (under a j u) (close_by (under a j u) bs c).frees (closing (under a j u) bs c leaf_kind x) (closing (under a j u) bs c kind y) [] q (λ z. clash (cc))

    lost_goes : (u : Above) (bs : List ℕ) (ks : LayKids) (p : List ℕ) (c : Change Left) → among leaf_kind c.frees ≡ true → 1 ≤ size ks → Filled u (length bs) → Trees E f p ks
        → ((k i : ℕ) → sum (is_body s k i) (items_all ks) ≤ sum (is_body s k i) is) → among s (touch_lost u n kind g ks).goes ≡ true → Goes u s is (close_by u bs (less_one kind (art_kids ks) c)).frees
    unfolding Trees items_all
    lost_goes u bs nil p c x z R T I q = absurd (omega arith)
    lost_goes u bs (kid b j l nil) p c x z R T I q =
        one_goes u bs l b p (less_one kind (art_kids (kid b j l nil)) c) refl (less_more kind leaf_kind (art_kids (kid b j l nil)) c x) (rw (eq-eqb kind kind refl) refl) R T.0
        (λ k i. omega (arith, I k i, sum_app (is_body s k i) (items l) (items_all nil))) q
    lost_goes u bs (kid b j l (kid b' j' l' ks)) p c x z R T I q =
        let all = kid b j l (kid b' j' l' ks) in
        let c' = less_one kind (art_kids all) c in
        let fs = (close_by u bs c').frees in
        let leaf_freed = closing u bs c' leaf_kind (less_more kind leaf_kind (art_kids all) c x) in
        bool_cases (eqb (size all) (shrink_mark kind))
        (λ t.
        let t' : eqb (model.count (art_kids all)) (shrink_mark kind) ≡ true = rw (count_is all) t in
        two_go u fs leaf_freed (closing u bs c' kind (less_kind kind b j (art l) b' j' (art l') (art_kids ks) c t')) [] (rw t at q) (λ w. clash (cc)))
        (λ t. eqb_cases s g
        (λ a e. inl (record { kind = leaf_kind; place = og; there = rw e leaf_in; freed = leaf_freed }))
        (λ a e. let w : false ≡ true = rw (t, a) at q in clash (cc)))

  module _ (k : List ℕ) (c : Part) where
    -- what a child frees, its node frees
    node_up : (u : Above) (bs : List ℕ) (kind : ℕ) (all : LayKids) (d : ℕ) (fs : List ℕ) → (erase_kids E (art_kids all) d k).frees ≡ fs → (x : ℕ) → among x fs ≡ true → among x (close_by u bs (erase_tree E (Art.node kind (art_kids all)) d k)).frees ≡ true
    node_up u bs kind all d fs ef x h =
        let c = erase_kids E (art_kids all) d k in closing u bs (after_kids kind c.now c) x (after_more kind x c.now c (ap (among x) ef ∙ h))

    -- a chain below a node or the root field, from what its first Prefix has below it
    chain_up : (t o : ℕ) (q : List ℕ) (l : Lay) (h d : ℕ) (p : List ℕ) → Tree E f p (prefix t o q l) → find_lay E (prefix t o q l) d k ≡ some c
        → (let w = q ++ chain_bytes l in let e = erase_tree E (art (tip l)) (d + length q + length (chain_bytes l)) k in Goes (under t (length q) (held h)) s (items l) (close_under w e.now e).frees)
        → (let e = erase_tree E (art (prefix t o q l)) d k in Frees s (items (prefix t o q l)) (close e.now e).frees)
    unfolding items
    chain_up t o q l h d p T i G =
        let e = erase_tree E (art (prefix t o q l)) d k in
        let x = erase_tree E (art (tip l)) (d + length q + length (chain_bytes l)) k in
        let n : d + length (q ++ chain_bytes l) ≡ d + length q + length (chain_bytes l) = omega (arith, length-append q (chain_bytes l)) in
        let es : e ≡ close_under (q ++ chain_bytes l) x.now x = rw n at (tip_erase E k f p c t o q l d T i) in
        ⊎_elim (λ F. frees_up (λ m r. omega arith) (λ y w. close_more e.now e y (ap (λ (z : Change Left). among y z.frees) es ∙ w)) F) (λ z. clash (let w = z.0 in cc)) (goes_past t (length q) o s (held h) (items l) (close_under (q ++ chain_bytes l) x.now x).frees G)

    mutual
      unfolding Tree Trees items items_all sum

      -- a tree below a node or the root field
      erase_goes : (l : Lay) (h d : ℕ) (p : List ℕ) → Tree E f p l → find_lay E l d k ≡ some c → among s (touch_erase E l (held h) d k).goes ≡ true → (let e = erase_tree E (art l) d k in Frees s (items l) (close e.now e).frees)
      erase_goes (leaf t o e k' v') h d p T i g = bool_cases (same k k')
          (λ a. first_frees s t leaf_kind o (extent e (extent_of k' v') ∷ []) (close_by (held h) [] (erase_tree E (Art.leaf k' v') d k)).frees g (closing (held h) [] (erase_tree E (Art.leaf k' v') d k) leaf_kind (rw a refl)))
          (λ a. let z : none ≡ some c = rw a at i in clash (cc))
      erase_goes (prefix t o q l) h d p T i g =
          bool_cases (eqb (shared q (drop d (E.walked k))) (length q))
          (λ a. chain_up t o q l h d p T i (chain_goes l (under t (length q) (held h)) q (d + length q) (p ++ q) T.3 (rw a at i) (hangs_on t q l (held h) [] T.1.some T.1.most T.2 (0, refl)) g))
          (λ a. let z : none ≡ some c = rw a at i in clash (cc))
      erase_goes (node t o kind ks) h d p T i g =
          ⊎_elim (λ F. F) (λ z. clash (cc)) (all_goes ks (held h) [] t o kind ks d p T.2 i refl T.2 (node_two f o kind ks T.1) (λ m i. omega arith) refl (λ z. z) g)

      -- the rest of a chain, of which bs stands above
      chain_goes : (l : Lay) (u : Above) (bs : List ℕ) (d : ℕ) (p : List ℕ) → Tree E f p l → find_lay E l d k ≡ some c → Hangs u bs l → among s (touch_erase E l u d k).goes ≡ true
          → (let w = bs ++ chain_bytes l in let e = erase_tree E (art (tip l)) (d + length (chain_bytes l)) k in Goes u s (items l) (close_under w e.now e).frees)
      chain_goes (leaf t o e k' v') u bs d p T i R g = absurd R
      chain_goes (prefix t o q l) u bs d p T i R g = bool_cases (eqb (shared q (drop d (E.walked k))) (length q))
          (λ a.
          let G = chain_goes l (under t (length q) u) (bs ++ q) (d + length q) (p ++ q) T.3 (rw a at i) (hangs_on t q l u bs T.1.some T.1.most T.2 R) g in
          let n : d + length (q ++ chain_bytes l) ≡ d + length q + length (chain_bytes l) = omega (arith, length-append q (chain_bytes l)) in
          rw (n, ← append_assoc bs q (chain_bytes l)) (goes_past t (length q) o s u (items l) _ G))
          (λ a. let z : none ≡ some c = rw a at i in clash (cc))
      chain_goes (node t o kind ks) (held h) bs d p T i R g = absurd R
      chain_goes (node t o kind ks) (under b j u) bs d p T i R g =
          let G = all_goes ks (under b j u) bs t o kind ks d p T.2 i R T.2 (node_two f o kind ks T.1) (λ m i. omega arith) refl (λ z. z) g in
          let n : d + 0 ≡ d = omega arith in
          rw (n, append-nil bs) G

      all_goes : (ks : LayKids) (u : Above) (bs : List ℕ) (n o kind : ℕ) (all : LayKids) (d : ℕ) (p : List ℕ) → Trees E f p ks → find_lay_kids E ks d k ≡ some c → Filled u (length bs) → Trees E f p all → 2 ≤ size all
          → ((m i : ℕ) (t : ℕ) → sum (is_body t m i) (items_all ks) ≤ sum (is_body t m i) (items_all all)) → (erase_kids E (art_kids all) d k).frees ≡ (erase_kids E (art_kids ks) d k).frees
          → ((erase_kids E (art_kids ks) d k).now ≡ fewer (art_kids (without (get_or (E.walked k) d 0) ks)) → (erase_kids E (art_kids all) d k).now ≡ fewer (art_kids (without (get_or (E.walked k) d 0) all)))
          → among s (touch_erase_kids E ks u n kind all d k).goes ≡ true → Goes u s (body n kind o ∷ items_all all) (close_by u bs (erase_tree E (Art.node kind (art_kids all)) d k)).frees
      all_goes nil u bs n o kind all d p T h R A both less ef en g = clash (cc)
      all_goes (kid y j l ks) u bs n o kind all d p T h R A both less ef en g = eqb_cases y (get_or (E.walked k) d 0)
          (λ a e. child_goes l u bs n o kind y all d p T.0 (rw a at h) R A both (λ m i t. omega (arith, less m i t, sum_app (is_body t m i) (items l) (items_all ks))) (ef ∙ rw a refl)
          (λ z. rw e (en (rw (a, eq-eqb (get_or (E.walked k) d 0) y (sym e)) (ap (from_child y j (art_kids ks)) z)))) (rw a at g))
          (λ a e. all_goes ks u bs n o kind all d p T.1 (rw a at h) R A both (λ m i t. omega (arith, less m i t, sum_app (is_body t m i) (items l) (items_all ks))) (ef ∙ rw a refl)
          (λ z. en (rw (a, ne_eqb (get_or (E.walked k) d 0) y (λ w. e (sym w))) (ap (cons_kid y j (art l)) z))) (rw a at g))

      child_goes : (l : Lay) (u : Above) (bs : List ℕ) (n o kind y : ℕ) (all : LayKids) (d : ℕ) (p : List ℕ) → Tree E f (p ++ y ∷ []) l → find_lay E l (d + 1) k ≡ some c → Filled u (length bs) → Trees E f p all → 2 ≤ size all
          → ((m i : ℕ) (t : ℕ) → sum (is_body t m i) (items l) ≤ sum (is_body t m i) (items_all all)) → (let e = erase_tree E (art l) (d + 1) k in (erase_kids E (art_kids all) d k).frees ≡ (close e.now e).frees)
          → (let e = erase_tree E (art l) (d + 1) k in (close e.now e).now ≡ gone → (erase_kids E (art_kids all) d k).now ≡ fewer (art_kids (without y all)))
          → among s (touch_child E l u n kind (without y all) d k).goes ≡ true → Goes u s (body n kind o ∷ items_all all) (close_by u bs (erase_tree E (Art.node kind (art_kids all)) d k)).frees
      child_goes (leaf t i e k' v') u bs n o kind y all d p T h R A both less ef en g = bool_cases (same k k')
          (λ a.
          let x = erase_kids E (art_kids all) d k in
          let m : x.now ≡ fewer (art_kids (without y all)) = en (rw a refl) in
          let fs : x.frees ≡ leaf_kind ∷ [] = ef ∙ rw a refl in
          goes_at u bs s (body n kind o ∷ items_all all) (erase_tree E (Art.node kind (art_kids all)) d k) (less_one kind (art_kids (without y all)) (over (λ z. gone) x)) (ap (λ (z : LeftKids). after_kids kind z x) m)
          (lost_goes n kind o t i (body n kind o ∷ items_all all) (omega (arith, is_body_self n kind o)) (omega (arith, less leaf_kind i t, is_body_self t leaf_kind i)) u bs (without y all) p (over (λ z. gone) x) (rw fs refl)
          (omega (arith, without_size y all)) R (without_trees E f p y all A) (λ q r. omega (arith, without_items (is_body s q r) y all)) g))
          (λ a. let z : none ≡ some c = rw a at h in clash (cc))
      child_goes (prefix t i q l) u bs n o kind y all d p T h R A both less ef en g =
          let e = erase_tree E (art (prefix t i q l)) (d + 1) k in
          bool_cases (eqb (shared q (drop (d + 1) (E.walked k))) (length q))
          (λ a.
          let G = chain_goes l (under t (length q) (held n)) q (d + 1 + length q) ((p ++ y ∷ []) ++ q) T.3 (rw a at h) (hangs_on t q l (held n) [] T.1.some T.1.most T.2 (0, refl)) g in
          inl (frees_up (λ m r. omega (arith, less m r s)) (node_up u bs kind all d (close e.now e).frees ef) (chain_up t i q l n (d + 1) (p ++ y ∷ []) T h G)))
          (λ a. let z : none ≡ some c = rw a at h in clash (cc))
      child_goes (node t i kind' ks) u bs n o kind y all d p T h R A both less ef en g =
          let e = erase_tree E (Art.node kind' (art_kids ks)) (d + 1) k in
          let G = all_goes ks (held n) [] t i kind' ks (d + 1) (p ++ y ∷ []) T.2 h refl T.2 (node_two f i kind' ks T.1) (λ m r w. omega arith) refl (λ z. z) g in
          ⊎_elim (λ F. inl (frees_up (λ m r. omega (arith, less m r s)) (node_up u bs kind all d (close e.now e).frees ef) F)) (λ z. clash (cc)) G

    root_goes : (r : Root) → RootAt E f r → find_at E r k ≡ some c → among s (erase_touch E r k).goes ≡ true → Frees s (root_items r) (erase_kinds E r k)
    unfolding RootAt root_items
    root_goes (bare t o) T h g = clash (cc)
    root_goes (tree l) T h g =
        let e = erase_tree E (art l) 0 k in
        frees_up (λ m i. omega arith) (λ x a. among_after x (close e.now e).takes (close e.now e).frees a) (erase_goes l 0 0 [] T h g)

-- ---- erase

none_sum : (v : Item → ℕ) → sum v [] ≡ 0
unfolding sum
none_sum v = refl

-- two Leaves have two slots, and both stay given out
leaves_few : (is : List Item) → sum leafy is ≤ sum bodied is
unfolding sum leafy bodied
leaves_few [] = omega arith
leaves_few (body s k o ∷ is) = omega (arith, leaves_few is, (in_where leaf_kind 1 k).few)
leaves_few (extent e n ∷ is) = omega (arith, leaves_few is)

module _ {E : Edition} {f f' : List ℕ} {st st' : State} (w : Stands E f st) (w' : Stands E f' st') {kinds : List ℕ} {t : Touch} {xs dies : List Item} {new : Bool}
    (O : Outside f f' w.root w'.root w.lists w'.lists kinds t xs dies new) (more : 2 ≤ st.R) where
  two_given : 2 ≤ w.nums.U
  two_given =
      let R = root_items w.root in
      let e : st.R ≡ w.nums.R = ap (λ (z : State). z.R) w.state in
      omega (arith, w.counted, leaves_few R, sound_bodies w.heap.sound, sum_app bodied R (freed 1 w.lists))

  not_one : st'.U ≡ 1 → ⊥
  not_one e =
      let u : st'.U ≡ w'.nums.U = ap (λ (z : State). z.U) w'.state in
      let F = slot_find 2 (root_items w.root ++ freed 1 w.lists) (omega (arith, w.heap.sound.once 2 (omega arith) two_given)) in
      omega (arith, O.keeps 2 F.0 F.1 F.2, slot_of_body 2 F.0 F.1 (root_items w'.root ++ freed 1 w'.lists), w'.heap.sound.past 2 (omega arith))

module _ (k : ℕ) (kind : k ≤ 8) (E : Edition) (s : State) (x : List ℕ) where
  done_free : (c : Change Left) → among k (c.takes ++ c.frees) ≡ false → ((erase_done s c).state.U ≡ 1 → ⊥) → free_at (erase_done s c).state k ≡ free_at s k
  done_free c h n = bool_cases (eqb s.R 1)
      (λ u. absurd (n (rw u refl)))
      (λ u. bool_cases (room s c) (λ t. rw (u, t) (after_free k kind s c (s.R - 1) (tree_left c.now) h)) (λ t. rw (u, t) refl))

  found_free : (a : Art) (v : Option Value) → (let c = erase_change E a x in among k (c.takes ++ c.frees) ≡ false) → ((erase_found E s x a v).state.U ≡ 1 → ⊥) → free_at (erase_found E s x a v).state k ≡ free_at s k
  found_free a none h n = refl
  found_free a (some v) h n = done_free (erase_change E a x) h n

  in_free : (r : Root) → among k (erase_kinds E r x) ≡ false → ((erase_in E s x (root_art r)).state.U ≡ 1 → ⊥) → free_at (erase_in E s x (root_art r)).state k ≡ free_at s k
  in_free (bare t o) h n = refl
  in_free (tree l) h n = found_free (art l) (find_tree E (art l) 0 x) h n

  erase_free : (r : Root) → s.tree ≡ root_art r → among k (erase_kinds E r x) ≡ false → ((on_erase E s x).state.U ≡ 1 → ⊥) → free_at (on_erase E s x).state k ≡ free_at s k
  erase_free r e h n =
      let q : erase_in E s x s.tree ≡ erase_in E s x (root_art r) = ap (erase_in E s x) e in
      bool_cases (eqb (E.key_fault x) 0)
      (λ t. let n' : (erase_in E s x s.tree).state.U ≡ 1 → ⊥ = rw t at n in rw t (ap (λ (d : Done). free_at d.state k) q ∙ in_free r h (λ z. n' (ap (λ (d : Done). d.state.U) q ∙ z))))
      (λ t. rw t refl)

module _ {E : Edition} {f x : List ℕ} {n : ℕ} {f' : List ℕ} (P : ErasePromise E f x n f') {s : State} (w : Stands E f s) (done : n ≡ 0) (more : 2 ≤ s.R) (k : ℕ) (low : 1 ≤ k) (high : k ≤ 8)
    (off : among k (erase_kinds E w.root x) ≡ false) where
  abbrev after_erase : Stands E f' (on_erase E s x).state
  after_erase = (P.after s w).0

  pub erase_list : get_or after_erase.lists (k - 1) [] ≡ get_or w.lists (k - 1) []
  erase_list =
      let w' = after_erase in
      let O = (P.after s w).1 done more in
      let is : k ≡ 1 + (k - 1) = omega arith in
      let t : s.tree ≡ root_art w.root = ap (λ (z : State). z.tree) w.state in
      let F = erase_found_lem E x w (sym (P.answer s w) ∙ done) in
      list_same w w' O (erase_same_cap x w w') (λ a l. omega (arith, none_sum (cover a), found_low w x a l)) k (k - 1) is (omega arith) off (body_some k (k - 1) is (omega arith))
      (spared w k (erase_kinds E w.root x) (erase_touch E w.root x).goes off (λ u. root_goes E f u x F.0 w.root w.root_at F.1))
      (sym (list_long w' k (k - 1) is) ∙ erase_free k high E s x w.root t off (not_one w w' O more) ∙ list_long w k (k - 1) is)

-- ---- two results have the list in common

module _ {E : Edition} {a : Write} {f x : List ℕ} {v : Value} {n m : ℕ} {f' f'' : List ℕ} (P : WritePromise E a f x v n f') (Q : WritePromise E a f x v m f'') {s : State} (w : Stands E f s) (done : changes n ≡ true) (k : ℕ) (low : 1 ≤ k) (high : k ≤ 8)
    (off : let c = put_change E s x v in among k (c.takes ++ c.frees) ≡ false) where
  pub put_lists : get_or (P.after s w).0.lists (k - 1) [] ≡ get_or (Q.after s w).0.lists (k - 1) []
  put_lists = put_list P w done k low high off ∙ sym (put_list Q w (rw (← put_number P Q w) done) k low high off)

module _ {E : Edition} {f x : List ℕ} {n m : ℕ} {f' f'' : List ℕ} (P : ErasePromise E f x n f') (Q : ErasePromise E f x m f'') {s : State} (w : Stands E f s) (done : n ≡ 0) (more : 2 ≤ s.R) (k : ℕ)
    (low : 1 ≤ k) (high : k ≤ 8) (off : among k (erase_kinds E w.root x) ≡ false) where
  pub erase_lists : get_or (P.after s w).0.lists (k - 1) [] ≡ get_or (Q.after s w).0.lists (k - 1) []
  erase_lists = erase_list P w done more k low high off ∙ sym (erase_list Q w (sym (erase_number P Q w) ∙ done) more k low high off)
