-- Two frames that one promise permits have one tree up to the slots and places of what was taken. Assumes nothing.
use Prim.Native.Nat.{ℕ, suc, ◌+◌, ◌<◌, ◌≤◌}
use mathlib.Core.Path.{◌≡◌, refl, sym, ap, ◌∙◌}
use mathlib.Core.List.{List, [], ◌∷◌, ◌++◌}
use mathlib.Core.Bool.{Bool, true, false}
use mathlib.Core.Logic.{⊎_elim}
use native.Mathlib.Omega.{arith}
use native.Mathlib.Decide.{dec_le, dec_lt, ℕ_discrete}
use lib.ListN.{length}
use lib.Dec.{eqb}
use borrow.Author.Tests.{eq-eqb, eqb-true}
use Rattle.layout.specs.Kind.{leaf_kind, prefix_kind, empty_root_kind}
use Rattle.model.specs.Strings.{pick, same}
use Rattle.model.specs.Edition.{Edition, Value}
use Rattle.model.specs.Tree.{extent_of}
use Rattle.model.specs.State.{State, Write, on_write, on_erase}
use Rattle.model.specs.Item.{Item, body, extent, on_slot, sum}
use Rattle.model.specs.Frame.{Lay, LayKids, Root, bare, tree, root_art, items, items_all, root_items, RootAt, freed, Stands}
use Rattle.model.specs.Frame.Lay.{leaf, prefix, node}
use Rattle.model.specs.Frame.LayKids.{nil, kid}
use Rattle.model.specs.Mark.{Mark, mark, marks, marks_all, root_marks, like, slot_is, count, In, Live}
use Rattle.model.specs.Touch.{Touch, among, Outside}
use Rattle.model.specs.Promise.{changes, WritePromise, ErasePromise}
use Rattle.model.specs.Freedom.{Alike}
use Rattle.model.specs.Call.{erase}
use Rattle.model.proofs.Commute.{on_write_frame, call_frame}
use Rattle.model.proofs.StringLaws.{bool_cases, eqb_cases, same_true, same_refl, shared_left}
use Rattle.model.proofs.ItemLaws.{in_yes, in_under, in_over, sum_app, slot_once}
use Rattle.model.proofs.MarkLaws.{find, weight_in, only, Like, Common, common_of, leaf_marks, prefix_marks, node_marks, kid_marks, nil_marks, tree_marks, bare_marks, like_of, stay_each}
use Rattle.model.proofs.PlaceLaws.{begins_self, Names, tree_once}
use Rattle.model.proofs.PrefixLaws.{known}
use Rattle.model.proofs.ShapeLaws.{root_seen}
use Rattle.model.proofs.ShiftLaws.{slot_weighs, slot_of, Result, slot_one, like_common, common_at, parted, Moved, lower}

-- ---- a kind with its path

abbrev starts : ℕ → List ℕ → Mark → ℕ
starts c x m = pick (eqb m.kind c) (pick (same m.from x) 1 0) 0

kind_few : (k c : ℕ) (a x : List ℕ) → pick (eqb k c) (pick (same a x) 1 0) 0 ≤ 1
kind_few k c a x = go (eqb k c) (same a x)
  where
    go : (t u : Bool) → pick t (pick u 1 0) 0 ≤ 1
    go true true = omega arith
    go true false = omega arith
    go false u = omega arith

kind_of : (k c : ℕ) (a x : List ℕ) → 1 ≤ pick (eqb k c) (pick (same a x) 1 0) 0 → (k ≡ c) × (a ≡ x)
kind_of k c a x h = go (eqb k c) (same a x) refl refl h
  where
    go : (t u : Bool) → eqb k c ≡ t → same a x ≡ u → 1 ≤ pick t (pick u 1 0) 0 → (k ≡ c) × (a ≡ x)
    go true true p q h = (eqb-true k c p, same_true a x q)
    go true false p q h = absurd (omega arith)
    go false u p q h = absurd (omega arith)

kind_yes : (k c : ℕ) (a x : List ℕ) → k ≡ c → a ≡ x → 1 ≤ pick (eqb k c) (pick (same a x) 1 0) 0
kind_yes k c a x e g = rw (e, g) (rw (eq-eqb c c refl, same_refl x) (omega arith))

-- ---- in a tree that stands each is there once

module _ (E : Edition) (x : List ℕ) where
  leaf_starts : Names E (starts leaf_kind x) (E.walked x)
  leaf_starts = record {
    one = λ m. kind_few m.kind leaf_kind m.from x;
    leaf = λ s k h. ap E.walked (kind_of leaf_kind leaf_kind k x h).1;
    node = λ s k p i h. absurd (omega (arith, (kind_of k leaf_kind p x h).0));
    prefix = λ s p q i h. absurd (omega (arith, (kind_of prefix_kind leaf_kind p x h).0));
  }

  other_starts : (c : ℕ) → (c ≡ leaf_kind → ⊥) → Names E (starts c x) x
  other_starts c n = record {
    one = λ m. kind_few m.kind c m.from x;
    leaf = λ s k h. absurd (n (sym (kind_of leaf_kind c k x h).0));
    node = λ s k p i h. (kind_of k c p x h).1;
    prefix = λ s p q i h. let e = kind_of prefix_kind c p x h in (rw e.1 (begins_self x), omega (arith, ap length e.1));
  }

root_starts : (E : Edition) (f : List ℕ) (c : ℕ) (x : List ℕ) (r : Root) → RootAt E f r → count (starts c x) (root_marks r) ≤ 1
unfolding RootAt
root_starts E f c x (bare s o) T = omega (arith, bare_marks (starts c x) s o, kind_few empty_root_kind c [] x)
root_starts E f c x (tree l) T = rw (tree_marks l) (elim (ℕ_discrete c leaf_kind) [ yes e ↦ rw e (tree_once (leaf_starts E x) f [] l T) | no e ↦ tree_once (other_starts E x c e) f [] l T ])

-- ---- slots

slot_past : (s t : ℕ) → (t ≡ s → ⊥) → (s < t → ⊥) → t + 1 ≤ s
slot_past s t n l = elim (dec_lt t s) [ yes h ↦ omega arith | no h ↦ absurd (n (omega arith)) ]

slot_sum : (s t k o : ℕ) → pick (eqb t s) 1 0 ≡ on_slot s (body t k o)
unfolding on_slot
slot_sum s t k o = eqb_cases t s
    (λ q e. rw q (sym (in_yes t 1 s (omega arith) (omega arith))))
    (λ q n. rw q (elim (dec_lt s t) [ yes l ↦ sym (in_under t 1 s l) | no l ↦ sym (in_over t 1 s (slot_past s t n l)) ]))

none_slot : (s e n : ℕ) → on_slot s (extent e n) ≡ 0
unfolding on_slot
none_slot s e n = refl

-- a weight of slot and kind comes to the same over the marks of a tree and over its items
module _ (v : Mark → ℕ) (w : Item → ℕ) (alike : (s k o : ℕ) (a b : List ℕ) → v (mark s k a b) ≡ w (body s k o)) (none : (e n : ℕ) → w (extent e n) ≡ 0) where
  mutual
    unfolding items items_all sum

    bodies_are : (p : List ℕ) (l : Lay) → count v (marks p l) ≡ sum w (items l)
    bodies_are p (leaf t o e k x) = omega (arith, leaf_marks v p t o e k x, alike t leaf_kind o k k, none e (extent_of k x))
    bodies_are p (prefix t o q l) = omega (arith, prefix_marks v p t o q l, alike t prefix_kind o p (p ++ q), bodies_are (p ++ q) l)
    bodies_are p (node t o kind ks) = omega (arith, node_marks v p t o kind ks, alike t kind o p p, bodies_all p ks)

    bodies_all : (p : List ℕ) (ks : LayKids) → count v (marks_all p ks) ≡ sum w (items_all ks)
    bodies_all p nil = nil_marks v p
    bodies_all p (kid b j l ks) = omega (arith, kid_marks v p b j l ks, bodies_are (p ++ b ∷ []) l, bodies_all p ks, sum_app w (items l) (items_all ks))

  pub bodies_root : (r : Root) → count v (root_marks r) ≡ sum w (root_items r)
  unfolding root_items sum
  bodies_root (bare t o) = omega (arith, bare_marks v t o, alike t empty_root_kind o [] [])
  bodies_root (tree l) = rw (tree_marks l) (bodies_are [] l)

pub slots_root : (s : ℕ) (r : Root) → count (slot_is s) (root_marks r) ≡ sum (on_slot s) (root_items r)
slots_root s = bodies_root (slot_is s) (on_slot s) (λ t k o a b. slot_sum s t k o) (none_slot s)

-- in a good frame a slot has one body
pub stands_once : {E : Edition} {f : List ℕ} {st : State} (w : Stands E f st) (s : ℕ) → count (slot_is s) (root_marks w.root) + sum (on_slot s) (freed 1 w.lists) ≤ 1
stands_once w s = omega (arith, slots_root s w.root, slot_once w.heap.sound s, sum_app (on_slot s) (root_items w.root) (freed 1 w.lists))

-- ---- two results

module _ {E : Edition} (f : List ℕ) {f' f'' : List ℕ} {r r' r'' : Root} {goes : List ℕ} (T : RootAt E f r) (R : Result E f' r r' goes) (S : Result E f'' r r'' goes) (shape : root_art r' ≡ root_art r'') where
  -- what is no Prefix is known by its path alone
  still : (m x : Mark) → (m.kind ≡ prefix_kind → ⊥) → In m (root_marks r) → Like m x → m.from ≡ x.from
  still m x n hm L = ⊎_elim (λ c. absurd (omega (arith, (common_of m x c).left, shared_left m.to x.to, ap length ((known E f m r T hm).flat n)))) (λ e. ap (λ (z : Mark). z.from) e) L.known

  module _ (x y : Mark) (hx : In x (root_marks r')) (hy : In y (root_marks r'')) (ek : x.kind ≡ y.kind) (ef : x.from ≡ y.from) (et : x.to ≡ y.to) (live : Live x.slot (root_marks r)) where
    -- a Prefix: z is the body of its slot in r''
    prefix_twin : (m z : Mark) → Moved r r' r'' m x z → x.slot ≡ y.slot
    prefix_twin m z M =
        let ky : y.kind ≡ prefix_kind = sym ek ∙ M.kinds.1 in
        let Y : Common m y = common_at ef et M.left in
        let U = S.root_at in
        elim (ℕ_discrete x.slot y.slot) [
          | yes e ↦ e
          | no n ↦
              let ne : y ≡ z → ⊥ = λ e. n (sym M.slots.0 ∙ M.slots.1 ∙ sym (ap (λ (i : Mark). i.slot) e)) in
              absurd (elim (dec_le (length y.from) (length z.from)) [
                | yes l ↦ lower f T R S shape (suc (length y.from)) m x z y M hy ky ef et (omega arith) (parted E f'' r'' U m y z hy M.other ky M.kinds.2 Y M.right ne l)
                | no l ↦
                    let P = root_seen E f'' f' z r'' r' U R.root_at (sym shape) M.other in
                    let up = parted E f'' r'' U m z y M.other hy M.kinds.2 ky M.right Y (λ e. ne (sym e)) (omega arith) in
                    lower f T S R (sym shape) (suc (length P.body.from)) m z x P.body (turned M) P.there (sym P.kind ∙ M.kinds.2) P.from P.to (omega arith) (omega (arith, ap length ef, ap length P.to))
              ])
        ]
      where
        turned : Moved r r' r'' m x z → Moved r r'' r' m z x
        turned M = record { was = M.was; one = M.other; other = M.one; kinds = (M.kinds.0, M.kinds.2, M.kinds.1); slots = (M.slots.1, M.slots.0); left = M.right; right = M.left }

    same_body : x.slot ≡ y.slot
    same_body =
        let F = find (slot_is x.slot) (root_marks r) live in
        let m = F.mark in
        let em : m.slot ≡ x.slot = slot_of m x.slot F.weighs in
        bool_cases (among m.slot goes)
        (λ t. absurd (omega (arith, R.gone m.slot t, weight_in (slot_is m.slot) (root_marks r') x hx (omega (arith, slot_weighs x m.slot (sym em))))))
        (λ t.
        let G = find (like m) (root_marks r') (R.stays.each m t F.there) in
        let H = find (like m) (root_marks r'') (S.stays.each m t F.there) in
        let L0 = like_of m G.mark G.weighs in
        let L : Like m x = rw (slot_one R G.mark x G.there hx (sym L0.slot ∙ em)) at L0 in
        let z = H.mark in
        let K = like_of m z H.weighs in
        elim (ℕ_discrete m.kind prefix_kind) [
          | yes k ↦
              let some = (known E f m r T F.there).some k in
              prefix_twin m z (record {
                was = F.there;
                one = hx;
                other = H.there;
                kinds = (k, sym L.kind ∙ k, sym K.kind ∙ k);
                slots = (L.slot, K.slot);
                left = like_common m x some L;
                right = like_common m z some K;
              })
          | no k ↦
              let a = still m x k F.there L in
              let b = still m z k F.there K in
              let q : y ≡ z = only (starts x.kind x.from) (root_marks r'') (root_starts E f'' x.kind x.from r'' S.root_at) y z hy H.there
              (kind_yes y.kind x.kind y.from x.from (sym ek) (sym ef)) (kind_yes z.kind x.kind z.from x.from (sym K.kind ∙ L.kind) (sym b ∙ a)) in
              sym em ∙ K.slot ∙ ap (λ (u : Mark). u.slot) (sym q)
        ])

  pub alike : Alike r r' r''
  alike = record { shape = shape; same = same_body }

-- ---- of the promises

-- what `Outside` says of one result
pub result_of : {E : Edition} {f f' : List ℕ} {s' : State} (r : Root) {ls : List (List (ℕ × ℕ))} {kinds : List ℕ} {t : Touch} {xs dies : List Item} {new : Bool} (w' : Stands E f' s')
    → Outside f f' r w'.root ls w'.lists kinds t xs dies new → Result E f' r w'.root t.goes
result_of r {t = t} w' O =
    record {
      bytes = w'.bytes;
      root_at = w'.root_at;
      once = λ s. omega (arith, stands_once w' s);
      gone = λ s h. omega (arith, stands_once w' s, O.leaves s h);
      stays = stay_each t.goes (root_marks r) (root_marks w'.root) O.stays;
      last = O.last;
    }

-- a live slot that the step does not free is live after it
pub slot_stays : {E : Edition} {f' : List ℕ} {r r' : Root} {goes : List ℕ} → Result E f' r r' goes → (s : ℕ) → 1 ≤ sum (on_slot s) (root_items r) → among s goes ≡ false → 1 ≤ sum (on_slot s) (root_items r')
slot_stays {r = r} {r' = r'} {goes = goes} R s h n =
    let F = find (slot_is s) (root_marks r) (omega (arith, slots_root s r)) in
    let e : F.mark.slot ≡ s = slot_of F.mark s F.weighs in
    let G = find (like F.mark) (root_marks r') (R.stays.each F.mark (rw e n) F.there) in
    let L = like_of F.mark G.mark G.weighs in
    omega (arith, slots_root s r', weight_in (slot_is s) (root_marks r') G.mark G.there (omega (arith, slot_weighs G.mark s (sym L.slot ∙ e))))

-- two frames that stand for one state have one tree without slots and places
pub arts_same : {E : Edition} {f' f'' : List ℕ} {s : State} (w' : Stands E f' s) (w'' : Stands E f'' s) → root_art w'.root ≡ root_art w''.root
arts_same w' w'' = sym (ap (λ (z : State). z.tree) w'.state) ∙ ap (λ (z : State). z.tree) w''.state

module _ {E : Edition} {a : Write} {f k : List ℕ} {v : Value} {n m : ℕ} {f' f'' : List ℕ} (P : WritePromise E a f k v n f') (Q : WritePromise E a f k v m f'') {s : State} (w : Stands E f s) where
  pub put_number : n ≡ m
  put_number = P.answer s w ∙ sym (Q.answer s w)

  pub put_refused : changes n ≡ false → f' ≡ f''
  put_refused h = P.kept h ∙ sym (Q.kept (rw (← put_number) h))

module _ {E : Edition} {f k : List ℕ} {n m : ℕ} {f' f'' : List ℕ} (P : ErasePromise E f k n f') (Q : ErasePromise E f k m f'') {s : State} (w : Stands E f s) where
  pub erase_number : n ≡ m
  erase_number = P.answer s w ∙ sym (Q.answer s w)

  pub erase_refused : changes n ≡ false → f' ≡ f''
  erase_refused h = P.kept h ∙ sym (Q.kept (rw (← erase_number) h))

  -- of the only record every byte is settled
  pub erase_only : n ≡ 0 → s.R ≡ 1 → f' ≡ f''
  erase_only h e = P.only s w h e ∙ sym (Q.only s w (sym erase_number ∙ h) e)

-- ---- no call changes N

cap_of : {E : Edition} {f : List ℕ} {s : State} (w : Stands E f s) → s.N ≡ w.nums.N
cap_of w = ap (λ (z : State). z.N) w.state

pub put_same_cap : {E : Edition} (a : Write) {f f' : List ℕ} (k : List ℕ) (v : Value) {s : State} (w : Stands E f s) (w' : Stands E f' (on_write E a s k v).state) → w'.nums.N ≡ w.nums.N
put_same_cap {E} a k v {s} w w' = sym (cap_of w') ∙ (on_write_frame E a s k v).1 ∙ cap_of w

pub erase_same_cap : {E : Edition} {f f' : List ℕ} (k : List ℕ) {s : State} (w : Stands E f s) (w' : Stands E f' (on_erase E s k).state) → w'.nums.N ≡ w.nums.N
erase_same_cap {E} k {s} w w' = sym (cap_of w') ∙ (call_frame E s (erase k)).1 ∙ cap_of w
