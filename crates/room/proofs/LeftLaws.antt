-- A list read as far as is asked for, and the room of a state for some needs. Assumes nothing.
use Prim.Native.Nat.{ℕ, zero, suc, ◌+◌, ◌-◌, ◌<◌, ◌≤◌}
use mathlib.Core.Path.{◌≡◌, refl, sym, ap, ◌∙◌}
use mathlib.Core.List.{List, [], ◌∷◌, map}
use native.Mathlib.Omega.{arith}
use native.Mathlib.Decide.{ℕ_discrete}
use lib.ListN.{length, get_or, set}
use lib.Seq.{get_or-set_same, get_or-set_other}
use Rattle.layout.specs.Number.{le}
use Rattle.layout.specs.Place.{at_n, at_b, at_u, at_head, entry_at}
use Rattle.layout.specs.Entry.{high_of}
use Rattle.layout.proofs.KindLaws.{size_least}
use Rattle.model.specs.Edition.{Edition}
use Rattle.model.specs.State.{State}
use Rattle.model.specs.Item.{Item, sum}
use Rattle.model.specs.Frame.{View, Chain, Heap, Stands, freed, list_items}
use Rattle.model.proofs.ItemLaws.{sum_app}
use Rattle.room.specs.declared.fit.Room.{Room}
use Rattle.room.specs.declared.fit.Needs.{Needs}
use Rattle.room.specs.View.{list_of}
use Rattle.room.specs.Left.{HasHeap, Listed}
use Rattle.room.specs.Fit.{RoomOf}
use Rattle.room.proofs.HeapLaws.{list_cons, freed_part, body_in}
use Rattle.room.proofs.StepLaws.{chain_head, chain_nil, chain_cons}
use Rattle.room.proofs.CodeLaws.{chain_of}
use Rattle.room.proofs.BookLaws.{map_at}

-- ---- along a list

-- n bodies of kind k's list are passed, and s is the slot of the next one
pub record Along (f : List ℕ) (h : View) (k s n : ℕ) : Type 0 where
  pub rest : List (ℕ × ℕ)
  pub chain : Chain f s rest
  pub long : n + length rest ≡ length (list_of h k)
  pub part : (w : Item → ℕ) → sum w (list_items k rest) ≤ sum w (list_items k (list_of h k))

module _ {f : List ℕ} {h : View} (k : ℕ) (P : Heap f h) (k1 : 1 ≤ k) (k8 : k ≤ 8) where
  pub along_start : {s : ℕ} → s ≡ le 2 f (at_head k) → Along f h k s 0
  along_start e = record { rest = list_of h k; chain = rw e (chain_of k P k1 k8); long = omega arith; part = λ w. omega arith }

  -- the next body's slot is one of those given out
  slot_in : (x : ℕ × ℕ) (r : List (ℕ × ℕ)) → ((w : Item → ℕ) → sum w (list_items k (x ∷ r)) ≤ sum w (list_items k (list_of h k))) → (1 ≤ x.0) × (x.0 ≤ h.nums.U)
  slot_in x r part =
      let z = size_least k k1 k8 in
      let I = body_in P.sound x.0 k x.1 (list_items k r)
      (λ w. omega (arith, list_cons w k x r, part w, freed_part w 1 k (k - 1) h.lists (omega arith), sum_app w h.owned (freed 1 h.lists))) (omega arith) in
      (I.0, I.1)

  module _ {s n : ℕ} (A : Along f h k s n) where
    pub along_end : (most : ℕ) → n ≤ most → s ≡ 0 → Listed h k most n
    along_end most l e =
        let none = chain_nil f A.rest (rw (← e) A.chain) (λ x r z. (slot_in x r (λ w. rw (← z) (A.part w))).0) in
        let m : length A.rest ≡ 0 = ap length none in
        record { at_most = l; lacks = omega (arith, A.long) }

    pub along_most : (most : ℕ) → n ≡ most → Listed h k most most
    along_most most e = record { at_most = omega arith; lacks = omega (arith, A.long) }

    module _ (some : s ≡ 0 → ⊥) where
      pub along_next : {t : ℕ} → t ≡ high_of f s → Along f h k t (n + 1)
      along_next {t} e =
          let c = chain_cons f s A.rest A.chain (omega arith) in
          let x = c.0 in
          let r = c.1 in
          let C : Chain f (high_of f x.0) r = (chain_head f s x r (rw (← c.2) A.chain)).2 in
          let link : t ≡ high_of f x.0 = e ∙ ap (high_of f) c.3 in
          let m : length A.rest ≡ suc (length r) = ap length c.2 in
          record {
            rest = r;
            chain = rw link C;
            long = omega (arith, A.long);
            part = λ w. let p : sum w (list_items k (x ∷ r)) ≤ sum w (list_items k (list_of h k)) = rw (← c.2) (A.part w) in omega (arith, list_cons w k x r);
          }

      pub along_in : (1 ≤ s) × (entry_at s + 4 ≤ length f)
      along_in =
          let c = chain_cons f s A.rest A.chain (omega arith) in
          let I = slot_in c.0 c.1 (λ w. rw (← c.2) (A.part w)) in
          let high = I.1 in
          let e = c.3 in
          let H = P.header in
          let b = H.bump_in in
          let g = H.given_in in
          let z = H.size in
          (omega arith, omega arith)

-- ---- the room

-- a frame with a heap has a header, U is at most N and B at most F
pub heap_fits : {f : List ℕ} → HasHeap f → (64 ≤ length f) × (le 4 f at_u ≤ le 4 f at_n) × (le 4 f at_b ≤ length f)
heap_fits P =
    let H = P.heap.header in
    (omega (arith, H.size, H.limits), omega (arith, H.given_at, H.slots_at, H.given_in), omega (arith, H.bump_at, H.size, H.bump_in))

-- the lists of the kinds below n are read
pub record Counted (f needs free : List ℕ) (n : ℕ) : Type 0 where
  pub zeroth : get_or free 0 0 ≡ 0
  pub lacks : (h : View) → Heap f h → (k : ℕ) → 1 ≤ k → k < n → get_or needs k 0 - get_or free k 0 ≡ get_or needs k 0 - length (list_of h k)

pub room_is : {f : List ℕ} {r : Room} {m : Needs} {n c u b : ℕ} → n ≡ 9 → Counted f m.bodies r.free n → c ≡ le 4 f at_n → u ≡ le 4 f at_u → b ≡ le 4 f at_b → r.slots ≡ c - u → r.bytes ≡ length f - b
    → (E : Edition) (s : State) → Stands E f s → RoomOf r s m
room_is {f} {r} {m} e C ec eu eb es ey E s W =
    let H = W.heap.header in
    let free_is : (k : ℕ) → k < 9 → get_or m.bodies k 0 - get_or r.free k 0 ≡ get_or m.bodies k 0 - get_or s.free k 0
    = λ k l. rw W.state (elim (ℕ_discrete k 0) [
      | yes z ↦ rw (z, C.zeroth) refl
      | no z ↦
          C.lacks _ W.heap k (omega arith) (omega arith)
          ∙ ap (λ x. get_or m.bodies k 0 - x) (free_at W.lists k (omega arith))
    ]) in
    record { free = free_is; slots = rw W.state (omega (arith, es, ec, eu, H.slots_at, H.given_at)); bytes = rw W.state (omega (arith, ey, eb, H.size, H.bump_at)) }
  where
    free_at : (ls : List (List (ℕ × ℕ))) (k : ℕ) → 1 ≤ k → length (get_or ls (k - 1) []) ≡ get_or (0 ∷ map length ls) k 0
    free_at ls zero l = absurd (omega arith)
    free_at ls (suc k) l = let e : suc k - 1 ≡ k = omega arith in rw e (sym (map_at ls k))

pub counted_none : (f needs : List ℕ) → Counted f needs (0 ∷ 0 ∷ 0 ∷ 0 ∷ 0 ∷ 0 ∷ 0 ∷ 0 ∷ 0 ∷ []) 1
counted_none f needs = record { zeroth = refl; lacks = λ h P k l u. absurd (omega arith) }

pub counted_more : {f needs free : List ℕ} {k n : ℕ} → Counted f needs free k → 1 ≤ k → k < length free → ((h : View) → Heap f h → Listed h k (get_or needs k 0) n) → Counted f needs (set free k n) (k + 1)
counted_more {f} {needs} {free} {k} {n} C k1 l L =
    record {
      zeroth = get_or-set_other free k 0 n 0 (λ z. omega arith) ∙ C.zeroth;
      lacks = λ h P j j1 u. elim (ℕ_discrete j k) [
        | yes z ↦ rw (z, get_or-set_same free k n 0 l) (L h P).lacks
        | no z ↦ rw (get_or-set_other free k j n 0 z) (C.lacks h P j j1 (omega arith))
      ];
    }
