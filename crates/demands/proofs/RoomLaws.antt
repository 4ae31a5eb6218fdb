-- No room in numbers, where the model has a test; how put, replacement and erase end in a good frame. Assumes nothing.
use Prim.Native.Nat.{ℕ, ◌+◌, ◌-◌, ◌<◌, ◌≤◌}
use native.Mathlib.Omega.{arith}
use mathlib.Core.Path.{◌≡◌, refl, sym, ap, subst, ◌∙◌}
use mathlib.Core.List.{List}
use mathlib.Core.Bool.{true, false}
use mathlib.Core.Option.{Option, none, some}
use mathlib.Core.Logic.{◌↔◌, inl, inr, ⊎_elim, ◌≢◌}
use borrow.Author.Tests.{leb-false, ne_eqb}
use Rattle.model.specs.Strings.{pick}
use Rattle.model.specs.Edition.{Edition, Legal, LegalValue, Lawful, Value}
use Rattle.model.specs.Tree.{Art, Change}
use Rattle.model.specs.Records.{records_of, lookup, absent}
use Rattle.model.specs.State.{State, Done, done, unless, fresh_slots, fresh_bytes, room, find_in, put_change, call_put, new, replacing, either, call_write, erase_change, call_erase}
use Rattle.model.specs.Frame.{Stands}
use Rattle.model.proofs.StringLaws.{leb_cases, eqb_cases, bool_cases, clash}
use Rattle.model.proofs.GoodState.{GoodAt, GoodState}
use Rattle.model.proofs.StateLaws.{room_facts, put_done, put_full, find_good, erase_fits, one_fewer, erase_done_lem, erase_full, erase_missing}
use Rattle.model.proofs.UniqueLaws.{stands_unique}
use Rattle.demands.specs.Words.{NoRoom, NoRoomIn, PutFull, ReplaceFull, EraseFull}

pub room_full : {A : Type 0} (s : State) (c : Change A) → room s c ≡ false → NoRoom s c
room_full s c e = leb_cases (fresh_slots s c.takes) (s.N - s.U)
    (λ t o. inr (leb-false (fresh_bytes s c.takes + c.extent) (s.F - s.B) (rw t at e)))
    (λ t o. inl (omega arith))

over : (need have : ℕ) → need ≤ have → have < need → ⊥
over need have h x = omega arith

pub room_not : {A : Type 0} (s : State) (c : Change A) → room s c ≡ true → NoRoom s c → ⊥
room_not s c e h =
    let r = room_facts s c e in
    ⊎_elim (over (fresh_slots s c.takes) (s.N - s.U) r.0) (over (fresh_bytes s c.takes + c.extent) (s.F - s.B) r.1) h

-- what holds of the state that a frame stands for
pub of_state : (E : Edition) (f : List ℕ) (s : State) (P : State → Type 0) → Stands E f s → (z : State) × Stands E f z × P z → P s
of_state E f s P w h = subst P (stands_unique E f h.0 s h.1 w) h.2

-- ---- a fault comes first

pub faulty : (n : ℕ) (s : State) (d : Done) → n ≢ 0 → unless n s d ≡ done n s
faulty n s d h = rw (ne_eqb n 0 h)

pub faultless : (n : ℕ) (s : State) (d : Done) → n ≡ 0 → unless n s d ≡ d
faultless n s d h = rw h

-- ---- how a call ends: with i where I holds and it has nothing to do, with 6 where F does, and else with d

pub data Ends (I F : Type 0) (i d n : ℕ) : Type 0 where
  idle : I → (F → ⊥) → n ≡ i → Ends I F i d n
  full : F → n ≡ 6 → Ends I F i d n
  made : (I → ⊥) → (F → ⊥) → n ≡ d → Ends I F i d n

pub ends_room : {I F : Type 0} {i d n : ℕ} → i ≢ 6 → d ≢ 6 → Ends I F i d n → (n ≡ 6) ↔ F
ends_room x y (idle a b e) = (λ q. absurd (x (sym e ∙ q)), λ f. absurd (b f))
ends_room x y (full a e) = (λ q. a, λ f. e)
ends_room x y (made a b e) = (λ q. absurd (y (sym e ∙ q)), λ f. absurd (b f))

some_not : {o : Option Value} {v : Value} → o ≡ some v → o ≢ none
some_not {v = v} e z = clash (let y : some v ≡ none = sym e ∙ z in cc)

module _ {E : Edition} (L : Lawful E) where
  fits_full : (s : State) (k : List ℕ) (v : Value) (t : Option Art) → GoodAt E s t → Legal E k → lookup k (records_of t) ≡ some v → erase_fits E s k t ≡ false → (2 ≤ s.R) × NoRoomIn E s t k
  fits_full s k v none h l e r = clash (cc)
  fits_full s k v (some a) h l e r = eqb_cases s.R 1
      (λ t q. clash (let z = rw t at r in cc))
      (λ t q. (omega (arith, one_fewer L s a k v h e), room_full s (erase_change E a k) (rw t at r)))

  fits_not : (s : State) (k : List ℕ) (t : Option Art) → erase_fits E s k t ≡ true → 2 ≤ s.R → NoRoomIn E s t k → ⊥
  fits_not s k none r two q = q
  fits_not s k (some a) r two q = room_not s (erase_change E a k) (rw (ne_eqb s.R 1 (λ z. omega arith)) at r) q

  -- an erase
  pub erase_ends : (s : State) (k : List ℕ) → GoodState E s → Legal E k → Ends (lookup k (records_of s.tree) ≡ none) (EraseFull E s k) 8 0 (call_erase E s k).answer
  erase_ends s k h l = go (lookup k (records_of s.tree)) refl
    where
      go : (o : Option Value) → lookup k (records_of s.tree) ≡ o → Ends (lookup k (records_of s.tree) ≡ none) (EraseFull E s k) 8 0 (call_erase E s k).answer
      go none e = idle e (λ x. x.0 e) (ap (λ (d : Done). d.answer) (erase_missing L s k h l e))
      go (some v) e = bool_cases (erase_fits E s k s.tree)
          (λ t. made (some_not e) (λ x. fits_not s k s.tree t x.1 x.2) (erase_done_lem L s k v h l e t).answer)
          (λ t. let q = fits_full s k v s.tree h l e t in full (some_not e, q.0, q.1) (ap (λ (d : Done). d.answer) (erase_full L s k v h l e t)))

  module _ (s : State) (k : List ℕ) (v : Value) (h : GoodState E s) (l : Legal E k) (m : LegalValue E v) where
    -- document 01's put, which is full where there is no room
    put_ends : {I F : Type 0} (i : ℕ) → (I → ⊥) → (NoRoom s (put_change E s k v) → F) → (F → NoRoom s (put_change E s k v)) → Ends I F i (pick (absent (lookup k (records_of s.tree))) 0 9) (call_put E s k v).answer
    put_ends i x y z = let c = put_change E s k v in bool_cases (room s c)
        (λ r. made x (λ q. room_not s c r (z q)) (put_done L s k v h l m r).answer)
        (λ r. full (y (room_full s c r)) (ap (λ (d : Done). d.answer) (put_full L s k v r)))

    pub either_ends : Ends ⊥ (NoRoom s (put_change E s k v)) 9 (pick (absent (lookup k (records_of s.tree))) 0 9) (call_write E either s k v).answer
    either_ends = put_ends 9 (λ x. x) (λ q. q) (λ q. q)

    pub new_ends : Ends (lookup k (records_of s.tree) ≢ none) (PutFull E s k v) 11 0 (call_write E new s k v).answer
    new_ends = go (lookup k (records_of s.tree)) refl
      where
        go : (o : Option Value) → lookup k (records_of s.tree) ≡ o → Ends (lookup k (records_of s.tree) ≢ none) (PutFull E s k v) 11 0 (call_write E new s k v).answer
        go none e = let u : find_in E s.tree k ≡ none = find_good L s k h l ∙ e in
            rw u (subst (λ n. Ends (lookup k (records_of s.tree) ≢ none) (PutFull E s k v) 11 n (call_put E s k v).answer) (rw e) (put_ends 11 (λ x. x e) (λ q. (e, q)) (λ q. q.1)))
        go (some w) e = let u : find_in E s.tree k ≡ some w = find_good L s k h l ∙ e in rw u (idle (some_not e) (λ x. some_not e x.0) refl)

    pub replace_ends : Ends (lookup k (records_of s.tree) ≡ none) (ReplaceFull E s k v) 8 9 (call_write E replacing s k v).answer
    replace_ends = go (lookup k (records_of s.tree)) refl
      where
        go : (o : Option Value) → lookup k (records_of s.tree) ≡ o → Ends (lookup k (records_of s.tree) ≡ none) (ReplaceFull E s k v) 8 9 (call_write E replacing s k v).answer
        go none e = let u : find_in E s.tree k ≡ none = find_good L s k h l ∙ e in rw u (idle e (λ x. x.0 e) refl)
        go (some w) e = let u : find_in E s.tree k ≡ some w = find_good L s k h l ∙ e in
            rw u (subst (λ n. Ends (lookup k (records_of s.tree) ≡ none) (ReplaceFull E s k v) 8 n (call_put E s k v).answer) (rw e) (put_ends 8 (some_not e) (λ q. (some_not e, q)) (λ q. q.1)))
