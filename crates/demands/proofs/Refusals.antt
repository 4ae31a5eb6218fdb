-- Demand 1, of every lawful edition whose keys' faults are 3 and 4: refusals by the documents' numbers and in their order, and a refused call changes nothing. Assumes nothing.
use Prim.Native.Nat.{ℕ, ◌≤◌}
use native.Mathlib.Omega.{arith}
use mathlib.Core.Path.{◌≡◌, refl, ap, ◌∙◌}
use mathlib.Core.List.{List, [], ◌∷◌}
use mathlib.Core.Bool.{Bool, true, false}
use mathlib.Core.Option.{Option, none, some}
use mathlib.Core.Logic.{inl, inr, ◌≢◌}
use lib.ListN.{length}
use borrow.Author.Tests.{ne_eqb}
use Rattle.model.specs.Strings.{All, Byte, pick}
use Rattle.model.specs.Edition.{Edition, Legal, LegalValue, Lawful, value_fault, Value, text_of}
use Rattle.model.specs.Records.{records_of, lookup, absent}
use Rattle.model.specs.State.{State, Done, unless, put_change, Write, new, replacing, either, call_write, on_write, call_erase}
use Rattle.model.specs.Visits.{visits_in}
use Rattle.model.specs.Frame.{Stands, Good, Root, root_art}
use Rattle.model.specs.Touch.{Part, find_at}
use Rattle.model.specs.Promise.{Found, found_of, on_look_up, LookUpPromise, changes}
use Rattle.model.proofs.StringLaws.{eqb_cases, ltb_cases, clash}
use Rattle.model.proofs.StandsGood.{stands_good}
use Rattle.demands.specs.Words.{Passable, Refusal, Ground, OneOf, NoRoom, PutFull, ReplaceFull, EraseFull, key_length, key_zero, value_long, output_length, put_full, replace_full, put_or_replace_full, erase_full}
use Rattle.demands.specs.Demands.{Demand1}
use Rattle.demands.proofs.FirstLaws.{Given, frame_first, KeyGiven}
use Rattle.demands.proofs.RoomLaws.{of_state, faulty, faultless, Ends, idle, full, made, either_ends, new_ends, replace_ends, erase_ends}

-- a refusal is none of the numbers after which something may differ
pub unchanging : (n : ℕ) → Refusal n → changes n ≡ false
unchanging n r = eqb_cases n 0 (λ t e. clash (let z = rw e at r in cc)) (λ t e. eqb_cases n 9 (λ u q. clash (let z = rw q at r in cc)) (λ u q. rw (t, u)))

refused_not0 : (n : ℕ) → Refusal n → n ≢ 0
refused_not0 n r e = clash (let z = rw e at r in cc)

refused_not8 : (n : ℕ) → Refusal n → n ≢ 8
refused_not8 n r e = clash (let z = rw e at r in cc)

-- ---- the answers in a good frame

found_number : (o : Option Part) (visited : ℕ) → OneOf (found_of o visited).number (0 ∷ 8 ∷ [])
found_number none n = inr (inl refl)
found_number (some c) n = inl refl

look_fault : (E : Edition) (r : Root) (k : List ℕ) → E.key_fault k ≢ 0 → (on_look_up E r k).number ≡ E.key_fault k
look_fault E r k h = rw (ne_eqb (E.key_fault k) 0 h)

pub look_answer : (E : Edition) (r : Root) (k : List ℕ) → E.key_fault k ≡ 0 → OneOf (on_look_up E r k).number (0 ∷ 8 ∷ [])
look_answer E r k h = rw h (found_number (find_at E r k) (visits_in E (root_art r) k))

module _ {E : Edition} (L : Lawful E) (key_given : KeyGiven E) where
  look_given : (f k : List ℕ) (g : Found) → LookUpPromise E f k g → Good E f → Given (key_length E k ∷ key_zero E k ∷ []) (0 ∷ 8 ∷ []) g.number
  look_given f k g p h =
      let e = p.found h.0 h.1 in let r = h.1.root in
      rw e (key_given k (on_look_up E r k).number [] (0 ∷ 8 ∷ []) (look_fault E r k) (look_answer E r k))

  -- a value too long, and else what is given on the other grounds
  value_given : (v : Value) (n : ℕ) (s : State) (d : Done) (gs : List Ground) (answers : List ℕ) → n ≡ (unless (value_fault v) s d).answer → (length (text_of v) ≤ 65535 → n ≡ d.answer → Given gs answers n) → Given (value_long v ∷ gs) answers n
  value_given v n s d gs answers e h = ltb_cases 65535 (length (text_of v)) (λ t o. inl (o, e ∙ rw t)) (λ t o. inr (λ x. omega arith, h o (e ∙ rw t)))

  -- no room as P says of the frame's state, and else the call's own answers
  ends_given : {I : Type 0} {i d n m : ℕ} (f : List ℕ) (s : State) (P : State → Type 0) (answers : List ℕ) → Stands E f s → OneOf i answers → OneOf d answers → n ≡ m → Ends I (P s) i d m
      → Given (record { number = 6; applies = (z : State) × Stands E f z × P z } ∷ []) answers n
  ends_given f s P answers w x y is (idle a b e) = inr (λ z. b (of_state E f s P w z), rw (is ∙ e) x)
  ends_given f s P answers w x y is (full a e) = inl ((s, w, a), is ∙ e)
  ends_given f s P answers w x y is (made a b e) = inr (λ z. b (of_state E f s P w z), rw (is ∙ e) y)

  -- what a write gives in a good frame: 3, 4, 5, and then as it ends there
  write_given : {I : Type 0} {i d : ℕ} (a : Write) (f k : List ℕ) (v : Value) (n : ℕ) (s : State) (P : State → Type 0) (answers : List ℕ) → All Byte k → Passable E v → Stands E f s → OneOf i answers → OneOf d answers
      → n ≡ (on_write E a s k v).answer → (Legal E k → LegalValue E v → Ends I (P s) i d (call_write E a s k v).answer)
      → Given (key_length E k ∷ key_zero E k ∷ value_long v ∷ record { number = 6; applies = (z : State) × Stands E f z × P z } ∷ []) answers n
  write_given a f k v n s P answers bk bv w x y e ends =
      let call = call_write E a s k v in let unlong = unless (value_fault v) s call in
      let no : Ground = record { number = 6; applies = (z : State) × Stands E f z × P z } in
      key_given k n (value_long v ∷ no ∷ []) answers
      (λ q. e ∙ ap (λ (z : Done). z.answer) (faulty (E.key_fault k) s unlong q))
      (λ q. value_given v n s call (no ∷ []) answers (e ∙ ap (λ (z : Done). z.answer) (faultless (E.key_fault k) s unlong q))
      (λ short is. ends_given f s P answers w x y is (ends (record { passes = q; bytes = bk }) (record { passes = short; bytes = bv.0; stamp = bv.1 }))))

  one_of_two : (b : Bool) → OneOf (pick b 0 9) (0 ∷ 9 ∷ [])
  one_of_two true = inl refl
  one_of_two false = inr (inl refl)

  -- ---- the calls

  pub demand1 : Demand1 E
  demand1 = record {
    format = λ f len cap n f' p. (
      (refl, ((λ e ok. (let z = (p.done0 ok).0 in omega arith), λ x. (p.limits1 x).0), λ ok. eqb_cases n 0 (λ t q. inl q) (λ t q. absurd (ok (λ x. q (p.done0 x).0))))),
      λ r. eqb_cases n 0 (λ t q. absurd (refused_not0 n r q)) (λ t q. (p.limits1 (λ x. q (p.done0 x).0)).1),
    );
    check = λ f n p. frame_first E f [] (0 ∷ []) n refl refl p.told (λ g. inl (p.good0 g));
    look_up = λ f k g p. (
      frame_first E f (key_length E k ∷ key_zero E k ∷ []) (0 ∷ 8 ∷ []) g.number refl refl p.told (look_given f k g p),
      λ r. let z = p.zeros (refused_not0 g.number r) in let u = p.unvisited (refused_not0 g.number r) (refused_not8 g.number r) in
          λ i. record { number = g.number; place = z.0 i; long = z.1 i; slots = u i; stamp = z.2 i },
    );
    value = λ f k at part h. let p = h.looked in let g = h.look in (
      frame_first E f (key_length E k ∷ key_zero E k ∷ []) (0 ∷ 8 ∷ []) g.number refl refl p.told (look_given f k g p),
      λ r. let z = p.zeros (refused_not0 g.number r) in (h.starts ∙ z.0, h.holds ∙ rw z.1),
    );
    put = λ f k v n f' bk bv p. (
      frame_first E f (key_length E k ∷ key_zero E k ∷ value_long v ∷ put_full E f k v ∷ []) (0 ∷ 11 ∷ []) n refl refl p.told
          (λ g. write_given new f k v n g.0 (λ z. PutFull E z k v) (0 ∷ 11 ∷ []) bk bv g.1 (inr (inl refl)) (inl refl) (p.answer g.0 g.1)
          (new_ends L g.0 k v (stands_good E f g.0 g.1))),
      λ r. p.kept (unchanging n r),
    );
    replace = λ f k v n f' bk bv p. (
      frame_first E f (key_length E k ∷ key_zero E k ∷ value_long v ∷ replace_full E f k v ∷ []) (9 ∷ 8 ∷ []) n refl refl p.told
          (λ g. write_given replacing f k v n g.0 (λ z. ReplaceFull E z k v) (9 ∷ 8 ∷ []) bk bv g.1 (inr (inl refl)) (inl refl) (p.answer g.0 g.1)
          (replace_ends L g.0 k v (stands_good E f g.0 g.1))),
      λ r. p.kept (unchanging n r),
    );
    put_or_replace = λ f k v n f' bk bv p. (
      frame_first E f (key_length E k ∷ key_zero E k ∷ value_long v ∷ put_or_replace_full E f k v ∷ []) (0 ∷ 9 ∷ []) n refl refl p.told
          (λ g. write_given either f k v n g.0 (λ z. NoRoom z (put_change E z k v)) (0 ∷ 9 ∷ []) bk bv g.1 (inr (inl refl)) (one_of_two (absent (lookup k (records_of g.0.tree)))) (p.answer g.0 g.1)
          (either_ends L g.0 k v (stands_good E f g.0 g.1))),
      λ r. p.kept (unchanging n r),
    );
    erase = λ f k n f' b p. (
      frame_first E f (key_length E k ∷ key_zero E k ∷ erase_full E f k ∷ []) (0 ∷ 8 ∷ []) n refl refl p.told
          (λ g. let s = g.0 in let e = p.answer s g.1 in let d = call_erase E s k in
          key_given k n (erase_full E f k ∷ []) (0 ∷ 8 ∷ [])
          (λ x. e ∙ ap (λ (z : Done). z.answer) (faulty (E.key_fault k) s d x))
          (λ x. ends_given f s (λ z. EraseFull E z k) (0 ∷ 8 ∷ []) g.1 (inr (inl refl)) (inl refl)
          (e ∙ ap (λ (z : Done). z.answer) (faultless (E.key_fault k) s d x)) (erase_ends L s k (stands_good E f s g.1) (record { passes = x; bytes = b })))),
      λ r. p.kept (unchanging n r),
    );
    pack = λ f o n o' p. (
      frame_first E f (output_length f o ∷ []) (0 ∷ []) n refl refl p.told
          (λ g. eqb_cases (length o) (length f)
          (λ t q. inr (λ x. x q, inl (p.packed0 g.0 g.1 q).0))
          (λ t q. inl (q, p.output7 g q))),
      λ r. p.kept (unchanging n r),
    );
  }
