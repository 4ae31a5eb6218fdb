-- Demand 1 of a batch, from its promise: the numbers that a change can give, and what is left unchanged in each case. Assumes nothing.
use Prim.Native.Nat.{ℕ}
use native.Mathlib.Omega.{arith}
use mathlib.Core.Path.{◌≡◌, refl, sym, ◌∙◌}
use mathlib.Core.List.{List, [], ◌∷◌}
use mathlib.Core.Bool.{true}
use mathlib.Core.Option.{Option, none, some}
use mathlib.Core.Logic.{◌⊎◌, inl, inr, ⊎_elim}
use lib.ListN.{length}
use lib.Dec.{ltb, eqb}
use Rattle.model.specs.Edition.{Edition, edition_of, Value, text_of, value_fault}
use Rattle.model.specs.Tree.{Art, Change, Left, find_tree}
use Rattle.model.specs.Records.{absent}
use Rattle.model.specs.State.{State, Done, unless, room, find_in, put_change, call_put, Write, new, replacing, either, call_write, erase_change, erase_done, erase_found, erase_in, call_erase}
use Rattle.model.specs.Frame.{Good}
use Rattle.model.specs.Order.{is_refusal}
use Rattle.model.specs.Call.{Call, put, replace, erase, on_call}
use Rattle.model.proofs.StringLaws.{bool_cases, eqb_cases, clash}
use Rattle.model.proofs.Edition2.{key_number}
use Rattle.model.proofs.WorkedLaws.{called_stands}
use Rattle.sequence.specs.Sequence.{Made}
use Rattle.demands.specs.Words.{Refusal, OneOf}
use Rattle.demands.proofs.FirstLaws.{Given, frame_first}
use Rattle.batch.specs.Layout.{changes_of}
use Rattle.batch.specs.Batch.{BatchPromise}
use Rattle.batch.specs.Demand.{second_length, not_laid, BatchDemand1}

-- ---- the numbers that a change can give

abbrev Answer : ℕ → Type 0
Answer n = OneOf n (0 ∷ 3 ∷ 4 ∷ 5 ∷ 6 ∷ 8 ∷ 9 ∷ 11 ∷ [])

key_ranges : (n : ℕ) (k : List ℕ) → OneOf ((edition_of n).key_fault k) (0 ∷ 3 ∷ 4 ∷ 5 ∷ [])
key_ranges n k = ⊎_elim (λ e. inl e) (λ s. ⊎_elim (λ e. inr (inl e)) (λ e. inr (inr (inl e))) s) (key_number n k)

value_range : (v : Value) → OneOf (value_fault v) (0 ∷ 3 ∷ 4 ∷ 5 ∷ [])
value_range v = bool_cases (ltb 65535 (length (text_of v))) (λ t. inr (inr (inr (inl (rw t))))) (λ t. inl (rw t))

fault_answer : (m : ℕ) → OneOf m (0 ∷ 3 ∷ 4 ∷ 5 ∷ []) → Answer m
fault_answer m (inl e) = inl e
fault_answer m (inr (inl e)) = inr (inl e)
fault_answer m (inr (inr (inl e))) = inr (inr (inl e))
fault_answer m (inr (inr (inr (inl e)))) = inr (inr (inr (inl e)))
fault_answer m (inr (inr (inr (inr e)))) = absurd e

unless_range : (m : ℕ) (s : State) (d : Done) → OneOf m (0 ∷ 3 ∷ 4 ∷ 5 ∷ []) → Answer d.answer → Answer (unless m s d).answer
unless_range m s d h g = eqb_cases m 0 (λ t q. rw t g) (λ t q. rw t (fault_answer m h))

-- of an edition whose keys get 0, 3 or 4
module _ (E : Edition) (key_range : (k : List ℕ) → OneOf (E.key_fault k) (0 ∷ 3 ∷ 4 ∷ 5 ∷ [])) where
  put_range : (s : State) (k : List ℕ) (v : Value) → Answer (call_put E s k v).answer
  put_range s k v = let c = put_change E s k v in bool_cases (room s c)
      (λ t. bool_cases c.fresh (λ u. inl (rw (t, u))) (λ u. inr (inr (inr (inr (inr (inr (inl (rw (t, u))))))))))
      (λ t. inr (inr (inr (inr (inl (rw t))))))

  write_range : (a : Write) (s : State) (k : List ℕ) (v : Value) → Answer (call_write E a s k v).answer
  write_range new s k v = bool_cases (absent (find_in E s.tree k)) (λ t. rw t (put_range s k v)) (λ t. inr (inr (inr (inr (inr (inr (inr (inl (rw t)))))))))
  write_range replacing s k v = bool_cases (absent (find_in E s.tree k)) (λ t. inr (inr (inr (inr (inr (inl (rw t))))))) (λ t. rw t (put_range s k v))
  write_range either s k v = put_range s k v

  erase_done_lem : (s : State) (c : Change Left) → Answer (erase_done s c).answer
  erase_done_lem s c = bool_cases (eqb s.R 1) (λ t. inl (rw t)) (λ t. bool_cases (room s c) (λ u. inl (rw (t, u))) (λ u. inr (inr (inr (inr (inl (rw (t, u))))))))

  erase_found_lem : (s : State) (k : List ℕ) (a : Art) (o : Option Value) → Answer (erase_found E s k a o).answer
  erase_found_lem s k a none = inr (inr (inr (inr (inr (inl refl)))))
  erase_found_lem s k a (some v) = erase_done_lem s (erase_change E a k)

  erase_in_lem : (s : State) (k : List ℕ) (t : Option Art) → Answer (erase_in E s k t).answer
  erase_in_lem s k none = inr (inr (inr (inr (inr (inl refl)))))
  erase_in_lem s k (some a) = erase_found_lem s k a (find_tree E a 0 k)

  call_range : (s : State) (c : Call) → Answer (on_call E s c).answer
  call_range s (put k v) = unless_range (E.key_fault k) s (unless (value_fault v) s (call_write E new s k v)) (key_range k) (unless_range (value_fault v) s (call_write E new s k v) (value_range v) (write_range new s k v))
  call_range s (replace k v) = unless_range (E.key_fault k) s (unless (value_fault v) s (call_write E replacing s k v)) (key_range k) (unless_range (value_fault v) s (call_write E replacing s k v) (value_range v) (write_range replacing s k v))
  call_range s (erase k) = unless_range (E.key_fault k) s (call_erase E s k) (key_range k) (erase_in_lem s k s.tree)

refused_range : (n : ℕ) → is_refusal n ≡ true → Answer n → OneOf n (0 ∷ 3 ∷ 4 ∷ 5 ∷ 6 ∷ [])
refused_range n r (inl e) = inl e
refused_range n r (inr (inl e)) = inr (inl e)
refused_range n r (inr (inr (inl e))) = inr (inr (inl e))
refused_range n r (inr (inr (inr (inl e)))) = inr (inr (inr (inl e)))
refused_range n r (inr (inr (inr (inr (inl e))))) = inr (inr (inr (inr (inl e))))
refused_range n r (inr (inr (inr (inr (inr (inl e)))))) = clash (let z = rw e at r in cc)
refused_range n r (inr (inr (inr (inr (inr (inr (inl e))))))) = clash (let z = rw e at r in cc)
refused_range n r (inr (inr (inr (inr (inr (inr (inr (inl e)))))))) = clash (let z = rw e at r in cc)
refused_range n r (inr (inr (inr (inr (inr (inr (inr (inr e)))))))) = absurd e

-- ---- the changes before the refused one leave a good frame

made_stands : (E : Edition) (f : List ℕ) (cs : List Call) (ns : List ℕ) (g : List ℕ) → Good E f → Made E f cs ns g → Good E g
made_stands E f [] [] g G e = rw e at G
made_stands E f [] (n ∷ ns) g G e = absurd e
made_stands E f (c ∷ cs) [] g G e = absurd e
made_stands E f (c ∷ cs) (n ∷ ns) g G m =
    let w = called_stands E f c n m.0 G.0 G.1 m.1 in
    made_stands E m.0 cs ns g ((on_call E G.0 c).state, w.1) m.2

module _ (E : Edition) (key_range : (k : List ℕ) → OneOf (E.key_fault k) (0 ∷ 3 ∷ 4 ∷ 5 ∷ [])) (f g b lent : List ℕ) (n at : ℕ) (f' g' lent' : List ℕ) (P : BatchPromise E f g b lent n at f' g' lent') where
  carried_given : Good E f → length g ≡ length f → (cs : List Call) → changes_of E b ≡ some cs → OneOf n (0 ∷ 3 ∷ 4 ∷ 5 ∷ 6 ∷ [])
  carried_given G l cs e = bool_cases (is_refusal n)
      (λ t.
      let S = P.stopped G l cs e t in
      let H = made_stands E f S.before S.answers g' G S.made in
      let q = (called_stands E g' S.change n g' H.0 H.1 S.refused).0 in
      refused_range n t (rw (sym q) at (call_range E key_range H.0 S.change)))
      (λ t. inl (P.done G l cs e t).number)

  laid_given : Good E f → length g ≡ length f → (o : Option (List Call)) → changes_of E b ≡ o → Given (not_laid E b ∷ []) (0 ∷ 3 ∷ 4 ∷ 5 ∷ 6 ∷ []) n
  laid_given G l none e = inl (e, P.layout12 G l e)
  laid_given G l (some cs) e = inr (λ x. clash (cc), carried_given G l cs e)

  batch_given : Good E f → Given (second_length f g ∷ not_laid E b ∷ []) (0 ∷ 3 ∷ 4 ∷ 5 ∷ 6 ∷ []) n
  batch_given G = eqb_cases (length g) (length f)
      (λ t q. inr (λ x. x q, laid_given G q (changes_of E b) refl))
      (λ t q. inl (q, P.length7 G q))

  -- a good frame's batch is not refused for the frame
  frame_not : (m : ℕ) → (m ≡ 1) ⊎ (m ≡ 2) → n ≡ m → Good E f → ⊥
  frame_not m h e G = go (batch_given G)
    where
      other : (x : ℕ) → n ≡ x → (x ≡ 1 → ⊥) → (x ≡ 2 → ⊥) → ⊥
      other x q a b = ⊎_elim (λ t. a (sym q ∙ e ∙ t)) (λ t. b (sym q ∙ e ∙ t)) h

      go : Given (second_length f g ∷ not_laid E b ∷ []) (0 ∷ 3 ∷ 4 ∷ 5 ∷ 6 ∷ []) n → ⊥
      go (inl x) = other 7 x.1 (λ t. omega arith) (λ t. omega arith)
      go (inr (x, inl y)) = other 12 y.1 (λ t. omega arith) (λ t. omega arith)
      go (inr (x, inr (y, inl q))) = other 0 q (λ t. omega arith) (λ t. omega arith)
      go (inr (x, inr (y, inr (inl q)))) = other 3 q (λ t. omega arith) (λ t. omega arith)
      go (inr (x, inr (y, inr (inr (inl q))))) = other 4 q (λ t. omega arith) (λ t. omega arith)
      go (inr (x, inr (y, inr (inr (inr (inl q)))))) = other 5 q (λ t. omega arith) (λ t. omega arith)
      go (inr (x, inr (y, inr (inr (inr (inr (inl q))))))) = other 6 q (λ t. omega arith) (λ t. omega arith)
      go (inr (x, inr (y, inr (inr (inr (inr (inr q))))))) = q

  laid_kept : Good E f → length g ≡ length f → Refusal n → (o : Option (List Call)) → changes_of E b ≡ o → (f' ≡ f) × (lent' ≡ lent)
  laid_kept G l r none e = let R = P.unlaid e in (R.first, R.tells)
  laid_kept G l r (some cs) e = let S = P.stopped G l cs e r in (S.first, S.tells)

  bad_kept : (Good E f → ⊥) → (f' ≡ f) × (lent' ≡ lent)
  bad_kept h = let R = P.bad h in (R.first, R.tells)

  kept : Refusal n → (f' ≡ f) × (lent' ≡ lent)
  kept r = eqb_cases n 1
      (λ t q. bad_kept (frame_not 1 (inl refl) q))
      (λ t q. eqb_cases n 2
      (λ u p. bad_kept (frame_not 2 (inr refl) p))
      (λ u p.
      let G = P.told.good q p in
      eqb_cases (length g) (length f)
      (λ v l. laid_kept G l r (changes_of E b) refl)
      (λ v l. let R = P.other l in (R.first, R.tells))))

-- of every edition
of_edition : (E : Edition) → ((k : List ℕ) → OneOf (E.key_fault k) (0 ∷ 3 ∷ 4 ∷ 5 ∷ [])) → BatchDemand1 E
of_edition E key_range =
    record {
      batch = λ f g b lent n at f' g' lent' P. (
        frame_first E f (second_length f g ∷ not_laid E b ∷ []) (0 ∷ 3 ∷ 4 ∷ 5 ∷ 6 ∷ []) n refl refl P.told (batch_given E key_range f g b lent n at f' g' lent' P),
        kept E key_range f g b lent n at f' g' lent' P,
      );
    }

pub batch_demand1 : (ed : ℕ) → BatchDemand1 (edition_of ed)
batch_demand1 ed = of_edition (edition_of ed) (key_ranges ed)
