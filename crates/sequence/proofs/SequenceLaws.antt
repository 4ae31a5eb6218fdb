-- What a key has after calls that are not refused, and what its own calls answer, hang on the calls on that key alone. So two sequences with the same
-- calls on every key answer alike and leave the same records, and these have one image. Assumes nothing.
use Prim.Native.Nat.{ℕ}
use mathlib.Core.Path.{◌≡◌, refl, ap, sym, ◌∙◌}
use mathlib.Core.List.{List, [], ◌∷◌}
use mathlib.Core.Option.{Option}
use mathlib.Core.Logic.{◌≢◌}
use Rattle.model.specs.Strings.{pick, same}
use Rattle.model.specs.Edition.{Edition, Value, Lawful}
use Rattle.model.specs.Records.{Record, records_of, lookup}
use Rattle.model.specs.State.{State}
use Rattle.model.specs.Image.{image}
use Rattle.model.specs.Call.{Call, key_of, LegalCall, on_call, given, reply}
use Rattle.model.proofs.StringLaws.{bool_cases, same_true}
use Rattle.model.proofs.SetLaws.{lookup_all}
use Rattle.model.proofs.GoodState.{GoodState}
use Rattle.model.proofs.StateLaws.{tree_ascending}
use Rattle.model.proofs.Commute.{edited_lookup, call_done, SameFrame, call_frame}
use Rattle.sequence.specs.Sequence.{on_key, told_key, SameCalls, SameAnswers, call_numbers, state_after}

-- what a key has after calls on it, from what it had, and what they answer
abbrev left_by : List Call → Option Value → Option Value
left_by [] o = o
left_by (c ∷ cs) o = left_by cs (given c o)

abbrev replies_of : List Call → Option Value → List ℕ
replies_of [] o = []
replies_of (c ∷ cs) o = reply c o ∷ replies_of cs (given c o)

-- no call of the sequence is refused
abbrev pub Passed : Edition → State → List Call → Type 0
Passed E s [] = Unit {0}
Passed E s (c ∷ cs) = LegalCall E c × ((on_call E s c).answer ≢ 6) × Passed E (on_call E s c).state cs

pub after_frame : (E : Edition) (s : State) (cs : List Call) → SameFrame s (state_after E s cs)
after_frame E s [] = (refl, refl)
after_frame E s (c ∷ cs) =
    let a = call_frame E s c in let b = after_frame E (on_call E s c).state cs in
    (b.0 ∙ a.0, b.1 ∙ a.1)

module _ {E : Edition} (L : Lawful E) where
  abbrev records_at : State → List Record
  records_at s = records_of s.tree

  pub after_good : (s : State) (cs : List Call) → GoodState E s → Passed E s cs → GoodState E (state_after E s cs)
  after_good s [] h p = h
  after_good s (c ∷ cs) h p = after_good (on_call E s c).state cs (call_done L s c h p.0 p.1).good p.2

  -- what one call leaves of a key
  one : (s : State) (c : Call) (l : List ℕ) → GoodState E s → LegalCall E c → (on_call E s c).answer ≢ 6 → lookup l (records_at (on_call E s c).state) ≡ pick (same l (key_of c)) (given c (lookup l (records_at s))) (lookup l (records_at s))
  one s c l h g n = rw (call_done L s c h g n).set (edited_lookup c l (records_at s))

  after_lookup : (s : State) (cs : List Call) (l : List ℕ) → GoodState E s → Passed E s cs → lookup l (records_at (state_after E s cs)) ≡ left_by (on_key l cs) (lookup l (records_at s))
  after_lookup s [] l h p = refl
  after_lookup s (c ∷ cs) l h p =
      let on = after_lookup (on_call E s c).state cs l (call_done L s c h p.0 p.1).good p.2 in
      let this = one s c l h p.0 p.1 in
      bool_cases (same l (key_of c))
      (λ e. rw e (on ∙ rw (rw e at this)))
      (λ e. rw e (on ∙ rw (rw e at this)))

  after_told : (s : State) (cs : List Call) (l : List ℕ) → GoodState E s → Passed E s cs → told_key l cs (call_numbers E s cs) ≡ replies_of (on_key l cs) (lookup l (records_at s))
  after_told s [] l h p = refl
  after_told s (c ∷ cs) l h p =
      let w = call_done L s c h p.0 p.1 in
      let on = after_told (on_call E s c).state cs l w.good p.2 in
      let this = one s c l h p.0 p.1 in
      bool_cases (same l (key_of c))
      (λ e. let q = same_true l (key_of c) e in
      let a : (on_call E s c).answer ≡ reply c (lookup l (records_at s)) = rw q w.answer in
      rw (e, a) (ap (λ (ns : List ℕ). reply c (lookup l (records_at s)) ∷ ns) (on ∙ rw (rw e at this))))
      (λ e. rw e (on ∙ rw (rw e at this)))

  pub record Alike (s : State) (cs ds : List Call) : Type 0 where
    pub told : SameAnswers cs (call_numbers E s cs) ds (call_numbers E s ds)
    pub set : records_at (state_after E s cs) ≡ records_at (state_after E s ds)
    pub image : let x = state_after E s cs in let y = state_after E s ds in image E x.F x.N (records_at x) ≡ image E y.F y.N (records_at y)

  pub alike : (s : State) (cs ds : List Call) → GoodState E s → Passed E s cs → Passed E s ds → SameCalls cs ds → Alike s cs ds
  alike s cs ds h p q same =
      let a = after_frame E s cs in let b = after_frame E s ds in
      let sets : records_at (state_after E s cs) ≡ records_at (state_after E s ds) =
      lookup_all (records_at (state_after E s cs)) (records_at (state_after E s ds))
      (tree_ascending L (state_after E s cs).tree (after_good s cs h p).well)
      (tree_ascending L (state_after E s ds).tree (after_good s ds h q).well)
      (λ l. after_lookup s cs l h p ∙ rw (same l) (sym (after_lookup s ds l h q))) in
      record {
        told = λ l. after_told s cs l h p ∙ rw (same l) (sym (after_told s ds l h q));
        set = sets;
        image = rw (a.0, a.1, b.0, b.1, sets);
      }
