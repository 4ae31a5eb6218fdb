-- The ends of put, replacement and either: refused by the check, the key or the value, or what was made on a good frame. Assumes nothing.
use Prim.Native.Nat.{ℕ, ◌<◌, ◌≤◌}
use mathlib.Core.Path.{◌≡◌, refl, sym, ap, subst, ◌∙◌}
use mathlib.Core.List.{List}
use mathlib.Core.Bool.{Bool, true, false}
use native.Mathlib.Omega.{arith}
use lib.ListN.{length}
use lib.Dec.{ltb, lit<}
use borrow.Author.Tests.{lt-ltb, le-ltb, ltb-true, eq-eqb, ne_eqb}
use Rattle.layout.specs.Number.{Bytes}
use Rattle.model.specs.Strings.{pick}
use Rattle.model.specs.Edition.{Edition, edition1, edition2, Lawful, Value, text_of, value_fault}
use Rattle.model.specs.State.{State, Done, done, unless, Write, call_write, on_write}
use Rattle.model.specs.Frame.{Good}
use Rattle.model.specs.Promise.{changes, CheckPromise, WritePromise}
use Rattle.model.proofs.TextLaws.{bytes_all}
use Rattle.model.proofs.StringLaws.{eqb_cases, ltb_cases}
use Rattle.put_core.specs.Core.{Left, Asked, WriteMade}
use Rattle.put_core.proofs.CoreLaws.{left_same}
use Rattle.answers.specs.declared.Refusal.{Refusal}
use Rattle.answers.specs.Number.{refusal_number}
use Rattle.answers.specs.declared.Refusal.TheVariants as refusal
use Rattle.answers.proofs.NumberLaws.{never_zero}
use Rattle.editions.specs.declared.Edition.{Edition as Named}
use Rattle.editions.specs.declared.Edition.TheVariants as edition
use Rattle.editions.specs.Rules.{rules_of}
use Rattle.store.specs.Write.{stamp_for, value_for, fault_of}
use Rattle.store.proofs.LookLaws.{told_good}

module _ (E : Edition) (f k : List ℕ) (v : Value) (a : Write) where
  -- the check refuses
  refused_frame : (n : ℕ) → CheckPromise E f n → (n ≡ 0 → ⊥) → WritePromise E a f k v n f
  refused_frame n p ne = record { told = p.told; answer = λ s w. absurd (ne (p.good0 (s, w))); after = λ s w. absurd (ne (p.good0 (s, w))); kept = λ z. refl }

  -- the key or the value is refused
  refused : Good E f → (n : ℕ) → changes n ≡ false → ((s : State) → on_write E a s k v ≡ done n s) → WritePromise E a f k v n f
  refused g n z is = record { told = told_good E f n g; answer = λ s w. sym (ap (λ (d : Done). d.answer) (is s)); after = λ s w. left_same E k v n w z (is s); kept = λ q. refl }

  key_is : (x : ℕ) → E.key_fault k ≡ x → (s : State) → on_write E a s k v ≡ unless x s (unless (value_fault v) s (call_write E a s k v))
  key_is x e s = ap (λ i. unless i s (unless (value_fault v) s (call_write E a s k v))) e

  value_is : (x : ℕ) → E.key_fault k ≡ 0 → value_fault v ≡ x → (s : State) → on_write E a s k v ≡ unless x s (call_write E a s k v)
  value_is x e q s = key_is 0 e s ∙ ap (λ i. unless i s (call_write E a s k v)) q

-- neither is: the frame is good, and key and value legal
pub made : (E : Edition) (f k : List ℕ) (v : Value) (a : Write) {n : ℕ} {f' : List ℕ} → Asked E f k v → WriteMade E a f k v n f' → WritePromise E a f k v n f'
made E f k v a {n} {f'} A M =
    let is = value_is E f k v a 0 A.legal.passes (ap (λ b. pick b 5 0) (le-ltb 65535 (length (text_of v)) A.legal_value.passes)) in
    record {
      told = told_good E f n (A.st, A.stands);
      answer = λ s w. M.answer s w ∙ sym (ap (λ (d : Done). d.answer) (is s));
      after = λ s w. subst (Left E f k v n f' s w) (sym (is s)) (M.after s w);
      kept = M.kept;
    }

-- ---- the ends, by the tests that led there

-- no refusal lets the frame change
pub changes_not : (r : Refusal) → changes (refusal_number r) ≡ false
changes_not refusal.Length = refl
changes_not refusal.Frame = refl
changes_not refusal.KeyLength = refl
changes_not refusal.KeyZero = refl
changes_not refusal.ValueLength = refl
changes_not refusal.Output = refl
changes_not refusal.Room = refl
changes_not refusal.Buffer = refl
changes_not refusal.Batch = refl

module _ (E : Edition) (f k : List ℕ) (v : Value) where
  pub barred_frame : (r : Refusal) → CheckPromise E f (refusal_number r) → (a : Write) → WritePromise E a f k v (refusal_number r) f
  barred_frame r p a = refused_frame E f k v a (refusal_number r) p (never_zero r)

  -- the key or the value is refused, whatever the stamp
  pub barred : Good E f → (r : Refusal) → refusal_number r ≡ fault_of E k v → (a : Write) → WritePromise E a f k v (refusal_number r) f
  barred G r q a = refused E f k v a G (refusal_number r) (changes_not r) (λ s. eqb_cases (E.key_fault k) 0
      (λ t z. value_is E f k v a (refusal_number r) z (let x : refusal_number r ≡ value_fault v = rw t at q in sym x) s ∙ not_zero r s (call_write E a s k v))
      (λ t m. key_is E f k v a (refusal_number r) (let x : refusal_number r ≡ E.key_fault k = rw t at q in sym x) s ∙ not_zero r s (unless (value_fault v) s (call_write E a s k v))))
    where
      not_zero : (r : Refusal) (s : State) (d : Done) → unless (refusal_number r) s d ≡ done (refusal_number r) s
      not_zero r s d = rw (ne_eqb (refusal_number r) 0 (never_zero r)) refl

  pub asked : Lawful E → Good E f → 0 ≡ fault_of E k v → Bytes k → Bytes (text_of v) → v.stamp < E.stamps → Asked E f k v
  asked L G q bk bv held =
      record {
        lawful = L;
        st = G.0;
        stands = G.1;
        legal = record { passes = legal_passes; bytes = bytes_all k bk };
        legal_value = record { passes = short; bytes = bytes_all (text_of v) bv; stamp = held };
      }
    where
      legal_passes : E.key_fault k ≡ 0
      legal_passes = eqb_cases (E.key_fault k) 0 (λ t z. z) (λ t m. let x : 0 ≡ E.key_fault k = rw t at q in sym x)

      short : length (text_of v) ≤ 65535
      short = let x : 0 ≡ value_fault v = rw (eq-eqb (E.key_fault k) 0 legal_passes) at q in
          ltb_cases 65535 (length (text_of v)) (λ u l. let y : 0 ≡ 5 = rw u at x in absurd (omega arith)) (λ u l. l)

-- ---- the fault, by its tests

pub fault_free : (E : Edition) (k : List ℕ) (v : Value) → 0 ≡ E.key_fault k → length (text_of v) ≤ 65535 → 0 ≡ fault_of E k v
fault_free E k v q l = rw (eq-eqb (E.key_fault k) 0 (sym q), le-ltb 65535 (length (text_of v)) l) refl

-- ---- the stamp

pub stamp_second : (s : ℕ) → s < 18446744073709551616 → (s ≡ stamp_for edition2 s) × (s < edition2.stamps)
stamp_second s h = rw (lt-ltb s 18446744073709551616 h) (refl, h)

-- it is one of the edition's
pub stamp_held : (e : Named) (s : ℕ) → stamp_for (rules_of e) s < (rules_of e).stamps
stamp_held e s = ltb_cases s (rules_of e).stamps (λ t h. rw t h) (λ t h. rw t (some e))
  where
    some : (e : Named) → 0 < (rules_of e).stamps
    some edition.First = lit< tt
    some edition.Second = lit< tt

-- what was made with it
pub made_for : (E : Edition) (f k t : List ℕ) (s : ℕ) (a : Write) {r n : ℕ} {f' : List ℕ} → r ≡ stamp_for E s → WritePromise E a f k (record { bytes = t; stamp = r }) n f' → WritePromise E a f k (value_for E t s) n f'
made_for E f k t s a {r} {n} {f'} e W = subst (λ (i : ℕ). WritePromise E a f k (record { bytes = t; stamp = i }) n f') e W
