-- Erase's ends: refused by the check or the key, or what the erase on a good frame has made. Assumes nothing.
use Prim.Native.Nat.{ℕ}
use mathlib.Core.Path.{◌≡◌, refl, sym, ap, subst, ◌∙◌}
use mathlib.Core.List.{List}
use mathlib.Core.Bool.{false}
use Rattle.layout.specs.Number.{Bytes}
use Rattle.model.specs.Edition.{Edition, Lawful}
use Rattle.model.specs.State.{State, Done, done, unless, call_erase, on_erase}
use Rattle.model.specs.Frame.{Good}
use Rattle.model.specs.Promise.{changes, CheckPromise, ErasePromise}
use Rattle.model.proofs.TextLaws.{bytes_all}
use Rattle.erase_core.specs.Core.{Left, Asked, EraseMade}
use Rattle.erase_core.proofs.CoreLaws.{never_zero, left_same}
use borrow.Author.Tests.{ne_eqb}
use Rattle.answers.specs.declared.Refusal.{Refusal}
use Rattle.answers.specs.Number.{refusal_number}
use Rattle.answers.proofs.NumberLaws.{never_zero as refused_some}
use Rattle.store.proofs.LookLaws.{told_good}
use Rattle.store.proofs.PutCallLaws.{changes_not}

module _ (E : Edition) (f k : List ℕ) where
  -- the check refuses
  refused_frame : (n : ℕ) → CheckPromise E f n → (n ≡ 0 → ⊥) → ErasePromise E f k n f
  refused_frame n p ne =
      record {
        told = p.told;
        answer = λ s w. absurd (ne (p.good0 (s, w)));
        after = λ s w. absurd (ne (p.good0 (s, w)));
        only = λ s w. absurd (ne (p.good0 (s, w)));
        kept = λ z. refl;
      }

  key_is : (x : ℕ) → E.key_fault k ≡ x → (s : State) → on_erase E s k ≡ unless x s (call_erase E s k)
  key_is x e s = ap (λ i. unless i s (call_erase E s k)) e

  -- the key is refused
  refused_key : Good E f → (n : ℕ) → changes n ≡ false → ((s : State) → on_erase E s k ≡ done n s) → ErasePromise E f k n f
  refused_key g n z is =
      record {
        told = told_good E f n g;
        answer = λ s w. sym (ap (λ (d : Done). d.answer) (is s));
        after = λ s w. left_same E k n w z (is s);
        only = λ s w e. absurd (never_zero n z e);
        kept = λ e. refl;
      }

  -- it is legal
  made : Good E f → {n : ℕ} {f' : List ℕ} → ((s : State) → on_erase E s k ≡ call_erase E s k) → EraseMade E f k n f' → ErasePromise E f k n f'
  made g {n} {f'} is M =
      record {
        told = told_good E f n g;
        answer = λ s w. M.answer s w ∙ sym (ap (λ (d : Done). d.answer) (is s));
        after = λ s w. subst (Left E f k n f' s w) (sym (is s)) (M.after s w);
        only = M.only;
        kept = M.kept;
      }

-- ---- the ends, by the tests that led there

module _ (E : Edition) (f k : List ℕ) where
  pub erase_frame : (r : Refusal) → CheckPromise E f (refusal_number r) → ErasePromise E f k (refusal_number r) f
  erase_frame r p = refused_frame E f k (refusal_number r) p (refused_some r)

  pub erase_key : Good E f → (r : Refusal) → refusal_number r ≡ E.key_fault k → ErasePromise E f k (refusal_number r) f
  erase_key G r q = refused_key E f k G (refusal_number r) (changes_not r) (λ s. key_is E f k (refusal_number r) (sym q) s ∙ rw (ne_eqb (refusal_number r) 0 (refused_some r)) refl)

  pub erase_asked : Lawful E → Good E f → 0 ≡ E.key_fault k → Bytes k → Asked E f k
  erase_asked L G q bk = record { lawful = L; st = G.0; stands = G.1; legal = record { passes = sym q; bytes = bytes_all k bk } }

  pub erase_made : Good E f → 0 ≡ E.key_fault k → {x : ℕ} {f' : List ℕ} → EraseMade E f k x f' → ErasePromise E f k x f'
  erase_made G q M = made E f k G (key_is E f k 0 (sym q)) M
