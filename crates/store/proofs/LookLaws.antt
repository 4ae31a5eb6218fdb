-- Look-up's ends: refused by the check or the key, found, absent. Assumes nothing.
use Prim.Native.Nat.{ℕ}
use mathlib.Core.Path.{◌≡◌, refl, ap, sym, ◌∙◌}
use mathlib.Core.List.{List, []}
use mathlib.Core.Option.{Option, none, some}
use native.Mathlib.Omega.{arith}
use lib.ListN.{take, drop}
use lib.Dec.{eqb}
use borrow.Author.Tests.{eq-eqb, ne_eqb}
use Rattle.std.specs.Prelude.{Some, None, Result}
use Rattle.layout.specs.Number.{Bytes}
use Rattle.model.specs.Strings.{pick}
use Rattle.model.specs.Edition.{Edition, Legal, Lawful}
use Rattle.model.specs.State.{State, find_in}
use Rattle.model.specs.Visits.{visits_in}
use Rattle.model.specs.Frame.{Root, root_art, Stands, Good}
use Rattle.model.specs.Touch.{Part, find_at}
use Rattle.model.specs.Promise.{Told, CheckPromise, LookUpPromise, not_found, found_of}
use Rattle.descent.specs.declared.lookup.Located.{Located}
use Rattle.descent.specs.declared.lookup.Held.{Held}
use Rattle.descent.specs.Lookup.{part_of, value_in, Looked, shifted, Handed}
use Rattle.descent.proofs.LookLaws.{value_stands}
use Rattle.model.proofs.TextLaws.{bytes_all}
use Rattle.model.proofs.UniqueLaws.{root_unique, stands_unique}
use Rattle.answers.specs.declared.Refusal.{Refusal}
use Rattle.answers.specs.Number.{refusal_number, done_number}
use Rattle.answers.proofs.NumberLaws.{never_zero}
use Rattle.store.specs.Found.{ValueAt}
use Rattle.descent.specs.Spot.{Standing}

-- what any number says of a good frame
pub told_good : (E : Edition) (f : List ℕ) (n : ℕ) → Good E f → Told E f n
told_good E f n g =
    let h = g.1.heap.header in
    record {
      length1 = λ z. absurd (z (rw h.size h.limits, h.stored ∙ sym h.size));
      bad2 = λ l z. absurd (z g);
      good = λ a b. g;
    }

module _ (E : Edition) (f k : List ℕ) where
  -- the check refuses
  pub refused_frame : (n : ℕ) → CheckPromise E f n → (n ≡ 0 → ⊥) → LookUpPromise E f k (not_found n 0)
  refused_frame n p ne =
      record {
        told = p.told;
        zeros = λ z. (refl, refl, refl);
        unvisited = λ z y. refl;
        found = λ s w. absurd (ne (p.good0 (s, w)));
        value = λ s w e. absurd (ne (p.good0 (s, w)));
      }

  -- the key is refused
  pub refused_key : Good E f → (E.key_fault k ≡ 0 → ⊥) → LookUpPromise E f k (not_found (E.key_fault k) 0)
  refused_key g ne =
      record {
        told = told_good E f (E.key_fault k) g;
        zeros = λ z. (refl, refl, refl);
        unvisited = λ z y. refl;
        found = λ s w. key_found (E.key_fault k) (find_at E w.root k) (visits_in E (root_art w.root) k) ne;
        value = λ s w e. absurd (ne e);
      }
    where
      key_found : (n : ℕ) (p : Option Part) (v : ℕ) → (n ≡ 0 → ⊥) → not_found n 0 ≡ pick (eqb n 0) (found_of p v) (not_found n 0)
      key_found n p v z = rw (ne_eqb n 0 z)

  -- the key's part is p, and v slots are on its path
  pub found_part : (p : Option Part) (v : ℕ) → Good E f → E.key_fault k ≡ 0
      → ((s : State) (w : Stands E f s) → (p ≡ find_at E w.root k) × (v ≡ visits_in E (root_art w.root) k))
      → ((s : State) → Stands E f s → find_in E s.tree k ≡ value_in f p) → LookUpPromise E f k (found_of p v)
  found_part p v g e at h =
      record {
        told = told_good E f (found_of p v).number g;
        zeros = λ z. both_zero p z;
        unvisited = λ z y. answered p z y;
        found = λ s w. legal_found (E.key_fault k) p (find_at E w.root k) (visits_in E (root_art w.root) k) e (at s w).0 (at s w).1;
        value = λ s w q. h s w ∙ in_part p;
      }
    where
      both_zero : (p : Option Part) → ((found_of p v).number ≡ 0 → ⊥) → ((found_of p v).place ≡ 0) × ((found_of p v).long ≡ 0) × ((found_of p v).stamp ≡ 0)
      both_zero none z = (refl, refl, refl)
      both_zero (some p) z = absurd (z refl)

      answered : {A : Type 0} (p : Option Part) → ((found_of p v).number ≡ 0 → ⊥) → ((found_of p v).number ≡ 8 → ⊥) → A
      answered none z y = absurd (y refl)
      answered (some p) z y = absurd (z refl)

      legal_found : (n : ℕ) (p q : Option Part) (u : ℕ) → n ≡ 0 → p ≡ q → v ≡ u → found_of p v ≡ pick (eqb n 0) (found_of q u) (not_found n 0)
      legal_found n p q u z y x = rw (eq-eqb n 0 z) (ap (λ (o : Option Part). found_of o v) y ∙ ap (found_of q) x)

      in_part : (p : Option Part) → value_in f p ≡ pick (eqb (found_of p v).number 0) (some (record { bytes = take (found_of p v).long (drop (found_of p v).place f); stamp = (found_of p v).stamp })) none
      in_part none = refl
      in_part (some p) = refl

  -- looked up
  pub looked_up : (v : Held) → Good E f → E.key_fault k ≡ 0 → ((s : State) (w : Stands E f s) → Looked E f k s w.root v)
      → LookUpPromise E f k (found_of (part_of v) v.slots)
  looked_up v g e h = found_part (part_of v) v.slots g e (λ s w. ((h s w).at, (h s w).visited)) (λ s w. (h s w).value)

-- ---- the ends, by the tests that led there

module _ (E : Edition) (f k : List ℕ) where
  pub good : CheckPromise E f 0 → Good E f
  good p = p.told.good (λ z. omega arith) (λ z. omega arith)

  pub standing : Lawful E → CheckPromise E f 0 → Standing E f
  standing L p = let g = good p in record { lawful = L; st = g.0; stands = g.1 }

  pub legal_key : 0 ≡ E.key_fault k → Bytes k → Legal E k
  legal_key q B = record { passes = sym q; bytes = bytes_all k B }

  pub end_frame : (r : Refusal) → CheckPromise E f (refusal_number r) → LookUpPromise E f k (not_found (refusal_number r) 0)
  end_frame r p = refused_frame E f k (refusal_number r) p (never_zero r)

  pub end_key : (r : Refusal) → CheckPromise E f 0 → refusal_number r ≡ E.key_fault k → LookUpPromise E f k (not_found (refusal_number r) 0)
  end_key r p q = rw q (refused_key E f k (good p) (λ z. never_zero r (q ∙ z)))

  pub end_found : CheckPromise E f 0 → 0 ≡ E.key_fault k → (v : Held) → ((s : State) (w : Stands E f s) → Looked E f k s w.root v) → (at : Located) → v.value ≡ Some at
      → LookUpPromise E f k (record { number = 0; place = at.place; long = at.length; slots = v.slots; stamp = at.stamp })
  end_found p q v L at t = rw t at (looked_up E f k v (good p) (sym q) L)

  pub end_absent : CheckPromise E f 0 → 0 ≡ E.key_fault k → (v : Held) → ((s : State) (w : Stands E f s) → Looked E f k s w.root v) → v.value ≡ None → LookUpPromise E f k (not_found 8 v.slots)
  end_absent p q v L t = rw t at (looked_up E f k v (good p) (sym q) L)

  -- ---- the value as a part

  module _ (start : ℕ × ℕ) where
    from_start : start ≡ shifted start 0
    from_start = ap (λ (n : ℕ). (start.0, n)) (omega arith)

    pub value_refused : (r : Result Unit Refusal) → CheckPromise E f (done_number r) → (done_number r ≡ 0 → ⊥) → ValueAt E f k start start []
    value_refused r p ne = record { at = 0; stands = from_start; promise = record { look = not_found (done_number r) 0; looked = refused_frame E f k (done_number r) p ne; starts = refl; holds = refl } }

    pub value_illegal : CheckPromise E f 0 → (E.key_fault k ≡ 0 → ⊥) → ValueAt E f k start start []
    value_illegal p ne =
        record { at = 0; stands = from_start; promise = record { look = not_found (E.key_fault k) 0; looked = refused_key E f k (good p) ne; starts = refl; holds = refl } }

    pub value_told : {part : List ℕ} {here : ℕ × ℕ} → CheckPromise E f 0 → 0 ≡ E.key_fault k
        → ((s : State) (w : Stands E f s) → Handed f start (found_of (find_at E w.root k) (visits_in E (root_art w.root) k)) here part) → ValueAt E f k start here part
    value_told c q v =
        let g = good c in let p = find_at E g.1.root k in let u = visits_in E (root_art g.1.root) k in let H = v g.0 g.1 in
        record {
          at = (found_of p u).place;
          stands = H.stands;
          promise = record {
            look = found_of p u;
            looked = found_part E f k p u g (sym q)
                (λ s w. let r = root_unique E f g.0 s g.1 w in (ap (λ (x : Root). find_at E x k) r, ap (λ (x : Root). visits_in E (root_art x) k) r))
                (λ s w. ap (λ (x : State). find_in E x.tree k) (stands_unique E f s g.0 w g.1) ∙ value_stands E k g.1);
            starts = refl;
            holds = H.bytes;
          };
        }
