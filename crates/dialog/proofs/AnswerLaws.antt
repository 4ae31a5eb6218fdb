-- The answer to each command, from what the call on the frame promises. Assumes nothing.
use Prim.Native.Nat.{ℕ, ◌<◌, ◌≤◌}
use mathlib.Core.Path.{◌≡◌, refl, sym, ◌∙◌}
use mathlib.Core.List.{List, ◌++◌}
use native.Mathlib.Omega.{arith}
use Rattle.std.specs.Prelude.{Option, Some}
use lib.ListN.{length, take, drop, take-append-drop, length-take, length-drop}
use lib.Seq.{take_at, length-take-le}
use borrow.Author.Tests.{eq-eqb, ne_eqb}
use Rattle.layout.specs.Number.{le}
use Rattle.layout.specs.Place.{at_b, at_u, at_r}
use Rattle.model.specs.Edition.{Edition}
use Rattle.model.specs.Frame.{Good}
use Rattle.model.specs.Promise.{FormatPromise, PackPromise, LookUpPromise, ValuePromise, Found, Told}
use Rattle.lines.specs.Text.{Appended}
use Rattle.dialog.specs.Answer.{Answer, alone, with_value, with_counts, Formats, Gets, Packs}

pub whole : {x z : List ℕ} {r : ℕ} {p : List ℕ} → r ≤ length z → Appended x 0 p z r → Answer z r (λ t. t ≡ p)
whole h a = record { within = h; text = a.text }

-- a call that was not refused was given a good frame
pub good : {E : Edition} {f : List ℕ} {n : ℕ} → Told E f n → n ≡ 0 → Good E f
good t e = t.good (λ h. absurd (omega arith)) (λ h. absurd (omega arith))

-- ---- format

-- what a call left in the part that it was lent
pub back : (b ys : List ℕ) (F : ℕ) → F ≤ length b → length ys ≡ length (take F b) → take F (ys ++ drop F b) ≡ ys
back b ys F g k = take_at ys (drop F b) F (k ∙ length-take-le F b g)

module _ {E : Edition} (b ys : List ℕ) {long : Option ℕ} (F : ℕ) {N n : ℕ} {text : List ℕ} (says : text ≡ alone n) where
  pub above : 16384 < F → n ≡ 1 → Formats E b long F N b long text
  above h e =
      record {
        n = n;
        says = says;
        above = λ _. e;
        call = λ g. absurd (omega arith);
        done = λ z. absurd (omega arith);
        refused = λ _. (refl, refl);
      }

  module _ (h : F ≤ 16384) (g : F ≤ length b) (k : length ys ≡ length (take F b)) (p : FormatPromise E (take F b) F N n ys) where
    pub formats : n ≡ 0 → Formats E b long F N (ys ++ drop F b) (Some F) text
    formats e =
        record {
          n = n;
          says = says;
          above = λ l. absurd (omega arith);
          call = λ _. rw (back b ys F g k) p;
          done = λ _. refl;
          refused = λ z. absurd (z e);
        }

    pub refuses : (n ≡ 0 → ⊥) → Formats E b long F N (ys ++ drop F b) long text
    refuses e =
        record {
          n = n;
          says = says;
          above = λ l. absurd (omega arith);
          call = λ _. rw (back b ys F g k) p;
          done = λ z. absurd (e z);
          refused = λ _. (refl, rw (p.limits1 (λ ok. e (p.done0 ok).0)).1 (take-append-drop F b));
        }

-- ---- look-up

module _ {E : Edition} {f k : List ℕ} where
  pub short : {at : ℕ} {part : List ℕ} → ValuePromise E f k at part → length part ≤ length f
  short p = rw p.holds (simp (length-take, length-drop) (omega arith))

  module _ (g : Found) (p : LookUpPromise E f k g) {text : List ℕ} where
    pub misses : (n : ℕ) → n ≡ g.number → (n ≡ 0 → ⊥) → text ≡ alone n → Gets E f k f text
    misses n e h s = record { g = g; says = rw (← e, ne_eqb n 0 h) s; call = p; same = refl }

    pub finds : {at : ℕ} {part : List ℕ} → g.number ≡ 0 → ValuePromise E f k at part → text ≡ with_value part → Gets E f k f text
    finds e v s =
        let w = good p.told e in
        let q : v.look ≡ g = v.looked.found w.0 w.1 ∙ sym (p.found w.0 w.1) in
        record { g = g; says = rw (eq-eqb g.number 0 e) (rw (v.holds, q) at s); call = p; same = refl }

-- ---- pack

module _ {E : Edition} {f o o' : List ℕ} {n : ℕ} (p : PackPromise E f o n o') where
  pub tall : n ≡ 0 → 64 ≤ length f
  tall e = let w = good p.told e in let h = w.1.heap.header in omega (arith, h.size, h.limits)

  module _ (l : length o ≡ length f) {text : List ℕ} where
    pub fails : (n ≡ 0 → ⊥) → text ≡ alone n → Packs E f f text
    fails h s = record { n = n; o = o; o' = o'; says = rw (ne_eqb n 0 h) s; long = l; call = p; same = refl }

    pub packs : n ≡ 0 → text ≡ with_counts (le 4 o' at_u) (le 4 o' at_b) (le 4 o' at_r) → Packs E f f text
    packs e s = record { n = n; o = o; o' = o'; says = rw (eq-eqb n 0 e) s; long = l; call = p; same = refl }
