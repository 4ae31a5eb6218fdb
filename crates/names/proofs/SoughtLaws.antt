-- What guides a seek to a bound: in edition 1 the text itself, in edition 2 a part of its walked string. Assumes nothing.
use Prim.Native.Nat.{ℕ, zero, suc, ◌-◌, ◌≤◌}
use native.Mathlib.Omega.{arith}
use mathlib.Core.Path.{◌≡◌, refl, sym, ap, ◌∙◌}
use mathlib.Core.List.{List, [], ◌∷◌, ◌++◌, append_assoc, append-nil}
use mathlib.Core.Bool.{true}
use lib.Dec.{eqb}
use lib.ListN.{length, take, length-append, length-take}
use lib.Seq.{take-take, take_at}
use borrow.Author.Tests.{eq-eqb, ne_eqb}
use Rattle.model.specs.Edition.{Edition, edition1, edition2, escaped}
use Rattle.editions.specs.declared.Edition.{Edition as Named}
use Rattle.editions.specs.declared.Edition.TheVariants as edition
use Rattle.editions.specs.Rules.{rules_of}
use Rattle.editions.proofs.RulesLaws.{number_names}
use Rattle.model.proofs.StringLaws.{clash}
use Rattle.keys.specs.Word.{Spelt}
use Rattle.listing.specs.Bound.{escapes, bound_of}
use Rattle.listing.specs.Seek.{Guides}
use Rattle.listing.proofs.BoundLaws.{guides_of}
use Rattle.seek.specs.Sub.{Sub}
use Rattle.seek.specs.Seek.{Guided}
use Rattle.names.specs.Entry.{chosen_of, SpeltBound}

-- ---- the walked string of a text in edition 2

escaped_ends : (k : List ℕ) → escaped k ≡ escapes k ++ 0 ∷ 0 ∷ []
escaped_ends [] = refl
escaped_ends (zero ∷ k) = ap (λ (x : List ℕ). 0 ∷ 255 ∷ x) (escaped_ends k)
escaped_ends (suc b ∷ k) = ap (λ (x : List ℕ). suc b ∷ x) (escaped_ends k)

-- the first of the bytes that are written
spelt_part : {w g : List ℕ} {n : ℕ} (x y : List ℕ) (m : ℕ) → Spelt w g n → w ≡ x ++ y → m ≡ length x → take m g ≡ x
spelt_part {w} {g} {n} x y m S e q =
    sym (take-take m n g (omega (arith, S.long, ap length e, length-append x y))) ∙ ap (take m) (S.text ∙ e) ∙ take_at x y m (sym q)

module _ (g : List ℕ) where
  -- past the key that is the text, and from the text on or past all that begin with it
  pub bound_past : {w : List ℕ} {n : ℕ} (t : ℕ) → t ≡ 1 → Spelt (escaped g) w n → take (n - 1) w ≡ bound_of edition2 g t
  bound_past {w} {n} t e S =
      rw (eq-eqb t 1 e)
      (spelt_part (escapes g ++ 0 ∷ []) (0 ∷ []) (n - 1) S (escaped_ends g ∙ sym (append_assoc (escapes g) (0 ∷ []) (0 ∷ [])))
      (omega (arith, S.long, ap length (escaped_ends g), length-append (escapes g) (0 ∷ 0 ∷ []), length-append (escapes g) (0 ∷ []))))

  pub bound_text : {w : List ℕ} {n : ℕ} (t : ℕ) → (t ≡ 1 → ⊥) → Spelt (escaped g) w n → take (n - 2) w ≡ bound_of edition2 g t
  bound_text {w} {n} t e S =
      rw (ne_eqb t 1 e, append-nil (escapes g))
      (spelt_part (escapes g) (0 ∷ 0 ∷ []) (n - 2) S (escaped_ends g) (omega (arith, S.long, ap length (escaped_ends g), length-append (escapes g) (0 ∷ 0 ∷ []))))

spelt_fits : {x w : List ℕ} {n : ℕ} → Spelt x w n → n ≤ length w
spelt_fits {x} {w} {n} S = omega (arith, S.long, ap length S.text, length-take n w)

-- ---- what guides a seek

guides : (e : Named) (g : List ℕ) (t : ℕ) → Guides (rules_of e) g t (bound_of (rules_of e) g t)
guides e g t = rw (number_names e) at (guides_of (rules_of e).number g t)

pub spelt_first : (g : List ℕ) (t : ℕ) (w : List ℕ) → SpeltBound edition1 g t w 0
spelt_first g t w = record { inside = omega arith; guides = guides edition.First g t }

spelt_second : (g : List ℕ) (t : ℕ) (w : List ℕ) (m : ℕ) → m ≤ length w → take m w ≡ bound_of edition2 g t → SpeltBound edition2 g t w m
spelt_second g t w m h q = record { inside = h; guides = rw q (guides edition.Second g t) }

module _ (g : List ℕ) (t : ℕ) {w : List ℕ} {m : ℕ} (S : Spelt (escaped g) w m) where
  pub spelt_past : t ≡ 1 → SpeltBound edition2 g t w (m - 1)
  spelt_past q = spelt_second g t w (m - 1) (let h = spelt_fits S in omega arith) (bound_past g t q S)

  pub spelt_text : (t ≡ 1 → ⊥) → SpeltBound edition2 g t w (m - 2)
  spelt_text q = spelt_second g t w (m - 2) (let h = spelt_fits S in omega arith) (bound_text g t q S)

-- a text of no byte
pub spelt_none : (g : List ℕ) (t : ℕ) (w : List ℕ) → true ≡ eqb (length g) 0 → (t ≡ 1 → ⊥) → SpeltBound edition2 g t w 0
spelt_none [] t w h q = spelt_second [] t w 0 (omega arith) (rw (ne_eqb t 1 q) refl)
spelt_none (b ∷ g) t w h q = clash (let z = h ∙ ne_eqb (suc (length g)) 0 (λ y. omega arith) in cc)

pub guided : {E : Edition} (f g : List ℕ) (t root : ℕ) {w x : List ℕ} {m : ℕ} → Sub E f root 0 → SpeltBound E g t w m → x ≡ chosen_of E g (take m w) → Guided E f g x t root
guided f g t root S B e = record { sub = S; guides = rw e B.guides }
