-- A Leaf's key against a bound: its bytes decide, or where it ends. Assumes nothing.
use Prim.Native.Nat.{ℕ, ◌+◌, ◌*◌, ◌/◌, ◌<◌, ◌≤◌}
use native.Mathlib.Omega.{arith}
use mathlib.Core.Path.{◌≡◌, refl, sym, ap, ◌∙◌}
use mathlib.Core.List.{List, [], ◌∷◌}
use mathlib.Core.Bool.{true, false}
use mathlib.Core.Logic.{inl, inr}
use lib.ListN.{length, take, drop, length-append, get_or-append}
use lib.Dec.{leb, ltb, eqb}
use borrow.Author.Tests.{le-leb}
use Rattle.layout.specs.Number.{le}
use Rattle.layout.specs.Place.{leaf_extent, leaf_key}
use Rattle.model.specs.Edition.{Value, text_of}
use Rattle.model.specs.Body.{Text, LeafAt}
use Rattle.model.proofs.StringLaws.{bool_cases, eqb_cases, leb_cases}
use Rattle.keys.proofs.KeyLaws.{text_part}
use Rattle.listing.specs.Seek.{weigh, reach}
use Rattle.seek.specs.Seek.{Tail, behind_text}

-- a Leaf's key in its extent
pub key_there : {f : List ℕ} {o e : ℕ} {k : List ℕ} {v : Value} → LeafAt f o e k v → Text f e k
key_there {f} {o} {e} {k} {v} A i h = A.text i (omega (arith, length-append k (text_of v))) ∙ get_or-append k (text_of v) 0 i h

key_text : {f : List ℕ} {o e : ℕ} {k : List ℕ} {v : Value} → LeafAt f o e k v → take (length k) (drop e f) ≡ k
key_text {f} {o} {e} {k} {v} A = let r = A.room in text_part f e k (omega arith) (key_there A)

-- ---- weighed

-- what stands behind the text, without a test
pub behind_is : (t : ℕ) → Tail t → t / 256 * 256 ≡ behind_text t
behind_is t (inl h) = eqb_cases t 1
    (λ e q. rw e (omega arith))
    (λ e q. rw e (omega arith))
behind_is t (inr h) = rw h

pub tail_most : (t : ℕ) → Tail t → t ≤ 256
tail_most t (inl h) = omega arith
tail_most t (inr h) = omega arith

-- where the bytes of a key decide
key_decided : (g : List ℕ) (t : ℕ) (k : List ℕ) → (weigh g (behind_text t) k ≡ 1 → ⊥) → eqb (weigh g (behind_text t) k) 2 ≡ reach g t k
key_decided g t [] n = absurd (n refl)
key_decided [] t (y ∷ k) n = eqb_cases t 1
    (λ e q. rw (e, le-leb 0 y (omega arith)))
    (λ e q. rw e (bool_cases (leb t y) (λ u. rw u) (λ u. rw u)))
key_decided (x ∷ g) t (y ∷ k) n = bool_cases (ltb x y)
    (λ e. rw e)
    (λ e. bool_cases (eqb x y) (λ u. rw (e, u) (key_decided g t k (λ z. n (rw (e, u) z)))) (λ u. rw (e, u)))

-- where they do not: the key ends before the text, or is the text
key_open : {G : Type 0} (x y : ℕ) (g : List ℕ) (t : ℕ) (k : List ℕ) → weigh (x ∷ g) t (y ∷ k) ≡ 1 → (ltb x y ≡ false → eqb x y ≡ true → weigh g t k ≡ 1 → G) → G
key_open x y g t k w h = bool_cases (ltb x y)
    (λ e. let z : ◌≡◌ {A = ℕ} 2 1 = rw e at w in absurd (omega arith))
    (λ e. bool_cases (eqb x y) (λ u. h e u (rw (e, u) at w)) (λ u. let z : ◌≡◌ {A = ℕ} 0 1 = rw (e, u) at w in absurd (omega arith)))

key_less : (g : List ℕ) (t : ℕ) (k : List ℕ) → weigh g (behind_text t) k ≡ 1 → length k < length g → false ≡ reach g t k
key_less [] t k w h = absurd (omega arith)
key_less (x ∷ g) t [] w h = refl
key_less (x ∷ g) t (y ∷ k) w h = key_open x y g (behind_text t) k w (λ e u v. rw (e, u) (key_less g t k v (omega arith)))

key_same : (g : List ℕ) (t : ℕ) (k : List ℕ) → weigh g (behind_text t) k ≡ 1 → length g ≤ length k → eqb t 0 ≡ reach g t k
key_same [] t [] w h = refl
key_same [] t (y ∷ k) w h = bool_cases (leb (behind_text t) y)
    (λ e. let z : ◌≡◌ {A = ℕ} 2 1 = rw e at w in absurd (omega arith))
    (λ e. let z : ◌≡◌ {A = ℕ} 0 1 = rw e at w in absurd (omega arith))
key_same (x ∷ g) t [] w h = absurd (omega arith)
key_same (x ∷ g) t (y ∷ k) w h = key_open x y g (behind_text t) k w (λ e u v. rw (e, u) (key_same g t k v (omega arith)))

module _ {f : List ℕ} {o e : ℕ} {k : List ℕ} {v : Value} (A : LeafAt f o e k v) (text : List ℕ) (tail n from : ℕ) {b : ℕ} (eb : b ≡ behind_text tail)
    (ef : from ≡ le 4 f (o + leaf_extent)) (en : n ≡ le 2 f (o + leaf_key)) where
  abbrev here : ℕ
  here = weigh (drop 0 text) b (take n (drop from f))

  whole : here ≡ weigh text (behind_text tail) k
  whole = rw (eb, ef ∙ A.extent, en ∙ A.key_length, key_text A)

  decided : (w : ℕ) → w ≡ here → (w ≡ 1 → ⊥) → eqb w 2 ≡ reach text tail k
  decided w h x = ap (λ (x : ℕ). eqb x 2) (h ∙ whole) ∙ key_decided text tail k (λ z. x (h ∙ whole ∙ z))

  pub leaf_above : 2 ≡ here → true ≡ reach text tail k
  leaf_above h = decided 2 h (λ z. omega arith)

  pub leaf_below : 0 ≡ here → false ≡ reach text tail k
  leaf_below h = decided 0 h (λ z. omega arith)

  pub leaf_less : 1 ≡ here → n < length text → leb (length text) n ≡ reach text tail k
  leaf_less q h =
      let m : n ≡ length k = en ∙ A.key_length in
      leb_cases (length text) n (λ t p. absurd (omega arith)) (λ t p. t ∙ key_less text tail k (sym (q ∙ whole)) (omega arith))

  pub leaf_same : 1 ≡ here → length text ≤ n → eqb tail 0 ≡ reach text tail k
  leaf_same q h = let m : n ≡ length k = en ∙ A.key_length in key_same text tail k (sym (q ∙ whole)) (omega arith)
