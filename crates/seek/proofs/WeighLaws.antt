-- Bytes of a frame weighed against a bound, one after the other. Assumes nothing.
use Prim.Native.Nat.{ℕ, zero, suc, ◌+◌, ◌-◌, ◌<◌, ◌≤◌}
use native.Mathlib.Omega.{arith}
use native.Mathlib.Numerals.{add-one}
use mathlib.Core.Path.{◌≡◌, sym, ◌∙◌}
use mathlib.Core.List.{List, ◌∷◌}
use mathlib.Core.Bool.{false}
use lib.ListN.{length, take, drop, get_or, drop_of_length-le}
use lib.Seq.{drop-cons}
use lib.Dec.{leb, ltb, eqb}
use borrow.Author.Tests.{le-leb, lt-ltb, le-ltb, eq-eqb, ne_eqb}
use Rattle.std.proofs.Common.{Ordering, Less, Equal, Greater}
use Rattle.std.specs.Ordering.{ordering_index, nat_cmp, MatchOrdering}
use Rattle.std.proofs.lemmas.Cmp.{ranked}
use Rattle.pieces.specs.Range.{Alike}
use Rattle.model.specs.Strings.{pick}
use Rattle.model.proofs.StringLaws.{leb_cases}
use Rattle.listing.specs.Seek.{weigh}

row_cons : (f : List ℕ) (at n i : ℕ) → i < n → at + n ≤ length f → take (n - i) (drop (at + i) f) ≡ get_or f (at + i) 0 ∷ take (n - (i + 1)) (drop (at + (i + 1)) f)
row_cons f at n i h w =
    let m : n - i ≡ suc (n - (i + 1)) = omega arith in
    let k : at + (i + 1) ≡ suc (at + i) = omega arith in
    rw (m, k, drop-cons f (at + i) 0 (omega arith))

pub record Weighed (f : List ℕ) (at n : ℕ) (text : List ℕ) (d tail i : ℕ) : Type 0 where
  pub is : weigh (drop d text) tail (take n (drop at f)) ≡ weigh (drop (d + i) text) tail (take (n - i) (drop (at + i) f))

pub weighed_start : (f : List ℕ) (at n : ℕ) (text : List ℕ) (d tail : ℕ) → Weighed f at n text d tail 0
weighed_start f at n text d tail =
    let a : at + 0 ≡ at = omega arith in let b : d + 0 ≡ d = omega arith in let c : n - 0 ≡ n = omega arith in record { is = rw (a, b, c) }

module _ {f : List ℕ} {at n : ℕ} {text : List ℕ} {d tail i : ℕ} (I : Weighed f at n text d tail i) where
  pub weighed_end : n ≤ i → 1 ≡ weigh (drop d text) tail (take n (drop at f))
  weighed_end h = let m : n - i ≡ 0 = omega arith in sym (I.is ∙ rw m)

  module _ (h : i < n) (w : at + n ≤ length f) where
    pub tail_above : length text ≤ d + i → tail ≤ get_or f (at + i) 0 → 2 ≡ weigh (drop d text) tail (take n (drop at f))
    tail_above e o = sym (I.is ∙ rw (drop_of_length-le text e, row_cons f at n i h w, le-leb tail (get_or f (at + i) 0) o))

    pub tail_below : length text ≤ d + i → (tail ≤ get_or f (at + i) 0 → ⊥) → 0 ≡ weigh (drop d text) tail (take n (drop at f))
    tail_below e o = sym (I.is ∙ rw (drop_of_length-le text e, row_cons f at n i h w, short))
      where
        short : leb tail (get_or f (at + i) 0) ≡ false
        short = leb_cases tail (get_or f (at + i) 0) (λ t p. absurd (o p)) (λ t p. t)

    module _ (e : d + i < length text) where
      -- a byte that is not the text's decides
      pub byte_decides : (o : Ordering) → o ≡ nat_cmp (get_or f (at + i) 0) (get_or text (d + i) 0) → (get_or f (at + i) 0 ≡ get_or text (d + i) 0 → ⊥) → ordering_index o ≡ weigh (drop d text) tail (take n (drop at f))
      byte_decides o q x =
          sym (I.is ∙ rw (drop-cons text (d + i) 0 e, row_cons f at n i h w) (by_order o (ranked (get_or f (at + i) 0) (get_or text (d + i) 0) o q)))
        where
          by_order : (o : Ordering) → MatchOrdering o (get_or f (at + i) 0 < get_or text (d + i) 0) (get_or f (at + i) 0 ≡ get_or text (d + i) 0) (get_or text (d + i) 0 < get_or f (at + i) 0)
              → pick (ltb (get_or text (d + i) 0) (get_or f (at + i) 0)) 2 (pick (eqb (get_or text (d + i) 0) (get_or f (at + i) 0)) (weigh (drop (suc (d + i)) text) tail (take (n - (i + 1)) (drop (at + (i + 1)) f))) 0) ≡ ordering_index o
          by_order Less r = rw (le-ltb (get_or text (d + i) 0) (get_or f (at + i) 0) (omega arith), ne_eqb (get_or text (d + i) 0) (get_or f (at + i) 0) (λ z. omega arith))
          by_order Equal r = absurd (x r)
          by_order Greater r = rw (lt-ltb (get_or text (d + i) 0) (get_or f (at + i) 0) r)

      pub byte_same : get_or text (d + i) 0 ≡ get_or f (at + i) 0 → Weighed f at n text d tail (i + 1)
      byte_same q =
          let k : d + (i + 1) ≡ suc (d + i) = omega arith in
          record { is = I.is ∙ rw (drop-cons text (d + i) 0 e, row_cons f at n i h w, le-ltb (get_or text (d + i) 0) (get_or f (at + i) 0) (omega arith), eq-eqb (get_or text (d + i) 0) (get_or f (at + i) 0) q, k) }

-- bytes that the text has too do not decide
module _ (f : List ℕ) (at n : ℕ) (text : List ℕ) (d tail : ℕ) (w : at + n ≤ length f) (e : d + n ≤ length text) (A : Alike f at text d n) where
  upto : (i : ℕ) → i ≤ n → Weighed f at n text d tail i
  upto zero h = weighed_start f at n text d tail
  upto (suc i) h = rw (sym (add-one i)) (byte_same (upto i (omega arith)) (omega arith) w (omega arith) (sym (A i (omega arith))))

  pub same_open : 1 ≡ weigh (drop d text) tail (take n (drop at f))
  same_open = weighed_end (upto n (omega arith)) (omega arith)
