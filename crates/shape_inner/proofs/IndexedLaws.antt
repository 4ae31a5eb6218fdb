-- Node48: its index as a loop reads it, marking the places that have been named. Assumes nothing.
use Prim.Native.Nat.{ℕ, zero, suc, ◌+◌, ◌-◌, ◌*◌, ◌<◌, ◌≤◌}
use mathlib.Core.Path.{◌≡◌, refl, sym, ap, ◌∙◌}
use mathlib.Core.List.{List}
use mathlib.Core.Option.{none, some}
use mathlib.Core.Bool.{Bool}
use mathlib.Core.Logic.{⊎_elim, ◌⊎◌, inl, inr}
use native.Mathlib.Omega.{arith}
use lib.ListN.{length, get_or, set, replicate, length-set, length-replicate}
use lib.Bits.{bit_or}
use lib.Seq.{get_or-set_same, get_or-set_other}
use Rattle.layout.specs.Number.{byte_at, le, Bytes}
use Rattle.layout.specs.Place.{node48_index, node48_children}
use Rattle.layout.proofs.NumberLaws.{lt_or_le}
use Rattle.model.specs.Body.{named_child}
use Rattle.pieces.specs.Decides.{Decides}
use Rattle.pieces.specs.Range.{Blank}
use Rattle.pieces.proofs.DecideLaws.{handed}
use Rattle.pieces.proofs.ZeroLaws.{or_left, or_right, or_zero}
use Rattle.shape_inner.specs.Inner.{in_use, child48, Unmarked, IndexedHere}
use Rattle.shape_inner.proofs.KidsLaws.{Counted, counted_more, counted_end, in_use_one}

-- an entry below b names the place
pub record NamedBelow (f : List ℕ) (index b place : ℕ) : Type 0 where
  pub entry : ℕ
  pub below : entry < b
  pub is : byte_at f (index + entry) ≡ place

-- two entries below b name one place
pub record TwiceBelow (f : List ℕ) (index b : ℕ) : Type 0 where
  pub later : ℕ
  pub first : NamedBelow f index later (byte_at f (index + later))
  pub below : later < b
  pub place : 1 ≤ byte_at f (index + later)

-- the entries below b, marked in `seen`, `used` of them not 0; `twice` is 0 as long as no two name one place
pub record Marked (f : List ℕ) (o b : ℕ) (seen : List ℕ) (twice used : ℕ) : Type 0 where
  pub sized : length seen ≡ 256
  pub few : used ≤ b
  pub counted : Counted (child48 f o) b used
  pub no_place : get_or seen 0 0 ≡ 0
  pub clear : (p d : ℕ) → get_or seen p 0 ≡ 0 → d < b → byte_at f (o + node48_index + d) ≡ p → 1 ≤ p → ⊥
  pub named : (p : ℕ) → (get_or seen p 0 ≡ 0 → ⊥) → NamedBelow f (o + node48_index) b p
  pub once : twice ≡ 0 → (d e : ℕ) → d < b → e < b → byte_at f (o + node48_index + d) ≡ byte_at f (o + node48_index + e) → 1 ≤ byte_at f (o + node48_index + d) → d ≡ e
  pub again : (twice ≡ 0 → ⊥) → TwiceBelow f (o + node48_index) b

child_none : (f : List ℕ) (o p : ℕ) → p ≡ 0 → named_child f o p ≡ none
unfolding named_child
child_none f o p e = rw e refl

child_some : (f : List ℕ) (o p : ℕ) → (p ≡ 0 → ⊥) → named_child f o p ≡ some (le 4 f (o + node48_children + 4 * (p - 1)))
unfolding named_child
child_some f o zero n = absurd (n refl)
child_some f o (suc p) n = let e : suc p - 1 ≡ p = omega arith in rw e refl

same_or_not : (a b : ℕ) → (a ≡ b) ⊎ (a ≡ b → ⊥)
same_or_not a b =
    ⊎_elim (λ l. inr (λ e. omega arith)) (λ l. ⊎_elim (λ m. inr (λ e. omega arith)) (λ m. inl (omega arith)) (lt_or_le b a)) (lt_or_le a b)

zeros_at : (n p : ℕ) → ◌≡◌ {A = ℕ} (get_or (replicate n 0) p 0) 0
zeros_at zero p = refl
zeros_at (suc n) zero = refl
zeros_at (suc n) (suc p) = zeros_at n p

pub marked_none : (f : List ℕ) (o : ℕ) → Marked f o 0 (replicate 256 0) 0 0
marked_none f o =
    record {
      sized = length-replicate {A = ℕ} 256 0;
      few = omega arith;
      counted = omega arith;
      no_place = zeros_at 256 0;
      clear = λ p d g l. absurd (omega arith);
      named = λ p g. absurd (g (zeros_at 256 p));
      once = λ z d e l. absurd (omega arith);
      again = λ g. absurd (g refl);
    }

module _ (f : List ℕ) (o b : ℕ) (seen : List ℕ) (twice used : ℕ) (M : Marked f o b seen twice used) where
  -- what entry d holds, and the mark of a place
  abbrev at : ℕ → ℕ
  at d = byte_at f (o + node48_index + d)

  abbrev mark : ℕ → ℕ
  mark p = get_or seen p 0

  last : (d : ℕ) → b ≤ d → d < b + 1 → at d ≡ at b
  last d x y = let e : d ≡ b = omega arith in rw e refl

  -- the next entry's own mark, and the others, after it is marked
  mark_same : (p : ℕ) → at b < 256 → p ≡ at b → get_or (set seen (at b) (at b)) p 0 ≡ at b
  mark_same p i e = rw e (get_or-set_same seen (at b) (at b) 0 (omega (arith, M.sized)))

  mark_other : (p : ℕ) → (p ≡ at b → ⊥) → get_or (set seen (at b) (at b)) p 0 ≡ mark p
  mark_other p n = get_or-set_other seen (at b) p (at b) 0 n

  -- its place has a mark already
  marked_again : (mark (at b) ≡ 0 → ⊥) → TwiceBelow f (o + node48_index) (b + 1)
  marked_again g =
      record {
        later = b;
        first = M.named (at b) g;
        below = omega arith;
        place = ⊎_elim (λ z. absurd (g (ap mark z ∙ M.no_place))) (λ n. omega arith) (same_or_not (at b) 0);
      }

  -- the next entry is marked
  pub marked_more : Bytes f → b < 256 → Marked f o (b + 1) (set seen (at b) (at b)) (bit_or twice (mark (at b))) (used + in_use (at b))
  marked_more bytes l =
      let i = bytes (o + node48_index + b) in
      record {
        sized = simp length-set M.sized;
        few = omega (arith, M.few, in_use_one (at b));
        counted = counted_more (child48 f o) b used (at b) (le 4 f (o + node48_children + 4 * (at b - 1))) l (child_none f o (at b)) (child_some f o (at b)) M.counted;
        no_place = ⊎_elim (λ e. mark_same 0 i e ∙ sym e) (λ n. mark_other 0 n ∙ M.no_place) (same_or_not 0 (at b));
        clear = λ p d g v q h.
            ⊎_elim (λ e. omega (arith, mark_same p i e))
            (λ n. ⊎_elim (λ s. M.clear p d (sym (mark_other p n) ∙ g) s q h) (λ s. n (omega (arith, last d s v))) (lt_or_le d b))
            (same_or_not p (at b));
        named = λ p g.
            ⊎_elim (λ e. record { entry = b; below = omega arith; is = sym e })
            (λ n.
            let N = M.named p (λ r. g (mark_other p n ∙ r)) in
            record { entry = N.entry; below = omega (arith, N.below); is = N.is }) (same_or_not p (at b));
        once = λ z d e v w q h.
            let old = or_left twice (mark (at b)) z in
            let new = or_right twice (mark (at b)) z in
            ⊎_elim
            (λ s. ⊎_elim (λ t. M.once old d e s t q h) (λ t. let k = last e t w in absurd (M.clear (at b) d new s (omega arith) (omega arith))) (lt_or_le e b))
            (λ s. let k = last d s v in ⊎_elim (λ t. absurd (M.clear (at b) e new t (omega arith) (omega arith))) (λ t. omega arith) (lt_or_le e b)) (lt_or_le d b);
        again = λ g.
            ⊎_elim (λ z. marked_again (λ y. g (or_zero twice (mark (at b)) z y)))
            (λ n. let T = M.again n in record { later = T.later; first = T.first; below = omega (arith, T.below); place = T.place })
            (same_or_not twice 0);
      }

  module _ (n : ℕ) (all : b ≡ 256) where
    -- another number of entries than the count
    pub marked_count : (used ≡ n → ⊥) → IndexedHere f o n → ⊥
    marked_count h H = h (counted_end (child48 f o) b used all M.counted ∙ H.counted)

    pub marked_end : {r : Bool} → Bytes f → twice ≡ 0 → used ≡ n → Blank seen 49 256 → Decides (Unmarked f (o + node48_children) seen) r → Decides (IndexedHere f o n) r
    marked_end bytes z q above D =
        handed D
        (λ U. record {
          place = λ d l.
              ⊎_elim (λ x. absurd (M.clear (at d) d (above (at d) x (bytes (o + node48_index + d))) (omega arith) refl (omega arith))) (λ x. omega arith)
              (lt_or_le 48 (at d));
          once = λ d c x y. M.once z d c (omega arith) (omega arith);
          unused = λ p l N.
              ⊎_elim (λ e. U p l e)
              (λ e.
              let B = M.named (p + 1) e in
              absurd (N (record { entry = B.entry; below = omega (arith, B.below); is = B.is }))) (same_or_not (mark (p + 1)) 0);
          counted = sym (counted_end (child48 f o) b used all M.counted) ∙ q;
        })
        (λ H p l g. H.unused p l (λ N. M.clear (p + 1) N.entry g (omega (arith, N.below)) N.is (omega arith)))
