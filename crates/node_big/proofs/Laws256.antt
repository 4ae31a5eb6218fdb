-- Node256: the body after a write. Assumes nothing.
use Prim.Native.Nat.{ℕ, zero, suc, ◌+◌, ◌*◌, ◌<◌, ◌≤◌}
use mathlib.Core.Path.{◌≡◌, refl, ◌∙◌, ap, sym}
use mathlib.Core.List.{List, []}
use mathlib.Core.Option.{none, some}
use mathlib.Core.Logic.{inl, inr}
use native.Mathlib.Omega.{arith}
use native.Mathlib.Decide.{ℕ_discrete}
use lib.ListN.{length}
use borrow.Author.Tests.{eq-eqb, ne_eqb}
use Rattle.layout.specs.Number.{byte_at, le, put}
use Rattle.layout.specs.Place.{node_count, node256_children}
use Rattle.layout.proofs.NumberLaws.{le_put, le_zero}
use Rattle.model.specs.Body.{Asc, look_kid, slot_or_none, Node256At}
use Rattle.node.specs.Kids.{insert_kid, remove_kid, set_kid, next_kid}
use Rattle.moves.specs.Moved.{Only, Keeps}
use Rattle.moves.proofs.MoveLaws.{only_put, only_sym, only_then, only_widen, le_only, le_keeps, other_child}
use Rattle.node.proofs.KidsLaws.{asc_insert, asc_remove, asc_set, look_insert, look_remove, look_set, length_insert, length_remove, length_set_kid, next_look, next_look_none, look_ext}
use Rattle.node_big.specs.Indexed.{Wrote256}

-- ---- what a child field says

slot_pos : (s : ℕ) → 1 ≤ s → slot_or_none s ≡ some s
unfolding slot_or_none
slot_pos zero h = absurd (omega arith)
slot_pos (suc s) h = refl

slot_zero : (s : ℕ) → s ≡ 0 → slot_or_none s ≡ none
unfolding slot_or_none
slot_zero zero e = refl
slot_zero (suc s) e = absurd (omega arith)

module _ {f : List ℕ} {o r : ℕ} (b : ℕ) (ks : List (ℕ × ℕ)) (N : Node256At f o ks) (b8 : b < 256) (e : r ≡ le 4 f (o + node256_children + 4 * b)) where
  pub seat256_in : 1 ≤ r → some r ≡ look_kid b ks
  seat256_in h = sym (slot_pos r h) ∙ ap slot_or_none e ∙ N.look b b8

  pub seat256_out : r ≡ 0 → none ≡ look_kid b ks
  seat256_out z = sym (slot_zero r z) ∙ ap slot_or_none e ∙ N.look b b8

-- what one list has, every list of the body has
pub has256 : {f : List ℕ} {o s : ℕ} (b : ℕ) (ks ls : List (ℕ × ℕ)) → b < 256 → Node256At f o ks → Node256At f o ls → look_kid b ks ≡ some s → look_kid b ls ≡ some s
has256 b ks ls b8 K L h = sym (L.look b b8) ∙ K.look b b8 ∙ h

none256 : {f : List ℕ} {o : ℕ} (ks : List (ℕ × ℕ)) → Node256At f o ks → (d : ℕ) → d < 256 → le 4 f (o + node256_children + 4 * d) ≡ 0 → look_kid d ks ≡ none
none256 {f} {o} ks N d u e = sym (N.look d u) ∙ slot_zero (le 4 f (o + node256_children + 4 * d)) e

module _ {f : List ℕ} {o from : ℕ} (ks : List (ℕ × ℕ)) (N : Node256At f o ks) where
  pub next256_in : {b s : ℕ} → b < 256 → from ≤ b → ((d : ℕ) → d < b → from ≤ d → le 4 f (o + node256_children + 4 * d) ≡ 0) → s ≡ le 4 f (o + node256_children + 4 * b) → 0 < s → (b ≡ (next_kid from ks).0) × (s ≡ (next_kid from ks).1)
  next256_in {b} {s} b8 l before e h =
      let look : look_kid b ks ≡ some s = sym (N.look b b8) ∙ ap slot_or_none (sym e) ∙ slot_pos s h in
      rw (next_look 0 from b s ks N.asc l (λ d u v. none256 ks N d (omega arith) (before d u v)) look) (refl, refl)

  pub next256_out : ((d : ℕ) → d < 256 → from ≤ d → le 4 f (o + node256_children + 4 * d) ≡ 0) → (256 ≡ (next_kid from ks).0) × (0 ≡ (next_kid from ks).1)
  next256_out before = rw (next_look_none 0 from ks N.asc (λ d u v. none256 ks N d u (before d u v))) (refl, refl)

-- ---- one child and the count written. What the body was is said of e, which is f but for the count (SortedLaws).

pub wrote256 : {e f g k : List ℕ} (o b s n : ℕ) → b < 256 → s < 4294967296 → n < 65536 → o + 1032 ≤ length e → Only e f o (o + 2)
    → g ≡ put 4 f (o + node256_children + 4 * b) s → k ≡ put 2 g (o + node_count) n → Wrote256 e k o b s n
wrote256 {e} {f} {g} {k} o b s n b8 s32 n16 rm P e1 e2 =
    let c = o + node256_children + 4 * b in
    let O1 : Only f g c (c + 4) = rw e1 (only_put 4 f c s) in
    let O2 : Only g k (o + node_count) (o + node_count + 2) = rw e2 (only_put 2 g (o + node_count) n) in
    let s0 = P.size in
    let s1 = O1.size in
    record {
      only = only_then o (o + 1032) (only_then o (o + 1032) P O1 (omega arith) (omega arith) (omega arith) (omega arith)) O2 (omega arith) (omega arith) (omega arith) (omega arith);
      zeros = λ i l u. O2.above (o + i) (omega arith) ∙ O1.below (o + i) (omega arith) ∙ P.above (o + i) (omega arith);
      count = rw e2 (le_put 2 g (o + node_count) n (omega arith) n16);
      child = le_only 4 c O2 (inr (omega arith)) ∙ rw e1 (le_put 4 f c s (omega arith) s32);
      rest = λ d l ne. le_only 4 (o + node256_children + 4 * d) O2 (inr (omega arith)) ∙ rw e1 (other_child f (o + node256_children) b d s ne) ∙ le_only 4 (o + node256_children + 4 * d) P (inr (omega arith));
    }

module _ {f k : List ℕ} {o b : ℕ} (ks : List (ℕ × ℕ)) (N : Node256At f o ks) (b8 : b < 256) where
  pub insert256 : {s n : ℕ} → Wrote256 f k o b s n → n ≡ le 2 f (o + node_count) + 1 → look_kid b ks ≡ none → 1 ≤ s → s < 4294967296 → Node256At k o (insert_kid b s ks)
  insert256 {s} {n} W en gone pos s32 =
      record {
        room = omega (arith, W.only.size, N.room);
        count = W.count ∙ en ∙ ap (λ (m : ℕ). m + 1) N.count ∙ sym (length_insert b s ks);
        zeros = λ i l u. W.zeros i l u ∙ N.zeros i l u;
        look = λ d l. elim (ℕ_discrete d b) [
          | yes e ↦ rw (e, W.child, look_insert b s b ks gone, eq-eqb b b refl) (slot_pos s pos)
          | no e ↦ rw (W.rest d l e, look_insert b s d ks gone, ne_eqb b d (λ y. e (sym y))) (N.look d l)
        ];
        asc = asc_insert 0 b s ks N.asc (omega arith) b8 s32 gone;
      }

  pub remove256 : {n s : ℕ} → Wrote256 f k o b 0 n → n + 1 ≡ le 2 f (o + node_count) → look_kid b ks ≡ some s → Node256At k o (remove_kid b ks)
  remove256 {n} W en some' =
      record {
        room = omega (arith, W.only.size, N.room);
        count = omega (arith, W.count, N.count, length_remove b ks some');
        zeros = λ i l u. W.zeros i l u ∙ N.zeros i l u;
        look = λ d l. elim (ℕ_discrete d b) [
          | yes e ↦ rw (e, W.child, look_remove 0 b b ks N.asc, eq-eqb b b refl) (slot_zero 0 refl)
          | no e ↦ rw (W.rest d l e, look_remove 0 b d ks N.asc, ne_eqb b d (λ y. e (sym y))) (N.look d l)
        ];
        asc = asc_remove 0 b ks N.asc;
      }

-- ---- children that follow one another, while the count waits (SortedLaws)

pub append256 : (f : List ℕ) {k : List ℕ} {o i b s : ℕ} (ks : List (ℕ × ℕ)) → Node256At (put 2 f (o + node_count) i) o ks → i ≡ length ks → i < 256 → b < 256 → 1 ≤ s → s < 4294967296
    → k ≡ put 4 f (o + node256_children + 4 * b) s → look_kid b ks ≡ none → Node256At (put 2 k (o + node_count) (i + 1)) o (insert_kid b s ks)
append256 f {k} {o} {i} {b} {s} ks N ei full b8 pos s32 E gone =
    let C = only_put 2 f (o + node_count) i in
    insert256 ks N b8 (wrote256 o b s (i + 1) b8 s32 (omega arith) N.room (only_widen o (o + 2) (only_sym C) (omega arith) (omega arith)) E refl) (omega (arith, N.count)) gone pos s32

-- ---- another child at a byte

pub set256 : {f : List ℕ} {o : ℕ} (b s s0 : ℕ) (ks : List (ℕ × ℕ)) → b < 256 → 1 ≤ s → s < 4294967296 → look_kid b ks ≡ some s0 → Node256At f o ks → Node256At (put 4 f (o + node256_children + 4 * b) s) o (set_kid b s ks)
set256 {f} {o} b s s0 ks b8 pos s32 h N =
    let c = o + node256_children + 4 * b in
    let g = put 4 f c s in
    let O = only_put 4 f c s in
    let rm = N.room in
    record {
      room = omega (arith, O.size);
      count = le_only 2 (o + node_count) O (inl (omega arith)) ∙ N.count ∙ sym (length_set_kid b s ks);
      zeros = λ i l u. O.below (o + i) (omega arith) ∙ N.zeros i l u;
      look = λ d l. elim (ℕ_discrete d b) [
        | yes z ↦ ap (λ x. slot_or_none (le 4 g (o + node256_children + 4 * x))) z ∙ ap slot_or_none (le_put 4 f c s (omega arith) s32) ∙ slot_pos s pos ∙ sym (look_set b s s0 d ks h ∙ rw (eq-eqb b d (sym z)) refl)
        | no z ↦ ap slot_or_none (other_child f (o + node256_children) b d s z) ∙ N.look d l ∙ sym (look_set b s s0 d ks h ∙ rw (ne_eqb b d (λ w. z (sym w))) refl)
      ];
      asc = asc_set 0 b s ks N.asc s32;
    }

-- ---- no child, the same bytes, and one list

pub empty256 : (f : List ℕ) (o : ℕ) → o + 1032 ≤ length f → ((a : ℕ) → o ≤ a → a < o + 1032 → byte_at f a ≡ 0) → Node256At f o []
unfolding Asc look_kid
empty256 f o rm Z =
    record {
      room = rm;
      count = le_zero 2 f (o + node_count) (λ a l u. Z a (omega arith) (omega arith));
      zeros = λ i l u. Z (o + i) (omega arith) (omega arith);
      look = λ b l. slot_zero (le 4 f (o + node256_children + 4 * b)) (le_zero 4 f (o + node256_children + 4 * b) (λ a l' u'. Z a (omega arith) (omega arith)));
      asc = tt;
    }

pub keeps256 : {f g : List ℕ} {o : ℕ} {ks : List (ℕ × ℕ)} → Keeps f g o (o + 1032) → Node256At f o ks → Node256At g o ks
keeps256 {o = o} K N =
    record {
      room = omega (arith, N.room, K.size);
      count = le_keeps 2 (o + node_count) K (omega arith) (omega arith) ∙ N.count;
      zeros = λ i l u. K.bytes (o + i) (omega arith) (omega arith) ∙ N.zeros i l u;
      look = λ b l. ap slot_or_none (le_keeps 4 (o + node256_children + 4 * b) K (omega arith) (omega arith)) ∙ N.look b l;
      asc = N.asc;
    }

pub one256 : {f : List ℕ} {o : ℕ} (ks ls : List (ℕ × ℕ)) → Node256At f o ks → Node256At f o ls → ks ≡ ls
one256 ks ls K L = look_ext 0 ks ls K.asc L.asc (λ d l. sym (K.look d l) ∙ L.look d l)
