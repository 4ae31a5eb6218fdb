-- Node48: what an entry names, and the body after a write. Assumes nothing.
use Prim.Native.Nat.{ℕ, zero, suc, ◌+◌, ◌*◌, ◌-◌, ◌<◌, ◌≤◌}
use mathlib.Core.Path.{◌≡◌, refl, ◌∙◌, ap, sym}
use mathlib.Core.List.{List, []}
use mathlib.Core.Option.{none, some}
use mathlib.Core.Logic.{inl, inr}
use native.Mathlib.Omega.{arith}
use native.Mathlib.Decide.{dec_lt, ℕ_discrete}
use lib.ListN.{length, set}
use lib.Seq.{get_or-set_same, get_or-set_other}
use borrow.Author.Tests.{eq-eqb, ne_eqb}
use Rattle.layout.specs.Number.{byte_at, le, put}
use Rattle.layout.specs.Place.{node_count, node48_index, node48_children}
use Rattle.layout.proofs.NumberLaws.{le_put, le_zero}
use Rattle.model.specs.Body.{byte_in, Asc, look_kid, Named, named_child, Node48At}
use Rattle.node.specs.Kids.{insert_kid, remove_kid, set_kid, place_of, next_kid}
use Rattle.moves.specs.Moved.{Only, Keeps}
use Rattle.moves.proofs.MoveLaws.{only_set, only_put, only_sym, only_then, only_widen, le_only, le_keeps, other_child}
use Rattle.node.proofs.KidsLaws.{place_byte, place_lt, asc_insert, asc_remove, asc_set, look_insert, look_remove, look_set, length_insert, length_remove, length_set_kid, next_look, next_look_none, asc_byte, asc_lt, look_ext}
use Rattle.node_big.specs.Indexed.{Lowest, Numbered, Wrote48}
use Rattle.node_big.proofs.Pigeons.{pigeon}

-- ---- what an entry names

named_pos : (f : List ℕ) (o p : ℕ) → 1 ≤ p → named_child f o p ≡ some (le 4 f (o + node48_children + 4 * (p - 1)))
unfolding named_child
named_pos f o zero h = absurd (omega arith)
named_pos f o (suc p) h = ap (λ (q : ℕ). some (le 4 f (o + node48_children + 4 * q))) (omega arith)

named_zero : (f : List ℕ) (o p : ℕ) → p ≡ 0 → named_child f o p ≡ none
unfolding named_child
named_zero f o zero e = refl
named_zero f o (suc p) e = absurd (omega arith)

named_none : (f : List ℕ) (o p : ℕ) → named_child f o p ≡ none → p ≡ 0
unfolding named_child
named_none f o zero e = refl
named_none f o (suc p) e = let z : ◌≡◌ {A = ℕ} 0 1 = cc in absurd (omega arith)

named_some : (f : List ℕ) (o p : ℕ) {s : ℕ} → named_child f o p ≡ some s → 1 ≤ p
unfolding named_child
named_some f o zero e = let z : ◌≡◌ {A = ℕ} 0 1 = cc in absurd (omega arith)
named_some f o (suc p) e = omega arith

named_same : (f g : List ℕ) (o p : ℕ) → ((q : ℕ) → p ≡ q + 1 → le 4 g (o + node48_children + 4 * q) ≡ le 4 f (o + node48_children + 4 * q)) → named_child g o p ≡ named_child f o p
unfolding named_child
named_same f g o zero h = refl
named_same f g o (suc p) h = ap some (h p (omega arith))

-- ---- looking up

module _ {f : List ℕ} {o : ℕ} (b : ℕ) (ks : List (ℕ × ℕ)) (N : Node48At f o ks) (b8 : b < 256) where
  -- an entry that names a place
  pub look48_in : 1 ≤ byte_at f (o + node48_index + b) → look_kid b ks ≡ some (le 4 f (o + node48_children + 4 * (byte_at f (o + node48_index + b) - 1)))
  look48_in h = sym (N.look b b8) ∙ named_pos f o (byte_at f (o + node48_index + b)) h

  pub look48_out : byte_at f (o + node48_index + b) ≡ 0 → look_kid b ks ≡ none
  look48_out e = sym (N.look b b8) ∙ named_zero f o (byte_at f (o + node48_index + b)) e

  pub seat48_in : {p r : ℕ} → p ≡ byte_at f (o + node48_index + b) → (p ≡ 0 → ⊥) → r ≡ le 4 f (o + node48_children + 4 * (p - 1)) → some r ≡ look_kid b ks
  seat48_in {p} e h q =
      let e' : byte_at f (o + node48_index + b) ≡ p = sym e in
      let l : look_kid b ks ≡ some (le 4 f (o + node48_children + 4 * (p - 1))) = rw e' at (look48_in (omega arith)) in
      ap some q ∙ sym l

  pub seat48_out : {p : ℕ} → p ≡ byte_at f (o + node48_index + b) → p ≡ 0 → none ≡ look_kid b ks
  seat48_out e h = sym (look48_out (sym e ∙ h))

  pub place48 : {p : ℕ} → p ≡ byte_at f (o + node48_index + b) → p ≤ 48
  place48 e = omega (arith, N.place b b8)

  pub some48 : {p s : ℕ} → p ≡ byte_at f (o + node48_index + b) → look_kid b ks ≡ some s → (1 ≤ p) × (p ≤ 48)
  some48 e h =
      let x = named_some f o (byte_at f (o + node48_index + b)) (N.look b b8 ∙ h) in
      let y = N.place b b8 in
      omega arith

module _ {f : List ℕ} {o from : ℕ} (ks : List (ℕ × ℕ)) (N : Node48At f o ks) where
  pub next48_in : {b p s : ℕ} → b < 256 → from ≤ b → ((d : ℕ) → d < b → from ≤ d → byte_at f (o + node48_index + d) ≡ 0) → p ≡ byte_at f (o + node48_index + b) → 0 < p → s ≡ le 4 f (o + node48_children + 4 * (p - 1))
      → (b ≡ (next_kid from ks).0) × (s ≡ (next_kid from ks).1)
  next48_in {b} {p} {s} b8 l before e h q =
      let e' : byte_at f (o + node48_index + b) ≡ p = sym e in
      let look : look_kid b ks ≡ some s = rw q (rw e' at (look48_in b ks N b8 (omega arith))) in
      rw (next_look 0 from b s ks N.asc l (λ d u v. look48_out d ks N (omega arith) (before d u v)) look) (refl, refl)

  pub next48_out : ((d : ℕ) → d < 256 → from ≤ d → byte_at f (o + node48_index + d) ≡ 0) → (256 ≡ (next_kid from ks).0) × (0 ≡ (next_kid from ks).1)
  next48_out before = rw (next_look_none 0 from ks N.asc (λ d u v. look48_out d ks N u (before d u v))) (refl, refl)

-- ---- one entry, one child and the count written. What the body was is said of e, which is f but for the count (SortedLaws).

pub wrote48 : {e f g h k : List ℕ} (o b x p s n : ℕ) → b < 256 → 1 ≤ p → p ≤ 48 → s < 4294967296 → n < 65536 → o + 456 ≤ length e → Only e f o (o + 2)
    → g ≡ set f (o + node48_index + b) x → h ≡ put 4 g (o + node48_children + 4 * (p - 1)) s → k ≡ put 2 h (o + node_count) n → Wrote48 e k o b x p s n
wrote48 {e} {f} {g} {h} {k} o b x p s n b8 pos top s32 n16 rm P e1 e2 e3 =
    let O1 : Only f g (o + node48_index + b) (o + node48_index + b + 1) = rw e1 (only_set f (o + node48_index + b) x) in
    let c = o + node48_children + 4 * (p - 1) in
    let O2 : Only g h c (c + 4) = rw e2 (only_put 4 g c s) in
    let O3 : Only h k (o + node_count) (o + node_count + 2) = rw e3 (only_put 2 h (o + node_count) n) in
    let s0 = P.size in
    let s1 = O1.size in
    let s2 = O2.size in
    record {
      only = only_then o (o + 456) (only_then o (o + 456) (only_then o (o + 456) P O1 (omega arith) (omega arith) (omega arith) (omega arith)) O2 (omega arith) (omega arith) (omega arith) (omega arith)) O3 (omega arith) (omega arith) (omega arith) (omega arith);
      zeros = λ i l u. O3.above (o + i) (omega arith) ∙ O2.below (o + i) (omega arith) ∙ O1.below (o + i) (omega arith) ∙ P.above (o + i) (omega arith);
      count = rw e3 (le_put 2 h (o + node_count) n (omega arith) n16);
      entry = O3.above (o + node48_index + b) (omega arith) ∙ O2.below (o + node48_index + b) (omega arith) ∙ rw e1 (get_or-set_same f (o + node48_index + b) x 0 (omega arith));
      other = λ d l ne. O3.above (o + node48_index + d) (omega arith) ∙ O2.below (o + node48_index + d) (omega arith)
          ∙ rw e1 (get_or-set_other f (o + node48_index + b) (o + node48_index + d) x 0 (λ z. ne (omega arith))) ∙ P.above (o + node48_index + d) (omega arith);
      child = le_only 4 c O3 (inr (omega arith)) ∙ rw e2 (le_put 4 g c s (omega arith) s32);
      rest = λ q l ne. le_only 4 (o + node48_children + 4 * q) O3 (inr (omega arith))
          ∙ rw e2 (other_child g (o + node48_children) (p - 1) q s (λ z. ne (omega arith)))
          ∙ le_only 4 (o + node48_children + 4 * q) O1 (inr (omega arith)) ∙ le_only 4 (o + node48_children + 4 * q) P (inr (omega arith));
    }

module _ {f k : List ℕ} {o b : ℕ} (ks : List (ℕ × ℕ)) (N : Node48At f o ks) (b8 : b < 256) where
  pub insert48 : {p s n : ℕ} → Wrote48 f k o b p p s n → 1 ≤ p → p ≤ 48 → (Named f (o + node48_index) p → ⊥) → n ≡ le 2 f (o + node_count) + 1 → look_kid b ks ≡ none → s < 4294967296 → Node48At k o (insert_kid b s ks)
  insert48 {p} {s} {n} W first top free en gone s32 =
      let rm = N.room in
      let z : byte_at f (o + node48_index + b) ≡ 0 = named_none f o (byte_at f (o + node48_index + b)) (N.look b b8 ∙ gone) in
      let new : (d : ℕ) → d < 256 → byte_at f (o + node48_index + d) ≡ p → ⊥ = λ d l e. free (record { entry = d; below = l; is = e }) in
      record {
        room = omega (arith, W.only.size);
        count = W.count ∙ en ∙ ap (λ (m : ℕ). m + 1) N.count ∙ sym (length_insert b s ks);
        zeros = λ i l u. W.zeros i l u ∙ N.zeros i l u;
        place = λ d l. elim (ℕ_discrete d b) [ yes e ↦ rw (e, W.entry) (omega arith) | no e ↦ rw (W.other d l e) (N.place d l) ];
        look = λ d l. elim (ℕ_discrete d b) [
          | yes e ↦ rw (e, W.entry, look_insert b s b ks gone, eq-eqb b b refl) (named_pos k o p first ∙ ap some W.child)
          | no e ↦ rw (W.other d l e, look_insert b s d ks gone, ne_eqb b d (λ y. e (sym y)))
              (named_same f k o (byte_at f (o + node48_index + d)) (λ q y. W.rest q (omega (arith, N.place d l)) (λ w. new d l (y ∙ w))) ∙ N.look d l)
        ];
        once = λ d e l u y h. elim (ℕ_discrete d b) [
          | yes x ↦ elim (ℕ_discrete e b) [
            | yes w ↦ x ∙ sym w
            | no w ↦ absurd (new e u (sym (W.other e u w) ∙ sym y ∙ rw x W.entry))
          ]
          | no x ↦ elim (ℕ_discrete e b) [
            | yes w ↦ absurd (new d l (sym (W.other d l x) ∙ y ∙ rw w W.entry))
            | no w ↦ N.once d e l u (sym (W.other d l x) ∙ y ∙ W.other e u w) (rw (W.other d l x) at h)
          ]
        ];
        unused = λ q l H.
            let ne : q + 1 ≡ p → ⊥ = λ w. H (record { entry = b; below = b8; is = W.entry ∙ sym w }) in
            W.rest q l ne ∙ N.unused q l (λ m. elim (ℕ_discrete m.entry b) [
              | yes x ↦ let y : byte_at f (o + node48_index + b) ≡ q + 1 = rw x at m.is in omega arith
              | no x ↦ H (record { entry = m.entry; below = m.below; is = W.other m.entry m.below x ∙ m.is })
            ]);
        asc = asc_insert 0 b s ks N.asc (omega arith) b8 s32 gone;
      }

  pub remove48 : {p n : ℕ} → Wrote48 f k o b 0 p 0 n → p ≡ byte_at f (o + node48_index + b) → 1 ≤ p → n + 1 ≡ le 2 f (o + node_count) → Node48At k o (remove_kid b ks)
  remove48 {p} {n} W ep first en =
      let rm = N.room in
      let new : (d : ℕ) → d < 256 → (d ≡ b → ⊥) → byte_at f (o + node48_index + d) ≡ p → ⊥ = λ d l ne e. ne (N.once d b l b8 (e ∙ ep) (omega arith)) in
      let some' : look_kid b ks ≡ some (le 4 f (o + node48_children + 4 * (byte_at f (o + node48_index + b) - 1))) = look48_in b ks N b8 (omega arith) in
      record {
        room = omega (arith, W.only.size);
        count = omega (arith, W.count, N.count, length_remove b ks some');
        zeros = λ i l u. W.zeros i l u ∙ N.zeros i l u;
        place = λ d l. elim (ℕ_discrete d b) [ yes e ↦ rw (e, W.entry) (omega arith) | no e ↦ rw (W.other d l e) (N.place d l) ];
        look = λ d l. elim (ℕ_discrete d b) [
          | yes e ↦ rw (e, W.entry, look_remove 0 b b ks N.asc, eq-eqb b b refl) (named_zero k o 0 refl)
          | no e ↦ rw (W.other d l e, look_remove 0 b d ks N.asc, ne_eqb b d (λ y. e (sym y)))
              (named_same f k o (byte_at f (o + node48_index + d)) (λ q y. W.rest q (omega (arith, N.place d l)) (λ w. new d l e (y ∙ w))) ∙ N.look d l)
        ];
        once = λ d e l u y h. elim (ℕ_discrete d b) [
          | yes x ↦ let y' : 1 ≤ byte_at k (o + node48_index + b) = rw x at h in absurd (omega (arith, W.entry))
          | no x ↦ elim (ℕ_discrete e b) [
            | yes w ↦ let y' : byte_at k (o + node48_index + d) ≡ byte_at k (o + node48_index + b) = rw w at y in absurd (omega (arith, W.entry))
            | no w ↦ N.once d e l u (sym (W.other d l x) ∙ y ∙ W.other e u w) (rw (W.other d l x) at h)
          ]
        ];
        unused = λ q l H. elim (ℕ_discrete (q + 1) p) [
          | yes w ↦ let y : q ≡ p - 1 = omega arith in rw y W.child
          | no w ↦ W.rest q l w ∙ N.unused q l (λ m. elim (ℕ_discrete m.entry b) [
            | yes x ↦ let y : byte_at f (o + node48_index + b) ≡ q + 1 = rw x at m.is in w (omega arith)
            | no x ↦ H (record { entry = m.entry; below = m.below; is = W.other m.entry m.below x ∙ m.is })
          ])
        ];
        asc = asc_remove 0 b ks N.asc;
      }

-- a body with fewer than 48 children has an empty place
pub room48 : {f : List ℕ} {o r : ℕ} (ks : List (ℕ × ℕ)) → Node48At f o ks → Lowest f (o + node48_index) r → length ks < 48 → r < 49
room48 {f} {o} {r} ks N L few = elim (dec_lt r 49) [
  | yes h ↦ h
  | no h ↦
      let e : (i : ℕ) → i < 48 → Named f (o + node48_index) (i + 1) = λ i l. L.lower (i + 1) (omega arith) (omega arith) in
      let at : (i : ℕ) (l : i < 48) → place_of (e i l).entry ks < length ks = λ i l. place_lt (e i l).entry ks (look48_in (e i l).entry ks N (e i l).below (omega (arith, (e i l).is))) in
      let z = pigeon 48 (length ks) (λ i l. place_of (e i l).entry ks) at
      (λ i j l u y.
      let same : (e i l).entry ≡ (e j u).entry = sym (place_byte (e i l).entry ks (at i l)) ∙ ap (byte_in ks) y ∙ place_byte (e j u).entry ks (at j u) in
      let w : i + 1 ≡ j + 1 = sym (e i l).is ∙ ap (λ (x : ℕ). byte_at f (o + node48_index + x)) same ∙ (e j u).is in
      omega arith) in
      absurd (omega arith)
]

-- ---- children that follow one another, while the count waits (SortedLaws)

module _ (f : List ℕ) {k : List ℕ} {o i b s : ℕ} (ks : List (ℕ × ℕ)) (N : Node48At (put 2 f (o + node_count) i) o ks) (ei : i ≡ length ks) (full : i < 48) (b8 : b < 256) (s32 : s < 4294967296) (E : k ≡ put 4 (set f (o + node48_index + b) (i + 1)) (o + node48_children + 4 * i) s) where
  -- the next place is empty
  next_free : Numbered f o i ks → Named (put 2 f (o + node_count) i) (o + node48_index) (i + 1) → ⊥
  next_free M n =
      let d = n.entry in
      let l = place_lt d ks (look48_in d ks N n.below (omega (arith, n.is))) in
      let e = M (place_of d ks) (omega arith) in
      let x : byte_at f (o + node48_index + d) ≡ place_of d ks + 1 = rw (place_byte d ks l) at e in
      omega (arith, n.is, (only_put 2 f (o + node_count) i).above (o + node48_index + d) (omega arith))

  pub append48 : Numbered f o i ks → look_kid b ks ≡ none → Node48At (put 2 k (o + node_count) (i + 1)) o (insert_kid b s ks)
  append48 M gone =
      let C = only_put 2 f (o + node_count) i in
      let rm = N.room in
      let c : o + node48_children + 4 * i ≡ o + node48_children + 4 * (i + 1 - 1) = omega arith in
      insert48 ks N b8
      (wrote48 o b (i + 1) (i + 1) s (i + 1) b8 (omega arith) (omega arith) s32 (omega arith) rm (only_widen o (o + 2) (only_sym C) (omega arith) (omega arith)) refl (rw c at E) refl)
      (omega arith) (omega arith) (next_free M) (omega (arith, N.count)) gone s32

-- the same of the numbers, where byte b is the next of all children
pub numbered_more : (f : List ℕ) {k : List ℕ} (o i s : ℕ) (ks : List (ℕ × ℕ)) → Asc 0 ks → i < length ks → o + 456 ≤ length f
    → k ≡ put 4 (set f (o + node48_index + byte_in ks i) (i + 1)) (o + node48_children + 4 * i) s → Numbered f o i ks → Numbered k o (i + 1) ks
numbered_more f {k} o i s ks A h rm E M j l =
    let b = byte_in ks i in
    let b8 = asc_byte 0 ks i A h in
    let g = set f (o + node48_index + b) (i + 1) in
    let c8 = asc_byte 0 ks j A (omega arith) in
    let O : byte_at k (o + node48_index + byte_in ks j) ≡ byte_at g (o + node48_index + byte_in ks j) = rw E ((only_put 4 g (o + node48_children + 4 * i) s).below (o + node48_index + byte_in ks j) (omega arith)) in
    elim (dec_lt j i) [
      | yes q ↦ let lt = asc_lt 0 ks j i A q h in O ∙ get_or-set_other f (o + node48_index + b) (o + node48_index + byte_in ks j) (i + 1) 0 (λ z. omega arith) ∙ M j q
      | no q ↦ let e : j ≡ i = omega arith in O ∙ rw e (get_or-set_same f (o + node48_index + b) (i + 1) 0 (omega arith))
    ]

-- ---- another child at a byte

pub set48 : {f : List ℕ} {o : ℕ} (b s s0 : ℕ) (ks : List (ℕ × ℕ)) → b < 256 → s < 4294967296 → look_kid b ks ≡ some s0 → Node48At f o ks → Node48At (put 4 f (o + node48_children + 4 * (byte_at f (o + node48_index + b) - 1)) s) o (set_kid b s ks)
set48 {f} {o} b s s0 ks b8 s32 h N =
    let p = byte_at f (o + node48_index + b) in
    let c = o + node48_children + 4 * (p - 1) in
    let g = put 4 f c s in
    let O = only_put 4 f c s in
    let pl = N.place b b8 in
    let p1 : 1 ≤ p = named_some f o p (N.look b b8 ∙ h) in
    let E : (d : ℕ) → d < 256 → byte_at g (o + node48_index + d) ≡ byte_at f (o + node48_index + d) = λ d l. O.below (o + node48_index + d) (omega arith) in
    let rm = N.room in
    record {
      room = omega (arith, O.size);
      count = le_only 2 (o + node_count) O (inl (omega arith)) ∙ N.count ∙ sym (length_set_kid b s ks);
      zeros = λ i l u. O.below (o + i) (omega arith) ∙ N.zeros i l u;
      place = λ d l. rw (E d l) (N.place d l);
      look = λ d l. rw (E d l) (elim (ℕ_discrete d b) [
        | yes z ↦
            let e1 : named_child g o (byte_at f (o + node48_index + d)) ≡ some s = ap (λ x. named_child g o (byte_at f (o + node48_index + x))) z ∙ named_pos g o p p1 ∙ ap some (le_put 4 f c s (omega arith) s32) in
            e1 ∙ sym (look_set b s s0 d ks h ∙ rw (eq-eqb b d (sym z)) refl)
        | no z ↦
            named_same f g o (byte_at f (o + node48_index + d)) (λ q e. other_child f (o + node48_children) (p - 1) q s (λ y. z (N.once d b l b8 (omega arith) (omega arith))))
            ∙ N.look d l ∙ sym (look_set b s s0 d ks h ∙ rw (ne_eqb b d (λ w. z (sym w))) refl)
      ]);
      once = λ d d' l u e q. N.once d d' l u (sym (E d l) ∙ e ∙ E d' u) (rw (E d l) at q);
      unused = λ q l n. elim (ℕ_discrete q (p - 1)) [
        | yes z ↦ absurd (n (record { entry = b; below = b8; is = E b b8 ∙ omega arith }))
        | no z ↦ other_child f (o + node48_children) (p - 1) q s z ∙ N.unused q l (λ m. n (record { entry = m.entry; below = m.below; is = E m.entry m.below ∙ m.is }))
      ];
      asc = asc_set 0 b s ks N.asc s32;
    }

-- ---- no child, the same bytes, and one list

pub empty48 : (f : List ℕ) (o : ℕ) → o + 456 ≤ length f → ((a : ℕ) → o ≤ a → a < o + 456 → byte_at f a ≡ 0) → Node48At f o []
unfolding Asc look_kid
empty48 f o rm Z =
    let E : (d : ℕ) → d < 256 → byte_at f (o + node48_index + d) ≡ 0 = λ d l. Z (o + node48_index + d) (omega arith) (omega arith) in
    record {
      room = rm;
      count = le_zero 2 f (o + node_count) (λ a l u. Z a (omega arith) (omega arith));
      zeros = λ i l u. Z (o + i) (omega arith) (omega arith);
      place = λ b l. omega (arith, E b l);
      look = λ b l. named_zero f o (byte_at f (o + node48_index + b)) (E b l);
      once = λ b d l u e h. absurd (omega (arith, E b l));
      unused = λ p l n. le_zero 4 f (o + node48_children + 4 * p) (λ a l' u'. Z a (omega arith) (omega arith));
      asc = tt;
    }

pub keeps48 : {f g : List ℕ} {o : ℕ} {ks : List (ℕ × ℕ)} → Keeps f g o (o + 456) → Node48At f o ks → Node48At g o ks
keeps48 {f} {g} {o} K N =
    let E : (b : ℕ) → b < 256 → byte_at g (o + node48_index + b) ≡ byte_at f (o + node48_index + b) = λ b l. K.bytes (o + node48_index + b) (omega arith) (omega arith) in
    let C : (p : ℕ) → p < 48 → le 4 g (o + node48_children + 4 * p) ≡ le 4 f (o + node48_children + 4 * p) = λ p l. le_keeps 4 (o + node48_children + 4 * p) K (omega arith) (omega arith) in
    record {
      room = omega (arith, N.room, K.size);
      count = le_keeps 2 (o + node_count) K (omega arith) (omega arith) ∙ N.count;
      zeros = λ i l u. K.bytes (o + i) (omega arith) (omega arith) ∙ N.zeros i l u;
      place = λ b l. rw (E b l) (N.place b l);
      look = λ b l. rw (E b l) (named_same f g o _ (λ q e. C q (omega (arith, N.place b l))) ∙ N.look b l);
      once = λ b d l u e h. N.once b d l u (sym (E b l) ∙ e ∙ E d u) (rw (E b l) at h);
      unused = λ p l h. C p l ∙ N.unused p l (λ m. h (record { entry = m.entry; below = m.below; is = E m.entry m.below ∙ m.is }));
      asc = N.asc;
    }

pub one48 : {f : List ℕ} {o : ℕ} (ks ls : List (ℕ × ℕ)) → Node48At f o ks → Node48At f o ls → ks ≡ ls
one48 ks ls K L = look_ext 0 ks ls K.asc L.asc (λ d l. sym (K.look d l) ∙ L.look d l)
