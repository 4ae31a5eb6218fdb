-- Each operation by kind: what its parts ask, and what they give back. Assumes nothing.
use Prim.Native.Nat.{ℕ, ◌+◌, ◌*◌, ◌<◌, ◌≤◌}
use mathlib.Core.Path.{◌≡◌, refl, ◌∙◌, ap, sym}
use mathlib.Core.List.{List}
use mathlib.Core.Option.{none}
use native.Mathlib.Omega.{arith}
use lib.ListN.{length, set}
use lib.Dec.{eqb}
use borrow.Author.Tests.{lt-ltb, ne_eqb}
use Rattle.layout.specs.Number.{byte_at, put}
use Rattle.layout.specs.Place.{node48_index, node48_children, node256_children}
use Rattle.layout.specs.Kind.{node48_kind, body_size, most}
use Rattle.model.specs.Strings.{pick}
use Rattle.model.specs.Body.{byte_in, child_in, look_kid, SortedAt, Node48At, Node256At, InnerAt}
use Rattle.std.specs.Prelude.{Option, Some, None, IsSome}
use Rattle.node.specs.declared.Child.{Child}
use Rattle.node.specs.Kids.{insert_kid, remove_kid, Next, Reached}
use Rattle.moves.specs.Moved.{Only}
use Rattle.node.specs.Sorted.{Sorted, SortedOpen, SortedHas}
use Rattle.moves.proofs.MoveLaws.{only_widen}
use Rattle.node.proofs.KidsLaws.{asc_byte, next_reached}
use Rattle.node_big.specs.Indexed.{Lowest, Open48, Has48, Open256, Has256}
use Rattle.inner.specs.Inner.{sorted_bytes, place_at, appended, NodeSome, NodeOpen, NodeHas, Visit, Added, Removed}
use Rattle.inner.proofs.InnerLaws.{size_sorted, most_sorted, as_sorted, of_sorted, of_48, of_256, inner_count, inner_asc}

-- ---- Node4 and Node16

few_sorted : (o kind : ℕ) → kind ≤ 5 → 4 ≤ kind → (most kind ≤ 256) × (o + sorted_bytes kind + 5 * most kind ≡ o + body_size kind)
few_sorted o kind h a = let m = most_sorted kind a h in let s = size_sorted kind a h in (omega arith, omega arith)

module _ {f : List ℕ} {o kind : ℕ} (h : kind ≤ 5) where
  pub some_sorted : NodeSome f o kind → Sorted f o (most kind) (sorted_bytes kind)
  some_sorted P = record { kids = P.kids; node = as_sorted P.node h; caps = (few_sorted o kind h P.node.range.0).0 }

  pub open_sorted : NodeOpen f o kind → SortedOpen f o (most kind) (sorted_bytes kind)
  open_sorted P = record { kids = P.kids; node = as_sorted P.node h; caps = (few_sorted o kind h P.node.range.0).0; few = P.few }

  pub has_sorted : {b : ℕ} → NodeHas f o kind b → SortedHas f o (most kind) (sorted_bytes kind) b
  has_sorted P = record { kids = P.kids; node = as_sorted P.node h; caps = (few_sorted o kind h P.node.range.0).0; child = P.child; has = P.has }

  pub visit_sorted : {i from : ℕ} → Visit f o kind i from → Sorted f o (most kind) (sorted_bytes kind) × (i < most kind)
  visit_sorted W =
      let l = W.inside in
      (some_sorted (record { kids = W.kids; node = W.node }), omega (arith, (as_sorted W.node h).few))

-- ---- Node48 and Node256

module _ {f : List ℕ} {o kind : ℕ} where
  pub open_48 : NodeOpen f o kind → kind ≡ 6 → Open48 f o
  open_48 P e = record { kids = P.kids; node = P.node.six e; few = rw e at P.few }

  pub open_256 : NodeOpen f o kind → kind ≡ 7 → Open256 f o
  open_256 P e = record { kids = P.kids; node = P.node.seven e; few = rw e at P.few }

  pub has_48 : {b : ℕ} → NodeHas f o kind b → kind ≡ 6 → Has48 f o b
  has_48 P e = record { kids = P.kids; node = P.node.six e; child = P.child; has = P.has }

  pub has_256 : {b : ℕ} → NodeHas f o kind b → kind ≡ 7 → Has256 f o b
  has_256 P e = record { kids = P.kids; node = P.node.seven e; child = P.child; has = P.has }

-- ---- places of a Node48, and of the others, which have none

no_places : (f g : List ℕ) (o kind d : ℕ) → (kind ≡ 6 → ⊥) → place_at g o kind d ≡ place_at f o kind d
no_places f g o kind d n = rw (ne_eqb kind node48_kind n) refl

same_place : (f g : List ℕ) (o kind d : ℕ) → byte_at g (o + node48_index + d) ≡ byte_at f (o + node48_index + d) → place_at g o kind d ≡ place_at f o kind d
same_place f g o kind d e = ap (λ (x : ℕ). pick (eqb kind node48_kind) x 0) e

-- ---- a child more

module _ {f g : List ℕ} {o kind b slot : ℕ} where
  pub added_sorted : kind ≤ 5 → 4 ≤ kind → Only f g o (o + sorted_bytes kind + 5 * most kind)
      → ((ks : List (ℕ × ℕ)) → SortedAt f o (most kind) (sorted_bytes kind) ks → look_kid b ks ≡ none → SortedAt g o (most kind) (sorted_bytes kind) (insert_kid b slot ks)) → Added f g o kind b slot
  added_sorted h a O I =
      let s = (few_sorted o kind h a).1 in
      record {
        only = only_widen o (o + body_size kind) O (omega arith) (omega arith);
        inner = λ ks N n. of_sorted a h (I ks (as_sorted N h) n);
        lowest = λ e. absurd (omega arith);
        others = λ d d8 ne. no_places f g o kind d (λ e. omega arith);
      }

  pub added_48 : kind ≡ 6 → Only f g o (o + 456) → ((ks : List (ℕ × ℕ)) → Node48At f o ks → look_kid b ks ≡ none → Node48At g o (insert_kid b slot ks))
      → Lowest f (o + node48_index) (byte_at g (o + node48_index + b)) → ((d : ℕ) → d < 256 → (d ≡ b → ⊥) → byte_at g (o + node48_index + d) ≡ byte_at f (o + node48_index + d)) → Added f g o kind b slot
  added_48 e O I L R =
      record {
        only = rw e O;
        inner = λ ks N n. of_48 e (I ks (N.six e) n);
        lowest = λ z. rw e L;
        others = λ d d8 ne. same_place f g o kind d (R d d8 ne);
      }

  pub added_256 : kind ≡ 7 → Only f g o (o + 1032) → ((ks : List (ℕ × ℕ)) → Node256At f o ks → look_kid b ks ≡ none → Node256At g o (insert_kid b slot ks)) → Added f g o kind b slot
  added_256 e O I =
      record {
        only = rw e O;
        inner = λ ks N n. of_256 e (I ks (N.seven e) n);
        lowest = λ z. absurd (omega arith);
        others = λ d d8 ne. no_places f g o kind d (λ z. omega arith);
      }

-- ---- a child less

module _ {f g : List ℕ} {o kind b : ℕ} where
  pub removed_sorted : kind ≤ 5 → 4 ≤ kind → Only f g o (o + sorted_bytes kind + 5 * most kind)
      → ((ks : List (ℕ × ℕ)) → SortedAt f o (most kind) (sorted_bytes kind) ks → SortedAt g o (most kind) (sorted_bytes kind) (remove_kid b ks)) → Removed f g o kind b
  removed_sorted h a O I =
      let s = (few_sorted o kind h a).1 in
      record {
        only = only_widen o (o + body_size kind) O (omega arith) (omega arith);
        inner = λ ks N. of_sorted a h (I ks (as_sorted N h));
        others = λ d d8 ne. no_places f g o kind d (λ e. omega arith);
      }

  pub removed_48 : kind ≡ 6 → Only f g o (o + 456) → ((ks : List (ℕ × ℕ)) → Node48At f o ks → Node48At g o (remove_kid b ks))
      → ((d : ℕ) → d < 256 → (d ≡ b → ⊥) → byte_at g (o + node48_index + d) ≡ byte_at f (o + node48_index + d)) → Removed f g o kind b
  removed_48 e O I R = record { only = rw e O; inner = λ ks N. of_48 e (I ks (N.six e)); others = λ d d8 ne. same_place f g o kind d (R d d8 ne) }

  pub removed_256 : kind ≡ 7 → Only f g o (o + 1032) → ((ks : List (ℕ × ℕ)) → Node256At f o ks → Node256At g o (remove_kid b ks)) → Removed f g o kind b
  removed_256 e O I = record { only = rw e O; inner = λ ks N. of_256 e (I ks (N.seven e)); others = λ d d8 ne. no_places f g o kind d (λ z. omega arith) }

-- ---- the children in order

pub inside_one : {f : List ℕ} {o kind i at : ℕ} (W : Visit f o kind i at) (ks : List (ℕ × ℕ)) → InnerAt f o kind ks → i < length ks
inside_one W ks N = let l = W.inside in omega (arith, inner_count ks N, inner_count W.kids W.node)

-- the next child of a walk is there, and it is the one that the walk is at
module _ {f : List ℕ} {o kind i at : ℕ} (W : Visit f o kind i at) where
  pub is_next : (r : Option Child) → ((ks : List (ℕ × ℕ)) → InnerAt f o kind ks → Next at ks r) → IsSome r
  is_next None I =
      let e = next_reached W.reached W.inside in
      absurd (omega (arith, rw e at (I W.kids W.node).0, asc_byte 0 W.kids i (inner_asc W.kids W.node) W.inside))
  is_next (Some x) I = refl

  pub visited : {x : Child} → ((ks : List (ℕ × ℕ)) → InnerAt f o kind ks → Next at ks (Some x))
      → (x.byte < 256) × ((ks : List (ℕ × ℕ)) → InnerAt f o kind ks → Reached ks i at → (x.byte ≡ byte_in ks i) × (x.slot ≡ child_in ks i))
  visited I = (
    (I W.kids W.node).0,
    λ ks N R. let e = next_reached R (inside_one W ks N) in let n = I ks N in (rw e at n.1, rw e at n.2),
  )

-- ---- a child behind the others

pub is_sorted : (f : List ℕ) (o kind i b s : ℕ) → kind ≤ 5 → appended f o kind i b s ≡ put 4 (set f (o + sorted_bytes kind + i) b) (o + sorted_bytes kind + most kind + 4 * i) s
unfolding appended
is_sorted f o kind i b s h = rw (lt-ltb kind node48_kind (omega arith)) refl

pub is_48 : (f : List ℕ) (o kind i b s : ℕ) → kind ≡ 6 → appended f o kind i b s ≡ put 4 (set f (o + node48_index + b) (i + 1)) (o + node48_children + 4 * i) s
unfolding appended
is_48 f o kind i b s e = rw e refl

pub is_256 : (f : List ℕ) (o kind i b s : ℕ) → kind ≡ 7 → appended f o kind i b s ≡ put 4 f (o + node256_children + 4 * b) s
unfolding appended
is_256 f o kind i b s e = rw e refl

pub append_sorted : (f : List ℕ) {g : List ℕ} (o kind i b s : ℕ) → kind ≤ 5 → g ≡ put 4 (set f (o + sorted_bytes kind + i) b) (o + (sorted_bytes kind + most kind) + 4 * i) s → g ≡ appended f o kind i b s
append_sorted f o kind i b s h E = E ∙ ap (λ at. put 4 (set f (o + sorted_bytes kind + i) b) at s) (omega arith) ∙ sym (is_sorted f o kind i b s h)

pub append_48 : (f : List ℕ) {g : List ℕ} (o kind i b s : ℕ) → kind ≡ 6 → g ≡ put 4 (set f (o + node48_index + b) (i + 1)) (o + node48_children + 4 * i) s → g ≡ appended f o kind i b s
append_48 f o kind i b s e E = E ∙ sym (is_48 f o kind i b s e)

pub append_256 : (f : List ℕ) {g : List ℕ} (o kind i b s : ℕ) → kind ≡ 7 → g ≡ put 4 f (o + node256_children + 4 * b) s → g ≡ appended f o kind i b s
append_256 f o kind i b s e E = E ∙ sym (is_256 f o kind i b s e)
