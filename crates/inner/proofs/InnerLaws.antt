-- An inner body of any kind: each law by kind, Node4 and Node16 together. Assumes nothing.
use Prim.Native.Nat.{ℕ, suc, ◌+◌, ◌*◌, ◌-◌, ◌<◌, ◌≤◌}
use mathlib.Core.Path.{◌≡◌, refl, ◌∙◌, ap, sym}
use mathlib.Core.List.{List, []}
use mathlib.Core.Option.{some}
use native.Mathlib.Omega.{arith}
use native.Mathlib.Decide.{dec_lt, ℕ_discrete}
use lib.ListN.{length}
use lib.Dec.{eqb}
use borrow.Author.Tests.{lt-ltb, ne_eqb}
use Rattle.layout.specs.Number.{byte_at, le, put}
use Rattle.layout.specs.Place.{node_count, node48_index, node48_children, node256_children}
use Rattle.layout.specs.Kind.{node48_kind, body_size, most}
use Rattle.model.specs.Strings.{pick}
use Rattle.model.specs.Body.{Asc, look_kid, SortedAt, Node48At, Node256At, InnerAt}
use Rattle.model.specs.Frame.{LayKids, nil, kid, pairs, Places}
use Rattle.node.specs.Kids.{set_kid, place_of}
use Rattle.moves.specs.Moved.{Keeps, Cleared}
use Rattle.moves.proofs.MoveLaws.{only_put}
use Rattle.node.proofs.KidsLaws.{place_lt}
use Rattle.node.proofs.SortedLaws.{sorted_set, sorted_empty, sorted_keeps, sorted_one}
use Rattle.node_big.proofs.Laws48.{set48, empty48, keeps48, one48}
use Rattle.node_big.proofs.Laws256.{set256, empty256, keeps256, one256}
use Rattle.inner.specs.Inner.{sorted_bytes, place_at, link_at, Emptied}

-- ---- the kinds

pub by_kind : (P : ℕ → Type 0) (kind : ℕ) → (4 ≤ kind) × (kind ≤ 7) → (kind ≤ 5 → P kind) → (kind ≡ 6 → P kind) → (kind ≡ 7 → P kind) → P kind
by_kind P kind r s x y = elim (dec_lt kind 6) [
  | yes h ↦ s (omega arith)
  | no h ↦ elim (ℕ_discrete kind 6) [ yes e ↦ x e | no e ↦ y (omega arith) ]
]

-- Node4 or Node16
by_sorted : (P : ℕ → Type 0) (kind : ℕ) → 4 ≤ kind → kind ≤ 5 → P 4 → P 5 → P kind
by_sorted P kind a b x y = elim (ℕ_discrete kind 4) [
  | yes e ↦ rw e x
  | no e ↦ let z : kind ≡ 5 = omega arith in rw z y
]

pub size_sorted : (kind : ℕ) → 4 ≤ kind → kind ≤ 5 → body_size kind ≡ sorted_bytes kind + 5 * most kind
size_sorted kind a b = by_sorted (λ k. body_size k ≡ sorted_bytes k + 5 * most k) kind a b refl refl

pub most_sorted : (kind : ℕ) → 4 ≤ kind → kind ≤ 5 → (most kind ≤ 16) × (2 ≤ sorted_bytes kind)
most_sorted kind a b = by_sorted (λ k. (most k ≤ 16) × (2 ≤ sorted_bytes k)) kind a b (omega arith) (omega arith)

module _ {f : List ℕ} {o kind : ℕ} {ks : List (ℕ × ℕ)} where
  pub as_sorted : InnerAt f o kind ks → kind ≤ 5 → SortedAt f o (most kind) (sorted_bytes kind) ks
  as_sorted N h = elim (ℕ_discrete kind 4) [
    | yes e ↦ rw e (N.four e)
    | no e ↦ let r = N.range in let z : kind ≡ 5 = omega arith in rw z (N.five z)
  ]

  pub of_sorted : 4 ≤ kind → kind ≤ 5 → SortedAt f o (most kind) (sorted_bytes kind) ks → InnerAt f o kind ks
  of_sorted a b S = record { range = (a, omega arith); four = λ e. rw e at S; five = λ e. rw e at S; six = λ e. absurd (omega arith); seven = λ e. absurd (omega arith) }

  pub of_48 : kind ≡ 6 → Node48At f o ks → InnerAt f o kind ks
  of_48 e N = record { range = omega arith; four = λ z. absurd (omega arith); five = λ z. absurd (omega arith); six = λ z. N; seven = λ z. absurd (omega arith) }

  pub of_256 : kind ≡ 7 → Node256At f o ks → InnerAt f o kind ks
  of_256 e N = record { range = omega arith; four = λ z. absurd (omega arith); five = λ z. absurd (omega arith); six = λ z. absurd (omega arith); seven = λ z. N }

-- ---- what every kind has

module _ {f : List ℕ} {o kind : ℕ} (ks : List (ℕ × ℕ)) (N : InnerAt f o kind ks) where
  pub inner_room : o + body_size kind ≤ length f
  inner_room = by_kind (λ k. o + body_size k ≤ length f) kind N.range
      (λ h. let S = as_sorted N h in let e = size_sorted kind N.range.0 h in omega (arith, S.room))
      (λ e. rw e (N.six e).room)
      (λ e. rw e (N.seven e).room)

  pub inner_count : le 2 f (o + node_count) ≡ length ks
  inner_count = by_kind (λ k. le 2 f (o + node_count) ≡ length ks) kind N.range (λ h. (as_sorted N h).count) (λ e. (N.six e).count) (λ e. (N.seven e).count)

  pub inner_asc : Asc 0 ks
  inner_asc = by_kind (λ k. Asc 0 ks) kind N.range (λ h. (as_sorted N h).asc) (λ e. (N.six e).asc) (λ e. (N.seven e).asc)

-- a body's bytes say one list of children
pub inner_one : {f : List ℕ} {o kind : ℕ} (ks ls : List (ℕ × ℕ)) → InnerAt f o kind ks → InnerAt f o kind ls → ks ≡ ls
inner_one {kind = kind} ks ls K L = by_kind (λ k. ks ≡ ls) kind K.range (λ h. sorted_one ks ls (as_sorted K h) (as_sorted L h)) (λ e. one48 ks ls (K.six e) (L.six e)) (λ e. one256 ks ls (K.seven e) (L.seven e))

-- ---- agreement on a body's bytes carries it

narrow : {f g : List ℕ} {lo hi : ℕ} (u : ℕ) → Keeps f g lo hi → u ≤ hi → Keeps f g lo u
narrow u K h = record { size = K.size; bytes = λ a x y. K.bytes a x (omega arith) }

pub inner_keeps : {f g : List ℕ} {o kind : ℕ} {ks : List (ℕ × ℕ)} → Keeps f g o (o + body_size kind) → InnerAt f o kind ks → InnerAt g o kind ks
inner_keeps {f} {g} {o} {kind} {ks} K N =
    record {
      range = N.range;
      four = λ e. let K' : Keeps f g o (o + 24) = rw e at K in sorted_keeps (narrow _ K' (omega arith)) (N.four e);
      five = λ e. let K' : Keeps f g o (o + 88) = rw e at K in sorted_keeps (narrow _ K' (omega arith)) (N.five e);
      six = λ e. keeps48 (rw e at K) (N.six e);
      seven = λ e. keeps256 (rw e at K) (N.seven e);
    }

-- and the places of its children
pub place_keeps : {f g : List ℕ} {o : ℕ} (kind : ℕ) → Keeps f g o (o + body_size kind) → (b : ℕ) → b < 256 → place_at g o kind b ≡ place_at f o kind b
place_keeps {f} {g} {o} kind K b b8 = elim (ℕ_discrete kind 6) [
  | yes e ↦ let K' : Keeps f g o (o + 456) = rw e at K in ap (λ (x : ℕ). pick (eqb kind node48_kind) x 0) (K'.bytes (o + node48_index + b) (omega arith) (omega arith))
  | no e ↦ rw (ne_eqb kind node48_kind e) refl
]

pub places_same : (f g : List ℕ) (o kind lo : ℕ) (ks : LayKids) → ((b : ℕ) → b < 256 → place_at g o kind b ≡ place_at f o kind b) → Asc lo (pairs ks) → Places f o kind ks → Places g o kind ks
unfolding Places pairs Asc
places_same f g o kind lo nil H A P = P
places_same f g o kind lo (kid b j l ks) H A P = (H b A.1 ∙ P.0, places_same f g o kind (suc b) ks H A.3 P.1)

pub places_keeps : {f g : List ℕ} {o kind : ℕ} (ks : LayKids) → Keeps f g o (o + body_size kind) → InnerAt f o kind (pairs ks) → Places f o kind ks → Places g o kind ks
places_keeps {f} {g} {o} {kind} ks K N P = places_same f g o kind 0 ks (place_keeps kind K) (inner_asc (pairs ks) N) P

-- ---- a zeroed body has no children

pub inner_empty : (f : List ℕ) (o kind : ℕ) → (4 ≤ kind) × (kind ≤ 7) → o + body_size kind ≤ length f → ((a : ℕ) → o ≤ a → a < o + body_size kind → byte_at f a ≡ 0) → InnerAt f o kind []
inner_empty f o kind r rm Z =
    record {
      range = r;
      four = λ e. let Z' : (a : ℕ) → o ≤ a → a < o + 24 → byte_at f a ≡ 0 = rw e at Z in let rm' : o + 24 ≤ length f = rw e at rm in sorted_empty f o 4 4 (omega arith) (omega arith) (λ a l u. Z' a l (omega arith));
      five = λ e. let Z' : (a : ℕ) → o ≤ a → a < o + 88 → byte_at f a ≡ 0 = rw e at Z in let rm' : o + 88 ≤ length f = rw e at rm in sorted_empty f o 16 8 (omega arith) (omega arith) (λ a l u. Z' a l (omega arith));
      six = λ e. empty48 f o (rw e at rm) (rw e at Z);
      seven = λ e. empty256 f o (rw e at rm) (rw e at Z);
    }

pub emptied : {f g : List ℕ} {o kind n : ℕ} → (4 ≤ kind) × (kind ≤ 7) → o + body_size kind ≤ length f → n ≡ body_size kind → Cleared f g o n → Emptied f g o kind
emptied {f} {g} {o} {kind} r rm e c =
    let C : Cleared f g o (body_size kind) = rw e at c in
    record {
      only = C.rest;
      zeros = λ i l. C.zeros (o + i) (omega arith) (omega arith);
      inner = inner_empty g o kind r (omega (arith, C.rest.size)) C.zeros;
    }

-- ---- the link of a byte

link_sorted : (o kind i j b : ℕ) → kind ≤ 5 → link_at o kind i j b ≡ o + sorted_bytes kind + most kind + 4 * i
unfolding link_at
link_sorted o kind i j b h = rw (lt-ltb kind node48_kind (omega arith)) refl

link_48 : (o kind i j b : ℕ) → kind ≡ 6 → link_at o kind i j b ≡ o + node48_children + 4 * (j - 1)
unfolding link_at
link_48 o kind i j b e = rw e refl

link_256 : (o kind i j b : ℕ) → kind ≡ 7 → link_at o kind i j b ≡ o + node256_children + 4 * b
unfolding link_at
link_256 o kind i j b e = rw e refl

place_48 : (f : List ℕ) (o kind b : ℕ) → kind ≡ 6 → place_at f o kind b ≡ byte_at f (o + node48_index + b)
place_48 f o kind b e = rw e refl

pub link_is_sorted : (f : List ℕ) (o kind i b : ℕ) {r : ℕ} → kind ≤ 5 → r ≡ o + sorted_bytes kind + most kind + 4 * i → r ≡ link_at o kind i (place_at f o kind b) b
link_is_sorted f o kind i b h e = e ∙ sym (link_sorted o kind i (place_at f o kind b) b h)

pub link_is_48 : (f : List ℕ) (o kind i b : ℕ) {r : ℕ} → kind ≡ 6 → r ≡ o + node48_children + 4 * (byte_at f (o + node48_index + b) - 1) → r ≡ link_at o kind i (place_at f o kind b) b
link_is_48 f o kind i b h e = e ∙ sym (link_48 o kind i (place_at f o kind b) b h ∙ ap (λ (x : ℕ). o + node48_children + 4 * (x - 1)) (place_48 f o kind b h))

pub link_is_256 : (f : List ℕ) (o kind i b : ℕ) {r : ℕ} → kind ≡ 7 → r ≡ o + node256_children + 4 * b → r ≡ link_at o kind i (place_at f o kind b) b
link_is_256 f o kind i b h e = e ∙ sym (link_256 o kind i (place_at f o kind b) b h)

-- a body in which byte b has the child s0, and the place of that link
module _ {f : List ℕ} {o kind : ℕ} (b s0 : ℕ) (ks : List (ℕ × ℕ)) (N : InnerAt f o kind ks) (b8 : b < 256) (has : look_kid b ks ≡ some s0) where
  -- it lies in the body, behind the count and a Node48's index
  pub link_inside : (let at = link_at o kind (place_of b ks) (place_at f o kind b) b in (o + 8 ≤ at) × (at + 4 ≤ o + body_size kind) × (kind ≡ 6 → o + node48_children ≤ at))
  link_inside = by_kind (λ k. (o + 8 ≤ link_at o k (place_of b ks) (place_at f o k b) b) × (link_at o k (place_of b ks) (place_at f o k b) b + 4 ≤ o + body_size k) × (k ≡ 6 → o + node48_children ≤ link_at o k (place_of b ks) (place_at f o k b) b)) kind N.range
      (λ h.
      let S = as_sorted N h in
      let l = place_lt b ks has in
      let few = S.few in
      let hd = S.head in
      let e = size_sorted kind N.range.0 h in
      let m = by_sorted (λ k. 8 ≤ sorted_bytes k + most k) kind N.range.0 h (omega arith) (omega arith) in
      rw (link_sorted o kind (place_of b ks) (place_at f o kind b) b h) (omega arith, omega arith, λ z. absurd (omega arith)))
      (λ e.
      rw e (rw (link_48 o 6 (place_of b ks) (byte_at f (o + node48_index + b)) b refl) (omega arith, omega (arith, (N.six e).place b b8), λ z. omega arith)))
      (λ e. rw e (rw (link_256 o 7 (place_of b ks) 0 b refl) (omega arith, omega arith, λ z. absurd (omega arith))))

  -- written, it names another child
  pub inner_set : (s : ℕ) → 1 ≤ s → s < 4294967296 → InnerAt (put 4 f (link_at o kind (place_of b ks) (place_at f o kind b) b) s) o kind (set_kid b s ks)
  inner_set s pos s32 = by_kind (λ k. InnerAt (put 4 f (link_at o k (place_of b ks) (place_at f o k b) b) s) o k (set_kid b s ks)) kind N.range
      (λ h. rw (link_sorted o kind (place_of b ks) (place_at f o kind b) b h) (of_sorted N.range.0 h (sorted_set b s s0 ks (as_sorted N h) s32 has)))
      (λ e. rw e (rw (link_48 o 6 (place_of b ks) (byte_at f (o + node48_index + b)) b refl) (of_48 refl (set48 b s s0 ks b8 s32 has (N.six e)))))
      (λ e. rw e (rw (link_256 o 7 (place_of b ks) 0 b refl) (of_256 refl (set256 b s s0 ks b8 pos s32 has (N.seven e)))))

  -- and no place of a Node48 changes
  pub link_places : (s d : ℕ) → d < 256 → place_at (put 4 f (link_at o kind (place_of b ks) (place_at f o kind b) b) s) o kind d ≡ place_at f o kind d
  link_places s d d8 =
      let at = link_at o kind (place_of b ks) (place_at f o kind b) b in
      elim (ℕ_discrete kind 6) [
        | yes e ↦ let l = link_inside.2 e in ap (λ (x : ℕ). pick (eqb kind node48_kind) x 0) ((only_put 4 f at s).below (o + node48_index + d) (omega arith))
        | no e ↦ rw (ne_eqb kind node48_kind e) refl
      ]
