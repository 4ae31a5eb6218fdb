-- A node that lacks a byte and is full can be of a larger kind: it is no Node256. Of the inner kinds only a Node4 has none below. Assumes nothing.
use Prim.Native.Nat.{ℕ, zero, suc, ◌+◌, ◌<◌, ◌≤◌}
use mathlib.Core.Path.{◌≡◌, ap, ◌∙◌}
use mathlib.Core.List.{List, [], ◌∷◌}
use mathlib.Core.Option.{none, some}
use native.Mathlib.Omega.{arith}
use native.Mathlib.Decide.{dec_lt, ℕ_discrete}
use lib.ListN.{length, drop}
use borrow.Author.Tests.{eq-eqb, ne_eqb}
use Rattle.layout.specs.declared.kind.Kind.{Kind}
use Rattle.layout.specs.Kind.{number_of, most, kind_up, kind_down, Inner, node4, node16, node48, node256}
use Rattle.layout.proofs.KindLaws.{number_least, range_inner}
use Rattle.model.specs.Strings.{All, Byte}
use Rattle.model.specs.Body.{Asc, look_kid}

-- ---- ascending bytes, one of them missing

asc_room : (lo : ℕ) (ks : List (ℕ × ℕ)) → Asc lo ks → lo ≤ 256 → length ks + lo ≤ 256
unfolding Asc
asc_room lo [] A h = omega arith
asc_room lo (x ∷ ks) A h = omega (arith, A.0, A.1, asc_room (suc x.0) ks A.3 (omega (arith, A.1)))

asc_gap : (b lo : ℕ) (ks : List (ℕ × ℕ)) → Asc lo ks → look_kid b ks ≡ none → lo ≤ b → b < 256 → length ks + lo < 256
unfolding Asc look_kid
asc_gap b lo [] A e l u = omega arith
asc_gap b lo (x ∷ ks) A e l u = elim (ℕ_discrete x.0 b) [
  | yes q ↦ absurd (let z : some x.1 ≡ none = rw (eq-eqb x.0 b q) at e in let y : ◌≡◌ {A = ℕ} 0 1 = cc in omega arith)
  | no q ↦
      let e' : look_kid b ks ≡ none = rw (ne_eqb x.0 b q) at e in
      elim (dec_lt x.0 b) [
        | yes y ↦ omega (arith, A.0, asc_gap b (suc x.0) ks A.3 e' (omega arith) u)
        | no y ↦ omega (arith, A.1, asc_room (suc x.0) ks A.3 (omega (arith, A.1)))
      ]
]

pub full_up : (kind b : ℕ) (ks : List (ℕ × ℕ)) → 4 ≤ kind → kind ≤ 7 → Asc 0 ks → look_kid b ks ≡ none → b < 256 → most kind ≤ length ks → 1 ≤ kind_up kind
full_up kind b ks l u A e b256 full = go (range_inner kind l u) full
  where
    go : {k : ℕ} → Inner k → most k ≤ length ks → 1 ≤ kind_up k
    go node4 h = omega arith
    go node16 h = omega arith
    go node48 h = omega arith
    go node256 h = absurd (omega (arith, asc_gap b 0 ks A e (omega arith) b256))

-- the byte that follows d others is one
pub byte_first : (d : ℕ) (w : List ℕ) {b : ℕ} {r : List ℕ} → All Byte w → drop d w ≡ b ∷ r → b < 256
byte_first zero [] A e = absurd (cc)
byte_first zero (x ∷ w) {b = b} A e = let q : x ≡ b = cc in omega (arith, A.0)
byte_first (suc d) [] A e = absurd (cc)
byte_first (suc d) (x ∷ w) A e = byte_first d w A.1 e

-- ---- the kind below

pub down_none : (kind : ℕ) → 4 ≤ kind → kind ≤ 7 → 0 ≡ kind_down kind → kind ≡ 4
down_none kind l u e = go (range_inner kind l u) e
  where
    go : {k : ℕ} → Inner k → 0 ≡ kind_down k → k ≡ 4
    go node4 h = omega arith
    go node16 h = absurd (omega arith)
    go node48 h = absurd (omega arith)
    go node256 h = absurd (omega arith)

pub down_some : (kind : ℕ) (j : Kind) → number_of j ≡ kind_down kind → kind ≡ 4 → ⊥
down_some kind j e z = omega (arith, number_least j, e ∙ ap kind_down z)
