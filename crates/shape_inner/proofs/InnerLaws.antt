-- The test of an inner node, exit by exit: what every inner node has, and each kind's body from its parts and back. Assumes nothing.
use Prim.Native.Nat.{ℕ, zero, suc, ◌+◌, ◌-◌, ◌*◌, ◌<◌, ◌≤◌}
use mathlib.Core.Path.{◌≡◌, refl, sym, ap, ◌∙◌}
use mathlib.Core.List.{List}
use mathlib.Core.Option.{some}
use mathlib.Core.Bool.{Bool}
use mathlib.Core.Logic.{⊎_elim}
use native.Mathlib.Omega.{arith}
use native.Mathlib.Nat.{eq-or-lt_of_le}
use lib.ListN.{length}
use Rattle.layout.specs.Number.{byte_at, le, Bytes}
use Rattle.layout.specs.Place.{node_count, node_zero, node4_bytes, node16_bytes, node48_index, node48_children, node256_children}
use Rattle.layout.specs.Kind.{body_size}
use Rattle.layout.proofs.NumberLaws.{lt_or_le, le_lt}
use Rattle.model.specs.Body.{named_child, slot_or_none, SortedAt, Node48At, Node256At, InnerAt}
use Rattle.pieces.specs.Decides.{Decides}
use Rattle.pieces.proofs.DecideLaws.{handed}
use Rattle.pieces.proofs.ZeroLaws.{blank_le, le_blank}
use Rattle.shape_inner.specs.Inner.{CountFits, InnerHere, sorted_kids, SortedHere, child48, child256, kids48, kids256, IndexedHere}
use Rattle.shape_inner.proofs.KidsLaws.{Small, kids_asc, kids_look, kids_only}
use Rattle.shape_inner.proofs.SortedLaws.{sorted_long, sorted_here, here_sorted}

-- ---- what every inner node has

pub by_kind : (P : Type 0) (kind : ℕ) → 4 ≤ kind → kind ≤ 7 → (kind ≡ 4 → P) → (kind ≡ 5 → P) → (kind ≡ 6 → P) → (kind ≡ 7 → P) → P
by_kind P kind l h four five six seven =
    ⊎_elim (λ e. four (sym e))
    (λ a. ⊎_elim (λ e. five (sym e)) (λ b. ⊎_elim (λ e. six (sym e)) (λ d. seven (omega arith)) (eq-or-lt_of_le b)) (eq-or-lt_of_le a))
    (eq-or-lt_of_le l)

module _ (f : List ℕ) (o kind : ℕ) (ks : List (ℕ × ℕ)) (N : InnerAt f o kind ks) where
  pub inner_count : le 2 f (o + node_count) ≡ length ks
  inner_count =
      by_kind (le 2 f (o + node_count) ≡ length ks) kind N.range.0 N.range.1 (λ e. (N.four e).count) (λ e. (N.five e).count) (λ e. (N.six e).count)
      (λ e. (N.seven e).count)

  zero_at : (i : ℕ) → node_zero ≤ i → (kind ≡ 4 → i < 4) → i < 8 → byte_at f (o + i) ≡ 0
  zero_at i l h k =
      by_kind (byte_at f (o + i) ≡ 0) kind N.range.0 N.range.1 (λ e. (N.four e).zeros i l (h e)) (λ e. (N.five e).zeros i l k) (λ e. (N.six e).zeros i l k)
      (λ e. (N.seven e).zeros i l k)

  pub inner_two : le 2 f (o + 2) ≡ 0
  inner_two =
      blank_le 2 f (o + 2) (λ a x y. let e : o + (a - o) ≡ a = omega arith in rw e at (zero_at (a - o) (omega arith) (λ q. omega arith) (omega arith)))

  pub inner_four : (kind ≡ 4 → ⊥) → le 4 f (o + 4) ≡ 0
  inner_four n =
      blank_le 4 f (o + 4) (λ a x y. let e : o + (a - o) ≡ a = omega arith in rw e at (zero_at (a - o) (omega arith) (λ q. absurd (n q)) (omega arith)))

module _ (f : List ℕ) (o : ℕ) where
  zeros_two : le 2 f (o + 2) ≡ 0 → (i : ℕ) → node_zero ≤ i → i < 4 → byte_at f (o + i) ≡ 0
  zeros_two z i x y = le_blank 2 f (o + 2) z (o + i) (omega arith) (omega arith)

  zeros_six : le 2 f (o + 2) ≡ 0 → le 4 f (o + 4) ≡ 0 → (i : ℕ) → node_zero ≤ i → i < 8 → byte_at f (o + i) ≡ 0
  zeros_six z w i x y = ⊎_elim (λ l. zeros_two z i x l) (λ l. le_blank 4 f (o + 4) w (o + i) (omega arith) (omega arith)) (lt_or_le i 4)

-- ---- of one kind

module _ (f : List ℕ) (o kind : ℕ) (ks : List (ℕ × ℕ)) where
  is_four : kind ≡ 4 → SortedAt f o 4 node4_bytes ks → InnerAt f o kind ks
  is_four e S =
      record { range = omega arith; four = λ q. S; five = λ q. absurd (omega arith); six = λ q. absurd (omega arith); seven = λ q. absurd (omega arith) }

  is_five : kind ≡ 5 → SortedAt f o 16 node16_bytes ks → InnerAt f o kind ks
  is_five e S =
      record { range = omega arith; four = λ q. absurd (omega arith); five = λ q. S; six = λ q. absurd (omega arith); seven = λ q. absurd (omega arith) }

  is_six : kind ≡ 6 → Node48At f o ks → InnerAt f o kind ks
  is_six e S =
      record { range = omega arith; four = λ q. absurd (omega arith); five = λ q. absurd (omega arith); six = λ q. S; seven = λ q. absurd (omega arith) }

  is_seven : kind ≡ 7 → Node256At f o ks → InnerAt f o kind ks
  is_seven e S =
      record { range = omega arith; four = λ q. absurd (omega arith); five = λ q. absurd (omega arith); six = λ q. absurd (omega arith); seven = λ q. S }

-- ---- the children of a Node48 and of a Node256

module _ (f : List ℕ) (o : ℕ) where
  named_small : Bytes f → (p c : ℕ) → named_child f o p ≡ some c → c < 4294967296
  unfolding named_child
  named_small B zero c e = let z : ◌≡◌ {A = ℕ} 0 1 = cc in absurd (omega arith)
  named_small B (suc p) c e =
      let q : le 4 f (o + node48_children + 4 * p) ≡ c = cc in
      let l : le 4 f (o + node48_children + 4 * p) < 4294967296 = le_lt 4 f (o + node48_children + 4 * p) B in
      omega arith

  slot_small : (s c : ℕ) → s < 4294967296 → slot_or_none s ≡ some c → c < 4294967296
  unfolding slot_or_none
  slot_small zero c l e = let z : ◌≡◌ {A = ℕ} 0 1 = cc in absurd (omega arith)
  slot_small (suc s) c l e = let q : suc s ≡ c = cc in omega arith

  small48 : Bytes f → Small (child48 f o)
  small48 B b c = named_small B (byte_at f (o + node48_index + b)) c

  small256 : Bytes f → Small (child256 f o)
  small256 B b c = slot_small (le 4 f (o + node256_children + 4 * b)) c (le_lt 4 f (o + node256_children + 4 * b) B)

  pub indexed_only : (ks : List (ℕ × ℕ)) → Node48At f o ks → ks ≡ kids48 f o
  indexed_only ks N = kids_only (child48 f o) 0 256 ks refl N.asc (λ b x y. N.look b y)

  pub direct_only : (ks : List (ℕ × ℕ)) → Node256At f o ks → ks ≡ kids256 f o
  direct_only ks N = kids_only (child256 f o) 0 256 ks refl N.asc (λ b x y. N.look b y)

-- ---- the exits

-- what every kind has passed before its own test
pub record Head (f : List ℕ) (o n : ℕ) : Type 0 where
  pub count : n ≡ le 2 f (o + node_count)
  pub two : le 2 f (o + 2) ≡ 0

-- the count of a node that is of kind k
pub inner_fits : (f : List ℕ) (o kind k n : ℕ) → Head f o n → kind ≡ k → InnerHere f o kind → CountFits k n
inner_fits f o kind k n A e H =
    let c : n ≡ length H.kids = A.count ∙ inner_count f o kind H.kids H.is in
    rw (c, ← e) H.fits

module _ (f : List ℕ) (o kind n : ℕ) (A : Head f o n) {r : Bool} where
  -- places in order, whatever their number
  sorted_end : (k cap bytes : ℕ) → kind ≡ k → CountFits k n → o + bytes + 5 * cap ≤ length f → 2 ≤ bytes → n ≤ cap → ((i : ℕ) → node_zero ≤ i → i < bytes → byte_at f (o + i) ≡ 0)
      → ((ks : List (ℕ × ℕ)) → SortedAt f o cap bytes ks → InnerAt f o kind ks) → ((ks : List (ℕ × ℕ)) → InnerAt f o kind ks → SortedAt f o cap bytes ks)
      → Decides (SortedHere f (o + bytes) cap n) r → Decides (InnerHere f o kind) r
  sorted_end k cap bytes e fits room head few zeros to of D =
      let ks = sorted_kids f (o + bytes) (o + bytes + cap) n in
      let long = sorted_long f (o + bytes) (o + bytes + cap) n in
      handed D
      (λ S. record {
        kids = ks;
        is = to ks (here_sorted f o cap bytes n room head few A.count zeros S);
        fits = rw (e, long) fits;
      })
      (λ H. let S = of H.kids H.is in sorted_here f o cap bytes n H.kids S (A.count ∙ S.count))

  pub node4_end : kind ≡ 4 → CountFits 4 n → o + body_size kind ≤ length f → Decides (SortedHere f (o + node4_bytes) 4 n) r → Decides (InnerHere f o kind) r
  node4_end e fits room =
      let l : o + 24 ≤ length f = rw e at room in
      sorted_end 4 4 node4_bytes e fits (omega arith) (omega arith) fits.at_most (zeros_two f o A.two) (λ ks. is_four f o kind ks e) (λ ks N. N.four e)

  module _ (W : le 4 f (o + 4) ≡ 0) where
    pub node16_end : kind ≡ 5 → CountFits 5 n → o + body_size kind ≤ length f → Decides (SortedHere f (o + node16_bytes) 16 n) r → Decides (InnerHere f o kind) r
    node16_end e fits room =
        let l : o + 88 ≤ length f = rw e at room in
        sorted_end 5 16 node16_bytes e fits (omega arith) (omega arith) fits.at_most (zeros_six f o A.two W) (λ ks. is_five f o kind ks e) (λ ks N. N.five e)

    pub node48_end : Bytes f → kind ≡ 6 → CountFits 6 n → o + body_size kind ≤ length f → Decides (IndexedHere f o n) r → Decides (InnerHere f o kind) r
    node48_end B e fits room D =
        handed D
        (λ H. record {
          kids = kids48 f o;
          is = is_six f o kind (kids48 f o) e
              (record {
                room = rw e at room;
                count = sym A.count ∙ sym H.counted;
                zeros = zeros_six f o A.two W;
                place = H.place;
                look = λ b l. sym (kids_look (child48 f o) (small48 f o B) b 0 256 (omega arith) l (omega arith));
                once = H.once;
                unused = H.unused;
                asc = kids_asc (child48 f o) (small48 f o B) 0 256 (omega arith);
              });
          fits = rw (e, H.counted) fits;
        })
        (λ H.
        let N = H.is.six e in
        record {
          place = N.place;
          once = N.once;
          unused = N.unused;
          counted = ap length (sym (indexed_only f o H.kids N)) ∙ sym N.count ∙ sym A.count;
        })

    pub node256_end : Bytes f → kind ≡ 7 → CountFits 7 n → o + body_size kind ≤ length f → Decides (length (kids256 f o) ≡ n) r → Decides (InnerHere f o kind) r
    node256_end B e fits room D =
        handed D
        (λ q. record {
          kids = kids256 f o;
          is = is_seven f o kind (kids256 f o) e
              (record {
                room = rw e at room;
                count = sym A.count ∙ sym q;
                zeros = zeros_six f o A.two W;
                look = λ b l. sym (kids_look (child256 f o) (small256 f o B) b 0 256 (omega arith) l (omega arith));
                asc = kids_asc (child256 f o) (small256 f o B) 0 256 (omega arith);
              });
          fits = rw (e, q) fits;
        })
        (λ H. let N = H.is.seven e in ap length (sym (direct_only f o H.kids N)) ∙ sym N.count ∙ sym A.count)
