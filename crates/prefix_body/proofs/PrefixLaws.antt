-- The body of a Prefix after each way of writing it. Assumes nothing.
use Prim.Native.Nat.{ℕ, zero, suc, ◌+◌, ◌-◌, ◌<◌, ◌≤◌}
use mathlib.Core.Path.{◌≡◌, refl, sym, ap, ◌∙◌}
use mathlib.Core.List.{List, [], ◌∷◌, ◌++◌}
use mathlib.Core.Logic.{⊎_elim, inl, inr}
use native.Mathlib.Omega.{arith}
use native.Mathlib.Decide.{dec_lt}
use lib.ListN.{length, get_or, set, take, length-append, get_or-append}
use lib.Seq.{get_or-append-add, get_or-set_same, get_or-take, length-take-le, take_all}
use Rattle.layout.specs.Number.{byte_at, le, put}
use Rattle.layout.specs.Place.{prefix_child, prefix_length, prefix_zero, prefix_bytes}
use Rattle.layout.proofs.NumberLaws.{le_put}
use Rattle.model.specs.Body.{Text, PrefixAt}
use Rattle.model.proofs.UniqueLaws.{prefix_unique}
use Rattle.moves.specs.Moved.{Only, Moved, Cleared, Opened}
use Rattle.moves.proofs.MoveLaws.{only_set, only_put, only_then, keeps_outside}
use Rattle.moves.specs.Pasted.{Pasted}
use Rattle.room.proofs.HeapLaws.{le_below, le_above}
use Rattle.between.proofs.BodyLaws.{prefix_keeps, prefix_link}
use Rattle.prefix_body.specs.Prefix.{PrefixWritten, Spare, Gets, Joins, Longer, Shortened, Drawn, Draws, Full}

-- a text and one more
text_app : (f : List ℕ) (o : ℕ) (p q : List ℕ) → Text f o p → ((i a : ℕ) → i < length q → a ≡ o + length p + i → byte_at f a ≡ get_or q i 0) → Text f o (p ++ q)
text_app f o p q P Q i h = elim (dec_lt i (length p)) [
  | yes l ↦ P i l ∙ sym (get_or-append p q 0 i l)
  | no l ↦
      let j = i - length p in
      let e : i ≡ length p + j = omega arith in
      Q j (o + i) (omega (arith, length-append p q)) (omega arith) ∙ sym (ap (λ m. get_or (p ++ q) m 0) e ∙ get_or-append-add p q j 0)
]

-- ---- whole

pub prefix_law : {f f1 f2 f3 g : List ℕ} (o child : ℕ) (p : List ℕ) → o + 128 ≤ length f → 1 ≤ length p → length p ≤ 112 → child < 4294967296 → Cleared f f1 o 128 → f2 ≡ put 4 f1 (o + prefix_child) child
    → f3 ≡ put 2 f2 (o + prefix_length) (length p) → Pasted f3 g (o + prefix_bytes) (length p) p → PrefixWritten f g o p child
prefix_law {f} {f1} {f2} {f3} {g} o child p room some top fits C e2 e3 G =
    let O2 : Only f1 f2 (o + prefix_child) (o + prefix_child + 4) = rw e2 (only_put 4 f1 (o + prefix_child) child) in
    let O3 : Only f2 f3 (o + prefix_length) (o + prefix_length + 2) = rw e3 (only_put 2 f2 (o + prefix_length) (length p)) in
    let O4 = G.only in
    let l1 = C.rest.size in
    let l2 = O2.size in
    let l3 = O3.size in
    let zero : (a : ℕ) → o + prefix_zero ≤ a → a < o + 128 → byte_at f3 a ≡ 0 = λ a l u. O3.above a (omega arith) ∙ O2.above a (omega arith) ∙ C.zeros a (omega arith) u in
    record {
      only = only_then o (o + 128) (only_then o (o + 128) (only_then o (o + 128) C.rest O2 (omega arith) (omega arith) (omega arith) (omega arith)) O3 (omega arith) (omega arith) (omega arith) (omega arith)) O4
          (omega arith) (omega arith) (omega arith) (omega arith);
      at = record {
        room = omega (arith, O4.size);
        some = some;
        most = top;
        child = le_below 4 (o + prefix_child) O4 (omega arith) ∙ le_below 4 (o + prefix_child) O3 (omega arith) ∙ ap (λ x. le 4 x (o + prefix_child)) e2 ∙ le_put 4 f1 (o + prefix_child) child (omega arith) fits;
        long = le_below 2 (o + prefix_length) O4 (omega arith) ∙ ap (λ x. le 2 x (o + prefix_length)) e3 ∙ le_put 2 f2 (o + prefix_length) (length p) (omega arith) (omega arith);
        zeros = λ i l. O4.below (o + prefix_zero + i) (omega arith) ∙ zero (o + prefix_zero + i) (omega arith) (omega arith);
        text = λ i l. G.text (o + prefix_bytes + i) i l refl;
        rest = λ i l. O4.above (o + prefix_bytes + length p + i) (omega arith) ∙ zero (o + prefix_bytes + length p + i) (omega arith) (omega arith);
      };
    }

-- ---- with a byte in front

module _ {f f1 g : List ℕ} {o b n : ℕ} where
  front_law : (p : List ℕ) (c : ℕ) → PrefixAt f o p c → length p + 1 ≤ 112 → n ≡ le 2 f (o + prefix_length) → Opened f f1 (o + prefix_bytes) (o + prefix_bytes + n) 1 → byte_at f1 (o + prefix_bytes) ≡ b
      → g ≡ put 2 f1 (o + prefix_length) (n + 1) → Only f g o (o + 128) × PrefixAt g o (b ∷ p) c
  front_law p c P short en M eb eg =
      let O1 = M.rest in
      let O2 : Only f1 g (o + prefix_length) (o + prefix_length + 2) = rw eg (only_put 2 f1 (o + prefix_length) (n + 1)) in
      let el : n ≡ length p = en ∙ P.long in
      let rm = P.room in
      let z = O1.size in
      let O : Only f g o (o + 128) = only_then o (o + 128) O1 O2 (omega arith) (omega arith) (omega arith) (omega arith) in
      let l2 : le 2 g (o + prefix_length) ≡ n + 1 = rw eg (le_put 2 f1 (o + prefix_length) (n + 1) (omega arith) (omega arith)) in
      let text_at : (i : ℕ) → i < suc (length p) → byte_at g (o + prefix_bytes + i) ≡ get_or (b ∷ p) i 0 = λ i.
      elim i as (λ i. i < suc (length p) → byte_at g (o + prefix_bytes + i) ≡ get_or (b ∷ p) i 0) [
        | zero ↦ λ l. (let e : o + prefix_bytes + 0 ≡ o + prefix_bytes = omega arith in rw e (O2.above (o + prefix_bytes) (omega arith) ∙ eb))
        | suc j ↦ λ l. O2.above (o + prefix_bytes + suc j) (omega arith) ∙ M.high (o + prefix_bytes + suc j) (o + prefix_bytes + j) (omega arith) (omega arith) (omega arith) ∙ P.text j (omega arith)
      ] in (
        O,
        record {
          room = omega (arith, O.size);
          some = omega arith;
          most = omega arith;
          child = le_below 4 (o + prefix_child) O2 (omega arith) ∙ le_below 4 (o + prefix_child) O1 (omega arith) ∙ P.child;
          long = l2 ∙ omega arith;
          zeros = λ i l. O2.above (o + prefix_zero + i) (omega arith) ∙ O1.below (o + prefix_zero + i) (omega arith) ∙ P.zeros i l;
          text = text_at;
          rest = λ i l.
              (let a = o + prefix_bytes + suc (length p) + i in
              let e : a ≡ o + prefix_bytes + length p + (i + 1) = omega arith in
              O2.above a (omega arith) ∙ O1.above a (omega arith) ∙ ap (byte_at f) e ∙ P.rest (i + 1) (omega arith));
        },
      )

  pub front_done : Spare f o 1 → n ≡ le 2 f (o + prefix_length) → Opened f f1 (o + prefix_bytes) (o + prefix_bytes + n) 1 → byte_at f1 (o + prefix_bytes) ≡ b → g ≡ put 2 f1 (o + prefix_length) (n + 1)
      → Only f g o (o + 128) × ((p : List ℕ) (c : ℕ) → PrefixAt f o p c → PrefixAt g o (b ∷ p) c)
  front_done S en M eb eg = (
    (front_law S.bytes S.below S.at S.room en M eb eg).0,
    λ p c P. (let q = (prefix_unique f o p S.bytes c S.below P S.at).0 in (front_law p c P (omega (arith, S.room, ap length q)) en M eb eg).1),
  )

-- ---- with bytes at the end

module _ {f f1 f2 g : List ℕ} {o n child : ℕ} (b : ℕ) where
  back_law : (p : List ℕ) (c : ℕ) → PrefixAt f o p c → length p + 1 ≤ 112 → child < 4294967296 → n ≡ le 2 f (o + prefix_length) → f1 ≡ set f (o + prefix_bytes + n) b → f2 ≡ put 2 f1 (o + prefix_length) (n + 1)
      → g ≡ put 4 f2 (o + prefix_child) child → Only f g o (o + 128) × PrefixAt g o (p ++ b ∷ []) child
  back_law p c P short fits en e1 e2 eg =
      let O1 : Only f f1 (o + prefix_bytes + n) (o + prefix_bytes + n + 1) = rw e1 (only_set f (o + prefix_bytes + n) b) in
      let O2 : Only f1 f2 (o + prefix_length) (o + prefix_length + 2) = rw e2 (only_put 2 f1 (o + prefix_length) (n + 1)) in
      let O3 : Only f2 g (o + prefix_child) (o + prefix_child + 4) = rw eg (only_put 4 f2 (o + prefix_child) child) in
      let el : n ≡ length p = en ∙ P.long in
      let rm = P.room in
      let z1 = O1.size in
      let z2 = O2.size in
      let O : Only f g o (o + 128) = only_then o (o + 128) (only_then o (o + 128) O1 O2 (omega arith) (omega arith) (omega arith) (omega arith)) O3 (omega arith) (omega arith) (omega arith) (omega arith) in
      let l2 : le 2 f2 (o + prefix_length) ≡ n + 1 = rw e2 (le_put 2 f1 (o + prefix_length) (n + 1) (omega arith) (omega arith)) in
      let c3 : le 4 g (o + prefix_child) ≡ child = rw eg (le_put 4 f2 (o + prefix_child) child (omega arith) fits) in
      let b1 : byte_at f1 (o + prefix_bytes + n) ≡ b = rw e1 (get_or-set_same f (o + prefix_bytes + n) b 0 (omega arith)) in
      let ln = length-append p (b ∷ []) in (
        O,
        record {
          room = omega (arith, O.size);
          some = omega arith;
          most = omega arith;
          child = c3;
          long = le_above 2 (o + prefix_length) O3 (omega arith) ∙ l2 ∙ omega arith;
          zeros = λ i l. O3.above (o + prefix_zero + i) (omega arith) ∙ O2.above (o + prefix_zero + i) (omega arith) ∙ O1.below (o + prefix_zero + i) (omega arith) ∙ P.zeros i l;
          text = text_app g (o + prefix_bytes) p (b ∷ [])
              (λ i l. O3.above (o + prefix_bytes + i) (omega arith) ∙ O2.above (o + prefix_bytes + i) (omega arith) ∙ O1.below (o + prefix_bytes + i) (omega arith) ∙ P.text i l)
              (λ i a l ea. (let e0 : i ≡ 0 = omega arith in let e : a ≡ o + prefix_bytes + n = omega arith in rw (e0, e) (O3.above (o + prefix_bytes + n) (omega arith) ∙ O2.above (o + prefix_bytes + n) (omega arith) ∙ b1)));
          rest = λ i l.
              (let a = o + prefix_bytes + length (p ++ b ∷ []) + i in
              let e : a ≡ o + prefix_bytes + length p + (i + 1) = omega arith in
              O3.above a (omega arith) ∙ O2.above a (omega arith) ∙ O1.above a (omega arith) ∙ ap (byte_at f) e ∙ P.rest (i + 1) (omega arith));
        },
      )

  pub back_done : Spare f o 1 × (child < 4294967296) → n ≡ le 2 f (o + prefix_length) → f1 ≡ set f (o + prefix_bytes + n) b → f2 ≡ put 2 f1 (o + prefix_length) (n + 1) → g ≡ put 4 f2 (o + prefix_child) child
      → Only f g o (o + 128) × ((p : List ℕ) (c : ℕ) → PrefixAt f o p c → PrefixAt g o (p ++ b ∷ []) child)
  back_done S en e1 e2 eg = (
    (back_law S.0.bytes S.0.below S.0.at S.0.room S.1 en e1 e2 eg).0,
    λ p c P. (let q = (prefix_unique f o p S.0.bytes c S.0.below P S.0.at).0 in (back_law p c P (omega (arith, S.0.room, ap length q)) S.1 en e1 e2 eg).1),
  )

-- the bytes q from src on
more_law : {f f1 g : List ℕ} {o src n m : ℕ} (p q : List ℕ) (c : ℕ) → PrefixAt f o p c → Text f src q → n ≡ length p → m ≡ length q → length p + length q ≤ 112 → Moved f f1 src (o + prefix_bytes + n) m
    → g ≡ put 2 f1 (o + prefix_length) (n + m) → Only f g o (o + 128) × PrefixAt g o (p ++ q) c
more_law {f} {f1} {g} {o} {src} {n} {m} p q c P Q en em short M eg =
    let O1 = M.rest in
    let O2 : Only f1 g (o + prefix_length) (o + prefix_length + 2) = rw eg (only_put 2 f1 (o + prefix_length) (n + m)) in
    let rm = P.room in
    let sm = P.some in
    let z = O1.size in
    let O : Only f g o (o + 128) = only_then o (o + 128) O1 O2 (omega arith) (omega arith) (omega arith) (omega arith) in
    let l2 : le 2 g (o + prefix_length) ≡ n + m = rw eg (le_put 2 f1 (o + prefix_length) (n + m) (omega arith) (omega arith)) in
    let ln = length-append p q in (
      O,
      record {
        room = omega (arith, O.size);
        some = omega arith;
        most = omega arith;
        child = le_below 4 (o + prefix_child) O2 (omega arith) ∙ le_below 4 (o + prefix_child) O1 (omega arith) ∙ P.child;
        long = l2 ∙ omega arith;
        zeros = λ i l. O2.above (o + prefix_zero + i) (omega arith) ∙ O1.below (o + prefix_zero + i) (omega arith) ∙ P.zeros i l;
        text = text_app g (o + prefix_bytes) p q (λ i l. O2.above (o + prefix_bytes + i) (omega arith) ∙ O1.below (o + prefix_bytes + i) (omega arith) ∙ P.text i l)
            (λ i a l ea. O2.above a (omega arith) ∙ M.inside a (src + i) (omega arith) (omega arith) (omega arith) ∙ Q i l);
        rest = λ i l.
            (let a = o + prefix_bytes + length (p ++ q) + i in
            let e : a ≡ o + prefix_bytes + length p + (length q + i) = omega arith in
            O2.above a (omega arith) ∙ O1.above a (omega arith) ∙ ap (byte_at f) e ∙ P.rest (length q + i) (omega arith));
      },
    )

-- the first k bytes of the Prefix at low
module _ {f f1 g : List ℕ} {o low n k : ℕ} (S : Gets f o low k) (en : n ≡ le 2 f (o + prefix_length)) (M : Moved f f1 (low + prefix_bytes) (o + prefix_bytes + n) k) (eg : g ≡ put 2 f1 (o + prefix_length) (n + k)) where
  first_law : (p : List ℕ) (c : ℕ) (q : List ℕ) (d : ℕ) → PrefixAt f o p c → PrefixAt f low q d → Only f g o (o + 128) × PrefixAt g o (p ++ take k q) c
  first_law p c q d P Q =
      let T = S.two in
      let u = (prefix_unique f o p T.bytes c T.below P T.at).0 in
      let v = (prefix_unique f low q T.lower d T.child Q T.lower_at).0 in
      let few : k ≤ length q = omega (arith, S.few, ap length v) in
      let lk = length-take-le k q few in
      more_law p (take k q) c P (λ i l. Q.text i (omega arith) ∙ sym (get_or-take k q i 0 (omega arith))) (en ∙ P.long) (sym lk) (omega (arith, S.room, ap length u)) M eg

  pub more_done : Only f g o (o + 128) × ((p : List ℕ) (c : ℕ) (q : List ℕ) (d : ℕ) → PrefixAt f o p c → PrefixAt f low q d → PrefixAt g o (p ++ take k q) c)
  more_done = let T = S.two in ((first_law T.bytes T.below T.lower T.child T.at T.lower_at).0, λ p c q d P Q. (first_law p c q d P Q).1)

-- what `more` says
abbrev pub More : List ℕ → List ℕ → ℕ → ℕ → ℕ → Type 0
More f g o low k = Only f g o (o + 128) × ((p : List ℕ) (c : ℕ) (q : List ℕ) (d : ℕ) → PrefixAt f o p c → PrefixAt f low q d → PrefixAt g o (p ++ take k q) c)

-- all of them
pub joins_gets : {f : List ℕ} {o low m : ℕ} → Joins f o low → m ≡ le 2 f (low + prefix_length) → Gets f o low m
joins_gets S em = let T = S.two in let e = em ∙ T.lower_at.long in record { two = T; few = omega arith; room = omega (arith, S.room) }

pub onto_done : {f f1 g : List ℕ} {o low m child : ℕ} → Joins f o low → m ≡ le 2 f (low + prefix_length) → (child ≡ le 4 f (low + prefix_child)) × (child < 4294967296) → More f f1 o low m → g ≡ put 4 f1 (o + prefix_child) child
    → Only f g o (o + 128) × ((p : List ℕ) (c : ℕ) (q : List ℕ) (d : ℕ) → PrefixAt f o p c → PrefixAt f low q d → PrefixAt g o (p ++ q) d)
onto_done {f} {f1} {g} {o} {low} {m} {child} S em ec K eg = (
  only_then o (o + 128) K.0 (let O : Only f1 g (o + prefix_child) (o + prefix_child + 4) = rw eg (only_put 4 f1 (o + prefix_child) child) in O) (omega arith) (omega arith) (omega arith) (omega arith),
  λ p c q d P Q.
      let e : child ≡ d = ec.0 ∙ Q.child in
      let w : take m q ≡ q = take_all m q (omega (arith, Q.long)) in
      let R : PrefixAt f1 o (p ++ q) c = rw w at (K.1 p c q d P Q) in
      rw (eg, ← e) (prefix_link child ec.1 R),
)

-- as many as there is room for, which the other loses
pub draws_gets : {f : List ℕ} {o low n k : ℕ} → Draws f o low → n ≡ le 2 f (o + prefix_length) → k ≡ 112 - n → Gets f o low k
draws_gets S en ek = let T = S.two in let e = en ∙ T.at.long in record { two = T; few = omega (arith, S.more); room = omega (arith, T.at.most) }

module _ {f f1 : List ℕ} {o low n k : ℕ} (S : Draws f o low) (en : n ≡ le 2 f (o + prefix_length)) (ek : k ≡ 112 - n) (K : More f f1 o low k) where
  lower_kept : (q : List ℕ) (d : ℕ) → PrefixAt f low q d → PrefixAt f1 low q d
  lower_kept q d Q = prefix_keeps low q d (keeps_outside low (low + 128) K.0 (⊎_elim (λ x. inr (omega arith)) (λ x. inl (omega arith)) S.two.apart)) Q

  pub draws_longer : Longer f1 low k
  draws_longer = let T = S.two in let e = en ∙ T.at.long in record { bytes = T.lower; below = T.child; at = lower_kept T.lower T.child T.lower_at; more = omega (arith, S.more) }

  pub draw_done : {g : List ℕ} → Shortened f1 g low k → Drawn f g o low
  draw_done {g} D =
      let T = S.two in
      record {
        mid = f1;
        upper = K.0;
        lower = D.only;
        at = λ p c q d P Q.
            let e : k ≡ 112 - length p = omega (arith, P.long) in
            let u = (prefix_unique f o p T.bytes c T.below P T.at).0 in
            let v = (prefix_unique f low q T.lower d T.child Q T.lower_at).0 in
            rw (← e) (
              prefix_keeps o (p ++ take k q) c (keeps_outside o (o + 128) D.only (⊎_elim (λ x. inl (omega arith)) (λ x. inr (omega arith)) T.apart)) (K.1 p c q d P Q),
              D.at q d (lower_kept q d Q) (omega (arith, S.more, ap length u, ap length v)),
            );
      }

-- ---- full, with a byte in front

module _ {f g : List ℕ} {o b r : ℕ} (er : r ≡ byte_at f (o + prefix_bytes + 111)) (M : Opened f g (o + prefix_bytes) (o + prefix_bytes + 111) 1) (eb : byte_at g (o + prefix_bytes) ≡ b) where
  turn_law : (p : List ℕ) (c : ℕ) → PrefixAt f o p c → length p ≡ 112 → PrefixAt g o (b ∷ take 111 p) c
  turn_law p c P l =
      let O = M.rest in
      let lt = length-take-le 111 p (omega arith) in
      record {
        room = omega (arith, P.room, O.size);
        some = omega arith;
        most = omega arith;
        child = le_below 4 (o + prefix_child) O (omega arith) ∙ P.child;
        long = le_below 2 (o + prefix_length) O (omega arith) ∙ P.long ∙ omega arith;
        zeros = λ i h. O.below (o + prefix_zero + i) (omega arith) ∙ P.zeros i h;
        text = λ i. elim i as (λ i. i < suc (length (take 111 p)) → byte_at g (o + prefix_bytes + i) ≡ get_or (b ∷ take 111 p) i 0) [
          | zero ↦ λ h. (let e : o + prefix_bytes + 0 ≡ o + prefix_bytes = omega arith in rw e eb)
          | suc j ↦ λ h. M.high (o + prefix_bytes + suc j) (o + prefix_bytes + j) (omega arith) (omega arith) (omega arith) ∙ P.text j (omega arith) ∙ sym (get_or-take 111 p j 0 (omega arith))
        ];
        rest = λ i h. absurd (omega arith);
      }

  pub turn_done : Full f o → Only f g o (o + 128) × ((p : List ℕ) (c : ℕ) → PrefixAt f o p c → (r ≡ get_or p 111 0) × PrefixAt g o (b ∷ take 111 p) c)
  turn_done S = (
    (let O = M.rest in record { size = O.size; below = λ a l. O.below a (omega arith); above = λ a l. O.above a (omega arith) }),
    λ p c P.
        let l : length p ≡ 112 = ap length (prefix_unique f o p S.bytes c S.below P S.at).0 ∙ S.long in
        (er ∙ P.text 111 (omega arith), turn_law p c P l),
  )
