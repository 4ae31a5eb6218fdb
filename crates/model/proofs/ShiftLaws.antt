-- Two trees after one step, with one shape: a Prefix that was live stands at one place of both. For if it stood lower in the one, what has its
-- place there stood higher in the other, and so on up to one that was taken, and such a one stands below. Assumes nothing.
use Prim.Native.Nat.{ℕ, zero, suc, ◌<◌, ◌≤◌}
use mathlib.Core.Path.{◌≡◌, refl, sym, ap, ◌∙◌}
use mathlib.Core.List.{List}
use mathlib.Core.Bool.{true}
use mathlib.Core.Logic.{⊎_elim}
use native.Mathlib.Omega.{arith}
use native.Mathlib.Decide.{dec_le, dec_lt}
use lib.ListN.{length}
use borrow.Author.Tests.{eq-eqb}
use Rattle.layout.specs.Number.{Bytes}
use Rattle.layout.specs.Kind.{prefix_kind}
use Rattle.model.specs.Edition.{Edition}
use Rattle.model.specs.Frame.{Root, root_art, RootAt}
use Rattle.model.specs.Mark.{Mark, root_marks, like, slot_is, count, In, Live}
use Rattle.model.specs.Touch.{among, Last}
use Rattle.model.proofs.StringLaws.{bool_cases, eqb_cases, shared_left}
use Rattle.model.proofs.WayLaws.{shared_self, shared_right, begins_of}
use Rattle.model.proofs.MarkLaws.{find, weight_in, only, Stay, Like, like_of, Common, common_of, of_common, common_turn}
use Rattle.model.proofs.PlaceLaws.{begins_self}
use Rattle.model.proofs.PrefixLaws.{known, on_way, lone}
use Rattle.model.proofs.ShapeLaws.{root_seen}

-- ---- slots of marks

pub slot_weighs : (m : Mark) (s : ℕ) → m.slot ≡ s → slot_is s m ≡ 1
slot_weighs m s e = rw (eq-eqb m.slot s e) refl

pub slot_of : (m : Mark) (s : ℕ) → 1 ≤ slot_is s m → m.slot ≡ s
slot_of m s h = eqb_cases m.slot s (λ t e. e) (λ t e. let z : 1 ≤ 0 = rw t at h in absurd (omega arith))

-- ---- one result of a step

pub record Result (E : Edition) (f' : List ℕ) (r r' : Root) (goes : List ℕ) : Type 0 where
  pub bytes : Bytes f'
  pub root_at : RootAt E f' r'
  pub once : (s : ℕ) → count (slot_is s) (root_marks r') ≤ 1
  pub gone : (s : ℕ) → among s goes ≡ true → count (slot_is s) (root_marks r') ≡ 0
  pub stays : Stay goes (root_marks r) (root_marks r')
  pub last : Last (root_marks r) (root_marks r')

-- two bodies of one slot are one
pub slot_one : {E : Edition} {f' : List ℕ} {r r' : Root} {goes : List ℕ} → Result E f' r r' goes → (x y : Mark) → In x (root_marks r') → In y (root_marks r') → x.slot ≡ y.slot → x ≡ y
slot_one {r' = r'} R x y hx hy e = only (slot_is y.slot) (root_marks r') (R.once y.slot) x y hx hy (omega (arith, slot_weighs x y.slot e)) (omega (arith, slot_weighs y y.slot refl))

-- ---- Prefixes that have bytes in common

pub like_common : (m x : Mark) → length m.from < length m.to → Like m x → Common m x
like_common m x h L = ⊎_elim (λ c. common_of m x c)
    (λ e. rw (← e) (let n = shared_self m.to in record { left = omega arith; right = omega arith })) L.known

pub common_at : {m x y : Mark} → x.from ≡ y.from → x.to ≡ y.to → Common m x → Common m y
common_at {m} ef et C = record { left = rw (← et) C.left; right = rw (← et, ← ef) C.right }

-- two Prefixes of one tree that have bytes in common with m: one ends above the other
module _ (E : Edition) (g : List ℕ) (q : Root) (U : RootAt E g q) (m y z : Mark) (hy : In y (root_marks q)) (hz : In z (root_marks q)) (ky : y.kind ≡ prefix_kind) (kz : z.kind ≡ prefix_kind) (Y : Common m y) (Z : Common m z) where
  pub parted : (y ≡ z → ⊥) → length y.from ≤ length z.from → length y.to ≤ length z.from
  parted n l = elim (dec_lt (length z.from) (length y.to)) [
    | yes h ↦ absurd (n (lone E g q U y z hy hz ky kz (begins_of m.to y.from z.from (on_way m y (known E g y q U hy).spans Y) (on_way m z (known E g z q U hz).spans Z) l) h))
    | no h ↦ omega arith
  ]

-- two that both begin above the end of a third one, with bytes in common, and end below it are one
crossing : (E : Edition) (g : List ℕ) (q : Root) (U : RootAt E g q) (m n y : Mark) (hm : In m (root_marks q)) (hn : In n (root_marks q)) → m.kind ≡ prefix_kind → n.kind ≡ prefix_kind → Common m y → Common n y
    → length y.to < length m.to → length y.to < length n.to → m ≡ n
crossing E g q U m n y hm hn km kn M N lm ln =
    let bm = on_way y m (known E g m q U hm).spans (common_turn m y M) in
    let bn = on_way y n (known E g n q U hn).spans (common_turn n y N) in
    let am = shared_right m.to y.to in
    let an = shared_right n.to y.to in
    elim (dec_le (length m.from) (length n.from)) [
      | yes h ↦ lone E g q U m n hm hn km kn (begins_of y.to m.from n.from bm bn h) (omega (arith, N.left))
      | no h ↦ sym (lone E g q U n m hn hm kn km (begins_of y.to n.from m.from bn bm (omega arith)) (omega (arith, M.left)))
    ]

-- ---- two results

-- a Prefix m of the tree before, with the bodies of its slot in two trees after
pub record Moved (r r' r'' : Root) (m x z : Mark) : Type 0 where
  pub was : In m (root_marks r)
  pub one : In x (root_marks r')
  pub other : In z (root_marks r'')
  pub kinds : (m.kind ≡ prefix_kind) × (x.kind ≡ prefix_kind) × (z.kind ≡ prefix_kind)
  pub slots : (m.slot ≡ x.slot) × (m.slot ≡ z.slot)
  pub left : Common m x
  pub right : Common m z

module _ {E : Edition} (f : List ℕ) {f' f'' : List ℕ} {r r' r'' : Root} {goes : List ℕ} (T : RootAt E f r) (R : Result E f' r r' goes) (S : Result E f'' r r'' goes) where
  -- the body of slot y in r'', if it was live before and is a Prefix
  pub follow : (y : Mark) → In y (root_marks r'') → y.kind ≡ prefix_kind → Live y.slot (root_marks r) → (m : Mark) × (x : Mark) × Moved r r' r'' m x y
  follow y hy k live =
      let F = find (slot_is y.slot) (root_marks r) live in
      let m = F.mark in
      let em = slot_of m y.slot F.weighs in
      bool_cases (among m.slot goes)
      (λ t. absurd (omega (arith, S.gone m.slot t, weight_in (slot_is m.slot) (root_marks r'') y hy (omega (arith, slot_weighs y m.slot (sym em))))))
      (λ t.
      let G = find (like m) (root_marks r') (R.stays.each m t F.there) in
      let H = find (like m) (root_marks r'') (S.stays.each m t F.there) in
      let L = like_of m G.mark G.weighs in
      let K0 = like_of m H.mark H.weighs in
      let e : H.mark ≡ y = slot_one S H.mark y H.there hy (sym K0.slot ∙ em) in
      let K : Like m y = rw e at K0 in
      let km : m.kind ≡ prefix_kind = K.kind ∙ k in
      let some = (known E f m r T F.there).some km in (
        m,
        G.mark,
        record {
          was = F.there;
          one = G.there;
          other = hy;
          kinds = (km, sym L.kind ∙ km, k);
          slots = (L.slot, K.slot);
          left = like_common m G.mark some L;
          right = like_common m y some K;
        },
      ))

  -- x stands in r' where y stands in r'', and there z, the body of its slot, stands lower
  pub lower : root_art r' ≡ root_art r'' → (fuel : ℕ) (m x z y : Mark) → Moved r r' r'' m x z → In y (root_marks r'') → y.kind ≡ prefix_kind → x.from ≡ y.from → x.to ≡ y.to → length y.from < fuel → length y.to ≤ length z.from
      → ⊥
  lower shape zero m x z y M hy ky ef et l h = omega arith
  lower shape (suc fuel) m x z y M hy ky ef et l h = elim (dec_le 1 (count (slot_is y.slot) (root_marks r))) [
    | no q ↦ omega (arith, S.last m z y M.was M.other hy M.slots.1 ky q (of_common m y (common_at ef et M.left)), (known E f'' y r'' S.root_at hy).some ky)
    | yes live ↦
        let Q = follow y hy ky live in
        let t = Q.0 in
        let u = Q.1 in
        let N = Q.2 in
        let P = root_seen E f' f'' u r' r'' R.root_at S.root_at shape N.one in
        let v = P.body in
        let kv : v.kind ≡ prefix_kind = sym P.kind ∙ N.kinds.1 in
        let some_y = (known E f'' y r'' S.root_at hy).some ky in
        let some_v = (known E f'' v r'' S.root_at P.there).some kv in
        -- y is not the body of slot z
        let apart : y.slot ≡ z.slot → ⊥ = λ e. omega (arith, ap (λ (i : Mark). length i.from) (slot_one S y z hy M.other e)) in
        -- nor is it at the place of u
        let other : v ≡ y → ⊥ = λ e.
        let fu : u.from ≡ x.from = P.from ∙ ap (λ (i : Mark). i.from) e ∙ sym ef in
        let same : u ≡ x = lone E f' r' R.root_at u x N.one M.one N.kinds.1 M.kinds.1 (rw fu (begins_self x.from)) (omega (arith, ap length fu, (known E f' u r' R.root_at N.one).some N.kinds.1)) in
        apart (sym N.slots.1 ∙ N.slots.0 ∙ ap (λ (i : Mark). i.slot) same ∙ sym M.slots.0 ∙ M.slots.1) in
        let C : Common t v = common_at P.from P.to N.left in
        elim (dec_le (length v.from) (length y.from)) [
          | yes a ↦
              let up = parted E f'' r'' S.root_at t v y P.there hy kv ky C N.right other a in
              lower shape fuel t u y v N P.there kv P.from P.to (omega arith) up
          | no a ↦
              let down = parted E f'' r'' S.root_at t y v hy P.there ky kv N.right C (λ e. other (sym e)) (omega arith) in
              let Y : Common m y = common_at ef et M.left in
              let one : m ≡ t = crossing E f r T m t y M.was N.was M.kinds.0 N.kinds.0 Y N.right (omega (arith, M.right.right, shared_left m.to z.to)) (omega (arith, C.right, shared_left t.to v.to)) in
              apart (sym N.slots.1 ∙ ap (λ (i : Mark). i.slot) (sym one) ∙ M.slots.1)
        ]
  ]
