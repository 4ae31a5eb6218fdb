-- Lists of children by what each byte's child is: what is looked up in one, that it ascends, how long it is as it is counted
-- byte by byte, and that an ascending list with the same look-ups is this one. Assumes nothing.
use Prim.Native.Nat.{ℕ, zero, suc, ◌+◌, ◌-◌, ◌*◌, ◌<◌, ◌≤◌}
use mathlib.Core.Path.{◌≡◌, refl, sym, ap, subst, ◌∙◌}
use mathlib.Core.List.{List, [], ◌∷◌}
use mathlib.Core.Option.{Option, none, some}
use mathlib.Core.Logic.{⊎_elim}
use native.Mathlib.Omega.{arith}
use native.Mathlib.Nat.{eq-or-lt_of_le}
use native.Mathlib.Numerals.{add-one}
use borrow.Author.Tests.{eq-eqb, ne_eqb}
use lib.ListN.{length}
use Rattle.layout.specs.Number.{le}
use Rattle.layout.specs.Place.{node256_children}
use Rattle.model.specs.Body.{Asc, look_kid, slot_or_none}
use Rattle.shape_inner.specs.Inner.{prepend, kids_from, in_use, child256}

-- ---- one look-up

pub look_same : (b : ℕ) (k : ℕ × ℕ) (ks : List (ℕ × ℕ)) → k.0 ≡ b → look_kid b (k ∷ ks) ≡ some k.1
unfolding look_kid
look_same b k ks e = rw (eq-eqb k.0 b e)

pub look_other : (b : ℕ) (k : ℕ × ℕ) (ks : List (ℕ × ℕ)) → (k.0 ≡ b → ⊥) → look_kid b (k ∷ ks) ≡ look_kid b ks
unfolding look_kid
look_other b k ks n = rw (ne_eqb k.0 b n)

-- below the first byte there is none
pub look_below : (b lo : ℕ) (ks : List (ℕ × ℕ)) → b < lo → Asc lo ks → look_kid b ks ≡ none
unfolding look_kid Asc
look_below b lo [] l a = refl
look_below b lo (k ∷ ks) l a =
    look_other b k ks (λ e. omega (arith, a.0)) ∙ look_below b (suc k.0) ks (omega (arith, a.0)) a.3

-- bytes from a lower one on
pub asc_from : (lo hi : ℕ) (ks : List (ℕ × ℕ)) → lo ≤ hi → Asc hi ks → Asc lo ks
unfolding Asc
asc_from lo hi [] l a = a
asc_from lo hi (k ∷ ks) l a = (omega (arith, a.0), a.1, a.2, a.3)

-- ---- a byte before others

look_prepend_other : (b lo : ℕ) (x : Option ℕ) (ks : List (ℕ × ℕ)) → (lo ≡ b → ⊥) → look_kid b (prepend lo x ks) ≡ look_kid b ks
unfolding prepend
look_prepend_other b lo none ks n = refl
look_prepend_other b lo (some c) ks n = look_other b (lo, c) ks n

look_prepend_same : (lo : ℕ) (x : Option ℕ) (ks : List (ℕ × ℕ)) → look_kid lo ks ≡ none → look_kid lo (prepend lo x ks) ≡ x
unfolding prepend
look_prepend_same lo none ks e = e
look_prepend_same lo (some c) ks e = look_same lo (lo, c) ks refl

asc_prepend : (lo : ℕ) (x : Option ℕ) (ks : List (ℕ × ℕ)) → lo < 256 → ((c : ℕ) → x ≡ some c → c < 4294967296) → Asc (suc lo) ks → Asc lo (prepend lo x ks)
unfolding prepend Asc
asc_prepend lo none ks l h a = asc_from lo (suc lo) ks (omega arith) a
asc_prepend lo (some c) ks l h a = (omega arith, l, h c refl, a)

-- ---- all bytes

-- every child is a number that fits its field
abbrev pub Small : (ℕ → Option ℕ) → Type 0
Small child = (b c : ℕ) → child b ≡ some c → c < 4294967296

module _ (child : ℕ → Option ℕ) where
  pub kids_asc : Small child → (lo n : ℕ) → lo + n ≤ 256 → Asc lo (kids_from child lo n)
  unfolding kids_from Asc
  kids_asc small lo zero l = tt
  kids_asc small lo (suc n) l =
      asc_prepend lo (child lo) (kids_from child (suc lo) n) (omega arith) (small lo) (kids_asc small (suc lo) n (omega arith))

  pub kids_look : Small child → (b lo n : ℕ) → lo ≤ b → b < lo + n → lo + n ≤ 256 → look_kid b (kids_from child lo n) ≡ child b
  unfolding kids_from
  kids_look small b lo zero x y z = absurd (omega arith)
  kids_look small b lo (suc n) x y z =
      let rest = kids_from child (suc lo) n in
      ⊎_elim
      (λ e. subst (λ (m : ℕ). look_kid m (prepend lo (child lo) rest) ≡ child m) e
      (look_prepend_same lo (child lo) rest (look_below lo (suc lo) rest (omega arith) (kids_asc small (suc lo) n (omega arith)))))
      (λ l. look_prepend_other b lo (child lo) rest (λ e. omega arith) ∙ kids_look small b (suc lo) n l (omega arith) (omega arith)) (eq-or-lt_of_le x)

  -- the list is the only ascending one with these look-ups
  pub kids_only : (lo n : ℕ) (ks : List (ℕ × ℕ)) → lo + n ≡ 256 → Asc lo ks → ((b : ℕ) → lo ≤ b → b < lo + n → child b ≡ look_kid b ks) → ks ≡ kids_from child lo n
  unfolding kids_from prepend Asc look_kid
  kids_only lo zero [] e a h = refl
  kids_only lo zero (k ∷ ks) e a h = absurd (omega (arith, a.0, a.1))
  kids_only lo (suc n) [] e a h =
      let c : child lo ≡ none = h lo (omega arith) (omega arith) in
      rw c (kids_only (suc lo) n [] (omega arith) tt (λ b x y. h b (omega arith) (omega arith)))
  kids_only lo (suc n) (k ∷ ks) e a h =
      ⊎_elim
      (λ q.
      let c : child lo ≡ some k.1 = h lo (omega arith) (omega arith) ∙ look_same lo k ks (sym q) in
      let p : k ≡ (lo, k.1) = ap (λ (b : ℕ). (b, k.1)) (sym q) in
      let rest = kids_only (suc lo) n ks (omega arith) (rw (← q) at a.3) (λ b x y. h b (omega arith) (omega arith) ∙ look_other b k ks (λ z. omega arith)) in
      rw c (cc))
      (λ l.
      let c : child lo ≡ none = h lo (omega arith) (omega arith) ∙ look_below lo (suc lo) (k ∷ ks) (omega arith) (l, a.1, a.2, a.3) in
      rw c (kids_only (suc lo) n (k ∷ ks) (omega arith) (l, a.1, a.2, a.3) (λ b x y. h b (omega arith) (omega arith))))
      (eq-or-lt_of_le a.0)

  -- ---- counted byte by byte

  -- the children found before b are `used` in number
  abbrev pub Counted : ℕ → ℕ → Type 0
  Counted b used = used + length (kids_from child b (256 - b)) ≡ length (kids_from child 0 256)

  count_none : (b n m : ℕ) → n ≡ m + 1 → child b ≡ none → length (kids_from child b n) ≡ length (kids_from child (b + 1) m)
  unfolding kids_from prepend
  count_none b n m e c = rw (e, add-one m, add-one b, c) refl

  count_some : (b n m x : ℕ) → n ≡ m + 1 → child b ≡ some x → length (kids_from child b n) ≡ length (kids_from child (b + 1) m) + 1
  unfolding kids_from prepend
  count_some b n m x e c = rw (e, add-one m, add-one b, c) (omega arith)

  -- one byte more: its child is x, or named by x, and there is none where x is 0
  pub counted_more : (b used x c : ℕ) → b < 256 → (x ≡ 0 → child b ≡ none) → ((x ≡ 0 → ⊥) → child b ≡ some c) → Counted b used → Counted (b + 1) (used + in_use x)
  unfolding in_use
  counted_more b used zero c l n s h = omega (arith, count_none b (256 - b) (256 - (b + 1)) (omega arith) (n refl))
  counted_more b used (suc x) c l n s h = omega (arith, count_some b (256 - b) (256 - (b + 1)) c (omega arith) (s (λ e. omega arith)))

  kids_end : (b n : ℕ) → n ≡ 0 → length (kids_from child b n) ≡ 0
  unfolding kids_from
  kids_end b n e = rw e refl

  pub counted_end : (b used : ℕ) → b ≡ 256 → Counted b used → used ≡ length (kids_from child 0 256)
  counted_end b used e h = omega (arith, kids_end b (256 - b) (omega arith))

-- ---- a child or an entry in use

pub in_use_zero : (x : ℕ) → x ≡ 0 → 0 ≡ in_use x
unfolding in_use
in_use_zero x e = rw e refl

pub in_use_other : (x : ℕ) → (x ≡ 0 → ⊥) → 1 ≡ in_use x
unfolding in_use
in_use_other zero n = absurd (n refl)
in_use_other (suc x) n = refl

pub in_use_one : (x : ℕ) → in_use x ≤ 1
unfolding in_use
in_use_one zero = omega arith
in_use_one (suc x) = omega arith

-- ---- a Node256, child by child

slot_none : (s : ℕ) → s ≡ 0 → slot_or_none s ≡ none
unfolding slot_or_none
slot_none s e = rw e refl

slot_some : (s : ℕ) → (s ≡ 0 → ⊥) → slot_or_none s ≡ some s
unfolding slot_or_none
slot_some zero n = absurd (n refl)
slot_some (suc s) n = refl

pub direct_more : (f : List ℕ) (o b used : ℕ) → b < 256 → Counted (child256 f o) b used → Counted (child256 f o) (b + 1) (used + in_use (le 4 f (o + node256_children + 4 * b)))
direct_more f o b used l =
    let s = le 4 f (o + node256_children + 4 * b) in
    counted_more (child256 f o) b used s s l (slot_none s) (slot_some s)
