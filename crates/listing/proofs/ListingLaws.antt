-- Names ascend, so that each stands once, and a page's last entry as the next start key gives exactly what is left. Assumes nothing.
use Prim.Native.Nat.{ℕ, zero, suc, ◌<◌}
use native.Mathlib.Omega.{arith}
use mathlib.Core.Path.{◌≡◌, refl, ap, sym, ◌∙◌}
use mathlib.Core.List.{List, [], ◌∷◌}
use mathlib.Core.Bool.{true, false}
use mathlib.Core.Option.{Option, none, some}
use mathlib.Core.Logic.{◌⊎◌, inl, inr}
use lib.ListN.{length, take, drop}
use lib.Dec.{eqb}
use borrow.Author.Tests.{lt-ltb, le-ltb, eq-eqb}
use Rattle.model.specs.Strings.{same, before}
use Rattle.model.specs.Records.{Record, AllKeys, Ahead, Ascending}
use Rattle.model.proofs.StringLaws.{bool_cases, eqb_cases, ltb_cases, clash, same_refl, same_true, before_trans, before_asym}
use Rattle.listing.specs.Listing.{begins, upto, entry_for, add_name, names, after_start}
use Rattle.listing.specs.Pages.{Over, Rising, last_of}

-- ---- entries keep the order of their keys

abbrev pub NotAfter : List ℕ → List ℕ → Type 0
NotAfter x y = (x ≡ y) ⊎ (before x y ≡ true)

-- one byte more in front
lift : (x y : ℕ) (k l : List ℕ) → x ≡ y → NotAfter k l → NotAfter (x ∷ k) (y ∷ l)
lift x y k l q (inl e) = inl (cc)
lift x y k l q (inr e) = inr (rw (le-ltb x y (omega arith), eq-eqb x y q) e)

parts : {G : Type 0} (x y : ℕ) (k l : List ℕ) → before (x ∷ k) (y ∷ l) ≡ true → (x < y → G) → (x ≡ y → before k l ≡ true → G) → G
parts x y k l e f g = ltb_cases x y
    (λ t o. f o)
    (λ t o. eqb_cases x y (λ u q. g q (rw (t, u) at e)) (λ u n. clash (let z = rw (t, u) at e in cc)))

less : (x y : ℕ) (k l : List ℕ) → x < y → before (x ∷ k) (y ∷ l) ≡ true
less x y k l o = rw (lt-ltb x y o)

upto_mono : (d : Option ℕ) (k l : List ℕ) → before k l ≡ true → NotAfter (upto d k) (upto d l)
upto_mono none k l e = inr e
upto_mono (some d) [] [] e = clash (cc)
upto_mono (some d) [] (y ∷ l) e = inr (bool_cases (eqb y d) (λ t. rw t) (λ t. rw t))
upto_mono (some d) (x ∷ k) [] e = clash (cc)
upto_mono (some d) (x ∷ k) (y ∷ l) e = let on = upto_mono (some d) k l in parts x y k l e
    (λ o. inr (bool_cases (eqb x d)
    (λ t. bool_cases (eqb y d) (λ u. rw (t, u) (less x y [] [] o)) (λ u. rw (t, u) (less x y [] (upto (some d) l) o)))
    (λ t. bool_cases (eqb y d) (λ u. rw (t, u) (less x y (upto (some d) k) [] o)) (λ u. rw (t, u) (less x y (upto (some d) k) (upto (some d) l) o)))))
    (λ q b. bool_cases (eqb x d)
    (λ t. let u : eqb y d ≡ true = rw (← q) t in rw (t, u) (inl (cc)))
    (λ t. let u : eqb y d ≡ false = rw (← q) t in rw (t, u) (lift x y (upto (some d) k) (upto (some d) l) q (on b))))

entry_mono : (d : Option ℕ) (p k l : List ℕ) → before k l ≡ true → begins p k ≡ true → begins p l ≡ true → NotAfter (entry_for d p k) (entry_for d p l)
entry_mono d [] k l e f g = upto_mono d k l e
entry_mono d (a ∷ p) [] l e f g = clash (cc)
entry_mono d (a ∷ p) (x ∷ k) [] e f g = clash (cc)
entry_mono d (a ∷ p) (x ∷ k) (y ∷ l) e f g = eqb_cases a x
    (λ t q. eqb_cases a y
    (λ u r. parts x y k l e
    (λ o. absurd (omega arith))
    (λ s b. lift x y (entry_for d p k) (entry_for d p l) s (entry_mono d p k l b (rw t at f) (rw u at g))))
    (λ u n. clash (let z = rw u at g in cc)))
    (λ t n. clash (let z = rw t at f in cc))

-- ---- names ascend

-- e is not after the first of a list
abbrev pub First : List ℕ → List (List ℕ) → Type 0
First e [] = Unit {0}
First e (x ∷ es) = NotAfter e x

over_more : (e x : List ℕ) (es : List (List ℕ)) → before e x ≡ true → Over x es → Over e es
over_more e x [] h o = tt
over_more e x (y ∷ es) h o = (before_trans e x y h o.0, over_more e x es h o.1)

-- what is not the same and not after stands before
strict : (e x : List ℕ) → same e x ≡ false → NotAfter e x → before e x ≡ true
strict e x t (inl q) = clash (let z : same e e ≡ false = rw (← q) at t in let y = same_refl e in cc)
strict e x t (inr b) = b

add_rising : (e : List ℕ) (es : List (List ℕ)) → First e es → Rising es → Rising (add_name e es)
add_rising e [] h r = (tt, tt)
add_rising e (x ∷ es) h r = bool_cases (same e x)
    (λ t. rw t r)
    (λ t. let b = strict e x t h in rw t ((b, over_more e x es b r.0), r))

add_first : (e x : List ℕ) (es : List (List ℕ)) → NotAfter e x → First e (add_name x es)
add_first e x [] h = h
add_first e x (y ∷ es) h = bool_cases (same x y)
    (λ t. let q = same_true x y t in rw t (rw q at h))
    (λ t. rw t h)

module _ (d : Option ℕ) (p : List ℕ) where
  pub names_first : (k : List ℕ) (rs : List Record) → begins p k ≡ true → AllKeys (Ahead k) rs → First (entry_for d p k) (names d p rs)
  names_first k [] f h = tt
  names_first k (r ∷ rs) f h = bool_cases (begins p r.key)
      (λ t. rw t (add_first (entry_for d p k) (entry_for d p r.key) (names d p rs) (entry_mono d p k r.key h.0.fore f t)))
      (λ t. rw t (names_first k rs f h.1))

  -- "Every matching name appears once"
  pub names_rising : (rs : List Record) → Ascending rs → Rising (names d p rs)
  names_rising [] h = tt
  names_rising (r ∷ rs) h = bool_cases (begins p r.key)
      (λ t. rw t (add_rising (entry_for d p r.key) (names d p rs) (names_first r.key rs t h.0) (names_rising rs h.1)))
      (λ t. rw t (names_rising rs h.1))

-- ---- pages

over_start : (s e : List ℕ) (es : List (List ℕ)) → Over e es → Over e (after_start (some s) es)
over_start s e [] o = tt
over_start s e (x ∷ es) o = bool_cases (before s x) (λ t. rw t (o.0, over_start s e es o.1)) (λ t. rw t (over_start s e es o.1))

pub start_rising : (s : Option (List ℕ)) (es : List (List ℕ)) → Rising es → Rising (after_start s es)
start_rising none es r = r
start_rising (some s) [] r = tt
start_rising (some s) (e ∷ es) r = bool_cases (before s e)
    (λ t. rw t (over_start s e es r.0, start_rising (some s) es r.1))
    (λ t. rw t (start_rising (some s) es r.1))

-- all of a list that stands above s is after s
above_all : (s : List ℕ) (es : List (List ℕ)) → Over s es → after_start (some s) es ≡ es
above_all s [] o = refl
above_all s (e ∷ es) o = rw o.0 (ap (λ (xs : List (List ℕ)). e ∷ xs) (above_all s es o.1))

not_back : (x y : List ℕ) → before x y ≡ true → before y x ≡ false
not_back x y h = bool_cases (before y x) (λ t. before_asym x y h t) (λ t. t)

not_self : (x : List ℕ) → before x x ≡ false
not_self x = bool_cases (before x x) (λ t. before_asym x x t t) (λ t. t)

last_over : (e : List ℕ) (n : ℕ) (es : List (List ℕ)) → Over e es → n < length es → before e (last_of (take (suc n) es)) ≡ true
last_over e n [] o h = absurd (omega arith)
last_over e zero (x ∷ es) o h = o.0
last_over e (suc n) (x ∷ []) o h = absurd (omega arith)
last_over e (suc n) (x ∷ y ∷ es) o h = last_over e n (y ∷ es) o.1 (omega arith)

-- what stands after the last of the first n + 1
past_last : (n : ℕ) (es : List (List ℕ)) → Rising es → n < length es → after_start (some (last_of (take (suc n) es))) es ≡ drop (suc n) es
past_last n [] r h = absurd (omega arith)
past_last zero (x ∷ es) r h = rw (not_self x) (above_all x es r.0)
past_last (suc n) (x ∷ []) r h = absurd (omega arith)
past_last (suc n) (x ∷ y ∷ es) r h =
    let b = last_over x n (y ∷ es) r.0 (omega arith) in
    rw (not_back x (last_of (take (suc n) (y ∷ es))) b) (past_last n (y ∷ es) r.1 (omega arith))

-- a later start key has the last word
start_twice : (s t : List ℕ) (es : List (List ℕ)) → before s t ≡ true → after_start (some t) (after_start (some s) es) ≡ after_start (some t) es
start_twice s t [] h = refl
start_twice s t (e ∷ es) h = let on = start_twice s t es h in bool_cases (before t e)
    (λ u. let v = before_trans s t e h u in rw (v, u) (ap (λ (xs : List (List ℕ)). e ∷ xs) on))
    (λ u. bool_cases (before s e) (λ v. rw (v, u) on) (λ v. rw (v, u) on))

-- every entry after s is after s
start_over : (s : List ℕ) (es : List (List ℕ)) → Over s (after_start (some s) es)
start_over s [] = tt
start_over s (e ∷ es) = bool_cases (before s e) (λ t. rw t (t, start_over s es)) (λ t. rw t (start_over s es))

-- the pages: the last entry of a page of one entry or more, fed as the next start key, gives exactly what the page left
pub page_next : (s : Option (List ℕ)) (es : List (List ℕ)) (n : ℕ) → Rising es → n < length (after_start s es)
    → after_start (some (last_of (take (suc n) (after_start s es)))) es ≡ drop (suc n) (after_start s es)
page_next none es n r h = past_last n es r h
page_next (some s) es n r h =
    let a = after_start (some s) es in
    let l = last_of (take (suc n) a) in
    sym (start_twice s l es (last_over s n a (start_over s es) h)) ∙ past_last n a (start_rising (some s) es r) h
