-- What the code finds of a batch, test by test: a change that is sound or is not, what is left of the changes, the worked layouts. Assumes nothing.
use Prim.Native.Nat.{ℕ, zero, suc, ◌+◌, ◌-◌, ◌<◌, ◌≤◌}
use mathlib.Core.Path.{◌≡◌, refl, sym, ap, ◌∙◌}
use mathlib.Core.List.{List}
use mathlib.Core.Bool.{Bool, true, false, not}
use mathlib.Core.Option.{Option, none, some}
use native.Mathlib.Omega.{arith}
use native.Mathlib.Numerals.{add-one}
use lib.ListN.{length}
use lib.Dec.{eqb}
use borrow.Author.Tests.{le-leb, lt-leb, not-true, not-false}
use Rattle.layout.specs.Number.{le}
use Rattle.model.specs.Edition.{Edition, edition_of}
use Rattle.model.specs.Call.{Call}
use Rattle.model.proofs.StringLaws.{bool_cases, leb_cases, clash}
use Rattle.batch.specs.Layout.{count_in, count_size, offset_at, offset_of, at_stamp, at_key, stamp_at, kind_at, end_of, Numbered, known, call_at, sound, also, changes_from, changes_of, laid}
use Rattle.batch.specs.declared.laid.Change.{Change}
use Rattle.batch.specs.declared.laid.Change.TheVariants as change
use Rattle.batch.specs.declared.laid.Unknown.{Unknown}
use Rattle.std.specs.Prelude.{Result, Ok, Err}
use Rattle.std.specs.Result.{is_ok}
use Rattle.batch.specs.Layouts.{Layouts}

pub layouts : Layouts
unfolding edition_of le sound at_key stamp_at
layouts = record { stamps = refl; stampless = refl; plain = refl; empty = refl; short = refl; outside = refl; large = refl; in_header = refl; past = refl; kind4 = refl; key_past = refl; empty_key = refl }

-- ---- by the edition

-- ---- one change

-- what the code says of a kind
pub known_told : (n : ℕ) (r : Result Change Unknown) → Numbered n r → is_ok r ≡ known n
known_told n (Ok change.Put) e = rw e refl
known_told n (Ok change.Replacement) e = rw e refl
known_told n (Ok change.Erase) e = rw e refl
known_told n (Err u) e = sym e

module _ (E : Edition) (b : List ℕ) (lo o : ℕ) where
  pub before : o < lo → false ≡ sound E b lo o
  unfolding sound
  before h = rw (lt-leb lo o h) refl

  pub headless : lo ≤ o → length b < o + at_key E → false ≡ sound E b lo o
  unfolding sound
  headless h g = rw (le-leb lo o h, lt-leb (o + at_key E) (length b) g) refl

  pub endless : lo ≤ o → o + at_key E ≤ length b → length b < end_of E b o → false ≡ sound E b lo o
  unfolding sound
  endless h g l = rw (le-leb lo o h, le-leb (o + at_key E) (length b) g, lt-leb (end_of E b o) (length b) l) refl

  pub of_kind : lo ≤ o → o + at_key E ≤ length b → end_of E b o ≤ length b → known (kind_at b o) ≡ sound E b lo o
  unfolding sound
  of_kind h g l = rw (le-leb lo o h, le-leb (o + at_key E) (length b) g, le-leb (end_of E b o) (length b) l) refl

  -- what a sound change has
  pub record Sound : Type 0 where
    pub low : lo ≤ o
    pub head : o + at_key E ≤ length b
    pub ends : end_of E b o ≤ length b
    pub kind : known (kind_at b o) ≡ true

  pub sound_has : sound E b lo o ≡ true → Sound
  unfolding sound
  sound_has e = leb_cases lo o
      (λ t h. leb_cases (o + at_key E) (length b)
      (λ u g. leb_cases (end_of E b o) (length b)
      (λ v l. record { low = h; head = g; ends = l; kind = rw (t, u, v) at e })
      (λ v l. let z : false ≡ true = rw (t, u, v) at e in clash (cc)))
      (λ u g. let z : false ≡ true = rw (t, u) at e in clash (cc)))
      (λ t h. let z : false ≡ true = rw t at e in clash (cc))

  pub passed : {r : Bool} → r ≡ sound E b lo o → not r ≡ false → Sound
  passed {r} test t = sound_has (sym test ∙ not-false r t)

-- by the code's own test of the change at the offset that it has read
module _ (E : Edition) (b : List ℕ) (lo i o : ℕ) {r : Bool} (at : o ≡ offset_of b i) (test : r ≡ sound E b lo o) where
  pub sound_not : not r ≡ true → sound E b lo (offset_of b i) ≡ false
  sound_not t = rw at at (sym test ∙ not-true r t)

  pub sound_is : not r ≡ false → sound E b lo (offset_of b i) ≡ true
  sound_is t = rw at at (sym test ∙ not-false r t)

-- ---- what is left

also_laid : (c : Call) (x : Option (List Call)) → laid (also c x) ≡ laid x
also_laid c none = refl
also_laid c (some cs) = refl

module _ (E : Edition) (b : List ℕ) (n i lo : ℕ) where
  pub left_more : (m : ℕ) → n ≡ m + 1 → sound E b lo (offset_of b i) ≡ true → laid (changes_from E b n i lo) ≡ laid (changes_from E b m (i + 1) (end_of E b (offset_of b i)))
  left_more m e h = rw (e, add-one m, h) (also_laid (call_at E b (offset_of b i)) (changes_from E b m (i + 1) (end_of E b (offset_of b i))))

  pub left_bad : 1 ≤ n → sound E b lo (offset_of b i) ≡ false → laid (changes_from E b n i lo) ≡ false
  left_bad h e = go n h
    where
      go : (n : ℕ) → 1 ≤ n → laid (changes_from E b n i lo) ≡ false
      go zero h = absurd (omega arith)
      go (suc n) h = rw e refl

  pub left_none : n ≡ 0 → laid (changes_from E b n i lo) ≡ true
  left_none e = rw e refl

-- one change on
pub on : (E : Edition) (b : List ℕ) (n i low o low' : ℕ) → i < n → o ≡ offset_of b i → sound E b low (offset_of b i) ≡ true → low' ≡ end_of E b o
    → laid (changes_from E b (n - i) i low) ≡ laid (changes_from E b (n - (i + 1)) (i + 1) low')
on E b n i low o low' h at s e = rw (e, at) (left_more E b (n - i) i low (n - (i + 1)) (omega arith) s)

-- ---- the header

module _ (E : Edition) (b : List ℕ) where
  pub countless : length b < count_size → false ≡ laid (changes_of E b)
  countless h = rw (lt-leb count_size (length b) h) refl

  pub offsetless : count_size ≤ length b → length b < offset_at (count_in b) → false ≡ laid (changes_of E b)
  offsetless h g = rw (le-leb count_size (length b) h, lt-leb (offset_at (count_in b)) (length b) g) refl

  pub headed_is : count_size ≤ length b → offset_at (count_in b) ≤ length b → changes_of E b ≡ changes_from E b (count_in b) 0 (offset_at (count_in b))
  headed_is h g = rw (le-leb count_size (length b) h, le-leb (offset_at (count_in b)) (length b) g) refl

  pub first : (n low : ℕ) → n ≡ count_in b → low ≡ offset_at n → count_size ≤ length b → low ≤ length b → laid (changes_of E b) ≡ laid (changes_from E b (n - 0) 0 low)
  first n low e d h g =
      let z : n - 0 ≡ count_in b = omega arith in
      let y : low ≡ offset_at (count_in b) = omega arith in
      rw (z, y) (ap laid (headed_is h (omega arith)))
