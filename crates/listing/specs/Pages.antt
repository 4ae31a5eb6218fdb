-- "Every matching name appears once over the pages if the frame isn't changed between them": entries read back from a buffer, and a sequence of
-- pages, each started after the last entry of the one before.
use Rattle.std.specs.Prelude.{ℕ, zero, suc, ◌+◌, ◌≡◌, List, [], ◌∷◌, ◌++◌, Bool, true, false, take, drop}
use Rattle.std.proofs.Math.Option.{Option, some}
use Rattle.layout.specs.Number.{le}
use Rattle.model.specs.Strings.{pick, same, before}
use Rattle.model.specs.Edition.{Edition}
use Rattle.listing.specs.Listing.{ListPromise}

-- ---- entries

-- strictly ascending, so that none stands twice
abbrev pub Over : List ℕ → List (List ℕ) → Type 0
Over e [] = Unit {0}
Over e (x ∷ es) = (before e x ≡ true) × Over e es

abbrev pub Rising : List (List ℕ) → Type 0
Rising [] = Unit {0}
Rising (e ∷ es) = Over e es × Rising es

abbrev pub among : List ℕ → List (List ℕ) → Bool
among e [] = false
among e (x ∷ es) = pick (same e x) true (among e es)

abbrev pub last_of : List (List ℕ) → List ℕ
last_of [] = []
last_of (e ∷ []) = e
last_of (e ∷ x ∷ es) = last_of (x ∷ es)

-- the first n entries of a buffer, "each with a two-byte length before it"
abbrev pub entries_in : ℕ → List ℕ → List (List ℕ)
entries_in zero b = []
entries_in (suc n) b = let m = le 2 b 0 in take m (drop 2 b) ∷ entries_in n (drop (2 + m) b)

-- ---- pages

-- a call that was not refused: the buffer before and after, how many, and whether more remain
pub record Page : Type 0 where
  pub buffer : List ℕ
  pub count : ℕ
  pub more : ℕ
  pub after : List ℕ

abbrev pub entries : Page → List (List ℕ)
entries g = entries_in g.count g.after

-- pages of one frame, prefix and delimiter, the first after the start key s, each next one after the last entry of the one before, to the
-- end: more remain after each but the last
abbrev pub Pages : Edition → List ℕ → List ℕ → Option (List ℕ) → Option ℕ → List Page → Type 0
Pages E f p s d [] = ⊥
Pages E f p s d (g ∷ []) = ListPromise E f p s d g.buffer 0 g.count g.more g.after × (g.more ≡ 0)
Pages E f p s d (g ∷ h ∷ gs) = ListPromise E f p s d g.buffer 0 g.count g.more g.after × (g.more ≡ 1) × Pages E f p (some (last_of (entries g))) d (h ∷ gs)

abbrev pub glued : List Page → List (List ℕ)
glued [] = []
glued (g ∷ gs) = entries g ++ glued gs
