-- The entry of a key in a frame, the first entry that is left of a listing, and a page of them.
use Rattle.std.specs.Prelude.{ℕ, ◌+◌, ◌<◌, ◌≤◌, ◌≡◌, List, [], ◌∷◌, ◌++◌, true, false, length, take, drop, get_or, eqb, Option as Optional, Some, None, MatchOption, Result}
use Rattle.std.specs.Borrow.{Bor}
use Rattle.std.proofs.Math.Option.{Option, none, some}
use Rattle.answers.specs.declared.Page.{Page}
use Rattle.answers.specs.declared.Refusal.{Refusal}
use Rattle.answers.specs.Number.{done_number, list_count, list_more}
use Rattle.model.specs.Strings.{pick}
use Rattle.model.specs.Edition.{Edition, Legal}
use Rattle.model.specs.Records.{Record, records}
use Rattle.model.specs.Frame.{Lay, slot_of, art, Tree}
use Rattle.listing.specs.Listing.{begins, upto, entry_for, names, after_start, page, start_fault, Gave}
use Rattle.listing.specs.Seek.{Guides}
use Rattle.listing.specs.Bound.{tail_up, tail_for, above}
use Rattle.names.specs.declared.entry.Cut.{Cut}
use Rattle.names.specs.declared.entry.Entry.{Entry}

-- what is asked for, as the definitions of a listing take it
abbrev pub maybe : {A : Type 0} → Optional A → Option A
maybe None = none
maybe (Some x) = some x

abbrev pub started : Optional (Bor (List ℕ)) → Option (List ℕ)
started None = none
started (Some s) = some s.now

-- none of the first n bytes of w is d
abbrev pub Free : List ℕ → ℕ → ℕ → Type 0
Free w d n = (i : ℕ) → i < n → get_or w i 0 ≡ d → ⊥

-- n bytes stand before the first byte d of w
pub record Stops (w : List ℕ) (d n : ℕ) : Type 0 where
  pub inside : n < length w
  pub is : get_or w n 0 ≡ d
  pub free : Free w d n

abbrev pub Delimited : List ℕ → ℕ → Optional ℕ → Type 0
Delimited w d r = MatchOption r (Free w d (length w)) (Stops w d)

-- of a key, past its first bytes: the text up to and including the first delimiter, and what stands behind it in its bound
pub record CutAt (k : List ℕ) (from : ℕ) (d : Option ℕ) (r : Cut) : Type 0 where
  pub low : from ≤ r.long
  pub high : r.long ≤ length k
  pub text : take r.long k ≡ take from k ++ upto d (drop from k)
  pub tail : r.tail ≡ tail_up d (drop from k)

-- the entry of a key that begins with the prefix, as bytes of the frame
pub record CutOut (f p : List ℕ) (d : Option ℕ) (k : List ℕ) (r : Entry) : Type 0 where
  pub matches : begins p k ≡ true
  pub inside : r.at + r.long ≤ length f
  pub text : take r.long (drop r.at f) ≡ entry_for d p k
  pub tail : r.tail ≡ tail_for d p k

-- there is one if the key begins with the prefix
pub record OfKey (f p : List ℕ) (d : Option ℕ) (k : List ℕ) (r : Optional Entry) : Type 0 where
  pub is : MatchOption r (begins p k ≡ false) (CutOut f p d k)

-- the first of the entries that are left, as bytes of the frame: it matches, is its own entry with its own bound, and those after it are left then
pub record Heads (E : Edition) (f p : List ℕ) (d : Option ℕ) (rs : List Record) (left : List (List ℕ)) (r : Entry) : Type 0 where
  pub text : List ℕ
  pub inside : r.at + r.long ≤ length f
  pub is : take r.long (drop r.at f) ≡ text
  pub legal : Legal E text
  pub matches : begins p text ≡ true
  pub own : entry_for d p text ≡ text
  pub tail : r.tail ≡ tail_for d p text
  pub first : left ≡ text ∷ after_start (some text) (names d p rs)

-- or none is left
pub record Next (E : Edition) (f p : List ℕ) (d : Option ℕ) (rs : List Record) (left : List (List ℕ)) (r : Optional Entry) : Type 0 where
  pub is : MatchOption r (left ≡ []) (Heads E f p d rs left)

-- from the bound of g and t on, which begins with the prefix: if the keys at or above it give just the entries after s, the first of these
abbrev pub EntryFrom : Edition → List ℕ → ℕ → List ℕ → Option ℕ → List ℕ → ℕ → Optional Entry → Type 0
EntryFrom E f root p d g t r = (path : List ℕ) (l : Lay) → Tree E f path l → slot_of l ≡ root → begins p g ≡ true → (s : Option (List ℕ))
    → names d p (above g t (records (art l))) ≡ after_start s (names d p (records (art l))) → Next E f p d (records (art l)) (after_start s (names d p (records (art l)))) r

-- a start key that is legal, or none
abbrev pub StartGood : Edition → Option (List ℕ) → Type 0
StartGood E s = start_fault E s ≡ 0

abbrev pub FirstEntry : Edition → List ℕ → ℕ → List ℕ → Option (List ℕ) → Option ℕ → Optional Entry → Type 0
FirstEntry E f root p s d r = (path : List ℕ) (l : Lay) → Tree E f path l → slot_of l ≡ root → Next E f p d (records (art l)) (after_start s (names d p (records (art l)))) r

abbrev pub PageAt : Edition → List ℕ → ℕ → List ℕ → Option (List ℕ) → Option ℕ → List ℕ → Result Page Refusal → List ℕ → Type 0
PageAt E f root p s d b r b' = (path : List ℕ) (l : Lay) → Tree E f path l → slot_of l ≡ root
    → Gave (page (length b) (after_start s (names d p (records (art l))))) b (done_number r) (list_count r) (list_more r) b'

-- ---- what guides a seek, spelt out in a lent word: in edition 2 only, where a walked string may take up to 512 bytes

abbrev pub word_room : Edition → ℕ
word_room E = pick (eqb E.number 2) 512 0

abbrev pub chosen_of : Edition → List ℕ → List ℕ → List ℕ
chosen_of E g w = pick (eqb E.number 2) w g

pub record SpeltBound (E : Edition) (g : List ℕ) (t : ℕ) (w : List ℕ) (n : ℕ) : Type 0 where
  pub inside : n ≤ length w
  pub guides : Guides E g t (chosen_of E g (take n w))
