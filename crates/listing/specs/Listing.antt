-- "Names in order" (document 02, Q-1): what a listing writes and gives, as a function of the set of records, and what the call promises.
use Rattle.std.specs.Prelude.{ℕ, suc, ◌+◌, ◌-◌, ◌≡◌, List, [], ◌∷◌, ◌++◌, Bool, true, false, length, take, drop, ltb, leb, eqb}
use Rattle.std.proofs.Math.Option.{Option, none, some}
use Rattle.model.specs.Strings.{pick, same, before}
use Rattle.model.specs.Edition.{Edition}
use Rattle.model.specs.Records.{Record, records_of}
use Rattle.model.specs.State.{State}
use Rattle.model.specs.Image.{digits}
use Rattle.model.specs.Frame.{Stands}
use Rattle.model.specs.Promise.{Told}

-- ---- "a prefix (0 to 112 bytes) and a key to start after (or none) .. With a delimiter byte"

-- how a caller says "(or none)": a key that is not given, a delimiter that is no byte
abbrev pub start_of : Bool → List ℕ → Option (List ℕ)
start_of given s = pick given (some s) none

abbrev pub delimiter_of : ℕ → Option ℕ
delimiter_of d = pick (ltb d 256) (some d) none

-- ---- which names match, and what each gives

-- a key begins with the prefix; a key that is the prefix does
abbrev pub begins : List ℕ → List ℕ → Bool
begins [] k = true
begins (x ∷ p) [] = false
begins (x ∷ p) (y ∷ k) = pick (eqb x y) (begins p k) false

-- "the text up to and including the first delimiter"; all of it where there is none
abbrev pub upto : Option ℕ → List ℕ → List ℕ
upto none k = k
upto (some d) [] = []
upto (some d) (x ∷ k) = pick (eqb x d) (x ∷ []) (x ∷ upto (some d) k)

-- the entry that a matching key gives: "the first delimiter after the prefix", so the prefix's own bytes are passed over
abbrev pub entry_for : Option ℕ → List ℕ → List ℕ → List ℕ
entry_for d [] k = upto d k
entry_for d (x ∷ p) [] = []
entry_for d (x ∷ p) (y ∷ k) = y ∷ entry_for d p k

-- "all keys that share the text .. give one entry": keys in byte order, so those of one entry follow one another
abbrev pub add_name : List ℕ → List (List ℕ) → List (List ℕ)
add_name e [] = e ∷ []
add_name e (x ∷ es) = pick (same e x) (x ∷ es) (e ∷ x ∷ es)

abbrev pub names : Option ℕ → List ℕ → List Record → List (List ℕ)
names d p [] = []
names d p (r ∷ rs) = pick (begins p r.key) (add_name (entry_for d p r.key) (names d p rs)) (names d p rs)

-- "an entry is listed only if it sorts after the start key"
abbrev pub after_start : Option (List ℕ) → List (List ℕ) → List (List ℕ)
after_start none es = es
after_start (some s) [] = []
after_start (some s) (e ∷ es) = pick (before s e) (e ∷ after_start (some s) es) (after_start (some s) es)

-- ---- a page

-- "as many whole ones as fit": how many of the first entries, each with its two-byte length, go into so many bytes
abbrev pub fitting : ℕ → List (List ℕ) → ℕ
fitting room [] = 0
fitting room (e ∷ es) = let on = fitting (room - (2 + length e)) es in pick (leb (2 + length e) room) (suc on) 0

-- "each with a two-byte length before it"
abbrev pub laid : List (List ℕ) → List ℕ
laid [] = []
laid (e ∷ es) = digits 2 (length e) ++ e ++ laid es

-- the number, "how many and whether more remain" (0 or 1), and what is written at the buffer's start
pub record Listed : Type 0 where
  pub number : ℕ
  pub count : ℕ
  pub more : ℕ
  pub text : List ℕ

abbrev pub refused_as : ℕ → Listed
refused_as n = record { number = n; count = 0; more = 0; text = [] }

abbrev pub written : ℕ → List (List ℕ) → Listed
written n es = record { number = 0; count = n; more = pick (ltb n (length es)) 1 0; text = laid (take n es) }

-- "A buffer too small for the first key gets a new refusal, 10": of some entries the first does not fit
abbrev pub page : ℕ → List (List ℕ) → Listed
page room [] = written 0 []
page room (e ∷ es) = let n = fitting room (e ∷ es) in pick (eqb n 0) (refused_as 10) (written n (e ∷ es))

-- the most bytes of a prefix: those of a key; of edition 2 (Q-7) "a listing's prefix: above 255"
abbrev pub prefix_limit : Edition → ℕ
prefix_limit E = pick (eqb E.number 2) 255 112

-- "The start key is held to 3 and 4, the prefix to its length only (3)."
abbrev pub prefix_fault : Edition → List ℕ → ℕ
prefix_fault E p = pick (ltb (prefix_limit E) (length p)) 3 0

abbrev pub start_fault : Edition → Option (List ℕ) → ℕ
start_fault E none = 0
start_fault E (some s) = E.key_fault s

-- "10 stands last in the order"
abbrev pub listing : Edition → List Record → List ℕ → Option (List ℕ) → Option ℕ → ℕ → Listed
listing E rs p s d room =
    pick (eqb (prefix_fault E p) 0)
    (pick (eqb (start_fault E s) 0) (page room (after_start s (names d p rs))) (refused_as (start_fault E s)))
    (refused_as (prefix_fault E p))

-- what a call gave is the listing l, and what it left of the buffer b: "Bytes past the entries written are unchanged."
pub record Gave (l : Listed) (b : List ℕ) (n count more : ℕ) (b' : List ℕ) : Type 0 where
  pub number_is : n ≡ l.number
  pub count_is : count ≡ l.count
  pub more_is : more ≡ l.more
  pub buffer : b' ≡ l.text ++ drop (length l.text) b

-- What a listing promises: of the frame f, the prefix p, the start key s, the delimiter d and the lent buffer b it gives the number n, how many
-- and whether more remain, and leaves b' in the buffer. The frame is only read.
pub record ListPromise (E : Edition) (f p : List ℕ) (s : Option (List ℕ)) (d : Option ℕ) (b : List ℕ) (n count more : ℕ) (b' : List ℕ) : Type 0 where
  pub told : Told E f n
  pub refused : (n ≡ 0 → ⊥) → (count ≡ 0) × (more ≡ 0) × (b' ≡ b)
  pub listed : (st : State) → Stands E f st → Gave (listing E (records_of st.tree) p s d (length b)) b n count more b'
