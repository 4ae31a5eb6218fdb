-- What a line does in the session, and the answer that is written (document 01, end of "Worked frames"). The frame in use is the
-- first `long` bytes of a buffer; there is none before the first `f` that is not refused, and `long` is then None.
use Rattle.std.specs.Prelude.{ℕ, ◌<◌, ◌≤◌, ◌≡◌, List, [], ◌∷◌, ◌++◌, Option, Some, None, cond, length, take, drop, eqb}
use Rattle.layout.specs.Number.{le}
use Rattle.layout.specs.Place.{at_b, at_u, at_r}
use Rattle.model.specs.Edition.{Edition, unstamped}
use Rattle.model.specs.Promise.{FormatPromise, PutOrReplacePromise, ErasePromise, PackPromise, LookUpPromise, Found}
use Rattle.lines.specs.Line.{Said, format, put, get, erase, pack, unknown, said}
use Rattle.lines.specs.Text.{decimal}

-- the decimal digits of a number of at most 64 bits
abbrev pub digits : ℕ → List ℕ
digits n = decimal 20 n

-- the buffer for an answer holds any: a value of any frame, and what is written around it
abbrev pub Wide : List ℕ → Type 0
Wide out = 16640 ≤ length out

-- the first r bytes of it are this answer
pub record Answer (out : List ℕ) (r : ℕ) (P : List ℕ → Type 0) : Type 0 where
  pub within : r ≤ length out
  pub text : P (take r out)

abbrev pub question : List ℕ
question = 63 ∷ 10 ∷ []

-- a number alone
abbrev pub alone : ℕ → List ℕ
alone n = digits n ++ (10 ∷ [])

-- "0 value"
abbrev pub with_value : List ℕ → List ℕ
with_value v = (48 ∷ 32 ∷ []) ++ v ++ (10 ∷ [])

abbrev pub count : ℕ → List ℕ
count n = (32 ∷ []) ++ digits n

-- "writes U, B and R of the result"
abbrev pub with_counts : ℕ → ℕ → ℕ → List ℕ
with_counts U B R = (48 ∷ []) ++ count U ++ count B ++ count R ++ (10 ∷ [])

-- "F above 16,384 gives 1"; a refused `f` keeps the frame in use
pub record Formats (E : Edition) (b : List ℕ) (long : Option ℕ) (F N : ℕ) (b' : List ℕ) (long' : Option ℕ) (text : List ℕ) : Type 0 where
  pub n : ℕ
  pub says : text ≡ alone n
  pub above : 16384 < F → n ≡ 1
  pub call : F ≤ 16384 → FormatPromise E (take F b) F N n (take F b')
  pub done : n ≡ 0 → long' ≡ Some F
  pub refused : (n ≡ 0 → ⊥) → (long' ≡ long) × (b' ≡ b)

-- `p` asks for replacement too: "0", and "9" where the key was there
pub record Puts (E : Edition) (f k v f' text : List ℕ) : Type 0 where
  pub n : ℕ
  pub says : text ≡ alone n
  pub call : PutOrReplacePromise E f k (unstamped v) n f'

pub record Gets (E : Edition) (f k f' text : List ℕ) : Type 0 where
  pub g : Found
  pub says : text ≡ cond (eqb g.number 0) (with_value (take g.long (drop g.place f))) (alone g.number)
  pub call : LookUpPromise E f k g
  pub same : f' ≡ f

pub record Erases (E : Edition) (f k f' text : List ℕ) : Type 0 where
  pub n : ℕ
  pub says : text ≡ alone n
  pub call : ErasePromise E f k n f'

-- "`k` packs into a second buffer .. the session goes on with the unpacked frame"
pub record Packs (E : Edition) (f f' text : List ℕ) : Type 0 where
  pub n : ℕ
  pub o : List ℕ
  pub o' : List ℕ
  pub says : text ≡ cond (eqb n 0) (with_counts (le 4 o' at_u) (le 4 o' at_b) (le 4 o' at_r)) (alone n)
  pub long : length o ≡ length f
  pub call : PackPromise E f o n o'
  pub same : f' ≡ f

-- "Any other line .. is answered `?`", and nothing changes
abbrev pub Asks : List ℕ → List ℕ → List ℕ → Type 0
Asks f f' text = (text ≡ question) × (f' ≡ f)

-- a line on the frame in use; `f` takes no part in this
abbrev pub Does : Edition → List ℕ → Said → List ℕ → List ℕ → Type 0
Does E f (format F N) f' text = Asks f f' text
Does E f (put k v) f' text = Puts E f k v f' text
Does E f (get k) f' text = Gets E f k f' text
Does E f (erase k) f' text = Erases E f k f' text
Does E f pack f' text = Packs E f f' text
Does E f unknown f' text = Asks f f' text

-- "one before a successful `f` that isn't `f`, is answered `?`"
pub record Goes (E : Edition) (b : List ℕ) (long : Option ℕ) (s : Said) (b' : List ℕ) (long' : Option ℕ) (text : List ℕ) : Type 0 where
  pub none : long ≡ None → Asks b b' text
  pub some : (n : ℕ) → long ≡ Some n → Does E (take n b) s (take n b') text
  pub same : long' ≡ long

abbrev pub Steps : Edition → List ℕ → Option ℕ → Said → List ℕ → Option ℕ → List ℕ → Type 0
Steps E b long (format F N) b' long' text = Formats E b long F N b' long' text
Steps E b long (put k v) b' long' text = Goes E b long (put k v) b' long' text
Steps E b long (get k) b' long' text = Goes E b long (get k) b' long' text
Steps E b long (erase k) b' long' text = Goes E b long (erase k) b' long' text
Steps E b long pack b' long' text = Goes E b long pack b' long' text
Steps E b long unknown b' long' text = Goes E b long unknown b' long' text

-- "one over 1,024 bytes before its newline .. is answered `?`"; any other does what it says
pub record Replies (E : Edition) (b : List ℕ) (long : Option ℕ) (line b' : List ℕ) (long' : Option ℕ) (text : List ℕ) : Type 0 where
  pub over : 1024 < length line → Asks b b' text × (long' ≡ long)
  pub steps : length line ≤ 1024 → Steps E b long (said line) b' long' text
