-- The owner's three demands, said over the promises of the public calls alone (model/specs/Promise.antt) and not over the code: a store that
-- keeps these promises meets the demands, whatever it does inside. That the calls keep them, that every promise can be met, that each call ends
-- and asks nothing of its caller, is shown where the code is: its public functions have the promises as contracts, without `requires`. What a
-- call only reads (the frame of a check, a look-up or a pack, every key and value) is lent to it so that it cannot be written.
use Rattle.std.specs.Prelude.{ℕ, ◌+◌, ◌≤◌, ◌≡◌, List, [], ◌∷◌, ◌↔◌, ◌≢◌, length, take, drop}
use Rattle.std.proofs.Math.Option.{Option, none, some}
use Rattle.model.specs.Strings.{All, Byte}
use Rattle.model.specs.Edition.{Edition, Legal, LegalValue, Value, text_of}
use Rattle.model.specs.Tree.{Art}
use Rattle.model.specs.Records.{Record, lookup, Ascending}
use Rattle.model.specs.State.{State}
use Rattle.model.specs.Image.{image_of, image}
use Rattle.model.specs.Frame.{Stands, Good}
use Rattle.model.specs.Promise.{FormatPromise, CheckPromise, Found, not_found, LookUpPromise, ValuePromise, PutPromise, ReplacePromise, PutOrReplacePromise, ErasePromise, PackPromise}
use Rattle.model.specs.Call.{Call, key_of, edited, given, Called}
use Rattle.model.specs.Words.{InWords}
use Rattle.demands.specs.Words.{Passable, Refusal, NotRefused, FirstOf, wrong_limits, wrong_length, not_good, key_length, key_zero, value_long, output_length, PutFull, ReplaceFull, EraseFull, put_full, replace_full, put_or_replace_full, erase_full, Holds, slots_of, OnlyAt, OfBytes}

-- "1. Lend any bytes as frame, key and value. Every public call ends, refuses by document 01's numbers without asking the caller to have
-- checked anything, and a refused call changes no byte of any lent buffer."
pub record Demand1 (E : Edition) : Type 0 where
  pub format : (f : List ℕ) (len cap n : ℕ) (f' : List ℕ) → FormatPromise E f len cap n f'
      → FirstOf (wrong_limits f len cap ∷ []) (0 ∷ []) n × (Refusal n → f' ≡ f)
  pub check : (f : List ℕ) (n : ℕ) → CheckPromise E f n
      → FirstOf (wrong_length f ∷ not_good E f ∷ []) (0 ∷ []) n
  pub look_up : (f k : List ℕ) (g : Found) → LookUpPromise E f k g
      → FirstOf (wrong_length f ∷ not_good E f ∷ key_length E k ∷ key_zero E k ∷ []) (0 ∷ 8 ∷ []) g.number × (Refusal g.number → g ≡ not_found g.number 0)
  -- the second look-up call gives no number; it answers from the first one's
  pub value : (f k : List ℕ) (at : ℕ) (part : List ℕ) (h : ValuePromise E f k at part) → let n = h.look.number in
      FirstOf (wrong_length f ∷ not_good E f ∷ key_length E k ∷ key_zero E k ∷ []) (0 ∷ 8 ∷ []) n × (Refusal n → (at ≡ 0) × (part ≡ []))
  pub put : (f k : List ℕ) (v : Value) (n : ℕ) (f' : List ℕ) → All Byte k → Passable E v → PutPromise E f k v n f'
      → FirstOf (wrong_length f ∷ not_good E f ∷ key_length E k ∷ key_zero E k ∷ value_long v ∷ put_full E f k v ∷ []) (0 ∷ 11 ∷ []) n × (Refusal n → f' ≡ f)
  pub replace : (f k : List ℕ) (v : Value) (n : ℕ) (f' : List ℕ) → All Byte k → Passable E v → ReplacePromise E f k v n f'
      → FirstOf (wrong_length f ∷ not_good E f ∷ key_length E k ∷ key_zero E k ∷ value_long v ∷ replace_full E f k v ∷ []) (9 ∷ 8 ∷ []) n × (Refusal n → f' ≡ f)
  pub put_or_replace : (f k : List ℕ) (v : Value) (n : ℕ) (f' : List ℕ) → All Byte k → Passable E v → PutOrReplacePromise E f k v n f'
      → FirstOf (wrong_length f ∷ not_good E f ∷ key_length E k ∷ key_zero E k ∷ value_long v ∷ put_or_replace_full E f k v ∷ []) (0 ∷ 9 ∷ []) n × (Refusal n → f' ≡ f)
  pub erase : (f k : List ℕ) (n : ℕ) (f' : List ℕ) → All Byte k → ErasePromise E f k n f'
      → FirstOf (wrong_length f ∷ not_good E f ∷ key_length E k ∷ key_zero E k ∷ erase_full E f k ∷ []) (0 ∷ 8 ∷ []) n × (Refusal n → f' ≡ f)
  pub pack : (f o : List ℕ) (n : ℕ) (o' : List ℕ) → PackPromise E f o n o'
      → FirstOf (wrong_length f ∷ not_good E f ∷ output_length f o ∷ []) (0 ∷ []) n × (Refusal n → o' ≡ o)

-- ---- demand 2

-- look-up of a legal key k in the frame f that holds rs gave g: 0, the part of the frame with the value and its stamp, or 8
pub record LookedUp (f k : List ℕ) (g : Found) (rs : List Record) : Type 0 where
  pub there0 : (v : Value) → (lookup k rs ≡ some v) ↔ ((g.number ≡ 0) × (take g.long (drop g.place f) ≡ text_of v) × (g.stamp ≡ v.stamp))
  pub absent8 : (g.number ≡ 8) ↔ (lookup k rs ≡ none)
  pub within : g.place + g.long ≤ length f

-- packing a good frame f that holds rs gave n and the output o'
pub record Packed (E : Edition) (f : List ℕ) (rs : List Record) (n : ℕ) (o' : List ℕ) : Type 0 where
  pub done0 : n ≡ 0
  -- the image that document 01 defines for F, N and the set; its tree is the one that document 01's words say of the set
  pub written : o' ≡ image E (length f) (slots_of f) rs
  pub words : (t : Option Art) → InWords E rs t → o' ≡ image_of E (length f) (slots_of f) (length rs) t
  -- reading it gives the set back, in a frame of equal F and N
  pub back : Holds E o' rs
  pub alike : (length o' ≡ length f) × (slots_of o' ≡ slots_of f)

-- "2. The check passes exactly document 01's good frames, and each stands for one set of records. Look-up, put and erase answer from that set
-- and change it at their own key only. Packing writes the one image that document 01 defines for the set, and reading that image gives the set
-- back. No room is answered exactly when what the call needs, by document 01's list, exceeds what the frame has free, freed bodies counted."
pub record Demand2 (E : Edition) : Type 0 where
  -- shuts out AllTwo (WrongStores)
  pub check : (f : List ℕ) (n : ℕ) → CheckPromise E f n → (n ≡ 0) ↔ Good E f
  -- a good frame holds one set of records: no two have one key, and look-up tells all of it
  pub holds : (f : List ℕ) → Good E f → (rs : List Record) × Holds E f rs
  pub one : (f : List ℕ) (rs qs : List Record) → Holds E f rs → Holds E f qs → rs ≡ qs
  pub set : (f : List ℕ) (rs : List Record) → Holds E f rs → Ascending rs
  pub by_key : (f g : List ℕ) (rs qs : List Record) → Holds E f rs → Holds E g qs → (rs ≡ qs) ↔ ((k : List ℕ) → lookup k rs ≡ lookup k qs)
  -- format leaves a good frame without records
  pub format : (f : List ℕ) (len cap n : ℕ) (f' : List ℕ) → FormatPromise E f len cap n f' → NotRefused n → Holds E f' [] × (length f' ≡ len) × (slots_of f' ≡ cap)
  -- look-up: shuts out AllEight
  pub look_up : (f k : List ℕ) (g : Found) (rs : List Record) → Legal E k → LookUpPromise E f k g → Holds E f rs → LookedUp f k g rs
  pub value : (f k : List ℕ) (at : ℕ) (part : List ℕ) (rs : List Record) → Legal E k → ValuePromise E f k at part → Holds E f rs
      → (part ≡ take (length part) (drop at f)) × ((v : Value) → lookup k rs ≡ some v → part ≡ text_of v) × (lookup k rs ≡ none → (at ≡ 0) × (part ≡ []))
  -- put, replacement and erase: the set after, and the answer. Shuts out HoldsNothing, OnlyFirst, Overwrites, PutsIn and KeepsOld
  pub change : (f : List ℕ) (c : Call) (n : ℕ) (f' : List ℕ) (rs : List Record) → OfBytes E c → Called E f c n f' → Holds E f rs → NotRefused n
      → Holds E f' (edited c rs) × OnlyAt (key_of c) (given c (lookup (key_of c) rs)) rs (edited c rs)
  pub put : (f k : List ℕ) (v : Value) (n : ℕ) (f' : List ℕ) (rs : List Record) → All Byte k → Passable E v → PutPromise E f k v n f' → Holds E f rs → NotRefused n
      → ((n ≡ 0) ↔ (lookup k rs ≡ none)) × ((n ≡ 11) ↔ (lookup k rs ≢ none)) × (n ≡ 11 → f' ≡ f)
  pub replace : (f k : List ℕ) (v : Value) (n : ℕ) (f' : List ℕ) (rs : List Record) → All Byte k → Passable E v → ReplacePromise E f k v n f' → Holds E f rs → NotRefused n
      → ((n ≡ 8) ↔ (lookup k rs ≡ none)) × ((n ≡ 9) ↔ (lookup k rs ≢ none)) × (n ≡ 8 → f' ≡ f)
  -- whoever asks for either has a put of an absent key, and a replacement of a present one
  pub put_or_replace : (f k : List ℕ) (v : Value) (n : ℕ) (f' : List ℕ) (rs : List Record) → All Byte k → PutOrReplacePromise E f k v n f' → Holds E f rs
      → (lookup k rs ≡ none → PutPromise E f k v n f') × (lookup k rs ≢ none → ReplacePromise E f k v n f')
  pub erase : (f k : List ℕ) (n : ℕ) (f' : List ℕ) (rs : List Record) → All Byte k → ErasePromise E f k n f' → Holds E f rs → NotRefused n
      → ((n ≡ 8) ↔ (lookup k rs ≡ none)) × ((n ≡ 0) ↔ (lookup k rs ≢ none)) × (n ≡ 8 → f' ≡ f)
  -- pack: shuts out FixedImage
  pub pack : (f o : List ℕ) (n : ℕ) (o' : List ℕ) (rs : List Record) → PackPromise E f o n o' → Holds E f rs → length o ≡ length f → Packed E f rs n o'
  -- no room: for a put of an absent key, a replacement of a present one, or an erase. Shuts out AllSix and RoomFirst
  pub put_room : (f k : List ℕ) (v : Value) (n : ℕ) (f' : List ℕ) (s : State) → Legal E k → LegalValue E v → PutPromise E f k v n f' → Stands E f s → (n ≡ 6) ↔ PutFull E s k v
  pub replace_room : (f k : List ℕ) (v : Value) (n : ℕ) (f' : List ℕ) (s : State) → Legal E k → LegalValue E v → ReplacePromise E f k v n f' → Stands E f s → (n ≡ 6) ↔ ReplaceFull E s k v
  pub erase_room : (f k : List ℕ) (n : ℕ) (f' : List ℕ) (s : State) → Legal E k → ErasePromise E f k n f' → Stands E f s → (n ≡ 6) ↔ EraseFull E s k

-- ---- demand 3

-- f and g pack to the same bytes: packed into any outputs, none refused
abbrev pub PackAlike : Edition → List ℕ → List ℕ → Type 0
PackAlike E f g = (o o' p p' : List ℕ) (n m : ℕ) → PackPromise E f o n o' → PackPromise E g p m p' → NotRefused n → NotRefused m → o' ≡ p'

-- "3. Two calls on different keys, each a put or an erase, give the same answers in both orders and frames that pack to the same bytes, if none
-- is refused. Two good frames of equal length and slot capacity pack to the same bytes exactly when they hold the same records."
-- (02) "The mission's third demand holds for puts, replacements and erases, 11 counted as an answer and not as a refusal."
pub record Demand3 (E : Edition) : Type 0 where
  -- c and then d, by way of g to h; d and then c, by way of g' to h'
  pub order : (f : List ℕ) (c d : Call) (n m m' n' : ℕ) (g h g' h' : List ℕ) → OfBytes E c → OfBytes E d → key_of c ≢ key_of d
      → Called E f c n g → Called E g d m h → Called E f d m' g' → Called E g' c n' h'
      → NotRefused n → NotRefused m → NotRefused m' → NotRefused n'
      → (n ≡ n') × (m ≡ m') × PackAlike E h h'
  -- whatever history made them
  pub images : (f g o o' p p' : List ℕ) (n m : ℕ) (rs qs : List Record) → length f ≡ length g → slots_of f ≡ slots_of g → Holds E f rs → Holds E g qs
      → PackPromise E f o n o' → PackPromise E g p m p' → NotRefused n → NotRefused m
      → (o' ≡ p') ↔ (rs ≡ qs)
