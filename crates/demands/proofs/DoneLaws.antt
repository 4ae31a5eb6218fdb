-- What promised calls that are not refused do: put, replacement and erase leave the set edited and answer from it, pack writes its image; and the part that
-- a look-up gives lies within the frame. Assumes nothing.
use Prim.Native.Nat.{ℕ, ◌+◌, ◌≤◌}
use native.Mathlib.Omega.{arith}
use mathlib.Core.Path.{◌≡◌, sym, ap, ◌∙◌}
use mathlib.Core.List.{List, [], ◌∷◌, ◌++◌}
use mathlib.Core.Bool.{false}
use mathlib.Core.Option.{some}
use mathlib.Core.Logic.{◌≢◌}
use lib.ListN.{length, get_or, drop}
use lib.Dec.{eqb}
use borrow.Author.Tests.{ne_eqb}
use Rattle.model.specs.Strings.{All, Byte, same, shared}
use Rattle.model.specs.Edition.{Edition, Lawful, Legal, LegalValue, value_fault, Value, text_of}
use Rattle.model.specs.Records.{Record, records_of, lookup}
use Rattle.model.specs.State.{State, Done, unless, Write, new, replacing, call_write, on_write, call_erase}
use Rattle.model.specs.Image.{image}
use Rattle.model.specs.Frame.{Lay, LayKids, Root, bare, tree, Tree, Trees, RootAt, Stands, Good}
use Rattle.model.specs.Frame.Lay.{leaf, prefix, node}
use Rattle.model.specs.Frame.LayKids.{nil, kid}
use Rattle.model.specs.Touch.{Part, find_lay, find_lay_kids, find_at}
use Rattle.model.specs.Promise.{Told, PackPromise}
use Rattle.model.specs.Call.{Call, put, replace, erase, key_of, LegalCall, on_call, edited, given, Called}
use Rattle.model.proofs.StringLaws.{bool_cases, eqb_cases, ltb_cases, clash, same_refl, same_true}
use Rattle.model.proofs.Commute.{CallDone, call_done, edited_lookup}
use Rattle.model.proofs.StateLaws.{packed_state, pack_good}
use Rattle.model.proofs.StandsGood.{stands_good, stands_heads}
use Rattle.model.proofs.PackStands.{pack_stands}
use Rattle.model.proofs.WorkedLaws.{called_stands}
use Rattle.demands.specs.Words.{Passable, Refusal, NotRefused, Holds, slots_of, OnlyAt, OfBytes}
use Rattle.demands.proofs.RoomLaws.{faulty, faultless}

-- what document 01 gives as a refusal of a key
low_refusal : (n : ℕ) → n ≢ 0 → n ≤ 7 → Refusal n
low_refusal n h l = rw (ne_eqb n 0 h, ne_eqb n 8 (λ e. omega arith), ne_eqb n 9 (λ e. omega arith), ne_eqb n 11 (λ e. omega arith))

-- ---- which frame, which key

told_of : (E : Edition) (f : List ℕ) (c : Call) (n : ℕ) (f' : List ℕ) → Called E f c n f' → Told E f n
told_of E f (put k v) n f' h = h.told
told_of E f (replace k v) n f' h = h.told
told_of E f (erase k) n f' h = h.told

pub good_frame : (E : Edition) (f : List ℕ) (n : ℕ) → Told E f n → NotRefused n → Good E f
good_frame E f n t r = t.good (λ e. r (rw e)) (λ e. r (rw e))

pub good_called : (E : Edition) (f : List ℕ) (c : Call) (n : ℕ) (f' : List ℕ) → Called E f c n f' → NotRefused n → Good E f
good_called E f c n f' h r = good_frame E f n (told_of E f c n f' h) r

pub differ : (k l : List ℕ) → k ≢ l → same k l ≡ false
differ k l h = bool_cases (same k l) (λ t. absurd (h (same_true k l t))) (λ t. t)

pub only_at : (c : Call) (rs : List Record) → OnlyAt (key_of c) (given c (lookup (key_of c) rs)) rs (edited c rs)
only_at c rs = record {
  own = edited_lookup c (key_of c) rs ∙ rw (same_refl (key_of c));
  others = λ l h. edited_lookup c l rs ∙ rw (differ l (key_of c) h);
}

-- ---- the part that a look-up gives lies within the frame

some_is : (x y : Part) → some x ≡ some y → x ≡ y
some_is x y e = cc

module _ (E : Edition) (f k : List ℕ) (c : Part) where
  mutual
    unfolding Tree Trees

    lay_within : (path : List ℕ) (l : Lay) (d : ℕ) → Tree E f path l → find_lay E l d k ≡ some c → c.at + c.long ≤ length f
    lay_within path (leaf s o e k' v) d T h = bool_cases (same k k')
        (λ t. let r = T.1.at.room in let q = some_is (record { at = e + length k'; long = length (text_of v); stamp = v.stamp }) c (rw t at h) in
        let a : e + length k' ≡ c.at = ap (λ (p : Part). p.at) q in let b : length (text_of v) ≡ c.long = ap (λ (p : Part). p.long) q in omega arith)
        (λ t. clash (let q = rw t at h in cc))
    lay_within path (prefix s o p l) d T h = bool_cases (eqb (shared p (drop d (E.walked k))) (length p))
        (λ t. lay_within (path ++ p) l (d + length p) T.3 (rw t at h))
        (λ t. clash (let q = rw t at h in cc))
    lay_within path (node s o kind ks) d T h = lays_within path ks d T.2 h

    lays_within : (path : List ℕ) (ks : LayKids) (d : ℕ) → Trees E f path ks → find_lay_kids E ks d k ≡ some c → c.at + c.long ≤ length f
    lays_within path nil d T h = clash (cc)
    lays_within path (kid b j l ks) d T h = bool_cases (eqb b (get_or (E.walked k) d 0))
        (λ t. lay_within (path ++ b ∷ []) l (d + 1) T.0 (rw t at h))
        (λ t. lays_within path ks d T.1 (rw t at h))

  pub root_within : (r : Root) → RootAt E f r → find_at E r k ≡ some c → c.at + c.long ≤ length f
  unfolding RootAt
  root_within (bare s o) R h = clash (cc)
  root_within (tree l) R h = lay_within [] l 0 R h

-- ---- a call that is not refused

pub record Did (E : Edition) (s : State) (c : Call) (n : ℕ) (f' : List ℕ) : Type 0 where
  pub stands : Stands E f' (on_call E s c).state
  pub legal : LegalCall E c
  pub enough : (on_call E s c).answer ≢ 6
  pub work : CallDone E s c (on_call E s c)
  pub answer : n ≡ (on_call E s c).answer

-- a frame packed: the image of its state
pub packed_of : (E : Edition) (f o : List ℕ) (n : ℕ) (o' : List ℕ) (s : State) → PackPromise E f o n o' → Stands E f s → NotRefused n
    → (n ≡ 0) × (o' ≡ image E s.F s.N (records_of s.tree))
packed_of E f o n o' s p w r = eqb_cases (length o) (length f)
    (λ t q. p.packed0 s w q)
    (λ t q. absurd (r (rw (p.output7 (s, w) q))))

module _ {E : Edition} (L : Lawful E) (faults : (k : List ℕ) → E.key_fault k ≤ 7) where
  legal_key : (k : List ℕ) (n : ℕ) (s : State) (d : Done) → n ≡ (unless (E.key_fault k) s d).answer → NotRefused n → E.key_fault k ≡ 0
  legal_key k n s d e r = eqb_cases (E.key_fault k) 0
      (λ t q. q)
      (λ t q. let z : n ≡ E.key_fault k = e ∙ ap (λ (x : Done). x.answer) (faulty (E.key_fault k) s d q) in absurd (r (rw z (low_refusal (E.key_fault k) q (faults k)))))

  legal_value : (v : Value) (n : ℕ) (s : State) (d : Done) → n ≡ (unless (value_fault v) s d).answer → NotRefused n → length (text_of v) ≤ 65535
  legal_value v n s d e r = ltb_cases 65535 (length (text_of v))
      (λ t o. let z : n ≡ 5 = e ∙ rw t in absurd (r (rw z)))
      (λ t o. o)

  legal_write : (a : Write) (k : List ℕ) (v : Value) (n : ℕ) (s : State) → All Byte k → Passable E v → n ≡ (on_write E a s k v).answer → NotRefused n → Legal E k × LegalValue E v
  legal_write a k v n s bk bv e r =
      let call = call_write E a s k v in let d = unless (value_fault v) s call in
      let q = legal_key k n s d e r in
      (record { passes = q; bytes = bk }, record { passes = legal_value v n s call (e ∙ ap (λ (x : Done). x.answer) (faultless (E.key_fault k) s d q)) r; bytes = bv.0; stamp = bv.1 })

  legal_of : (c : Call) (n : ℕ) (s : State) → OfBytes E c → n ≡ (on_call E s c).answer → NotRefused n → LegalCall E c
  legal_of (put k v) n s b e r = legal_write new k v n s b.0 b.1 e r
  legal_of (replace k v) n s b e r = legal_write replacing k v n s b.0 b.1 e r
  legal_of (erase k) n s b e r = record { passes = legal_key k n s (call_erase E s k) e r; bytes = b }

  pub did : (f : List ℕ) (c : Call) (n : ℕ) (f' : List ℕ) (s : State) → OfBytes E c → Called E f c n f' → Stands E f s → NotRefused n → Did E s c n f'
  did f c n f' s b h w r =
      let p = called_stands E f c n f' s w h in
      let l = legal_of c n s b p.0 r in
      let six : (on_call E s c).answer ≢ 6 = λ e. (let z : n ≡ 6 = p.0 ∙ e in r (rw z)) in
      record { stands = p.1; legal = l; enough = six; work = call_done L s c (stands_good E f s w) l six; answer = p.0 }

  -- ---- packed, in the words of the frame

  pub record PackedTo (f : List ℕ) (rs : List Record) (o' : List ℕ) : Type 0 where
    pub written : o' ≡ image E (length f) (slots_of f) rs
    pub back : Holds E o' rs
    pub alike : (length o' ≡ length f) × (slots_of o' ≡ slots_of f)

  pub packed_to : (f : List ℕ) (rs : List Record) (o' : List ℕ) (h : Holds E f rs) → let s = h.state in o' ≡ image E s.F s.N (records_of s.tree) → PackedTo f rs o'
  packed_to f rs o' h e =
      let s = h.state in
      let H = stands_heads E f s h.stands in
      let w : Stands E o' (packed_state s) = rw e (pack_stands L f s h.stands) in
      let K = stands_heads E o' (packed_state s) w in
      record {
        written = e ∙ rw (← H.size, ← H.slots_at, h.set);
        back = record { state = packed_state s; stands = w; set = (pack_good L s (stands_good E f s h.stands)).1 ∙ h.set };
        alike = (K.size ∙ sym H.size, K.slots_at ∙ sym H.slots_at);
      }
