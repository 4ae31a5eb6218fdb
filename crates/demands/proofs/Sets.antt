-- Demand 2: the check, the set of records, look-up, put, replacement, erase, pack and no room. Assumes nothing.
use Prim.Native.Nat.{ℕ, ◌+◌, ◌%◌, ◌≤◌}
use native.Mathlib.Omega.{arith}
use mathlib.Core.Path.{◌≡◌, refl, sym, ap, subst, ◌∙◌}
use mathlib.Core.List.{List, [], ◌∷◌, ◌++◌}
use mathlib.Core.Bool.{true}
use mathlib.Core.Option.{Option, none, some}
use mathlib.Core.Logic.{◌↔◌, inl, inr, ◌≢◌}
use lib.ListN.{length, take, drop, length-drop}
use lib.Seq.{length-take-le}
use lib.Dec.{ltb, eqb}
use borrow.Author.Tests.{le-ltb}
use Rattle.layout.specs.Place.{data_start}
use Rattle.model.specs.Strings.{All, Byte, pick}
use Rattle.model.specs.Edition.{Edition, Lawful, Legal, LegalValue, value_fault, Value, text_of}
use Rattle.model.specs.Tree.{Art}
use Rattle.model.specs.Records.{Record, records_of, lookup, absent, Ascending}
use Rattle.model.specs.State.{State, Done, unless, formatted, find_in, put_change, call_put, Write, new, replacing, either, call_write, on_write, call_erase}
use Rattle.model.specs.Image.{tree_of}
use Rattle.model.specs.Visits.{visits_in}
use Rattle.model.specs.Frame.{Root, Stands, RootAt, root_art}
use Rattle.model.specs.Touch.{Part, Outside, put_touch, find_at, dying, extent_at}
use Rattle.model.specs.Promise.{FormatOk, FormatPromise, Found, found_of, on_look_up, LookUpPromise, ValuePromise, changes, WritePromise, PutPromise, ReplacePromise, PutOrReplacePromise, ErasePromise, PackPromise}
use Rattle.model.specs.Call.{Call, put, replace, erase, key_of, edited, given, Called}
use Rattle.model.proofs.StringLaws.{eqb_cases, leb_cases, clash}
use Rattle.model.proofs.SetLaws.{lookup_all}
use Rattle.model.proofs.GoodState.{TreeOk}
use Rattle.model.proofs.StateLaws.{tree_ascending, find_good}
use Rattle.model.proofs.UniqueLaws.{value_same, stands_unique}
use Rattle.model.proofs.StandsGood.{stands_good, stands_heads}
use Rattle.model.proofs.FormatLaws.{empty_stands}
use Rattle.model.proofs.PackedWords.{words_one}
use Rattle.model.proofs.PackedLaws.{LegalRecords, legal_records, packed_words}
use Rattle.demands.specs.Words.{NotRefused, OneOf, PutFull, ReplaceFull, EraseFull, Holds, slots_of, OnlyAt, OfBytes}
use Rattle.demands.specs.Demands.{LookedUp, Packed, Demand2}
use Rattle.demands.proofs.RoomLaws.{ends_room, new_ends, replace_ends, erase_ends}
use Rattle.demands.proofs.Refusals.{look_answer}
use Rattle.demands.proofs.DoneLaws.{only_at, root_within, did, packed_to}

-- ---- numbers from a value that is there or not

absent_or_there : (o : Option Value) (n i j : ℕ) → i ≢ j → n ≡ pick (absent o) i j → ((n ≡ i) ↔ (o ≡ none)) × ((n ≡ j) ↔ (o ≢ none))
absent_or_there none n i j d e = ((λ q. refl, λ x. e), (λ q. absurd (d (sym e ∙ q)), λ x. absurd (x refl)))
absent_or_there (some v) n i j d e = ((λ q. absurd (d (sym q ∙ e)), λ x. clash (cc)), (λ q x. clash (cc), λ x. e))

found_or_missing : (n : ℕ) (p : Value) (o : Option Value) → o ≡ pick (eqb n 0) (some p) none → OneOf n (0 ∷ 8 ∷ [])
    → ((v : Value) → (o ≡ some v) ↔ ((n ≡ 0) × (text_of p ≡ text_of v) × (p.stamp ≡ v.stamp))) × ((n ≡ 8) ↔ (o ≡ none))
found_or_missing n p o e (inl z) =
    let q : o ≡ some p = e ∙ rw z in
    (λ v. (λ x. (let y : p ≡ v = cc in (z, ap (λ (u : Value). text_of u) y, ap (λ (u : Value). u.stamp) y)), λ x. q ∙ ap some (value_same p v x.1 x.2)), (λ x. absurd (omega arith), λ x. clash (cc)))
found_or_missing n p o e (inr (inl z)) =
    let q : o ≡ none = e ∙ rw z in
    (λ v. (λ x. clash (cc), λ x. (let y = x.0 in absurd (omega arith))), (λ x. q, λ x. z))
found_or_missing n p o e (inr (inr z)) = absurd z

-- ---- the parts of a frame

part_of : (f : List ℕ) (a n : ℕ) → a + n ≤ length f → take n (drop a f) ≡ take (length (take n (drop a f))) (drop a f)
part_of f a n h = let e = length-take-le n (drop a f) (rw (length-drop a f) (omega arith)) in rw e

found_within : (E : Edition) (f k : List ℕ) (r : Root) (o : Option Part) (n : ℕ) → RootAt E f r → find_at E r k ≡ o → (found_of o n).place + (found_of o n).long ≤ length f
found_within E f k r none n R e = omega arith
found_within E f k r (some c) n R e = root_within E f k c r R e

look_within : (E : Edition) (f k : List ℕ) (g : Found) (s : State) (w : Stands E f s) → E.key_fault k ≡ 0 → g ≡ on_look_up E w.root k → g.place + g.long ≤ length f
look_within E f k g s w z e =
    let n = visits_in E (root_art w.root) k in
    let q : g ≡ found_of (find_at E w.root k) n = e ∙ rw z in
    rw q (found_within E f k w.root (find_at E w.root k) n w.root_at refl)

-- ---- format: what is not refused is within the limits

format_ok : (f : List ℕ) (len cap : ℕ) → ((FormatOk f len cap → ⊥) → ⊥) → FormatOk f len cap
format_ok f len cap h = (
  (equal (len % 8) 0 (λ x. x.0.0), least 1024 len (λ x. x.0.1), least len 524288 (λ x. x.0.2)),
  (equal (cap % 2) 0 (λ x. x.1.0), least 8 cap (λ x. x.1.1), least cap 10240 (λ x. x.1.2)),
  least (data_start cap + 8) len (λ x. x.2),
  equal (length f) len (λ x. x.3),
)
  where
    equal : (a b : ℕ) → (FormatOk f len cap → a ≡ b) → a ≡ b
    equal a b g = eqb_cases a b (λ t q. q) (λ t q. absurd (h (λ x. q (g x))))

    least : (a b : ℕ) → (FormatOk f len cap → a ≤ b) → a ≤ b
    least a b g = leb_cases a b (λ t q. q) (λ t q. absurd (h (λ x. (let y = g x in omega arith))))

module _ {E : Edition} (L : Lawful E) (faults : (k : List ℕ) → E.key_fault k ≤ 7) where
  pub ascends : (f : List ℕ) (rs : List Record) → Holds E f rs → Ascending rs
  ascends f rs h = subst Ascending h.set (tree_ascending L h.state.tree (stands_good E f h.state h.stands).well)

  pub one_set : (f : List ℕ) (rs qs : List Record) → Holds E f rs → Holds E f qs → rs ≡ qs
  one_set f rs qs h g = sym h.set ∙ ap (λ (s : State). records_of s.tree) (stands_unique E f h.state g.state h.stands g.stands) ∙ g.set

  tree_legal : (t : Option Art) → TreeOk E t → LegalRecords E (records_of t)
  tree_legal none w = tt
  tree_legal (some a) w = legal_records L a [] w

  pub legals : (f : List ℕ) (rs : List Record) → Holds E f rs → LegalRecords E rs
  legals f rs h = subst (LegalRecords E) h.set (tree_legal h.state.tree (stands_good E f h.state h.stands).well)

  formats : (f : List ℕ) (len cap n : ℕ) (f' : List ℕ) → FormatPromise E f len cap n f' → NotRefused n → Holds E f' [] × (length f' ≡ len) × (slots_of f' ≡ cap)
  formats f len cap n f' p r =
      let ok = format_ok f len cap (λ x. r (rw (p.limits1 x).0)) in
      let w : Stands E f' (formatted len cap) = rw (p.done0 ok).1 (empty_stands E len cap L.fields.number ok.0 ok.1 ok.2) in
      let H = stands_heads E f' (formatted len cap) w in
      (record { state = formatted len cap; stands = w; set = refl }, H.size, H.slots_at)

  looked_up : (f k : List ℕ) (g : Found) (rs : List Record) → Legal E k → LookUpPromise E f k g → Holds E f rs → LookedUp f k g rs
  looked_up f k g rs l p h =
      let s = h.state in let w = h.stands in
      let part : Value = record { bytes = take g.long (drop g.place f); stamp = g.stamp } in
      let e : lookup k rs ≡ pick (eqb g.number 0) (some part) none = ap (λ (z : List Record). lookup k z) (sym h.set) ∙ sym (find_good L s k (stands_good E f s w) l) ∙ p.value s w l.passes in
      let a : OneOf g.number (0 ∷ 8 ∷ []) = rw (p.found s w) (look_answer E w.root k l.passes) in
      let q = found_or_missing g.number part (lookup k rs) e a in
      record { there0 = q.0; absent8 = q.1; within = look_within E f k g s w l.passes (p.found s w) }

  valued : (f k : List ℕ) (at : ℕ) (part : List ℕ) (rs : List Record) → Legal E k → ValuePromise E f k at part → Holds E f rs
      → (part ≡ take (length part) (drop at f)) × ((v : Value) → lookup k rs ≡ some v → part ≡ text_of v) × (lookup k rs ≡ none → (at ≡ 0) × (part ≡ []))
  valued f k at part rs l p h =
      let g = p.look in let q = looked_up f k g rs l p.looked h in (
        rw (p.holds, p.starts) (part_of f g.place g.long q.within),
        λ v e. p.holds ∙ ((q.there0 v).0 e).1,
        λ e. let z8 = q.absent8.1 e in let z = p.looked.zeros (λ z0. omega arith) in (p.starts ∙ z.0, p.holds ∙ rw z.1),
      )

  changed : (f : List ℕ) (c : Call) (n : ℕ) (f' : List ℕ) (rs : List Record) → OfBytes E c → Called E f c n f' → Holds E f rs → NotRefused n
      → Holds E f' (edited c rs) × OnlyAt (key_of c) (given c (lookup (key_of c) rs)) rs (edited c rs)
  changed f c n f' rs b p h r =
      let d = did L faults f c n f' h.state b p h.stands r in
      (record { state = _; stands = d.stands; set = d.work.set ∙ ap (edited c) h.set }, only_at c rs)

  -- an answer of the kind of call that a write is, on a legal key and value
  on_legal : (a : Write) (k : List ℕ) (v : Value) (n : ℕ) (s : State) → Legal E k → LegalValue E v → n ≡ (on_write E a s k v).answer → n ≡ (call_write E a s k v).answer
  on_legal a k v n s l m e = e ∙ rw (l.passes, le-ltb 65535 (length (text_of v)) m.passes)

  put_room : (f k : List ℕ) (v : Value) (n : ℕ) (f' : List ℕ) (s : State) → Legal E k → LegalValue E v → PutPromise E f k v n f' → Stands E f s → (n ≡ 6) ↔ PutFull E s k v
  put_room f k v n f' s l m p w = rw (on_legal new k v n s l m (p.answer s w)) (ends_room (λ z. omega arith) (λ z. omega arith) (new_ends L s k v (stands_good E f s w) l m))

  replace_room : (f k : List ℕ) (v : Value) (n : ℕ) (f' : List ℕ) (s : State) → Legal E k → LegalValue E v → ReplacePromise E f k v n f' → Stands E f s → (n ≡ 6) ↔ ReplaceFull E s k v
  replace_room f k v n f' s l m p w = rw (on_legal replacing k v n s l m (p.answer s w)) (ends_room (λ z. omega arith) (λ z. omega arith) (replace_ends L s k v (stands_good E f s w) l m))

  erase_room : (f k : List ℕ) (n : ℕ) (f' : List ℕ) (s : State) → Legal E k → ErasePromise E f k n f' → Stands E f s → (n ≡ 6) ↔ EraseFull E s k
  erase_room f k n f' s l p w =
      let e : n ≡ (call_erase E s k).answer = p.answer s w ∙ rw l.passes in
      rw e (ends_room (λ z. omega arith) (λ z. omega arith) (erase_ends L s k (stands_good E f s w) l))

  -- the promise of a write is that of another which does the same to the frame's state
  asked_as : (a b : Write) (f k : List ℕ) (v : Value) (n : ℕ) (f' : List ℕ) → ((s : State) → Stands E f s → on_write E a s k v ≡ on_write E b s k v) → WritePromise E a f k v n f' → WritePromise E b f k v n f'
  asked_as a b f k v n f' is p =
      record {
        told = p.told;
        answer = λ s w. p.answer s w ∙ ap (λ (d : Done). d.answer) (is s w);
        after = λ s w. subst
            (λ (d : Done). (w' : Stands E f' d.state) × (changes n ≡ true → let c = put_change E s k v in
            Outside f f' w.root w'.root w.lists w'.lists (c.takes ++ c.frees) (put_touch E w.root k v) (extent_at (length k) (find_at E w'.root k)) (dying c.dead (extent_at (length k) (find_at E w.root k))) (ltb 0 c.extent)))
            (is s w) (p.after s w);
        kept = p.kept;
      }

  either_as : (b : Write) (f k : List ℕ) (v : Value) (n : ℕ) (f' : List ℕ) (rs : List Record) → All Byte k → Holds E f rs → (o : Option Value) → lookup k rs ≡ o
      → ((s : State) → find_in E s.tree k ≡ o → call_put E s k v ≡ call_write E b s k v) → PutOrReplacePromise E f k v n f' → WritePromise E b f k v n f'
  either_as b f k v n f' rs bytes h o e is = asked_as either b f k v n f' (λ s w. eqb_cases (E.key_fault k) 0
      (λ t z.
      let found : find_in E s.tree k ≡ o = find_good L s k (stands_good E f s w) (record { passes = z; bytes = bytes }) ∙ ap (lookup k) (one_set f (records_of s.tree) rs (record { state = s; stands = w; set = refl }) h) ∙ e in
      ap (λ (d : Done). unless (E.key_fault k) s (unless (value_fault v) s d)) (is s found))
      (λ t z. rw t))

  put_or_replace : (f k : List ℕ) (v : Value) (n : ℕ) (f' : List ℕ) (rs : List Record) → All Byte k → PutOrReplacePromise E f k v n f' → Holds E f rs
      → (lookup k rs ≡ none → PutPromise E f k v n f') × (lookup k rs ≢ none → ReplacePromise E f k v n f')
  put_or_replace f k v n f' rs b p h = (
    λ e. either_as new f k v n f' rs b h none e (λ s q. rw q) p,
    there (lookup k rs) refl,
  )
    where
      there : (o : Option Value) → lookup k rs ≡ o → lookup k rs ≢ none → ReplacePromise E f k v n f'
      there none e x = absurd (x e)
      there (some u) e x = either_as replacing f k v n f' rs b h (some u) e (λ s q. rw q) p

  packs : (f o : List ℕ) (n : ℕ) (o' : List ℕ) (rs : List Record) → PackPromise E f o n o' → Holds E f rs → length o ≡ length f → Packed E f rs n o'
  packs f o n o' rs p h l =
      let q = p.packed0 h.state h.stands l in
      let t = packed_to L faults f rs o' h q.1 in
      record {
        done0 = q.0;
        written = t.written;
        words = λ x i. t.written ∙ rw (words_one E rs (tree_of E rs) x (packed_words L rs (ascends f rs h) (legals f rs h)) i);
        back = t.back;
        alike = t.alike;
      }

  pub demand2 : Demand2 E
  demand2 = record {
    check = λ f n p. (λ e. p.told.good (λ q. omega arith) (λ q. omega arith), p.good0);
    holds = λ f g. (records_of g.0.tree, record { state = g.0; stands = g.1; set = refl });
    one = one_set;
    set = ascends;
    by_key = λ f g rs qs h i. (λ e k. rw e, lookup_all rs qs (ascends f rs h) (ascends g qs i));
    format = formats;
    look_up = looked_up;
    value = valued;
    change = changed;
    put = λ f k v n f' rs b b' p h r. let d = did L faults f (put k v) n f' h.state (b, b') p h.stands r in
        let q = absent_or_there (lookup k rs) n 0 11 (λ z. omega arith) (d.answer ∙ d.work.answer ∙ rw h.set) in
        (q.0, q.1, λ e. p.kept (rw e));
    replace = λ f k v n f' rs b b' p h r. let d = did L faults f (replace k v) n f' h.state (b, b') p h.stands r in
        let q = absent_or_there (lookup k rs) n 8 9 (λ z. omega arith) (d.answer ∙ d.work.answer ∙ rw h.set) in
        (q.0, q.1, λ e. p.kept (rw e));
    put_or_replace = put_or_replace;
    erase = λ f k n f' rs b p h r. let d = did L faults f (erase k) n f' h.state b p h.stands r in
        let q = absent_or_there (lookup k rs) n 8 0 (λ z. omega arith) (d.answer ∙ d.work.answer ∙ rw h.set) in
        (q.0, q.1, λ e. p.kept (rw e));
    pack = packs;
    put_room = put_room;
    replace_room = replace_room;
    erase_room = erase_room;
  }
