-- The theorems of `demands`, of calls that were made. Assumes nothing.
use Prim.Native.Nat.{ℕ, ◌<◌, ◌≤◌}
use mathlib.Core.Path.{◌≡◌, refl, sym, ap, subst, ◌∙◌}
use mathlib.Core.List.{List, [], ◌++◌, append-nil}
use mathlib.Core.Option.{Option, none, some}
use mathlib.Core.Logic.{◌≢◌}
use lib.ListN.{length, take, drop}
use lib.Seq.{take-length, drop-length}
use Rattle.layout.specs.Number.{Bytes}
use Rattle.model.specs.Edition.{Edition, Value, text_of, Legal}
use Rattle.model.specs.Records.{Record, lookup, upsert}
use Rattle.model.specs.Promise.{FormatPromise, LookUpPromise, PutPromise, ReplacePromise, PutOrReplacePromise, PackPromise}
use Rattle.model.specs.Call.{Call, put, replace, edited}
use Rattle.model.proofs.StringLaws.{clash}
use Rattle.model.proofs.SetLaws.{lookup_upsert}
use Rattle.model.proofs.TextLaws.{bytes_all}
use Rattle.demands.specs.Words.{NotRefused, Holds, OfBytes}
use Rattle.demands.proofs.DoneLaws.{good_frame, did, packed_of, packed_to}
use Rattle.demands.specs.Demands.{Demand2, Demand3}
use Rattle.demands.specs.AnyOrder.{AnyOrder}
use Rattle.demands.proofs.Theorems as theorems
use Rattle.editions.specs.declared.Edition.{Edition as Named}
use Rattle.editions.specs.Rules.{rules_of}
use Rattle.editions.proofs.RulesLaws.{lawful, number_names}
use Rattle.answers.specs.Number.{number_of, done_number, written_number}
use Rattle.demanded.specs.declared.change.Kind.{Kind}
use Rattle.demanded.specs.declared.change.Kind.TheVariants.{Put, Replace, Erase}
use Rattle.demanded.specs.declared.change.Change.{Change}
use Rattle.demanded.specs.declared.orders.Given.{Given}
use Rattle.std.specs.Prelude.{Some}
use Rattle.demanded.specs.declared.orders.Packs.{Packs}
use Rattle.demanded.specs.declared.readings.InNew.{InNew}
use Rattle.demanded.specs.declared.readings.InImage.{InImage}
use Rattle.store.specs.Found.{found_in}
use Rattle.store.specs.Write.{value_for}
use Rattle.store.proofs.PutCallLaws.{stamp_held}
use Rattle.demanded.specs.Orders.{told, call_at, call_of, InOrder, InBothOrders, Ordered, PackedBoth}
use Rattle.demanded.specs.Readings.{ReadInNew, ReadInImage}

-- ---- the theorems, of an edition that the code names

module _ (ed : Named) where
  faults : (k : List ℕ) → (rules_of ed).key_fault k ≤ 7
  faults = subst (λ (E : Edition). (k : List ℕ) → E.key_fault k ≤ 7) (number_names ed) (theorems.faults (rules_of ed).number)

  two : Demand2 (rules_of ed)
  two = subst Demand2 (number_names ed) (theorems.two (rules_of ed).number)

  three : Demand3 (rules_of ed)
  three = subst Demand3 (number_names ed) (theorems.three (rules_of ed).number)

  pub any_order : AnyOrder (rules_of ed)
  any_order = subst AnyOrder (number_names ed) (theorems.in_any_order (rules_of ed).number)

-- ---- demand 3

pub of_bytes : (ed : Named) (c : Change) → OfBytes (rules_of ed) (call_of (rules_of ed) c)
of_bytes ed c = at c.kind
  where
    at : (e : Kind) → OfBytes (rules_of ed) (call_at e c.key.now (value_for (rules_of ed) c.value.now c.stamp))
    at Put = (bytes_all c.key.now c.bytes.0, (bytes_all c.value.now c.bytes.1, stamp_held ed c.stamp))
    at Replace = (bytes_all c.key.now c.bytes.0, (bytes_all c.value.now c.bytes.1, stamp_held ed c.stamp))
    at Erase = bytes_all c.key.now c.bytes.0

-- a copy of all the bytes
pub copied : (f g : List ℕ) → length g ≡ length f → take (length f) f ++ drop (length f) g ≡ f
copied f g e = let z : drop (length f) g ≡ [] = ap (λ (n : ℕ). drop n g) (sym e) ∙ drop-length g in rw (take-length f, z) (append-nil f)

in_both_orders : (ed : Named) {f o p f' o' g' p' : List ℕ} {c d : Call} {x y : Given} → OfBytes (rules_of ed) c → OfBytes (rules_of ed) d → InOrder (rules_of ed) f o c d x f' o' → InOrder (rules_of ed) f p d c y g' p' → InBothOrders (rules_of ed) f o p c d x y f' o' g' p'
in_both_orders ed {f} {o} {p} {f'} {o'} {g'} {p'} {c} {d} {x} {y} bc bd F B = record {
  forth = F;
  back = B;
  same = λ ne r t.
      let q = (three ed).order f c d (told x.first) (told x.second) (told y.first) (told y.second) F.between f' B.between g' bc bd ne F.first F.second B.first B.second r.0 r.1 t.0 t.1 in
      (q.0, q.1, q.2 o o' p p' (done_number x.packed) (done_number y.packed) F.packed B.packed r.2 t.2);
}

-- h is the copy
pub ordered : (ed : Named) {c d : Call} → OfBytes (rules_of ed) c → OfBytes (rules_of ed) d → (g : List ℕ) {f o h p f' o' g' p' : List ℕ} {x y : Given} → length g ≡ length f → h ≡ take (length f) f ++ drop (length f) g
    → InOrder (rules_of ed) f o c d x f' o' → InOrder (rules_of ed) h p d c y g' p' → Ordered (rules_of ed) f o g p c d (Some (x, y)) f' o' g' p'
ordered ed {c} {d} bc bd g {f} {p = p} {g' = g'} {p' = p'} {y = y} q z F B =
    (q, in_both_orders ed bc bd F (subst (λ (l : List ℕ). InOrder (rules_of ed) l p d c y g' p') (z ∙ copied f g q) B))

pub packed_both : (ed : Named) {f o g p : List ℕ} {r : Packs} {o' p' : List ℕ} → PackPromise (rules_of ed) f o (done_number r.first) o' → PackPromise (rules_of ed) g p (done_number r.second) p' → PackedBoth (rules_of ed) f o g p r o' p'
packed_both ed {f} {o} {g} {p} {r} {o'} {p'} F S =
    record { first = F; second = S; same = λ rs qs len cap h i. (three ed).images f g o o' p p' (done_number r.first) (done_number r.second) rs qs len cap h i F S }

-- ---- demand 2

module _ (ed : Named) (k : List ℕ) (v : Value) (bk : Bytes k) (bv : Bytes (text_of v)) (held : v.stamp < (rules_of ed).stamps) where
  abbrev E : Edition
  E = rules_of ed

  b : OfBytes E (put k v)
  b = (bytes_all k bk, (bytes_all (text_of v) bv, held))

  record Kept (f' : List ℕ) (rs : List Record) : Type 0 where
    pub legal : Legal E k
    pub holds : Holds E f' (upsert k v rs)
    pub there : lookup k (upsert k v rs) ≡ some v

  put_kept : {f f' : List ℕ} {n : ℕ} {rs : List Record} → PutPromise E f k v n f' → Holds E f rs → NotRefused n → lookup k rs ≡ none → Kept f' rs
  put_kept {f} {f'} {n} {rs} P h r e =
      let is : edited (put k v) rs ≡ upsert k v rs = rw e in
      record { legal = (did (lawful ed) (faults ed) f (put k v) n f' h.state b P h.stands r).legal.0; holds = subst (Holds E f') is ((two ed).change f (put k v) n f' rs b P h r).0; there = lookup_upsert k v rs }

  replace_kept : {f f' : List ℕ} {n : ℕ} {rs : List Record} {w : Value} → ReplacePromise E f k v n f' → Holds E f rs → NotRefused n → lookup k rs ≡ some w → Kept f' rs
  replace_kept {f} {f'} {n} {rs} P h r e =
      let is : edited (replace k v) rs ≡ upsert k v rs = rw e in
      record { legal = (did (lawful ed) (faults ed) f (replace k v) n f' h.state b P h.stands r).legal.0; holds = subst (Holds E f') is ((two ed).change f (replace k v) n f' rs b P h r).0; there = lookup_upsert k v rs }

  kept : {f f' : List ℕ} {n : ℕ} {rs : List Record} → PutOrReplacePromise E f k v n f' → Holds E f rs → NotRefused n → Kept f' rs
  kept {f} {f'} {n} {rs} P h r = go (lookup k rs) refl
    where
      asked : (lookup k rs ≡ none → PutPromise E f k v n f') × (lookup k rs ≢ none → ReplacePromise E f k v n f')
      asked = (two ed).put_or_replace f k v n f' rs b.0 P h

      go : (o : Option Value) → lookup k rs ≡ o → Kept f' rs
      go none e = put_kept (asked.0 e) h r e
      go (some w) e = replace_kept (asked.1 (λ z. clash (let y : some w ≡ none = sym e ∙ z in cc))) h r e

  pub read_in_new : {f e f' : List ℕ} {len cap : ℕ} {r : InNew} → FormatPromise E f len cap (done_number r.formatted) e → PutPromise E e k v (number_of written_number r.put) f' → LookUpPromise E f' k (found_in r.found)
      → ReadInNew E f len cap k v r f'
  read_in_new {f} {e} {f'} {len} {cap} {r} F P L =
      record {
        empty = e;
        formatted = F;
        put = P;
        looked = L;
        back = λ x y.
            let h = ((two ed).format f len cap (done_number r.formatted) e F x).0 in
            let q = put_kept P h y refl in
            (((two ed).put e k v (number_of written_number r.put) f' [] b.0 b.1 P h y).0.1 refl, (((two ed).look_up f' k (found_in r.found) (upsert k v []) q.legal L q.holds).there0 v).0 q.there);
      }

  pub read_in_image : {f o f' o' : List ℕ} {r : InImage} → PutOrReplacePromise E f k v (number_of written_number r.put) f' → PackPromise E f' o (done_number r.packed) o' → LookUpPromise E o' k (found_in r.found)
      → ReadInImage E f o k v r f' o'
  read_in_image {f} {o} {f'} {o'} {r} P Q L =
      record {
        put = P;
        packed = Q;
        looked = L;
        back = λ x y.
            let h = (two ed).holds f (good_frame E f (number_of written_number r.put) P.told x) in
            let q = kept P h.1 x in
            let i = q.holds in
            let w = (packed_to (lawful ed) (faults ed) f' (upsert k v h.0) o' i (packed_of E f' o (done_number r.packed) o' i.state Q i.stands y).1).back in
            (((two ed).look_up o' k (found_in r.found) (upsert k v h.0) q.legal L w).there0 v).0 q.there;
      }
