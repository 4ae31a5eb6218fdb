-- The edit that a spot calls for, and the ends of a put, a replacement and either: nothing to do, no room, or done. Assumes nothing.
use Prim.Native.Nat.{ℕ, ◌+◌, ◌<◌, ◌≤◌}
use mathlib.Core.Path.{◌≡◌, refl, sym, ap, subst, ◌∙◌}
use mathlib.Core.List.{List}
use mathlib.Core.Bool.{Bool, true, false}
use native.Mathlib.Omega.{arith}
use lib.ListN.{length}
use Rattle.layout.specs.Kind.{most, number_of}
use Rattle.model.specs.Strings.{pick}
use Rattle.model.specs.Edition.{Edition, Value, text_of}
use Rattle.model.specs.State.{State, Done, done, find_in, put_change, room, call_put, Write, new, replacing, call_write}
use Rattle.model.specs.Records.{absent}
use Rattle.model.specs.Body.{InnerAt}
use Rattle.model.specs.Frame.{Lay, pairs, Tree, Stands}
use Rattle.model.specs.Promise.{changes}
use Rattle.model.proofs.StringLaws.{clash}
use Rattle.model.proofs.PutLaws.{put_in_ok}
use Rattle.model.proofs.StateLaws.{find_good}
use Rattle.model.proofs.StandsGood.{stands_good}
use Rattle.room.specs.declared.fit.Room.{Room}
use Rattle.room.specs.declared.fit.Needs.{Needs}
use Rattle.room.specs.Fit.{Fit, RoomOf}
use Rattle.room.proofs.FitLaws.{fits_room}
use Rattle.between.specs.Hole.{path_of}
use Rattle.between.proofs.TreeLaws.{node_parts}
use Rattle.descent.specs.declared.spot.End.TheVariants as end
use Rattle.descent.specs.declared.spot.Spot.{Spot}
use Rattle.descent.specs.Spot.{SpotAt, InTree}
use Rattle.descent.proofs.SeatLaws.{hole}
use Rattle.leaf_new.specs.Put.{PutAt, PutStep}
use Rattle.put_add.specs.Missing.{Open, Full, Vacant}
use Rattle.put_replace.specs.Put.{Present}
use Rattle.put_split.specs.Split.{AtOther}
use Rattle.put_cut.specs.Cut.{AtPart}
use Rattle.plan.specs.Plan.{PutFrom, PutPlan}
use Rattle.plan.proofs.PutLaws.{node_room, last_end}
use Rattle.put_core.specs.declared.Way.{Way}
use Rattle.put_core.specs.declared.Way.TheVariants as way
use Rattle.put_core.specs.Core.{way_of, AtSpot, PutSpot, AtNode, Tried, Left, WriteMade}
use Rattle.put_core.proofs.ChangeLaws.{fresh_found, fresh_absent}

differ : ◌≡◌ {A = Bool} false true → ⊥
differ z = clash (cc)

-- ---- what each edit counts on

module _ {E : Edition} {f k word : List ℕ} {v : Value} {p : Spot} (P : PutSpot E f k word v p) where
  from_spot : PutFrom E f k (text_of v) p
  from_spot = record { lawful = P.ready.lawful; st = P.ready.st; stands = P.ready.stands; spot = P.spot; key = P.ready.legal; value = P.ready.legal_value.passes }

  abbrev put_at : InTree E k P.ready.stands.root p → PutAt E f k v p
  put_at I = record { ready = P.ready; lay = I.lay; is = I.is; way = I.spot.way }

  pub at_found : p.end ≡ end.Found → Present E f k v p
  at_found e = let I = P.spot.in_tree (λ z. clash (cc)) in record { put = put_at I; found = I.spot.found e }

  pub at_empty : p.end ≡ end.Empty → Vacant E f k v
  at_empty e = record { ready = P.ready; slot = p.here.slot; place = p.here.place; is = P.spot.empty e }

  pub at_other : p.end ≡ end.Other → AtOther E f k word v p
  at_other e = let I = P.spot.in_tree (λ z. clash (cc)) in record { put = put_at I; spells = P.spells; other = I.spot.other e }

  pub at_node : p.end ≡ end.Missing → AtNode E f k word v p
  at_node e = record { put = P; ends = e }

  pub at_part : (p.end ≡ end.Found → ⊥) → (p.end ≡ end.Empty → ⊥) → (p.end ≡ end.Other → ⊥) → (p.end ≡ end.Missing → ⊥) → AtPart E f k word v p
  at_part a b c d = let I = P.spot.in_tree b in record { put = put_at I; spells = P.spells; part = I.spot.parted (last_end from_spot a b c d) }

-- ---- at an inner node without the byte

module _ {E : Edition} {f k word : List ℕ} {v : Value} {p : Spot} (A : AtNode E f k word v p) where
  abbrev inside : InTree E k A.put.ready.stands.root p
  inside = A.put.spot.in_tree (λ z. let e = A.ends in clash (cc))

  inner_at : InnerAt f p.here.place (number_of p.here.kind) (pairs (inside.spot.missing A.ends).kids)
  inner_at =
      let I = inside in
      let N = I.spot.missing A.ends in
      let T = (hole E (record { st = A.put.ready.st; stands = A.put.ready.stands; lay = I.lay; is = I.is; way = I.spot.way })).2 in
      (node_parts E f (path_of I.spot.way.steps) p.here.slot p.here.place (number_of p.here.kind) N.kids (subst (λ (t : Lay). Tree E f (path_of I.spot.way.steps) t) N.is T)).1.inner

  pub node_fits : (p.here.place + 2 ≤ length f) × ((number_of p.here.kind) < 9)
  node_fits = node_room (from_spot A.put) A.ends

  module _ {n m : ℕ} (count : (kind : ℕ) (ks : List (ℕ × ℕ)) → InnerAt f p.here.place kind ks → n ≡ length ks) (em : m ≡ most (number_of p.here.kind)) where
    pub node_open : n < m → Open E f k word v p
    node_open l = record { put = put_at A.put inside; spells = A.put.spells; missing = inside.spot.missing A.ends; few = omega (arith, count (number_of p.here.kind) _ inner_at) }

    pub node_full : (n < m → ⊥) → Full E f k word v p
    node_full l = record { put = put_at A.put inside; spells = A.put.spells; missing = inside.spot.missing A.ends; full = omega (arith, count (number_of p.here.kind) _ inner_at) }

-- ---- the write

module _ {E : Edition} {f k word : List ℕ} {v : Value} {p : Spot} (A : AtSpot E f k word v p) where
  abbrev S : (s : State) (w : Stands E f s) → SpotAt E k w.root p
  S = A.spot

  pub plans : PutFrom E f k (text_of v) p
  plans = let a = A.asked in record { lawful = a.lawful; st = a.st; stands = a.stands; spot = S a.st a.stands; key = a.legal; value = a.legal_value.passes }

  module _ {n : Needs} (N : PutPlan E f k (text_of v) p n) {r : Room} (R : (E : Edition) (s : State) → Stands E f s → RoomOf r s n) {b : Bool} (F : (b ≡ true → Fit r n) × (Fit r n → b ≡ true)) where
    room_any : (s : State) (w : Stands E f s) → b ≡ room s (put_change E s k v)
    room_any s w = fits_room (put_change E s k v) (N s w (S s w) v.stamp) (R E s w) F

    pub spotted : 1 ≤ length k → b ≡ true → PutSpot E f k word v p
    spotted some e =
        let a = A.asked in
        record {
          ready = record { lawful = a.lawful; st = a.st; stands = a.stands; legal = a.legal; some = some; legal_value = a.legal_value; room = sym (room_any a.st a.stands) ∙ e };
          spells = A.spells;
          spot = S a.st a.stands;
        }

    pub no_room : b ≡ false → Tried E f k v false f
    no_room e = record { room = λ s w. sym e ∙ room_any s w; done = λ z. absurd (differ z); kept = λ z. refl }

    pub there_was : {f' : List ℕ} → b ≡ true → PutStep E f k v f' → Tried E f k v true f'
    there_was e T = record { room = λ s w. sym e ∙ room_any s w; done = λ z. T; kept = λ z. absurd (differ (sym z)) }

-- ---- put, replacement and either of them, where the descent ended at p

-- a number that changes nothing leaves the frame and its state
pub left_same : (E : Edition) {f : List ℕ} (k : List ℕ) (v : Value) (n : ℕ) {s : State} (w : Stands E f s) {d : Done} → changes n ≡ false → d ≡ done n s → Left E f k v n f s w d
left_same E {f} k v n {s} w z e = subst (Left E f k v n f s w) (sym e) (w, λ t. absurd (differ (sym z ∙ t)))

-- the two numbers of a put that is done
done_changes : (fresh : Bool) → changes (pick fresh 0 9) ≡ true
done_changes true = refl
done_changes false = refl

module _ {E : Edition} {f k word : List ℕ} {v : Value} {p : Spot} (A : AtSpot E f k word v p) where
  -- the key is there, or it is not
  found : p.end ≡ end.Found → (s : State) → Stands E f s → (put_change E s k v).fresh ≡ false
  found h s w = fresh_found v w (A.spot s w) h

  missing : (p.end ≡ end.Found → ⊥) → (s : State) → Stands E f s → (put_change E s k v).fresh ≡ true
  missing h s w = fresh_absent v w (A.spot s w) h

  absent_is : (s : State) → Stands E f s → absent (find_in E s.tree k) ≡ (put_change E s k v).fresh
  absent_is s w =
      let g = stands_good E f s w in
      ap absent (find_good A.asked.lawful s k g A.asked.legal) ∙ sym (put_in_ok A.asked.lawful s.tree k v g.well A.asked.legal A.asked.legal_value).new

  -- nothing is done
  idle : (a : Write) (n : ℕ) → changes n ≡ false → ((s : State) → Stands E f s → call_write E a s k v ≡ done n s) → WriteMade E a f k v n f
  idle a n z is = record { answer = λ s w. sym (ap (λ (d : Done). d.answer) (is s w)); after = λ s w. left_same E k v n w z (is s w); kept = λ q. refl }

  module _ {b : Bool} {f' : List ℕ} (W : Tried E f k v b f') where
    full : b ≡ false → (a : Write) → ((s : State) → Stands E f s → call_write E a s k v ≡ call_put E s k v) → WriteMade E a f k v 6 f'
    full e a is = subst (WriteMade E a f k v 6) (sym (W.kept e)) (idle a 6 refl (λ s w. is s w ∙ rw (sym (W.room s w) ∙ e) refl))

    made : b ≡ true → (a : Write) → ((s : State) → Stands E f s → call_write E a s k v ≡ call_put E s k v) → (fresh : Bool) → ((s : State) → Stands E f s → (put_change E s k v).fresh ≡ fresh)
        → WriteMade E a f k v (pick fresh 0 9) f'
    made e a is fresh told =
        record {
          answer = λ s w. sym (ap (λ (d : Done). d.answer) (is s w) ∙ answer s w ∙ ap (λ x. pick x 0 9) (told s w));
          after = λ s w. let T = (W.done e).after s w in subst (Left E f k v (pick fresh 0 9) f' s w) (sym (is s w)) (T.0, λ z. T.1);
          kept = λ z. absurd (differ (sym z ∙ done_changes fresh));
        }
      where
        answer : (s : State) → Stands E f s → (call_put E s k v).answer ≡ pick (put_change E s k v).fresh 0 9
        answer s w = rw (sym (W.room s w) ∙ e) refl

    -- a put of an absent key is document 01's, unless it is to replace one
    as_fresh : (a : Way) → (a ≡ way.Replacing → ⊥) → (p.end ≡ end.Found → ⊥) → (s : State) → Stands E f s → call_write E (way_of a) s k v ≡ call_put E s k v
    as_fresh way.New n h s w = rw (absent_is s w ∙ missing h s w) refl
    as_fresh way.Replacing n h s w = absurd (n refl)
    as_fresh way.Either n h s w = refl

    pub fresh_full : (a : Way) → (a ≡ way.Replacing → ⊥) → (p.end ≡ end.Found → ⊥) → b ≡ false → WriteMade E (way_of a) f k v 6 f'
    fresh_full a n h e = full e (way_of a) (as_fresh a n h)

    pub fresh_made : (a : Way) → (a ≡ way.Replacing → ⊥) → (p.end ≡ end.Found → ⊥) → b ≡ true → WriteMade E (way_of a) f k v 0 f'
    fresh_made a n h e = made e (way_of a) (as_fresh a n h) true (missing h)

    -- and so is a replacement of a present one, unless it is to be new
    as_there : (a : Way) → (a ≡ way.New → ⊥) → p.end ≡ end.Found → (s : State) → Stands E f s → call_write E (way_of a) s k v ≡ call_put E s k v
    as_there way.New n h s w = absurd (n refl)
    as_there way.Replacing n h s w = rw (absent_is s w ∙ found h s w) refl
    as_there way.Either n h s w = refl

    pub there_full : (a : Way) → (a ≡ way.New → ⊥) → p.end ≡ end.Found → b ≡ false → WriteMade E (way_of a) f k v 6 f'
    there_full a n h e = full e (way_of a) (as_there a n h)

    pub there_made : (a : Way) → (a ≡ way.New → ⊥) → p.end ≡ end.Found → b ≡ true → WriteMade E (way_of a) f k v 9 f'
    there_made a n h e = made e (way_of a) (as_there a n h) false (found h)

  pub new_present : p.end ≡ end.Found → WriteMade E new f k v 11 f
  new_present h = idle new 11 refl (λ s w. rw (absent_is s w ∙ found h s w) refl)

  pub replace_absent : (p.end ≡ end.Found → ⊥) → WriteMade E replacing f k v 8 f
  replace_absent h = idle replacing 8 refl (λ s w. rw (absent_is s w ∙ missing h s w) refl)
