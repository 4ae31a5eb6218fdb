-- The edit that the Leaf's node calls for, and the erase's four ends: absent, the only record, no room, done. Assumes nothing.
use Prim.Native.Nat.{ℕ, ◌+◌, ◌-◌, ◌<◌, ◌≤◌}
use mathlib.Core.Path.{◌≡◌, refl, sym, ap, subst, ◌∙◌}
use mathlib.Core.List.{List}
use mathlib.Core.Bool.{Bool, true, false}
use mathlib.Core.Option.{Option, none, some}
use native.Mathlib.Omega.{arith}
use lib.ListN.{length, take, drop}
use Rattle.layout.specs.Kind.{shrink_mark, number_of}
use Rattle.model.specs.Strings.{pick}
use Rattle.model.specs.Edition.{Edition, text_of}
use Rattle.model.specs.Tree.{Art}
use Rattle.model.specs.State as state
use Rattle.model.specs.State.{State, Done, done, room, find_in, erase_change, erase_in, call_erase}
use Rattle.model.specs.Body.{InnerAt}
use Rattle.model.specs.Frame.{art, pairs, root_art, Stands}
use Rattle.model.specs.Promise.{changes}
use Rattle.model.proofs.StringLaws.{clash}
use Rattle.model.proofs.GoodState.{GoodAt}
use Rattle.model.proofs.StandsGood.{stands_good}
use Rattle.model.proofs.StateLaws.{erase_more}
use Rattle.inner.proofs.InnerLaws.{inner_count}
use Rattle.room.specs.declared.fit.Room.{Room}
use Rattle.room.specs.declared.fit.Needs.{Needs}
use Rattle.room.specs.Fit.{Fit, RoomOf}
use Rattle.room.proofs.FitLaws.{fits_room}
use Rattle.between.proofs.EraseLaws.{erase_is}
use Rattle.descent.specs.declared.spot.End.TheVariants as end
use Rattle.descent.specs.declared.spot.Spot.{Spot}
use Rattle.descent.specs.Lookup.{value_in}
use Rattle.descent.specs.Spot.{SpotAt, InTree}
use Rattle.descent.proofs.LookLaws.{value_stands, found_leaf, spot_none}
use Rattle.erase_remove.specs.Erase.{EraseAt, Stays, Falls, EraseStep, OnlyAt, OnlyStep, counted}
use Rattle.erase_remove.proofs.SpotLaws.{kids, N0}
use Rattle.erase_remove.proofs.OnlyLaws.{only_at}
use Rattle.erase_join.specs.Erase.{Pair}
use Rattle.plan.specs.Erase.{EraseFrom, Erasing, ErasePlan}
use Rattle.plan.proofs.PutLaws.{inner_fits}
use Rattle.erase_core.specs.Core as core
use Rattle.erase_core.specs.Core.{Asked, EraseMade}

-- ---- what each edit counts on

module _ {E : Edition} {f k : List ℕ} {p : Spot} (P : EraseAt E f k p) where
  inner_at : InnerAt f p.node.place (number_of p.node.kind) (pairs (kids P P.st P.stands))
  inner_at = (N0 P P.st P.stands).inner

  pub node_fits : (p.node.place + 2 ≤ length f) × ((number_of p.node.kind) < 9)
  node_fits = inner_fits (pairs (kids P P.st P.stands)) inner_at

  -- m: the children that are counted; g: the mark
  module _ {m g : ℕ} (count : (kind : ℕ) (ks : List (ℕ × ℕ)) → InnerAt f p.node.place kind ks → m ≡ length ks) (mark : g ≡ shrink_mark (number_of p.node.kind)) where
    count_is : counted f p ≡ m
    count_is = inner_count (pairs (kids P P.st P.stands)) inner_at ∙ sym (count (number_of p.node.kind) _ inner_at)

    pub at_keeps : (m ≡ g + 1 → ⊥) → Stays E f k p
    at_keeps d = record { erase = P; more = λ z. d (omega (arith, count_is)) }

    pub at_pair : m ≡ g + 1 → (number_of p.node.kind) ≡ 4 → Pair E f k p
    at_pair d e = record { at = P; kind = e; two = omega (arith, count_is, ap shrink_mark e) }

    pub at_mark : m ≡ g + 1 → ((number_of p.node.kind) ≡ 4 → ⊥) → Falls E f k p
    at_mark d e = let r = inner_at.range in record { erase = P; large = omega arith; mark = omega (arith, count_is) }

-- ---- the erase

differ : ◌≡◌ {A = Bool} true false → ⊥
differ z = clash (cc)

-- a number that changes nothing is not 0
pub never_zero : (n : ℕ) → changes n ≡ false → n ≡ 0 → ⊥
never_zero n z e = differ (sym (ap changes e) ∙ z)

-- the frame and its state are left
pub left_same : (E : Edition) {f : List ℕ} (k : List ℕ) (n : ℕ) {s : State} (w : Stands E f s) {d : Done} → changes n ≡ false → d ≡ done n s → core.Left E f k n f s w d
left_same E {f} k n {s} w z e = subst (core.Left E f k n f s w) (sym e) (w, λ q. absurd (never_zero n z q))

unchanged : (E : Edition) {f : List ℕ} (k : List ℕ) (n : ℕ) → changes n ≡ false → ((s : State) → Stands E f s → call_erase E s k ≡ done n s) → EraseMade E f k n f
unchanged E {f} k n z is =
    record {
      answer = λ s w. sym (ap (λ (d : Done). d.answer) (is s w));
      after = λ s w. left_same E k n w z (is s w);
      only = λ s w e. absurd (never_zero n z e);
      kept = λ e. refl;
    }

absent_is : (E : Edition) (s : State) (k : List ℕ) (t : Option Art) → find_in E t k ≡ none → erase_in E s k t ≡ done 8 s
absent_is E s k none e = refl
absent_is E s k (some a) e = rw e refl

pub only_made : {E : Edition} {f k f' : List ℕ} → OnlyStep E f k f' → EraseMade E f k 0 f'
only_made O =
    record {
      answer = λ s w. sym (O.step.answer s w);
      after = λ s w. ((O.step.after s w).0, λ z. (O.step.after s w).1);
      only = λ s w z e. O.image s w;
      kept = λ z. absurd (differ z);
    }

module _ {E : Edition} {f k : List ℕ} (A : Asked E f k) {p : Spot} (S : (s : State) (w : Stands E f s) → SpotAt E k w.root p) where
  pub absent : (p.end ≡ end.Found → ⊥) → EraseMade E f k 8 f
  absent n = unchanged E k 8 refl (λ s w. absent_is E s k s.tree (value_stands E k w ∙ ap (value_in f) (spot_none E (S s w) n)))

  module _ (found : p.end ≡ end.Found) where
    inside : {s : State} (w : Stands E f s) → InTree E k w.root p
    inside {s} w = (S s w).in_tree (λ z. let e = found in clash (cc))

    pub only : p.node.slot ≡ 0 → OnlyAt E f k
    only z = let I = inside A.stands in only_at A.lawful A.stands I.is I.spot.way (I.spot.found found) z

    module _ (held : p.node.slot ≡ 0 → ⊥) where
      pub from : EraseFrom E f k p
      from = record { lawful = A.lawful; st = A.st; stands = A.stands; spot = S A.st A.stands; found = found; held = omega arith }

      module _ {n : Needs} (N : ErasePlan E f k p n) where
        erasing : (s : State) (w : Stands E f s) → Erasing E k (art (inside w).lay) n
        erasing s w = N.erasing s w (S s w) (inside w).lay (inside w).is

        -- the state after, if there is room
        abbrev fewer : (s : State) → Stands E f s → State
        fewer s w = state.after s (erase_change E (art (inside w).lay) k) (s.R - 1) (some (erasing s w).left)

        stands_tree : (s : State) (w : Stands E f s) → s.tree ≡ some (art (inside w).lay)
        stands_tree s w = ap (λ (z : State). z.tree) w.state ∙ ap root_art (inside w).is

        there : (s : State) (w : Stands E f s) → let L = found_leaf E w (S s w) found in find_in E (some (art (inside w).lay)) k ≡ some (record { bytes = take (length (text_of L.value)) (drop (L.extent + length k) f); stamp = L.value.stamp })
        there s w = ap (λ t. find_in E t k) (sym (stands_tree s w)) ∙ value_stands E k w ∙ ap (value_in f) (found_leaf E w (S s w) found).look

        -- a record that a node holds is not the only one
        more : (s : State) (w : Stands E f s) → s.R ≡ 1 → ⊥
        more s w =
            let a = art (inside w).lay in
            erase_more A.lawful s a k _ (erasing s w).left (subst (GoodAt E s) (stands_tree s w) (stands_good E f s w)) A.legal (there s w) (erasing s w).leaves

      module _ {n : Needs} (N : ErasePlan E f k p n) {r : Room} (R : (E' : Edition) (s : State) → Stands E' f s → RoomOf r s n) {b : Bool} (F : (b ≡ true → Fit r n) × (Fit r n → b ≡ true)) where
        room_any : (s : State) (w : Stands E f s) → b ≡ room s (erase_change E (art (inside w).lay) k)
        room_any s w = fits_room (erase_change E (art (inside w).lay) k) (erasing N s w).asks (R E s w) F

        call_is : (s : State) (w : Stands E f s) {x : Bool} → b ≡ x → call_erase E s k ≡ pick x (done 0 (fewer N s w)) (done 6 s)
        call_is s w e =
            let a = art (inside w).lay in
            erase_is E s k _ a (erasing N s w).left (erase_change E a k) (stands_tree N s w) (there N s w) refl (erasing N s w).leaves (more N s w) ∙ ap (λ y. pick y (done 0 (fewer N s w)) (done 6 s)) (sym (room_any s w) ∙ e)

        pub no_room : b ≡ false → EraseMade E f k 6 f
        no_room e = unchanged E k 6 refl (λ s w. call_is s w e)

        pub at_spot : 1 ≤ length k → b ≡ true → EraseAt E f k p
        at_spot long e =
            let I = inside A.stands in
            record {
              lawful = A.lawful;
              st = A.st;
              stands = A.stands;
              lay = I.lay;
              is = I.is;
              way = I.spot.way;
              found = I.spot.found found;
              held = omega arith;
              legal = A.legal;
              some = long;
              room = sym (room_any A.st A.stands) ∙ e;
            }

        pub erased : {f' : List ℕ} → b ≡ true → EraseStep E f k f' → EraseMade E f k 0 f'
        erased {f'} e T =
            record {
              answer = λ s w. sym (T.answer s w);
              after = λ s w. ((T.after s w).0, λ z. (T.after s w).1);
              only = λ s w z o. absurd (more N s w o);
              kept = λ z. absurd (differ z);
            }
