-- What a put makes, by the end of its descent: a new record, or another value. Assumes nothing.
use Prim.Native.Nat.{ℕ, ◌+◌}
use mathlib.Core.Path.{◌≡◌, refl, sym, ap, subst, ◌∙◌}
use mathlib.Core.List.{List, [], ◌∷◌}
use mathlib.Core.Bool.{Bool, true, false}
use native.Mathlib.Omega.{arith}
use native.Mathlib.Decide.{dec_lt}
use lib.ListN.{length, get_or, drop}
use lib.Seq.{get_or-drop}
use lib.Dec.{eqb}
use Rattle.layout.specs.Kind.{most, number_of}
use Rattle.model.specs.Strings.{pick, same}
use Rattle.model.specs.Edition.{Edition, Value, text_of}
use Rattle.model.specs.Tree.{Art, Change, extent_of, put_tree}
use Rattle.model.specs.State.{State, put_in, put_change}
use Rattle.model.specs.Frame.{Lay, Root, root_art, tree, art, pairs, Stands}
use Rattle.model.specs.Frame.Lay.{leaf, prefix, node}
use Rattle.model.proofs.StringLaws.{bool_cases, same_refl, same_true, clash}
use Rattle.between.specs.Hole.{plug}
use Rattle.between.proofs.LeadLaws.{node_put, node_grow}
use Rattle.between.proofs.KidsLaws.{look_none}
use Rattle.descent.specs.declared.spot.End.TheVariants as end
use Rattle.descent.proofs.EndLaws.{by_end}
use Rattle.descent.specs.declared.spot.Spot.{Spot}
use Rattle.descent.specs.Spot.{InTree, SpotAt}
use Rattle.leaf_new.proofs.DoneLaws.{change_is}
use Rattle.plan.proofs.PutLaws.{parted_put}

-- of a key that is there, whichever the lengths
present : (k : List ℕ) (v : Value) (a : Art) (b : Bool) (dead : ℕ)
    → (pick {X = Change Art} b (record { now = a; takes = []; frees = []; extent = 0; dead = 0; fresh = false }) (record { now = a; takes = []; frees = []; extent = extent_of k v; dead = dead; fresh = false })).fresh ≡ false
present k v a true dead = refl
present k v a false dead = refl

head_byte : (d : ℕ) (w : List ℕ) {b : ℕ} {r : List ℕ} → drop d w ≡ b ∷ r → get_or w d 0 ≡ b
head_byte d w e = let z : d + 0 ≡ d = omega arith in ap (λ i. get_or w i 0) (sym z) ∙ sym (get_or-drop d w 0 0) ∙ ap (λ x. get_or x 0 0) e

module _ {E : Edition} {f k : List ℕ} {st : State} {p : Spot} (v : Value) (w : Stands E f st) (S : SpotAt E k w.root p) where
  -- the change is that of the subtree where the descent ended
  there : {b : Bool} (I : InTree E k w.root p) (t : Lay) → I.spot.way.sub ≡ t → (put_tree E (art t) p.depth k v).fresh ≡ b → (put_change E st k v).fresh ≡ b
  there {b} I t e L =
      let W = I.spot.way in
      ap (λ (c : Change Art). c.fresh) (change_is k v w W.steps t (I.is ∙ ap tree (W.whole ∙ ap (plug W.steps) e)) W.leads refl) ∙ subst (λ d. (put_tree E (art t) d k v).fresh ≡ b) W.deep L

  pub fresh_found : p.end ≡ end.Found → (put_change E st k v).fresh ≡ false
  fresh_found e =
      let I = S.in_tree (λ z. clash (cc)) in
      let F = I.spot.found e in
      there I (leaf p.here.slot p.here.place F.extent k F.value) F.is (rw (same_refl k) (present k v (Art.leaf k v) (eqb (length (text_of v)) (length (text_of F.value))) (extent_of k F.value)))

  fresh_other : p.end ≡ end.Other → (put_change E st k v).fresh ≡ true
  fresh_other e =
      let I = S.in_tree (λ z. clash (cc)) in
      let F = I.spot.other e in
      let z : same k F.key ≡ false = bool_cases (same k F.key) (λ t. absurd (F.differs (same_true k F.key t))) (λ t. t) in
      there I (leaf p.here.slot p.here.place F.extent F.key F.value) F.is (rw z refl)

  fresh_missing : p.end ≡ end.Missing → (put_change E st k v).fresh ≡ true
  fresh_missing e =
      let I = S.in_tree (λ z. clash (cc)) in
      let F = I.spot.missing e in
      let t = node p.here.slot p.here.place (number_of p.here.kind) F.kids in
      let b : get_or (E.walked k) p.depth 0 ≡ F.byte = head_byte p.depth (E.walked k) F.next in
      let absent = look_none F.byte F.kids F.absent in
      there I t F.is (elim (dec_lt (length (pairs F.kids)) (most (number_of p.here.kind))) [
        | yes l ↦ ap (λ (c : Change Art). c.fresh) (node_put E k v p.depth F.byte (number_of p.here.kind) F.kids b absent l)
        | no l ↦ ap (λ (c : Change Art). c.fresh) (node_grow E k v p.depth F.byte (number_of p.here.kind) F.kids b absent (omega arith))
      ])

  fresh_parted : p.end ≡ end.Parted → (put_change E st k v).fresh ≡ true
  fresh_parted e =
      let I = S.in_tree (λ z. clash (cc)) in
      let F = I.spot.parted e in
      there I (prefix p.here.slot p.here.place F.bytes F.below) F.is (ap (λ (c : Change Art). c.fresh) (parted_put w S v I e))

  fresh_empty : p.end ≡ end.Empty → (put_change E st k v).fresh ≡ true
  fresh_empty e = ap (λ (s : State). (put_in E s.tree k v).fresh) w.state ∙ ap (λ (r : Root). (put_in E (root_art r) k v).fresh) (S.empty e)

  pub fresh_absent : (p.end ≡ end.Found → ⊥) → (put_change E st k v).fresh ≡ true
  fresh_absent n =
      by_end p.end (λ e. absurd ((S.in_tree (λ z. clash (cc))).spot.range.0 e)) fresh_empty (λ e. absurd (n e)) fresh_other fresh_missing fresh_parted
