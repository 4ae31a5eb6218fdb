-- The only record: the tree is its Leaf, and the frame becomes what format leaves. Assumes nothing.
use Prim.Native.Nat.{ℕ, ◌≤◌}
use mathlib.Core.Path.{◌≡◌, refl, sym, ap, subst, ◌∙◌}
use mathlib.Core.List.{List, [], ◌∷◌}
use mathlib.Core.Option.{some}
use native.Mathlib.Omega.{arith}
use borrow.Author.Tests.{eq-eqb}
use lib.ListN.{length}
use Rattle.layout.specs.Number.{le}
use Rattle.layout.specs.Place.{at_edition, at_n}
use Rattle.model.specs.Edition.{Edition, Lawful, Value}
use Rattle.model.specs.Tree.{Art, find_tree}
use Rattle.model.specs.State.{State, done, formatted, erase_found, erase_in, call_erase}
use Rattle.model.specs.Image.{image}
use Rattle.model.specs.Item.{leafy}
use Rattle.model.specs.Frame.{Lay, tree, root_art, Stands}
use Rattle.model.specs.Frame.Lay.{leaf}
use Rattle.model.proofs.StringLaws.{same_refl}
use Rattle.model.proofs.UniqueLaws.{root_unique}
use Rattle.model.proofs.FormatLaws.{empty_stands}
use Rattle.blank.specs.Limits.{Limits}
use Rattle.between.specs.Hole.{Step, under, among, plug}
use Rattle.between.specs.Lead.{NotUnder}
use Rattle.between.proofs.HoleLaws.{plug_none}
use Rattle.between.proofs.WorkLaws.{stands_sum, leafy_leaf}
use Rattle.descent.specs.declared.spot.Spot.{Spot}
use Rattle.descent.specs.Spot.{NotAmong, Way, ThisKey}
use Rattle.erase_remove.specs.Erase.{OnlyAt, OnlyStep}
use Rattle.erase_remove.proofs.DoneLaws.{Result, as_step}

-- the capacity and the edition's number that the frame says, and its length
module _ {E : Edition} {f : List ℕ} {s : State} (w : Stands E f s) where
  pub header_long : 64 ≤ length f
  header_long = let l = w.heap.header.limits in omega (arith, w.heap.header.size)

  numbers : (length f ≡ s.F) × (le 4 f at_n ≡ s.N)
  numbers =
      let H = w.heap.header in
      (H.size ∙ sym (ap (λ (z : State). z.F) w.state), H.slots_at ∙ sym (ap (λ (z : State). z.N) w.state))

  number_is : le 4 f at_edition ≡ E.number
  number_is = w.heap.header.edition ∙ ap (λ (x : Edition). x.number) w.edition_is

  pub limits : {n : ℕ} → n ≡ le 4 f at_n → Limits (length f) n
  limits en =
      let H = w.heap.header in
      let z = en ∙ H.slots_at in
      let b = H.bump_in in
      rw (z, H.size) (record { long = H.limits; slots = H.slot_cap; room = omega arith })

  pub left_image : {g : List ℕ} {n : ℕ} → n ≡ le 4 f at_n → g ≡ image E (length f) n [] → g ≡ image E s.F s.N []
  left_image {g} {n} en eg = let a = numbers.0 in let b = en ∙ numbers.1 in eg ∙ rw (a, b) refl

  left_stands : {g : List ℕ} {n : ℕ} → Lawful E → n ≡ le 4 f at_n → g ≡ image E (length f) n [] → Stands E g (formatted s.F s.N)
  left_stands {g} {n} law en eg =
      let L = limits en in
      let a = numbers.0 in
      let b = en ∙ numbers.1 in
      let S : Stands E (image E (length f) n []) (formatted (length f) n) = empty_stands E (length f) n law.fields.number L.long L.slots L.room in
      let Z : Stands E g (formatted (length f) n) = rw eg S in
      rw (a, b) at Z

  -- erase of the key of the only Leaf
  module _ (l o e : ℕ) (k : List ℕ) (v : Value) (er : w.root ≡ tree (leaf l o e k v)) where
    one_record : s.R ≡ 1
    one_record = omega (arith, ap (λ (z : State). z.R) w.state, w.counted, stands_sum w (leaf l o e k v) er leafy, leafy_leaf l o e k v)

    is_erase : call_erase E s k ≡ done 0 (formatted s.F s.N)
    is_erase =
        let found : find_tree E (Art.leaf k v) 0 k ≡ some v = rw (same_refl k) refl in
        let gone : erase_found E s k (Art.leaf k v) (some v) ≡ done 0 (formatted s.F s.N) = rw (eq-eqb s.R 1 one_record) refl in
        ap (erase_in E s k) (ap (λ (z : State). z.tree) w.state ∙ ap root_art er) ∙ ap (erase_found E s k (Art.leaf k v)) found ∙ gone

    only_done : {g : List ℕ} {n : ℕ} → Lawful E → n ≡ le 4 f at_n → g ≡ image E (length f) n [] → Result f g k w (call_erase E s k)
    only_done {g} law en eg = subst (Result f g k w) (sym is_erase) (refl, left_stands law en eg, λ h. absurd (omega (arith, one_record)))

pub only_step : {f g : List ℕ} {n m : ℕ} → n ≡ le 4 f at_n → m ≡ le 4 f at_edition → ((E : Edition) → E.number ≡ m → g ≡ image E (length f) n []) → (E : Edition) (k : List ℕ) → OnlyAt E f k → OnlyStep E f k g
only_step {f} en em laid E k P =
    let eg = laid E (sym (number_is P.stands) ∙ sym em) in
    record {
      step = as_step k (λ s w. only_done w P.slot P.place P.extent k P.value (root_unique E f s P.st w P.stands ∙ P.is) P.lawful en eg);
      image = λ s w. left_image w en eg;
    }

-- ---- a spot that no node holds: the Leaf is the root

steps_none : (xs : List Step) → NotAmong xs → NotUnder xs → xs ≡ []
steps_none [] a u = refl
steps_none (under s o p ∷ xs) a u = absurd u
steps_none (among s o kind ls b j rs ∷ xs) a u = absurd a

pub only_at : {E : Edition} {f k : List ℕ} {p : Spot} {st : State} {lay : Lay} → Lawful E → (w : Stands E f st) → w.root ≡ tree lay → (W : Way E k lay p) → ThisKey k p W.steps W.sub → p.node.slot ≡ 0 → OnlyAt E f k
only_at {p = p} {st = st} law w er W F z =
    record {
      lawful = law;
      st = st;
      stands = w;
      slot = p.here.slot;
      place = p.here.place;
      extent = F.extent;
      value = F.value;
      is = er ∙ ap tree (W.whole ∙ ap (λ (ys : List Step). plug ys W.sub) (steps_none W.steps (W.over.free z) F.free) ∙ plug_none W.sub ∙ F.is);
    }
