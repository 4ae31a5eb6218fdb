-- The image of a good frame: of no records it is what format leaves; else the root's tree is packed from slot 1 and from D on, the header says
-- how far, and all else is zero. Assumes nothing.
use Prim.Native.Nat.{ℕ, ◌+◌, ◌-◌, ◌≤◌}
use mathlib.Core.Path.{◌≡◌, refl, sym, ap, subst, ◌∙◌}
use mathlib.Core.List.{List, []}
use mathlib.Core.Option.{Option, none, some}
use mathlib.Core.Logic.{inr}
use native.Mathlib.Omega.{arith}
use lib.ListN.{length}
use Rattle.layout.specs.Number.{le}
use Rattle.layout.specs.Place.{at_edition, data_start}
use Rattle.model.specs.Edition.{Edition}
use Rattle.model.specs.Tree.{Art}
use Rattle.model.specs.Records.{records_of}
use Rattle.model.specs.State.{State}
use Rattle.model.specs.Image.{numbers, packed_tree, slots, size, entries, bodies, image, image_of}
use Rattle.model.specs.Body.{Zero}
use Rattle.model.specs.Frame.{Lay, Root, bare, tree, root_art, root_slot, slot_of, art, Tree, RootAt}
use Rattle.model.proofs.Well.{Well}
use Rattle.model.proofs.GoodState.{TreeOk, GoodAt, GoodState}
use Rattle.model.proofs.StandsGood.{tree_well, stands_good, stands_heads}
use Rattle.model.proofs.StateLaws.{pack_fits, image_is}
use Rattle.model.proofs.PackStands.{empty_none}
use Rattle.model.proofs.PackedLaws.{packed_well}
use Rattle.model.proofs.PackedBytes.{length_entries}
use Rattle.model.proofs.UniqueLaws.{tree_unique}
use Rattle.moves.specs.Moved.{Cleared}
use Rattle.blank.specs.Limits.{Limits}
use Rattle.pack_body.specs.Part.{HeaderWritten}
use Rattle.pack_body.proofs.HasLaws.{has_only}
use Rattle.pack_body.proofs.ImageParts.{Parts, image_of_parts}
use Rattle.pack.specs.declared.bodies.Next.{Next}
use Rattle.pack.specs.Laid.{Laid}
use Rattle.inside.specs.Inside.{Inside}
use Rattle.inside.proofs.InsideLaws.{stands_inside}
use Rattle.pack.specs.Walk.{packed_lay, TreeReady, TreePacked}
use Rattle.pack.specs.Image.{Known, Imaged}
use Rattle.pack.proofs.LaidLaws.{laid_as}
use Rattle.pack.proofs.WalkLaws.{length_packed}

-- ---- no records

module _ {G E : Edition} {f : List ℕ} {capacity records root : ℕ} (K : Known G E f capacity records root) {n : ℕ} (long : n ≡ length f) where
  full_length : n ≡ K.state.F
  full_length = long ∙ (stands_heads G f K.state K.stands).size

  pub known_limits : Limits n capacity
  known_limits =
      let H = stands_heads G f K.state K.stands in
      let k = K.N in let b = H.bump_in in let e = full_length in
      record { long = rw e H.limits; slots = rw k H.slot_cap; room = omega arith }

  pub image_empty : {out : List ℕ} {number : ℕ} → number ≡ le 4 f at_edition → records ≡ 0 → ((X : Edition) → X.number ≡ number → out ≡ image X n capacity []) → Imaged G E f out
  image_empty q z e =
      let s = K.state in
      let t : s.tree ≡ none = (empty_none K.ruled f s K.stands).0 (sym K.R ∙ z) in
      record {
        state = s;
        stands = K.stands;
        is = e E (sym K.number ∙ sym q) ∙ (ap (λ (m : ℕ). image E m capacity []) full_length ∙ (ap (λ (m : ℕ). image E s.F m []) K.N ∙ ap (λ (x : Option Art). image E s.F s.N (records_of x)) (sym t)));
      }

-- ---- one record or more

-- a root that is no EmptyRoot
record TreeRoot (r : Root) : Type 0 where
  pub lay : Lay
  pub is : r ≡ tree lay

tree_root : (r : Root) → (root_art r ≡ none → ⊥) → TreeRoot r
tree_root (bare s o) h = absurd (h refl)
tree_root (tree l) h = record { lay = l; is = refl }

-- where packing starts: slot 1, and the first byte behind the entries
abbrev pub start_at : ℕ → Next
start_at d = record { slot = 1; place = d }

module _ {G E : Edition} {f : List ℕ} {capacity records root : ℕ} (K : Known G E f capacity records root) (more : 1 ≤ records) where
  tree_is : K.state.tree ≡ root_art K.stands.root
  tree_is = ap (λ (s : State). s.tree) K.stands.state

  rooted : TreeRoot K.stands.root
  rooted =
      tree_root K.stands.root (λ z.
      let e : K.state.R ≡ 0 = (empty_none K.ruled f K.state K.stands).1 (tree_is ∙ z) in
      let r = K.R in omega arith)

  abbrev lay : Lay
  lay = rooted.lay

  abbrev packed_root : Art
  packed_root = packed_lay lay

  root_tree : Tree E f [] lay
  unfolding RootAt
  root_tree = rw rooted.is at K.root_at

  root_slot_lem : slot_of lay ≡ root
  root_slot_lem = sym (K.slot ∙ ap root_slot rooted.is)

  some_tree : K.state.tree ≡ some (art lay)
  some_tree = tree_is ∙ ap root_art rooted.is

  lay_well : Well E (art lay) []
  lay_well = tree_well E f K.stands.bytes [] lay root_tree

  root_well : Well E packed_root []
  root_well = packed_well K.lawful (art lay) [] lay_well

  -- a state of the edition, whose rules differ in nothing that a state tells
  good_state : GoodState E K.state
  good_state =
      let S = stands_good G f K.state K.stands in
      record {
        well = subst (TreeOk E) (sym some_tree) lay_well;
        recs = S.recs;
        used = S.used;
        laid = S.laid;
        nine = S.nine;
        three = S.three;
        fits_u = S.fits_u;
        fits_b = S.fits_b;
      }

  root_fits : (slots packed_root ≤ capacity) × (data_start capacity + size packed_root ≤ length f)
  root_fits =
      let s = K.state in
      let S : GoodAt E s (some (art lay)) = subst (λ (t : Option Art). GoodAt E s t) some_tree good_state in
      let q = pack_fits K.lawful s (art lay) S in
      let n = K.N in let e = full_length K refl in
      (omega (arith, q.0), omega (arith, q.1))

  root_inside : Inside f lay
  root_inside = stands_inside G f K.state K.stands lay rooted.is

  module _ {n : ℕ} (long : n ≡ length f) {out zeroed : List ℕ} (same : length out ≡ n) (C : Cleared out zeroed 0 n) where
    start_ready : {left : ℕ} → left ≡ E.longest → TreeReady E f root left zeroed (start_at (data_start capacity))
    start_ready e =
        let L = (known_limits K long).long in
        let z = C.rest.size in
        let q = root_fits in
        record {
          lawful = K.lawful;
          lay = lay;
          path = [];
          tree = root_tree;
          slot_is = root_slot_lem;
          inside = root_inside;
          bytes = K.stands.bytes;
          deep = omega arith;
          room = record { first = omega arith; table = omega arith; fits = omega arith; limit = omega arith; zeros = λ a l k. C.zeros a (omega arith) (omega arith) };
        }

    pub image_start : {d left : ℕ} → d ≡ data_start capacity → left ≡ E.longest → TreeReady E f root left zeroed (start_at d)
    image_start p e = rw p (start_ready e)

    module _ {d : ℕ} (from : d ≡ data_start capacity) {packed : List ℕ} {end : Next} (done : TreePacked E f root zeroed (start_at d) packed end) where
      P : TreePacked E f root zeroed (start_at (data_start capacity)) packed end
      P = rw from at done

      laid : Laid (entries packed_root (data_start capacity)) (bodies packed_root 1 (data_start capacity)) (start_at (data_start capacity)) zeroed packed end
      laid =
          let same : P.lay ≡ lay = tree_unique E f P.path [] P.lay lay P.tree root_tree (P.slot_is ∙ sym root_slot_lem) in
          laid_as (ap (λ (l : Lay). entries (packed_lay l) (data_start capacity)) same) (ap (λ (l : Lay). bodies (packed_lay l) 1 (data_start capacity)) same) P.laid

      end_slot : end.slot ≡ 1 + slots packed_root
      end_slot = laid.slot_is ∙ ap (λ (n : ℕ). 1 + n) (length_entries packed_root (data_start capacity))

      pub end_some : 1 ≤ end.slot
      end_some = let e = end_slot in omega arith

      end_place : end.place ≡ data_start capacity + size packed_root
      end_place = laid.place_is ∙ ap (λ (n : ℕ). data_start capacity + n) (length_packed K.lawful f [] lay K.stands.bytes root_tree 1 (data_start capacity))

      pub head_zero : (64 ≤ length packed) × Zero packed 0 64 × (capacity ≤ 10240)
      head_zero =
          let L = known_limits K long in
          let a = L.long in let b = L.slots in
          let z = C.rest.size in let y = laid.long in
          (omega arith, λ i l. laid.below (0 + i) (omega arith) ∙ C.zeros (0 + i) (omega arith) (omega arith), omega arith)

      pub image_made : {out' : List ℕ} {number : ℕ} → number ≡ le 4 f at_edition → HeaderWritten packed out' number n capacity end.place (end.slot - 1) records → Imaged G E f out'
      image_made {out'} e W =
          let s = K.state in
          let a = packed_root in
          let O = W.only in
          let z = C.rest.size in let y = laid.long in let x = O.size in
          let q = root_fits in
          let es = end_slot in
          let u : end.slot - 1 ≡ slots a = omega arith in
          let D = length_entries a (data_start capacity) in
          let B = length_packed K.lawful f [] lay K.stands.bytes root_tree 1 (data_start capacity) in
          let parts : Parts E n capacity records a out' = record {
            long = omega arith;
            slots_fit = q.0;
            bytes_fit = omega arith;
            head = rw (sym end_place, sym u) (W.is E (sym K.number ∙ sym e));
            table = has_only O (numbers 4 (entries a (data_start capacity))) (inr (omega arith)) laid.table;
            bodies_at = has_only O (bodies a 1 (data_start capacity)) (inr (omega arith)) laid.text;
            above = λ i l k. O.above i (omega arith) ∙ (laid.between i (omega arith) k ∙ C.zeros i (omega arith) (omega arith));
            rest = λ i l k. O.above i (omega arith) ∙ (laid.above i (omega arith) ∙ C.zeros i (omega arith) (omega arith));
          } in
          record {
            state = s;
            stands = K.stands;
            is = image_of_parts E n capacity records a out' root_well parts
                ∙ (ap (λ (m : ℕ). image_of E m capacity records (some a)) (full_length K long) ∙ (ap (λ (m : ℕ). image_of E s.F m records (some a)) K.N
                ∙ (ap (λ (m : ℕ). image_of E s.F s.N m (some a)) K.R ∙ (ap (λ (t : Option Art). image_of E s.F s.N s.R (packed_tree t)) (sym some_tree)
                ∙ sym (image_is K.lawful s good_state)))));
          }
