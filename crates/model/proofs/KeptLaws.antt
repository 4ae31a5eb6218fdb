-- A live body that the step neither frees nor rewrites keeps its bytes; so a Leaf of another key keeps its extent's place. Assumes nothing.
use Prim.Native.Nat.{ℕ, ◌+◌, ◌-◌, ◌<◌, ◌≤◌}
use mathlib.Core.Path.{◌≡◌, refl}
use mathlib.Core.List.{List, [], ◌∷◌, ◌++◌}
use mathlib.Core.Bool.{Bool, true, false}
use native.Mathlib.Omega.{arith}
use native.Mathlib.Decide.{dec_le, dec_lt}
use lib.ListN.{length}
use lib.Dec.{eqb}
use borrow.Author.Tests.{ne_eqb}
use Rattle.layout.specs.Number.{byte_at}
use Rattle.layout.specs.Place.{at_b, at_spare, entry_at, data_start}
use Rattle.layout.specs.Kind.{body_size}
use Rattle.model.specs.Edition.{Edition}
use Rattle.model.specs.State.{State}
use Rattle.model.specs.Item.{Item, body, extent, on_slot, cover, on_entry, sum}
use Rattle.model.specs.Frame.{Root, root_items, freed, Stands}
use Rattle.model.specs.Touch.{Touch, among, not_in, those, is_body, find_at, extent_at, Outside}
use Rattle.model.proofs.StringLaws.{clash, bool_cases}
use Rattle.model.proofs.ItemLaws.{in_yes, in_over, sum_app, sum_add, slot_once}
use Rattle.model.proofs.AlikeLaws.{slot_stays, result_of}
use Rattle.model.proofs.ExtentLaws.{body_cover, extent_cover, cover_split, cover_body, found_beside}
use Rattle.model.proofs.SettledLaws.{is_body_lem, body_weighs, slot_of_body, kinds_less}

-- no entry of a slot up to n stands at D or above
low_entry : (a n s k o : ℕ) → data_start n ≤ a → ((t : ℕ) → n < t → on_slot t (body s k o) ≡ 0) → on_entry a (body s k o) ≡ 0
unfolding on_entry on_slot
low_entry a n s k o h z = elim (dec_lt n s) [ yes q ↦ absurd (omega (arith, z s q, in_yes s 1 s (omega arith) (omega arith))) | no q ↦ in_over (entry_at s) 4 a (omega arith) ]

no_entry : (a e n : ℕ) → on_entry a (extent e n) ≡ 0
unfolding on_entry
no_entry a e n = refl

low_entries : (a n : ℕ) (is : List Item) → data_start n ≤ a → ((t : ℕ) → n < t → sum (on_slot t) is ≡ 0) → sum (on_entry a) is ≡ 0
unfolding sum
low_entries a n [] h z = refl
low_entries a n (extent e m ∷ is) h z = omega (arith, no_entry a e m, low_entries a n is h (λ t q. omega (arith, z t q)))
low_entries a n (body s k o ∷ is) h z = omega (arith, low_entry a n s k o h (λ t q. omega (arith, z t q)), low_entries a n is h (λ t q. omega (arith, z t q)))

pub taken_less : (v : Item → ℕ) (R is : List Item) → sum v (not_in R is) ≤ sum v is
unfolding sum
taken_less v R [] = omega arith
taken_less v R (extent e n ∷ is) = omega (arith, taken_less v R is)
taken_less v R (body s k o ∷ is) = bool_cases (eqb (sum (on_slot s) R) 0) (λ t. rw t (omega (arith, taken_less v R is))) (λ t. rw t (omega (arith, taken_less v R is)))

pub those_less : (v : Item → ℕ) (ss : List ℕ) (is : List Item) → sum v (those ss is) ≤ sum v is
unfolding sum
those_less v ss [] = omega arith
those_less v ss (extent e n ∷ is) = omega (arith, those_less v ss is)
those_less v ss (body s k o ∷ is) = bool_cases (among s ss) (λ t. rw t (omega (arith, those_less v ss is))) (λ t. rw t (omega (arith, those_less v ss is)))

-- the taken bodies, and those of other slots, beside a body that is there
taken_beside : (v : Item → ℕ) (R : List Item) (s k o : ℕ) (is : List Item) → 1 ≤ sum (on_slot s) R → 1 ≤ sum (is_body s k o) is → sum v (not_in R is) + v (body s k o) ≤ sum v is
unfolding sum
taken_beside v R s k o [] h q = absurd (omega arith)
taken_beside v R s k o (extent e n ∷ is) h q = omega (arith, taken_beside v R s k o is h (omega arith))
taken_beside v R s k o (body s' k' o' ∷ is) h q = elim (dec_le 1 (is_body s k o (body s' k' o'))) [
  | yes p ↦
      let w = is_body_lem s k o s' k' o' p in
      let e : v (body s k o) ≡ v (body s' k' o') = rw (w.0, w.1, w.2) refl in
      let g : 1 ≤ sum (on_slot s') R = rw w.0 at h in
      rw (ne_eqb (sum (on_slot s') R) 0 (λ z. omega arith)) (omega (arith, taken_less v R is))
  | no p ↦ bool_cases (eqb (sum (on_slot s') R) 0) (λ t. rw t (omega (arith, taken_beside v R s k o is h (omega arith)))) (λ t. rw t (omega (arith, taken_beside v R s k o is h (omega arith))))
]

those_beside : (v : Item → ℕ) (ss : List ℕ) (s k o : ℕ) (is : List Item) → among s ss ≡ false → 1 ≤ sum (is_body s k o) is → sum v (those ss is) + v (body s k o) ≤ sum v is
unfolding sum
those_beside v ss s k o [] h q = absurd (omega arith)
those_beside v ss s k o (extent e n ∷ is) h q = omega (arith, those_beside v ss s k o is h (omega arith))
those_beside v ss s k o (body s' k' o' ∷ is) h q = elim (dec_le 1 (is_body s k o (body s' k' o'))) [
  | yes p ↦
      let w = is_body_lem s k o s' k' o' p in
      let e : v (body s k o) ≡ v (body s' k' o') = rw (w.0, w.1, w.2) refl in
      let g : among s' ss ≡ false = rw w.0 at h in
      rw g (omega (arith, those_less v ss is))
  | no p ↦ bool_cases (among s' ss) (λ t. rw t (omega (arith, those_beside v ss s k o is h (omega arith)))) (λ t. rw t (omega (arith, those_beside v ss s k o is h (omega arith))))
]

-- ---- the bytes of a kept body

module _ {E : Edition} {f f' : List ℕ} {st st' : State} (w : Stands E f st) (w' : Stands E f' st') {kinds : List ℕ} {t : Touch} {xs dies : List Item} {new : Bool}
    (O : Outside f f' w.root w'.root w.lists w'.lists kinds t xs dies new) (same_n : w'.nums.N ≡ w.nums.N) (s k o : ℕ) (there : 1 ≤ sum (is_body s k o) (root_items w.root))
    (stays : among s t.goes ≡ false) (not : among s (t.goes ++ t.rewrites) ≡ false) where
  pub still_there : 1 ≤ sum (is_body s k o) (root_items w'.root)
  still_there =
      let R = root_items w.root in
      let R' = root_items w'.root in
      omega (
        arith,
        O.keeps s k o (omega (arith, sum_app (is_body s k o) R (freed 1 w.lists))),
        sum_app (is_body s k o) R' (freed 1 w'.lists),
        slot_of_body s k o (freed 1 w'.lists),
        slot_once w'.heap.sound s,
        sum_app (on_slot s) R' (freed 1 w'.lists),
        slot_stays (result_of w.root w' O) s (omega (arith, slot_of_body s k o R)) stays,
      )

  -- the key's extent lies beside it, after as before
  module _ (a : ℕ) (here : 1 ≤ cover a (body s k o)) (beside : sum (cover a) xs + cover a (body s k o) ≤ sum (cover a) (root_items w'.root))
      (before : sum (cover a) dies + cover a (body s k o) ≤ sum (cover a) (root_items w.root)) where
    from_data : data_start w.nums.N ≤ a
    from_data = elim (dec_lt a (data_start w.nums.N)) [
      | yes q ↦ absurd (omega (arith, w.heap.sound.low a q, sum_app (cover a) (root_items w.root) (freed 1 w.lists), body_weighs (cover a) s k o (root_items w.root) there))
      | no q ↦ omega arith
    ]

    slots_low : (u : ℕ) → w.nums.N < u → sum (on_slot u) (root_items w'.root) + sum (on_slot u) (freed 1 w'.lists) ≡ 0
    slots_low u q = let g = w'.heap.header.given_in in omega (arith, same_n, w'.heap.sound.past u (omega arith), sum_app (on_slot u) (root_items w'.root) (freed 1 w'.lists))

    pub kept_byte : byte_at f' a ≡ byte_at f a
    kept_byte =
        let R = root_items w.root in
        let R' = root_items w'.root in
        let D = from_data in
        let ent = low_entries a w.nums.N R' D (λ u q. omega (arith, slots_low u q)) in
        let frd = low_entries a w.nums.N (freed 1 w'.lists) D (λ u q. omega (arith, slots_low u q)) in
        let one = w.heap.sound.apart a in
        let two = w'.heap.sound.apart a in
        O.other a (omega (
          arith,
          in_over at_b (at_spare - at_b) a (omega arith),
          ent,
          taken_less (on_entry a) R R',
          kinds_less (on_entry a) kinds (freed 1 w'.lists),
          frd,
          taken_beside (cover a) R s k o R' (omega (arith, slot_of_body s k o R)) still_there,
          those_beside (cover a) (t.goes ++ t.rewrites) s k o R not there,
          sum_app (cover a) R (freed 1 w.lists),
          sum_app (cover a) R' (freed 1 w'.lists),
        ))

pub not_gone : (s : ℕ) (gs rs : List ℕ) → among s (gs ++ rs) ≡ false → among s gs ≡ false
not_gone s [] rs h = refl
not_gone s (g ∷ gs) rs h = bool_cases (eqb s g) (λ t. let z : true ≡ false = rw t at h in clash (cc)) (λ t. rw t (not_gone s gs rs (rw t at h)))

pub cover_at : (s k o j : ℕ) → j < body_size k → 1 ≤ cover (o + j) (body s k o)
unfolding cover
cover_at s k o j h = omega (arith, in_yes o (body_size k) (o + j) (omega arith) (omega arith))

-- ---- the extent of a key, beside the bodies

pub extent_beside : (E : Edition) (x : List ℕ) (r : Root) (s k o a : ℕ) → 1 ≤ sum (is_body s k o) (root_items r) → sum (cover a) (extent_at (length x) (find_at E r x)) + cover a (body s k o) ≤ sum (cover a) (root_items r)
extent_beside E x r s k o a h = omega (
  arith,
  found_beside E x a r (find_at E r x) refl,
  body_weighs (body_cover a) s k o (root_items r) h,
  cover_body a s k o,
  sum_add (body_cover a) (extent_cover a) (cover a) (cover_split a) (root_items r),
)

pub none_beside : (r : Root) (s k o a : ℕ) → 1 ≤ sum (is_body s k o) (root_items r) → sum (cover a) [] + cover a (body s k o) ≤ sum (cover a) (root_items r)
unfolding sum
none_beside r s k o a h = omega (arith, body_weighs (cover a) s k o (root_items r) h)
