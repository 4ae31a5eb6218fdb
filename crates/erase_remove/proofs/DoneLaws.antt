-- What an edit has made in the hole of a good frame is what the model's erase makes of its state, and it touches what the promise lets it
-- touch. Assumes nothing.
use Prim.Native.Nat.{ℕ, ◌+◌, ◌-◌, ◌≤◌}
use mathlib.Core.Path.{◌≡◌, refl, sym, ap, subst, ◌∙◌}
use mathlib.Core.List.{List, [], ◌∷◌, ◌++◌}
use mathlib.Core.Bool.{true, false}
use mathlib.Core.Option.{some}
use native.Mathlib.Omega.{arith}
use lib.ListN.{length}
use Rattle.layout.specs.Number.{Bytes}
use Rattle.layout.specs.Kind.{prefix_kind}
use Rattle.model.specs.Edition.{Edition, Lawful, Value}
use Rattle.model.proofs.StateLaws.{tree_some}
use Rattle.model.proofs.StandsGood.{stands_good}
use Rattle.model.specs.Tree.{Art, Change, Left, erase_tree, find_tree}
use Rattle.model.specs.Tree.Left.{kept}
use Rattle.model.specs.State.{State, Done, done, room, after, erase_change, call_erase}
use Rattle.model.specs.Item.{Item, extent, cover, leafy, sum}
use Rattle.model.specs.Frame.{Lay, slot_of, art, items, Root, tree, root_art, View, Stands}
use Rattle.model.specs.Touch.{Touch, Outside, touch_erase, erase_touch, find_at, extent_at, among}
use Rattle.model.specs.Promise.{erase_kinds}
use Rattle.model.specs.Mark.{marks}
use Rattle.model.proofs.MarkLaws.{Stay}
use Rattle.model.proofs.ChainLaws.{Hung}
use Rattle.model.proofs.StringLaws.{clash}
use Rattle.between.specs.Hole.{Step, plug, path_of, art_in}
use Rattle.between.specs.Work.{Work}
use Rattle.between.specs.Lead.{Leads, NotLeaf, above_of}
use Rattle.between.specs.Since.{Since, Accounts, kinds_of}
use Rattle.between.specs.Edit.{Booked}
use Rattle.between.proofs.HoleLaws.{art_plug, plug_sum}
use Rattle.between.proofs.LeadLaws.{hangs_in, hangs_over, plug_find}
use Rattle.between.proofs.EraseLaws.{plug_erase, plug_erase_touch, erase_is, with_now}
use Rattle.between.proofs.WorkLaws.{stands_view, stands_tree, stands_sum, stands_of, root_owns}
use Rattle.between.proofs.BookedLaws.{book_of}
use Rattle.between.proofs.OutsideLaws.{found_covers, outside_of}
use Rattle.between.proofs.StayLaws.{stay_plug}
use Rattle.erase_remove.specs.Erase.{EraseStep}

-- what a step says of one witness, once the answer and the state after are known
abbrev pub Result : {E : Edition} (f g k : List ℕ) {s : State} → Stands E f s → Done → Type 0
Result {E} f g k {s} w d =
    (d.answer ≡ 0) × (w' : Stands E g d.state)
    × (2 ≤ s.R → Outside f g w.root w'.root w.lists w'.lists (erase_kinds E w.root k) (erase_touch E w.root k) [] (extent_at (length k) (find_at E w.root k)) false)

pub as_step : {E : Edition} {f g : List ℕ} (k : List ℕ) → ((s : State) (w : Stands E f s) → Result f g k w (call_erase E s k)) → EraseStep E f k g
as_step k R = record { answer = λ s w. (R s w).0; after = λ s w. ((R s w).1, (R s w).2) }

-- the good frame f has the tree t in the hole xs, to which the key leads; the model's erase makes `lay` of it, by the change c, which may hang
-- where t does
module _ {E : Edition} {f k : List ℕ} {s : State} (w : Stands E f s) (xs : List Step) (t : Lay) {r : List ℕ} (er : w.root ≡ tree (plug xs t)) (L : Leads E k xs r) (c : Change Left) (lay : Lay) (v : Value)
    (erases : erase_tree E (art t) (length (path_of xs)) k ≡ c) (leaves : c.now ≡ kept (art lay)) (hung : (p : List ℕ) → Hung p (art t) → Hung p (art lay)) where
  abbrev whole : Art
  whole = art_in xs (art t)

  abbrev c' : Change Left
  c' = with_now (kept (art_in xs (art lay))) c

  change_is : erase_change E whole k ≡ c'
  change_is =
      let H = hangs_in E f xs t (stands_tree w (plug xs t) er) in
      plug_erase L (art t) (art lay) c H (hangs_over xs (art t) (art lay) hung H) erases leaves

  pub fits_is : room s (erase_change E (art (plug xs t)) k) ≡ true → room s c ≡ true
  fits_is q = subst (λ (x : Change Left). room s x ≡ true) (ap (λ a. erase_change E a k) (art_plug xs t) ∙ change_is) q

  module _ (finds : find_tree E (art t) (length (path_of xs)) k ≡ some v) (fits : room s c ≡ true) where
    -- in g it stands there; the numbers are the model's, these bodies were taken, rewritten and freed, and the key's extent at e died
    module _ {g : List ℕ} {h : View} {slot e n : ℕ} {takes rewrites frees : List Item} (law : Lawful E) (not_leaf : NotLeaf t) (W : Work E g h [] slot (([], plug xs lay) ∷ []) []) (es : slot ≡ slot_of (plug xs lay)) (bytes : Bytes g)
        (books : Booked (stands_view w) h c.takes c.frees c.extent c.dead (w.nums.R - 1)) (fewer : sum leafy (items lay) + 1 ≡ sum leafy (items t))
        (was : extent_at (length k) (find_at E w.root k) ≡ extent e n ∷ []) (Z : Since f (stands_view w) g h takes rewrites (extent e n ∷ frees) []) (A : Accounts w.root (touch_erase E t (above_of xs) (length (path_of xs)) k) (c.takes ++ c.frees) takes rewrites frees)
        (St : Stay (touch_erase E t (above_of xs) (length (path_of xs)) k).goes (marks (path_of xs) t) (marks (path_of xs) lay)) (plain : among prefix_kind (kinds_of takes) ≡ false) where
      records_is : s.R - 1 ≡ w.nums.R - 1
      records_is = ap (λ (z : State). z.R - 1) w.state

      counted : h.nums.R ≡ sum leafy (items (plug xs lay))
      counted = omega (arith, books.R, w.counted, stands_sum w (plug xs t) er leafy, plug_sum leafy xs t, plug_sum leafy xs lay)

      abbrev stands : Stands E g (after s c' (s.R - 1) (some (art_in xs (art lay))))
      stands =
          stands_of _ (plug xs lay) W es bytes (books.edition ∙ w.edition_is) counted
          (ap (λ i. after s c' i (some (art_in xs (art lay)))) records_is ∙ book_of w c' (plug xs lay) (art_in xs (art lay)) books (art_plug xs lay))

      more : s.R ≡ 1 → ⊥
      more z = omega (arith, tree_some law _ (art_in xs (art lay)) (stands_good E g _ stands) refl)

      is_erase : call_erase E s k ≡ done 0 (after s c' (s.R - 1) (some (art_in xs (art lay))))
      is_erase =
          erase_is E s k v whole (art_in xs (art lay)) c' (ap (λ (z : State). z.tree) w.state ∙ ap root_art er ∙ ap some (art_plug xs t)) (plug_find L (art t) ∙ finds) change_is refl more
          ∙ rw fits refl

      abbrev dies : List Item
      dies = extent_at (length k) (find_at E w.root k)

      outside : Outside f g w.root stands.root w.lists stands.lists (erase_kinds E w.root k) (erase_touch E w.root k) [] dies false
      outside =
          let T = touch_erase E t (above_of xs) (length (path_of xs)) k in
          let ks = c.takes ++ c.frees in
          let ek : erase_kinds E w.root k ≡ ks = ap (λ (z : Root). erase_kinds E z k) er ∙ ap (λ a. let x = erase_change E a k in x.takes ++ x.frees) (art_plug xs t) ∙ ap (λ (x : Change Left). x.takes ++ x.frees) change_is in
          let et : erase_touch E w.root k ≡ T = ap (λ (z : Root). erase_touch E z k) er ∙ plug_erase_touch L t not_leaf in
          let O = outside_of w.nums w.lists w.root (tree (plug xs lay)) (extent e n ∷ []) tt Z w.heap W.heap (root_owns (plug xs lay) W) T ks A (stay_plug xs t lay St refl er) (λ q. clash (cc)) dies (λ a. (ap (sum (cover a)) (sym was), found_covers E k w.root a)) false (λ z a p. absurd (let y : ◌≡◌ {A = ℕ} 0 1 = cc in omega arith)) in
          let O1 = subst (λ (z : Touch). Outside f g w.root (tree (plug xs lay)) w.lists h.lists ks z [] dies false) (sym et) O in
          subst (λ (z : List ℕ). Outside f g w.root (tree (plug xs lay)) w.lists h.lists z (erase_touch E w.root k) [] dies false) (sym ek) O1

      pub erase_done_lem : Result f g k w (call_erase E s k)
      erase_done_lem = subst (Result f g k w) (sym is_erase) (refl, stands, λ q. outside)
