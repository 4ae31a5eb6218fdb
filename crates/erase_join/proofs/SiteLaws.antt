-- The site of a join: what the model makes of it, the frame opened there, and the end that all joins share. Assumes nothing.
use Prim.Native.Nat.{ℕ, ◌+◌, ◌-◌, ◌≤◌}
use mathlib.Core.Path.{◌≡◌, refl, sym, ap, subst, ◌∙◌}
use mathlib.Core.List.{List, [], ◌∷◌, ◌++◌}
use mathlib.Core.Bool.{Bool, true, false}
use mathlib.Core.Option.{Option, some}
use native.Mathlib.Omega.{arith}
use lib.ListN.{length, get_or}
use Rattle.layout.specs.Number.{Bytes}
use Rattle.layout.specs.Kind.{leaf_kind, node4_kind, prefix_kind}
use Rattle.model.specs.Strings.{pick}
use Rattle.model.specs.Edition.{Edition, Lawful}
use Rattle.model.specs.Tree.{Art, Kids, Change, Left, extent_of, find_tree, erase_tree, less_one}
use Rattle.model.specs.Tree.Left.{gone, one, kept}
use Rattle.model.specs.State.{State, done, tally, room, after, erase_change, call_erase}
use Rattle.model.specs.Item.{Item, body, extent, leafy, sum, cover}
use Rattle.model.specs.Frame.{Lay, Root, slot_of, art, art_kids, items, items_all, tree, root_art, root_items, Trees, View, Stands}
use Rattle.model.specs.Frame.Lay.{leaf}
use Rattle.model.specs.Frame.LayKids.{nil, kid}
use Rattle.model.specs.Touch.{touch_lost, touch_lone, erase_touch, find_at, extent_at}
use Rattle.model.specs.Promise.{erase_kinds}
use Rattle.model.specs.Touch as model
use Rattle.model.specs.Mark.{Mark, mark, marks, marks_all, root_marks, is}
use Rattle.model.specs.Mark as marking
use Rattle.model.proofs.StringLaws.{same_refl}
use Rattle.model.proofs.ItemLaws.{sum_cons}
use Rattle.model.proofs.StateLaws.{tree_some}
use Rattle.model.proofs.StandsGood.{leafy_other, stands_good}
use Rattle.model.proofs.UniqueLaws.{root_unique, stands_unique}
use Rattle.model.proofs.MarkLaws.{leaf_marks, node_marks, kid_marks, nil_marks, is_gone}
use Rattle.between.specs.Hole.{app, Step, plug, path_of, steps_items}
use Rattle.between.specs.Work.{Work}
use Rattle.between.specs.Lead.{above_of}
use Rattle.between.specs.Since.{Since, Accounts, kinds_of}
use Rattle.between.specs.Edit.{Booked}
use Rattle.between.proofs.TreeLaws.{sum_none, leaf_sum, kid_sum, nil_sum, kid_parts}
use Rattle.between.proofs.KidsLaws.{remove_sum, remove_trees, art_app, has_is}
use Rattle.between.proofs.HoleLaws.{art_plug, plug_among}
use Rattle.between.proofs.WorkLaws.{stands_view, work_of, work_open, work_as, work_sum, open_node, forest_more, forest_kids, forest_sum, forest_none, no_forest, kids_sum, stands_of, root_owns, root_items_lem, leafy_one, leafy_extent}
use Rattle.between.proofs.LeadLaws.{leads_byte, leads_among, plug_find, find_app, plug_extent}
use Rattle.between.proofs.EraseLaws.{node_erase, erase_is, plug_erase_touch, node_touch}
use Rattle.between.proofs.BookedLaws.{booked_as, book_of}
use Rattle.between.proofs.OutsideLaws.{outside_of, among_here, among_there, found_covers}
use Rattle.between.proofs.StayLaws.{app_marks}
use Rattle.erase_remove.specs.Erase.{EraseStep}
use Rattle.erase_remove.proofs.DoneLaws.{Result, as_step}
use Rattle.erase_join.specs.declared.lone.Lone.{Lone}
use Rattle.erase_join.specs.Drop.{Drops, Dropped, DropsAll}
use Rattle.erase_join.specs.Lone.{Site, pair_of, Ready}

-- ---- what the model makes of it

-- an erase that leaves the tree a
abbrev pub leaves : Art → List ℕ → List ℕ → ℕ → Change Left
leaves a takes frees dead = record { now = kept a; takes = takes; frees = frees; extent = 0; dead = dead; fresh = false }

-- what is left of the Node4
abbrev pub lost : Lone → Lay → ℕ → Change Left
lost l u dead = record { now = one l.byte (art u); takes = []; frees = node4_kind ∷ leaf_kind ∷ []; extent = 0; dead = dead; fresh = false }

module _ {E : Edition} {k : List ℕ} {r : Root} {xs : List Step} {l : Lone} {u : Lay} (P : Site E k r xs l u) where
  here : get_or (E.walked k) (length (path_of xs)) 0 ≡ P.byte
  here = leads_byte P.leads

  -- the Node4 loses its Leaf, and the child is left
  pub site_change : erase_tree E (art (pair_of P)) (length (path_of xs)) k ≡ lost l u (extent_of k P.value)
  site_change =
      let d = length (path_of xs) in
      let c : Change Left = record { now = gone; takes = []; frees = leaf_kind ∷ []; extent = 0; dead = extent_of k P.value; fresh = false } in
      ap (λ (z : Kids). erase_tree E (Art.node node4_kind z) d k) (art_app P.before (kid P.byte P.place (leaf l.leaf l.at P.extent k P.value) P.after))
      ∙ node_erase E k d P.byte P.place here node4_kind k P.value P.before P.after (same_refl k) P.first
      ∙ ap (λ (z : Kids). less_one node4_kind z c) (sym (art_app P.before P.after) ∙ ap art_kids P.left)

  pub site_found : find_tree E (art (plug xs (pair_of P))) 0 k ≡ some P.value
  site_found =
      let d = length (path_of xs) in
      ap (λ (a : Art). find_tree E a 0 k) (art_plug xs (pair_of P)) ∙ plug_find P.leads (art (pair_of P))
      ∙ ap (λ (z : Kids). find_tree E (Art.node node4_kind z) d k) (art_app P.before (kid P.byte P.place (leaf l.leaf l.at P.extent k P.value) P.after))
      ∙ find_app E k d P.byte P.place here (Art.leaf k P.value) (art_kids P.before) (art_kids P.after) (has_is P.byte P.before ∙ P.first)
      ∙ ap (λ (x : Bool). pick x (some P.value) Option.none) (same_refl k)

  -- where the key's extent stands at entry
  pub site_was : extent_at (length k) (find_at E r k) ≡ extent P.extent (extent_of k P.value) ∷ []
  site_was =
      plug_extent (leads_among l.node P.node_at node4_kind P.before P.byte P.place P.after xs P.rest P.first P.leads) r l.leaf l.at P.extent P.value
      (P.whole ∙ ap tree (sym (plug_among l.node P.node_at node4_kind P.before P.byte P.place P.after xs (leaf l.leaf l.at P.extent k P.value))))

  pub site_touch : erase_touch E r k ≡ touch_lone (above_of xs) l.node l.leaf u
  site_touch =
      let d = length (path_of xs) in
      ap (λ (z : Root). erase_touch E z k) P.whole ∙ plug_erase_touch P.leads (pair_of P) tt
      ∙ node_touch E k d P.byte P.place l.leaf l.at P.extent k P.value P.before P.after (above_of xs) l.node P.node_at node4_kind here P.first
      ∙ ap (touch_lost (above_of xs) l.node node4_kind l.leaf) P.left

-- ---- its bodies

module _ {E : Edition} {k : List ℕ} {r : Root} {xs : List Step} {l : Lone} {u : Lay} (P : Site E k r xs l u) where
  pub site_marks : (v : Mark → ℕ) → marking.count v (marks (path_of xs) (pair_of P)) ≡ v (mark l.node node4_kind (path_of xs) (path_of xs)) + v (mark l.leaf leaf_kind k k) + marking.count v (marks (path_of xs ++ l.byte ∷ []) u)
  site_marks v =
      let q = path_of xs in
      let t = leaf l.leaf l.at P.extent k P.value in
      omega (
        arith,
        node_marks v q l.node P.node_at node4_kind (app P.before (kid P.byte P.place t P.after)),
        app_marks v q P.before (kid P.byte P.place t P.after),
        kid_marks v q P.byte P.place t P.after,
        leaf_marks v (q ++ P.byte ∷ []) l.leaf l.at P.extent k P.value,
        app_marks v q P.before P.after,
        ap (λ z. marking.count v (marks_all q z)) P.left,
        kid_marks v q l.byte P.other u nil,
        nil_marks v q,
      )

  -- the Node4 and the Leaf go
  pub site_left : (more : List ℕ) (x : Mark) → model.among x.slot (l.leaf ∷ l.node ∷ more) ≡ false → marking.count (is x) (marks (path_of xs) (pair_of P)) ≡ marking.count (is x) (marks (path_of xs ++ l.byte ∷ []) u)
  site_left more x z =
      omega (
        arith,
        site_marks (is x),
        is_gone x (l.leaf ∷ l.node ∷ more) l.leaf leaf_kind k k z (among_here l.leaf (l.node ∷ more)),
        is_gone x (l.leaf ∷ l.node ∷ more) l.node node4_kind (path_of xs) (path_of xs) z (among_there l.node l.leaf (l.node ∷ more) (among_here l.node more)),
      )

-- ---- the frame is opened there: the child and the Leaf are trees, and the body of the Node4 is loose

module _ {E : Edition} {k : List ℕ} {r : Root} {xs : List Step} {l : Lone} {u : Lay} (P : Site E k r xs l u) where
  abbrev pub node_body : List Item
  node_body = body l.node node4_kind P.node_at ∷ []

  abbrev pub beside : List (List ℕ × Lay)
  beside = (path_of xs ++ P.byte ∷ [], leaf l.leaf l.at P.extent k P.value) ∷ []

  pub pair_open : {f : List ℕ} {h : View} {ys : List Step} {n : ℕ} → Work E f h ys n ((path_of xs, pair_of P) ∷ []) [] → Work E f h ys n ((path_of xs ++ l.byte ∷ [], u) ∷ beside) node_body
  pair_open {f} W0 =
      let path = path_of xs in
      let t = leaf l.leaf l.at P.extent k P.value in
      let ks = app P.before (kid P.byte P.place t P.after) in
      let W = (open_node path [] [] l.node P.node_at node4_kind ks W0).0 in
      let R = remove_trees E f path P.before P.after P.byte P.place t (forest_kids E f path ks [] W.trees).0 in
      let K : Trees E f path (kid l.byte P.other u nil) = rw P.left at R.1 in
      let T = kid_parts E f path l.byte P.other u nil K in
      work_as W
      (λ w. omega (
        arith,
        kids_sum w path ks [],
        remove_sum w P.before P.after P.byte P.place t,
        ap (λ z. sum w (items_all z)) P.left,
        kid_sum w l.byte P.other u nil,
        nil_sum w,
        forest_sum w (path ++ l.byte ∷ []) u beside,
        forest_sum w (path ++ P.byte ∷ []) t [],
      ))
      (forest_more E f (path ++ l.byte ∷ []) u beside T.0 (forest_more E f (path ++ P.byte ∷ []) t [] R.0 (no_forest E f))) W.entries

module _ {E : Edition} {f k : List ℕ} {s : State} (w : Stands E f s) {xs : List Step} {l : Lone} {u : Lay} (P : Site E k w.root xs l u) where
  at_node : Work E f (stands_view w) xs l.node ((path_of xs, pair_of P) ∷ []) []
  at_node = (work_open xs (pair_of P) [] (work_of w (plug xs (pair_of P)) P.whole) refl).0

  pub site_open : Work E f (stands_view w) xs l.node ((path_of xs ++ l.byte ∷ [], u) ∷ beside P) (node_body P)
  site_open = pair_open P at_node

  -- all that it stands on
  pub site_sum : (v : Item → ℕ) → sum v (root_items w.root) ≡ v (body l.node node4_kind P.node_at) + v (body l.leaf leaf_kind l.at) + v (extent P.extent (extent_of k P.value)) + sum v (steps_items xs) + sum v (items u)
  site_sum v =
      omega (
        arith,
        work_sum site_open v,
        sum_cons v (body l.node node4_kind P.node_at) [],
        sum_none v,
        forest_sum v (path_of xs ++ l.byte ∷ []) u (beside P),
        forest_sum v (path_of xs ++ P.byte ∷ []) (leaf l.leaf l.at P.extent k P.value) [],
        leaf_sum v l.leaf l.at P.extent k P.value,
        forest_none v,
      )

  pub site_records : 1 ≤ w.nums.R
  site_records = omega (arith, w.counted, site_sum leafy, leafy_one l.leaf l.at)

-- ---- the end

-- before the rest is given back: in f1 the tree `lay` stands, with the model's change made but for the rest
pub record Mid {E : Edition} (f f1 k : List ℕ) {s : State} (w : Stands E f s) {xs : List Step} {l : Lone} {u : Lay} (P : Site E k w.root xs l u) : Type 0 where
  pub lay : Lay
  pub kinds : List ℕ
  pub frees : List ℕ
  pub freed : List ℕ
  pub change : erase_change E (art (plug xs (pair_of P))) k ≡ leaves (art lay) kinds frees (extent_of k P.value)
  pub view : View
  pub work : Work E f1 view [] (slot_of lay) (([], lay) ∷ beside P) (node_body P)
  pub booked : Booked (stands_view w) view kinds freed 0 0 w.nums.R
  pub tallies : (j : ℕ) → tally (leaf_kind ∷ node4_kind ∷ freed) j ≡ tally frees j
  pub took : List Item
  pub wrote : List Item
  pub gave : List Item
  pub since : Since f (stands_view w) f1 view took wrote gave []
  pub no_leaf : (sum leafy took ≡ 0) × (sum leafy gave ≡ 0)
  pub accounts : Accounts w.root (touch_lone (above_of xs) l.node l.leaf u) (kinds ++ frees) took wrote (body l.leaf leaf_kind l.at ∷ body l.node node4_kind P.node_at ∷ gave)
  pub stays : model.stay (touch_lone (above_of xs) l.node l.leaf u).goes (root_marks w.root) (root_marks (tree lay)) ≡ true
  pub last : model.among prefix_kind (kinds_of took) ≡ true → model.Last (root_marks w.root) (root_marks (tree lay))

module _ {E : Edition} {f f1 k : List ℕ} {s : State} {w : Stands E f s} {xs : List Step} {l : Lone} {u : Lay} {P : Site E k w.root xs l u} (M : Mid f f1 k w P) where
  some_left : 1 ≤ M.view.nums.R
  some_left = omega (arith, M.booked.R, site_records w P)

  pub mid_drops : 1 ≤ length k → Drops f1 l.leaf l.node l.at
  mid_drops long = record { edition = E; view = M.view; slot = slot_of M.lay; lay = M.lay; node_at = P.node_at; path = path_of xs ++ P.byte ∷ []; extent = P.extent; key = k; value = P.value; work = M.work; some = long; records = some_left }

  module _ {g : List ℕ} (law : Lawful E) (D : DropsAll f1 g l.leaf l.node l.at) (bytes : Bytes g) (fits : room s (erase_change E (art (plug xs (pair_of P))) k) ≡ true) where
    Z : Dropped E f1 g M.view (slot_of M.lay) M.lay l.node P.node_at l.leaf l.at P.extent k P.value
    Z = D.after E M.view (slot_of M.lay) M.lay P.node_at (path_of xs ++ P.byte ∷ []) P.extent k P.value M.work some_left

    abbrev change' : Change Left
    change' = leaves (art M.lay) M.kinds M.frees (extent_of k P.value)

    booked' : Booked (stands_view w) Z.view M.kinds M.frees 0 (extent_of k P.value) (w.nums.R - 1)
    booked' = booked_as (Z.booked (stands_view w) M.kinds M.freed w.nums.R M.booked) M.kinds M.frees (λ j. refl) M.tallies

    since' : Since f (stands_view w) g Z.view M.took M.wrote (extent P.extent (extent_of k P.value) ∷ body l.leaf leaf_kind l.at ∷ body l.node node4_kind P.node_at ∷ M.gave) []
    since' = Z.since f (stands_view w) M.took M.wrote M.gave M.since

    abbrev state' : State
    state' = after s change' (w.nums.R - 1) (some (art M.lay))

    left_leaves : Z.view.nums.R ≡ sum leafy (items M.lay)
    left_leaves =
        let g1 = body l.leaf leaf_kind l.at in
        let n1 = body l.node node4_kind P.node_at in
        let x1 = extent P.extent (extent_of k P.value) in
        omega (
          arith,
          booked'.R,
          since'.stepped.owned leafy leafy_extent,
          root_owns M.lay Z.work leafy,
          ap (sum leafy) (root_items_lem M.lay),
          w.counted,
          sum_cons leafy x1 (g1 ∷ n1 ∷ M.gave),
          leafy_extent P.extent (extent_of k P.value),
          sum_cons leafy g1 (n1 ∷ M.gave),
          sum_cons leafy n1 M.gave,
          leafy_one l.leaf l.at,
          leafy_other l.node node4_kind P.node_at (omega arith),
          M.no_leaf.0,
          M.no_leaf.1,
        )

    kinds_are : erase_kinds E w.root k ≡ M.kinds ++ M.frees
    kinds_are = ap (λ (r : Root). erase_kinds E r k) P.whole ∙ ap (λ (c : Change Left). c.takes ++ c.frees) M.change

    stands' : Stands E g state'
    stands' = stands_of state' M.lay Z.work refl bytes (booked'.edition ∙ w.edition_is) left_leaves (book_of w change' M.lay (art M.lay) booked' refl)

    more : s.R ≡ 1 → ⊥
    more z = omega (arith, ap (λ (z : State). z.R) w.state, tree_some law state' (art M.lay) (stands_good E g state' stands') refl)

    is_erase : call_erase E s k ≡ done 0 state'
    is_erase =
        let et : s.tree ≡ some (art (plug xs (pair_of P))) = ap (λ (z : State). z.tree) w.state ∙ ap root_art P.whole in
        let e = erase_is E s k P.value (art (plug xs (pair_of P))) (art M.lay) change' et (site_found P) M.change refl more in
        let q : room s change' ≡ true = rw M.change at fits in
        let er : s.R ≡ w.nums.R = ap (λ (z : State). z.R) w.state in
        e ∙ ap (λ (z : Bool). pick z (done 0 (after s change' (s.R - 1) (some (art M.lay)))) (done 6 s)) q ∙ ap (λ n. done 0 (after s change' (n - 1) (some (art M.lay)))) er

    pub mid_done : Result f g k w (call_erase E s k)
    unfolding stands'
    mid_done = subst (Result f g k w) (sym is_erase) (
      refl,
      stands',
      λ many. rw (kinds_are, site_touch P)
          (outside_of w.nums w.lists w.root (tree M.lay) (extent P.extent (extent_of k P.value) ∷ []) tt since' w.heap Z.work.heap (root_owns M.lay Z.work) (touch_lone (above_of xs) l.node l.leaf u) (M.kinds ++ M.frees) M.accounts M.stays M.last (extent_at (length k) (find_at E w.root k))
          (λ a. (ap (sum (cover a)) (sym (site_was P)), found_covers E k w.root a)) false (λ q. absurd (let z : ◌≡◌ {A = ℕ} 0 1 = cc in omega arith))),
    )

-- ---- a good frame stands for one state

module _ {E : Edition} {f k : List ℕ} {xs : List Step} {l : Lone} {u : Lay} (R : Ready E f k xs l u) where
  module _ {s : State} (w : Stands E f s) where
    same_site : Site E k w.root xs l u
    same_site =
        let P = R.site in
        record {
          node_at = P.node_at;
          before = P.before;
          byte = P.byte;
          place = P.place;
          after = P.after;
          extent = P.extent;
          value = P.value;
          rest = P.rest;
          other = P.other;
          whole = root_unique E f s R.st w R.stands ∙ P.whole;
          leads = P.leads;
          first = P.first;
          left = P.left;
          slot_is = P.slot_is;
        }

    same_room : room s (erase_change E (art (plug xs (pair_of R.site))) k) ≡ true
    same_room = subst (λ (x : State). room x (erase_change E (art (plug xs (pair_of R.site))) k) ≡ true) (sym (stands_unique E f s R.st w R.stands)) R.room

  -- what a join does before the end, in every state that the frame stands for
  abbrev pub Before : List ℕ → Type 0
  Before f1 = (s : State) (w : Stands E f s) (P : Site E k w.root xs l u) → room s (erase_change E (art (plug xs (pair_of P))) k) ≡ true → Mid f f1 k w P

  pub drops_of : {f1 : List ℕ} → Before f1 → Drops f1 l.leaf l.node l.at
  drops_of M = mid_drops (M R.st R.stands R.site R.room) R.some

  pub step_of : {f1 g : List ℕ} → Before f1 → DropsAll f1 g l.leaf l.node l.at → Bytes g → EraseStep E f k g
  unfolding same_site
  step_of M D B = as_step k (λ s w. mid_done (M s w (same_site w) (same_room w)) R.lawful D B (same_room w))
