-- The spot of a key that is there: the node that holds its Leaf, and what the model's erase makes of it. Assumes nothing.
use Prim.Native.Nat.{ℕ, ◌+◌, ◌≤◌}
use mathlib.Core.Path.{◌≡◌, refl, sym, ap, subst, ◌∙◌}
use mathlib.Core.List.{List, [], ◌∷◌, append_assoc, ◌++◌}
use mathlib.Core.Bool.{true, false}
use mathlib.Core.Option.{some}
use native.Mathlib.Omega.{arith}
use lib.ListN.{length}
use Rattle.layout.specs.Kind.{number_of, leaf_kind, shrink_mark, kind_down, Inner}
use Rattle.layout.specs.Kind.Inner.{node4, node16, node48, node256}
use Rattle.layout.proofs.KindLaws.{range_inner}
use Rattle.model.specs.Edition.{Edition, Value}
use Rattle.model.specs.Tree.{Art, Kids, Left, count, extent_of, less_one, erase_tree, find_tree}
use Rattle.model.specs.State.{State, room, erase_change}
use Rattle.model.specs.Item.{Item, body, extent, leafy, sum}
use Rattle.model.specs.Frame.{Lay, LayKids, art, art_kids, items_all, pairs, tree, root_items, NodeOf, View, Stands}
use Rattle.model.specs.Frame.Lay.{leaf, node}
use Rattle.model.specs.Frame.LayKids.{kid}
use Rattle.model.specs.Touch.{has_byte, touch_erase, touch_lost, find_at, extent_at}
use Rattle.model.specs.Mark.{Mark, mark, marks_all}
use Rattle.model.specs.Mark as marks
use Rattle.model.proofs.StandsGood.{length_pairs}
use Rattle.model.proofs.StringLaws.{same_refl}
use Rattle.model.proofs.UniqueLaws.{root_unique, stands_unique}
use Rattle.model.proofs.MarkLaws.{leaf_marks, kid_marks}
use Rattle.inner.specs.Inner.{NodeHas}
use Rattle.inner.proofs.InnerLaws.{inner_asc, inner_count}
use Rattle.descent.specs.declared.spot.Spot.{Spot}
use Rattle.descent.specs.Spot.{Topped}
use Rattle.between.specs.Hole.{app, Step, among, plug, step_path, path_of, steps_items, Link, app_kids}
use Rattle.between.specs.Work.{Work}
use Rattle.between.specs.Lead.{Foremost, Leads, above_of}
use Rattle.between.proofs.TreeLaws.{leaf_sum, node_sum}
use Rattle.between.proofs.KidsLaws.{art_app, app_left, app_look, remove_len, remove_sum, has_is}
use Rattle.between.proofs.HoleLaws.{plug_among, plug_sum}
use Rattle.between.proofs.WorkLaws.{stands_view, stands_sum, work_of, work_open, open_node, leafy_leaf}
use Rattle.between.proofs.LeadLaws.{leads_byte, find_app, plug_extent}
use Rattle.between.proofs.EraseLaws.{node_erase, node_touch}
use Rattle.between.proofs.StayLaws.{app_marks}
use Rattle.erase_remove.specs.Erase.{EraseAt, counted}

-- ---- marks

pub mark_least : (kind : ℕ) → 4 ≤ kind → kind ≤ 7 → 1 ≤ shrink_mark kind
mark_least kind l u = go (range_inner kind l u)
  where
    go : {k : ℕ} → Inner k → 1 ≤ shrink_mark k
    go node4 = omega arith
    go node16 = omega arith
    go node48 = omega arith
    go node256 = omega arith

pub mark_down : (kind : ℕ) → 5 ≤ kind → kind ≤ 7 → (2 ≤ shrink_mark kind) × (4 ≤ kind_down kind) × (kind_down kind ≤ 6)
mark_down kind l u = go (range_inner kind (omega arith) u) l
  where
    go : {k : ℕ} → Inner k → 5 ≤ k → (2 ≤ shrink_mark k) × (4 ≤ kind_down k) × (kind_down k ≤ 6)
    go node4 h = absurd (omega arith)
    go node16 h = omega arith
    go node48 h = omega arith
    go node256 h = omega arith

-- ---- the node that holds the Leaf

leads_up : {E : Edition} {k : List ℕ} (s o kind : ℕ) (ls : LayKids) (b j : ℕ) (rs : LayKids) (xs : List Step) (r : List ℕ) → Leads E k (among s o kind ls b j rs ∷ xs) r → Leads E k xs (b ∷ r)
unfolding path_of step_path Foremost
leads_up s o kind ls b j rs xs r L = record { word = L.word ∙ append_assoc (path_of xs) (b ∷ []) r; first = L.first.1 }

-- the Leaf of key k at the spot p of the tree `whole` is held at the spot's byte by the spot's node, of other children `before` and `after`
pub record Held (E : Edition) (k : List ℕ) (p : Spot) (whole : Lay) : Type 0 where
  pub steps : List Step
  pub before : LayKids
  pub place : ℕ
  pub after : LayKids
  pub extent : ℕ
  pub value : Value
  pub rest : List ℕ
  pub leads : Leads E k steps (p.byte ∷ rest)
  pub link : Link steps p.node.link
  pub top : Topped steps p.above p.first p.first_link
  pub is : whole ≡ plug steps (node p.node.slot p.node.place (number_of p.node.kind) (app before (kid p.byte place (leaf p.here.slot p.here.place extent k value) after)))

pub held : {E : Edition} {f k : List ℕ} {p : Spot} (P : EraseAt E f k p) → Held E k p P.lay
held {E} {f} {k} {p} P =
    let H = P.way.over.held P.held in
    let n = p.node in
    let F = P.found in
    let t = leaf p.here.slot p.here.place F.extent k F.value in
    record {
      steps = H.up;
      before = H.before;
      place = H.place;
      after = H.after;
      extent = F.extent;
      value = F.value;
      rest = P.way.rest;
      leads = leads_up n.slot n.place (number_of n.kind) H.before p.byte H.place H.after H.up P.way.rest (subst (λ (ys : List Step). Leads E k ys P.way.rest) H.is P.way.leads);
      link = H.link;
      top = H.top;
      is = P.way.whole ∙ ap (λ (ys : List Step). plug ys P.way.sub) H.is ∙ ap (plug (among n.slot n.place (number_of n.kind) H.before p.byte H.place H.after ∷ H.up)) F.is
          ∙ plug_among n.slot n.place (number_of n.kind) H.before p.byte H.place H.after H.up t;
    }

-- ---- the node in the good frame, seen through any witness of it

module _ {E : Edition} {f k : List ℕ} {p : Spot} (P : EraseAt E f k p) (s : State) (w : Stands E f s) where
  abbrev pub xs : List Step
  xs = (held P).steps

  abbrev pub path : List ℕ
  path = path_of (held P).steps

  abbrev pub gone : Lay
  gone = leaf p.here.slot p.here.place (held P).extent k (held P).value

  abbrev pub kids : LayKids
  kids = app (held P).before (kid p.byte (held P).place gone (held P).after)

  -- those that stay
  abbrev pub left : LayKids
  left = app (held P).before (held P).after

  abbrev pub holder : Lay
  holder = node p.node.slot p.node.place (number_of p.node.kind) kids

  pub root_is : w.root ≡ tree (plug xs holder)
  root_is = root_unique E f s P.st w P.stands ∙ P.is ∙ ap tree (held P).is

  pub fits : room s (erase_change E (art (plug xs holder)) k) ≡ true
  fits =
      subst (λ (l : Lay). room s (erase_change E (art l) k) ≡ true) (held P).is
      (subst (λ (t : State). room t (erase_change E (art P.lay) k) ≡ true) (sym (stands_unique E f s P.st w P.stands)) P.room)

  abbrev pub W0 : Work E f (stands_view w) xs p.node.slot ((path, holder) ∷ []) []
  W0 = (work_open xs holder [] (work_of w (plug xs holder) root_is) refl).0

  abbrev pub N0 : NodeOf f p.node.place (number_of p.node.kind) kids
  N0 = (open_node path [] [] p.node.slot p.node.place (number_of p.node.kind) kids W0).1

  pub left_none : has_byte p.byte (held P).before ≡ false
  left_none = app_left p.byte (held P).place gone 0 (held P).before (held P).after (inner_asc (pairs kids) N0.inner)

  pub kids_length : length (pairs kids) ≡ length (pairs left) + 1
  kids_length = remove_len p.byte (held P).place gone (held P).before (held P).after

  -- what the count says
  pub count_is : counted f p ≡ length (pairs left) + 1
  count_is = inner_count (pairs kids) N0.inner ∙ kids_length

  pub records_some : 1 ≤ w.nums.R
  records_some =
      omega (
        arith,
        w.counted,
        stands_sum w (plug xs holder) root_is leafy,
        plug_sum leafy xs holder,
        node_sum leafy p.node.slot p.node.place (number_of p.node.kind) kids,
        remove_sum leafy (held P).before (held P).after p.byte (held P).place gone,
        leafy_leaf p.here.slot p.here.place (held P).extent k (held P).value,
      )

  -- ---- in the model

  abbrev pub bare : Kids
  bare = app_kids (art_kids (held P).before) (art_kids (held P).after)

  pub left_art : art_kids left ≡ bare
  left_art = art_app (held P).before (held P).after

  pub bare_count : count bare ≡ length (pairs left)
  bare_count = ap count (sym left_art) ∙ sym (length_pairs left)

  art_is : art holder ≡ Art.node (number_of p.node.kind) (app_kids (art_kids (held P).before) (Kids.kid p.byte (held P).place (Art.leaf k (held P).value) (art_kids (held P).after)))
  art_is = ap (Art.node (number_of p.node.kind)) (art_app (held P).before (kid p.byte (held P).place gone (held P).after))

  pub node_found : find_tree E (art holder) (length path) k ≡ some (held P).value
  node_found =
      ap (λ a. find_tree E a (length path) k) art_is
      ∙ find_app E k (length path) p.byte (held P).place (leads_byte (held P).leads) (Art.leaf k (held P).value) (art_kids (held P).before) (art_kids (held P).after) (has_is p.byte (held P).before ∙ left_none)
      ∙ rw (same_refl k) refl

  -- the node after its Leaf went
  pub node_erased : erase_tree E (art holder) (length path) k
      ≡ less_one (number_of p.node.kind) bare (record { now = Left.gone; takes = []; frees = leaf_kind ∷ []; extent = 0; dead = extent_of k (held P).value; fresh = false })
  node_erased =
      ap (λ a. erase_tree E a (length path) k) art_is
      ∙ node_erase E k (length path) p.byte (held P).place (leads_byte (held P).leads) (number_of p.node.kind) k (held P).value (held P).before (held P).after (same_refl k) left_none

  pub node_touched : touch_erase E holder (above_of xs) (length path) k ≡ touch_lost (above_of xs) p.node.slot (number_of p.node.kind) p.here.slot left
  node_touched =
      node_touch E k (length path) p.byte (held P).place p.here.slot p.here.place (held P).extent k (held P).value (held P).before (held P).after (above_of xs) p.node.slot p.node.place (number_of p.node.kind)
      (leads_byte (held P).leads) left_none

  -- the items of the tree
  pub items_are : (v : Item → ℕ) → sum v (root_items w.root)
      ≡ sum v (steps_items xs) + (v (body p.node.slot (number_of p.node.kind) p.node.place) + ((v (body p.here.slot leaf_kind p.here.place) + v (extent (held P).extent (extent_of k (held P).value))) + sum v (items_all left)))
  items_are v =
      omega (
        arith,
        stands_sum w (plug xs holder) root_is v,
        plug_sum v xs holder,
        node_sum v p.node.slot p.node.place (number_of p.node.kind) kids,
        remove_sum v (held P).before (held P).after p.byte (held P).place gone,
        leaf_sum v p.here.slot p.here.place (held P).extent k (held P).value,
      )

  -- one child fewer: one Leaf fewer
  pub leaf_fewer : sum leafy (items_all left) + 1 ≡ sum leafy (items_all kids)
  leaf_fewer = omega (arith, remove_sum leafy (held P).before (held P).after p.byte (held P).place gone, leafy_leaf p.here.slot p.here.place (held P).extent k (held P).value)

  -- the Leaf is one of the node's bodies
  pub left_marks : (v : Mark → ℕ) (q : List ℕ) → marks.count v (marks_all q kids) ≡ v (mark p.here.slot leaf_kind k k) + marks.count v (marks_all q left)
  left_marks v q =
      omega (
        arith,
        app_marks v q (held P).before (kid p.byte (held P).place gone (held P).after),
        app_marks v q (held P).before (held P).after,
        kid_marks v q p.byte (held P).place gone (held P).after,
        leaf_marks v (q ++ p.byte ∷ []) p.here.slot p.here.place (held P).extent k (held P).value,
      )

  -- the node has the byte, also in a frame on the way
  pub has_byte_lem : {g : List ℕ} {h : View} {loose : List Item} → Work E g h xs p.node.slot ((path, holder) ∷ []) loose → NodeHas g p.node.place (number_of p.node.kind) p.byte
  has_byte_lem {loose = loose} W =
      let N = (open_node path [] loose p.node.slot p.node.place (number_of p.node.kind) kids W).1 in
      record { kids = pairs kids; node = N.inner; child = p.here.slot; has = app_look p.byte (held P).place gone 0 (held P).before (held P).after (inner_asc (pairs kids) N.inner) }

-- where the key's extent stands at entry
pub was_is : {E : Edition} {f k : List ℕ} {p : Spot} (P : EraseAt E f k p) (s : State) (w : Stands E f s) → extent_at (length k) (find_at E w.root k) ≡ extent (held P).extent (extent_of k (held P).value) ∷ []
unfolding held
was_is {E} {f} {k} {p} P s w =
    plug_extent P.way.leads w.root p.here.slot p.here.place P.found.extent P.found.value
    (root_unique E f s P.st w P.stands ∙ P.is ∙ ap tree (P.way.whole ∙ ap (plug P.way.steps) P.found.is))
