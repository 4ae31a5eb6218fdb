-- An erase happens in the node that holds the Leaf, and what is left of that node tells what the erase takes. Assumes nothing.
use Prim.Native.Nat.{ℕ, suc, ◌+◌, ◌-◌, ◌%◌, ◌≤◌}
use mathlib.Core.Path.{◌≡◌, refl, sym, ap, subst, ◌∙◌}
use mathlib.Core.List.{List, [], ◌∷◌, ◌++◌, append_assoc}
use mathlib.Core.Bool.{false}
use native.Mathlib.Omega.{arith}
use native.Mathlib.Decide.{ℕ_discrete}
use lib.ListN.{length}
use Rattle.layout.specs.Kind.{number_of, leaf_kind, prefix_kind, node4_kind, fewest, shrink_mark, kind_down, Inner}
use Rattle.layout.specs.Kind.Inner.{node4, node16, node48, node256}
use Rattle.layout.specs.Entry.{high_of}
use Rattle.layout.proofs.KindLaws.{range_inner}
use Rattle.model.specs.Edition.{Edition, Lawful, Value}
use Rattle.model.specs.Tree.{Art, Kids, Change, Left, count, carried, chain, prefixes, extent_of, less_one, erase_tree}
use Rattle.model.specs.Tree.Left.{gone, kept}
use Rattle.model.specs.State.{State, erase_change}
use Rattle.model.specs.Body.{InnerAt, byte_in, child_in}
use Rattle.model.specs.Frame.{Lay, LayKids, tree, slot_of, art, art_kids, pairs, NodeOf, Tree, Stands}
use Rattle.model.specs.Frame.Lay.{leaf, prefix, node}
use Rattle.model.specs.Frame.LayKids.{nil, kid}
use Rattle.model.specs.Touch.{has_byte}
use Rattle.model.proofs.StringLaws.{same_refl, clash}
use Rattle.model.proofs.StandsGood.{length_pairs}
use Rattle.node.specs.Kids.{remove_kid}
use Rattle.inner.proofs.InnerLaws.{inner_asc}
use Rattle.room.specs.declared.fit.Needs.{Needs}
use Rattle.room.specs.Fit.{Asks}
use Rattle.room.proofs.FitLaws.{asks_small}
use Rattle.between.specs.Hole.{Step, under, among, app, plug, path_of, app_kids, art_in}
use Rattle.between.specs.Work.{Around}
use Rattle.between.specs.Lead.{Leads, NotUnder, NotLeaf}
use Rattle.between.proofs.TreeLaws.{leaf_parts, prefix_parts, node_parts}
use Rattle.between.proofs.HoleLaws.{art_plug, plug_among, path_among, hole_out}
use Rattle.between.proofs.KidsLaws.{art_app, app_left, app_look, app_remove, remove_len}
use Rattle.between.proofs.WorkLaws.{stands_tree, stands_view}
use Rattle.between.proofs.LeadLaws.{HangsIn, hangs_in, hangs_over, leads_byte, leads_of}
use Rattle.between.proofs.EraseLaws.{with_now, node_erase, less_stays, less_shrinks, plug_erase}
use Rattle.descent.specs.declared.spot.End.TheVariants as end
use Rattle.descent.specs.declared.spot.Spot.{Spot}
use Rattle.descent.specs.Spot.{Topped, InTree, SpotAt}
use Rattle.chain.specs.Row.{Entered, bytes_of}
use Rattle.chain.specs.Shift.{lacks}
use Rattle.erase_join.specs.declared.lone.Lone.{Lone}
use Rattle.erase_join.specs.Lone.{IsLeaf, Full, Site, pair_of, Couple, Above, HasRoom}
use Rattle.erase_join.proofs.SiteLaws.{node_body, beside, site_open}
use Rattle.erase_join.proofs.UpLaws.{child_stood, child_tree}
use Rattle.erase_join.proofs.OverLaws.{opened_above}
use Rattle.erase_join.proofs.NeedLaws.{Taking, leaf_taking, full_taking, roomy_taking}
use Rattle.plan.specs.Run.{RunAt, Measured}
use Rattle.plan.specs.Erase.{EraseFrom, PairFrom, Erasing, ErasePlan}
use Rattle.chain.proofs.ReadLaws.{entered_at}
use Rattle.chain.proofs.LongLaws.{run_low, run_long_lem}
use Rattle.plan.proofs.PutLaws.{inner_fits}

-- ---- what is left of the node, in the model

planned : {E : Edition} {n : Needs} {k : List ℕ} {a : Art} (c : Change Left) (a' : Art) → erase_change E a k ≡ with_now (kept a') c → Asks n c.takes c.extent → Erasing E k a n
planned c a' e A = record { left = a'; leaves = ap (λ (x : Change Left). x.now) e; asks = rw e A }

module _ {E : Edition} {k r : List ℕ} (kind : ℕ) (ls : LayKids) (b j : ℕ) (rs : LayKids) (up : List Step) (L : Leads E k up (b ∷ r)) (first : has_byte b ls ≡ false) (v : Value) where
  abbrev stay : Kids
  stay = app_kids (art_kids ls) (art_kids rs)

  abbrev pub holder : Art
  holder = Art.node kind (app_kids (art_kids ls) (Kids.kid b j (Art.leaf k v) (art_kids rs)))

  abbrev leaves : Left → List ℕ → List ℕ → Change Left
  leaves l takes frees = record { now = l; takes = takes; frees = frees; extent = 0; dead = extent_of k v; fresh = false }

  there : erase_tree E holder (length (path_of up)) k ≡ less_one kind stay (leaves gone [] (leaf_kind ∷ []))
  there = node_erase E k (length (path_of up)) b j (leads_byte L) kind k v ls rs (same_refl k) first

  stay_count : count stay ≡ length (pairs (app ls rs))
  stay_count = ap count (sym (art_app ls rs)) ∙ sym (length_pairs (app ls rs))

  -- the node hangs where it may
  module _ (H : HangsIn up holder) where
    pub keeps : {n : Needs} → 2 ≤ length (pairs (app ls rs)) → (length (pairs (app ls rs)) ≡ shrink_mark kind → ⊥) → Asks n [] 0 → Erasing E k (art_in up holder) n
    keeps h m A =
        let z = stay_count in
        let a = Art.node kind stay in
        let c = leaves (kept a) [] (leaf_kind ∷ []) in
        planned c (art_in up a) (plug_erase L holder a c H (hangs_over up holder a (λ p q. tt) H) (there ∙ less_stays kind stay (leaves gone [] (leaf_kind ∷ [])) (omega arith) (λ y. m (sym z ∙ y))) refl) A

    pub falls : {n : Needs} → 2 ≤ length (pairs (app ls rs)) → length (pairs (app ls rs)) ≡ shrink_mark kind → Asks n (kind_down kind ∷ []) 0 → Erasing E k (art_in up holder) n
    falls h m A =
        let z = stay_count in
        let a = Art.node (kind_down kind) (carried (kind_down kind) stay) in
        let c = leaves (kept a) (kind_down kind ∷ []) (kind ∷ leaf_kind ∷ []) in
        planned c (art_in up a) (plug_erase L holder a c H (hangs_over up holder a (λ p q. tt) H) (there ∙ less_shrinks kind stay (leaves gone [] (leaf_kind ∷ [])) (omega arith) (z ∙ m)) refl) A

-- ---- marks

enough : (kind n : ℕ) → 4 ≤ kind → kind ≤ 7 → fewest kind ≤ n + 1 → (n ≡ shrink_mark kind → ⊥) → 2 ≤ n
enough kind n l h f m = go (range_inner kind l h) f m
  where
    go : {k : ℕ} → Inner k → fewest k ≤ n + 1 → (n ≡ shrink_mark k → ⊥) → 2 ≤ n
    go node4 f m = omega arith
    go node16 f m = omega arith
    go node48 f m = omega arith
    go node256 f m = omega arith

marks_two : (kind : ℕ) → 4 ≤ kind → kind ≤ 7 → (kind ≡ 4 → ⊥) → 2 ≤ shrink_mark kind
marks_two kind l h n = go (range_inner kind l h) n
  where
    go : {k : ℕ} → Inner k → (k ≡ 4 → ⊥) → 2 ≤ shrink_mark k
    go node4 n = absurd (n refl)
    go node16 n = omega arith
    go node48 n = omega arith
    go node256 n = omega arith

-- ---- the child that is left

is_leaf : (E : Edition) (f path : List ℕ) (t : Lay) → Tree E f path t → high_of f (slot_of t) ≡ leaf_kind → IsLeaf t
is_leaf E f path (leaf s o e k v) T h = tt
is_leaf E f path (prefix s o p t) T h = absurd (omega (arith, (prefix_parts E f path s o p t T).0.kind_is))
is_leaf E f path (node s o kind ks) T h = let P = node_parts E f path s o kind ks T in let r = P.1.inner.range in absurd (omega (arith, P.0.kind_is))

not_leaf : (E : Edition) (f path : List ℕ) (t : Lay) → Tree E f path t → (high_of f (slot_of t) ≡ leaf_kind → ⊥) → NotLeaf t
not_leaf E f path (leaf s o e k v) T h = h (leaf_parts E f path s o e k v T).0.kind_is
not_leaf E f path (prefix s o p t) T h = tt
not_leaf E f path (node s o kind ks) T h = tt

leaf_or : {A : Type 0} (t : Lay) → (IsLeaf t → A) → (NotLeaf t → A) → A
leaf_or (leaf s o e k v) a b = a tt
leaf_or (prefix s o p t) a b = b tt
leaf_or (node s o kind ks) a b = b tt

none_full : (xs : List Step) → NotUnder xs → Full xs
none_full [] u = tt
none_full (under s o p ∷ xs) u = absurd u
none_full (among s o kind ls b j rs ∷ xs) u = tt

-- one body more for a byte more, exactly if all are full
lacks_none : (n : ℕ) → (n % 112 ≡ 0 → ⊥) → chain (suc n) - chain n ≡ 0
lacks_none n h = omega arith

lacks_one : (n : ℕ) → n % 112 ≡ 0 → chain (suc n) - chain n ≡ 1
lacks_one n h = omega arith

-- ---- at the end of the descent

-- one child
pub record Alone (ks : LayKids) : Type 0 where
  pub byte : ℕ
  pub place : ℕ
  pub child : Lay
  pub is : ks ≡ kid byte place child nil

one_kid : (ks : LayKids) → length (pairs ks) ≡ 1 → Alone ks
unfolding pairs
one_kid nil e = absurd (omega arith)
one_kid (kid b j t nil) e = record { byte = b; place = j; child = t; is = refl }
one_kid (kid b j t (kid b' j' t' ks)) e = absurd (omega arith)

tree_same : (l m : Lay) → tree l ≡ tree m → l ≡ m
tree_same l m e = cc

-- the node that holds the Leaf of k
pub record Losing (E : Edition) (f k : List ℕ) (s : Spot) (l : Lay) : Type 0 where
  pub extent : ℕ
  pub value : Value
  pub before : LayKids
  pub place : ℕ
  pub after : LayKids
  pub up : List Step
  pub rest : List ℕ
  pub whole : l ≡ plug up (node s.node.slot s.node.place (number_of s.node.kind) (app before (kid s.byte place (leaf s.here.slot s.here.place extent k value) after)))
  pub word : E.walked k ≡ path_of up ++ s.byte ∷ rest
  pub top : Topped up s.above s.first s.first_link

module _ {E : Edition} {f k : List ℕ} {st : State} {s : Spot} (W : Stands E f st) (S : SpotAt E k W.root s) (e : s.end ≡ end.Found) (h : 1 ≤ s.node.slot) (l : Lay) (q : W.root ≡ tree l) where
  pub losing : Losing E f k s l
  losing =
      let I = S.in_tree (λ z. clash (cc)) in
      let w = I.spot.way in
      let F = I.spot.found e in
      let H = w.over.held h in
      let n = s.node in
      let t = leaf s.here.slot s.here.place F.extent k F.value in
      record {
        extent = F.extent;
        value = F.value;
        before = H.before;
        place = H.place;
        after = H.after;
        up = H.up;
        rest = w.rest;
        whole = tree_same l I.lay (sym q ∙ I.is) ∙ w.whole ∙ ap (λ (xs : List Step). plug xs w.sub) H.is ∙ ap (plug (among n.slot n.place (number_of n.kind) H.before s.byte H.place H.after ∷ H.up)) F.is
            ∙ plug_among n.slot n.place (number_of n.kind) H.before s.byte H.place H.after H.up t;
        word = w.leads.word ∙ ap (λ (xs : List Step). path_of xs ++ w.rest) H.is ∙ ap (λ p. p ++ w.rest) (path_among n.slot n.place (number_of n.kind) H.before s.byte H.place H.after H.up)
            ∙ append_assoc (path_of H.up) (s.byte ∷ []) w.rest;
        top = H.top;
      }

  abbrev D : Losing E f k s l
  D = losing

  abbrev lost_leaf : Lay
  lost_leaf = leaf s.here.slot s.here.place D.extent k D.value

  abbrev pub kids : LayKids
  kids = app D.before (kid s.byte D.place lost_leaf D.after)

  -- those that stay
  abbrev pub stays : LayKids
  stays = app D.before D.after

  abbrev holder_lay : Lay
  holder_lay = node s.node.slot s.node.place (number_of s.node.kind) kids

  whole_tree : Tree E f [] (plug D.up holder_lay)
  whole_tree = stands_tree W (plug D.up holder_lay) (q ∙ ap tree D.whole)

  hole_there : Around E f D.up s.node.slot × Tree E f (path_of D.up) holder_lay
  hole_there = let z = hole_out E f D.up holder_lay whole_tree in (z.0, z.2)

  pub node_of_lem : NodeOf f s.node.place (number_of s.node.kind) kids
  node_of_lem = (node_parts E f (path_of D.up) s.node.slot s.node.place (number_of s.node.kind) kids hole_there.1).1

  leads : Leads E k D.up (s.byte ∷ D.rest)
  leads = leads_of f s.node.slot (s.byte ∷ D.rest) hole_there.0 D.word

  holder_hangs : HangsIn D.up (Art.node (number_of s.node.kind) (app_kids (art_kids D.before) (Kids.kid s.byte D.place (Art.leaf k D.value) (art_kids D.after))))
  holder_hangs =
      subst (λ (z : Kids). HangsIn D.up (Art.node (number_of s.node.kind) z)) (art_app D.before (kid s.byte D.place lost_leaf D.after)) (hangs_in E f D.up holder_lay whole_tree)

  first : has_byte s.byte D.before ≡ false
  first = app_left s.byte D.place lost_leaf 0 D.before D.after (inner_asc (pairs kids) node_of_lem.inner)

  fewer : length (pairs kids) ≡ length (pairs stays) + 1
  fewer = remove_len s.byte D.place lost_leaf D.before D.after

  art_is : art l ≡ art_in D.up (Art.node (number_of s.node.kind) (app_kids (art_kids D.before) (Kids.kid s.byte D.place (Art.leaf k D.value) (art_kids D.after))))
  art_is = ap art D.whole ∙ art_plug D.up holder_lay ∙ ap (λ (z : Kids). art_in D.up (Art.node (number_of s.node.kind) z)) (art_app D.before (kid s.byte D.place lost_leaf D.after))

  module _ {n : Needs} where
    pub end_keeps : (length (pairs kids) ≡ shrink_mark (number_of s.node.kind) + 1 → ⊥) → Asks n [] 0 → Erasing E k (art l) n
    end_keeps m A =
        let r = node_of_lem.inner.range in
        let m' : length (pairs stays) ≡ shrink_mark (number_of s.node.kind) → ⊥ = λ z. m (fewer ∙ ap (λ i. i + 1) z) in
        rw art_is (keeps (number_of s.node.kind) D.before s.byte D.place D.after D.up leads first D.value holder_hangs (enough (number_of s.node.kind) (length (pairs stays)) r.0 r.1 (omega (arith, fewer, node_of_lem.least)) m') m' A)

    pub end_falls : length (pairs kids) ≡ shrink_mark (number_of s.node.kind) + 1 → (number_of s.node.kind ≡ 4 → ⊥) → Asks n (kind_down (number_of s.node.kind) ∷ []) 0 → Erasing E k (art l) n
    end_falls m d A =
        let r = node_of_lem.inner.range in
        let e : length (pairs stays) ≡ shrink_mark (number_of s.node.kind) = omega (arith, fewer) in
        rw art_is (falls (number_of s.node.kind) D.before s.byte D.place D.after D.up leads first D.value holder_hangs (omega (arith, e, marks_two (number_of s.node.kind) r.0 r.1 d)) e A)

  -- of two children one is left
  module _ (two : length (pairs kids) ≡ 2) where
    pub left_alone : Alone stays
    left_alone = one_kid stays (omega (arith, fewer))

    abbrev child : Lay
    child = left_alone.child

    -- what is left in the body
    pub own_pair : remove_kid s.byte (pairs kids) ≡ (left_alone.byte, slot_of child) ∷ []
    unfolding pairs
    own_pair = app_remove s.byte D.place lost_leaf 0 D.before D.after (inner_asc (pairs kids) node_of_lem.inner) ∙ ap pairs left_alone.is

    -- its byte c and slot r
    module _ (four : number_of s.node.kind ≡ 4) (c r : ℕ) (is : remove_kid s.byte (pairs kids) ≡ (c, r) ∷ []) where
      one_pair : ◌≡◌ {A = List (ℕ × ℕ)} ((left_alone.byte, slot_of child) ∷ []) ((c, r) ∷ [])
      one_pair = sym own_pair ∙ is

      abbrev lone : Lone
      lone = record { node = s.node.slot; leaf = s.here.slot; at = s.here.place; byte = c; child = r }

      abbrev pair : Lay
      pair = node s.node.slot s.node.place node4_kind kids

      whole_is : l ≡ plug D.up pair
      whole_is = D.whole ∙ ap (λ i. plug D.up (node s.node.slot s.node.place i kids)) four

      -- the site of a join
      site : Site E k W.root D.up lone child
      site =
          record {
            node_at = s.node.place;
            before = D.before;
            byte = s.byte;
            place = D.place;
            after = D.after;
            extent = D.extent;
            value = D.value;
            rest = D.rest;
            other = left_alone.place;
            whole = q ∙ ap tree whole_is;
            leads = leads;
            first = first;
            left = left_alone.is ∙ ap (λ i. kid i left_alone.place child nil) (ap (λ x. byte_in x 0) one_pair);
            slot_is = ap (λ x. child_in x 0) one_pair;
          }

      child_at : Tree E f (path_of D.up ++ c ∷ []) child
      child_at = child_tree W site

      pub child_entry : Entered f r
      child_entry = entered_at (child_stood W site) (ap (λ x. child_in x 0) one_pair)

      -- by its entry it is a Leaf, or it is not
      pub child_leaf : high_of f r ≡ leaf_kind → IsLeaf child
      child_leaf h = is_leaf E f (path_of D.up ++ c ∷ []) child child_at (ap (λ x. high_of f (child_in x 0)) one_pair ∙ h)

      pub child_other : (high_of f r ≡ leaf_kind → ⊥) → NotLeaf child
      child_other h = not_leaf E f (path_of D.up ++ c ∷ []) child child_at (λ z. h (sym (ap (λ x. high_of f (child_in x 0)) one_pair) ∙ z))

      -- its run
      pub child_run : Lawful E → NotLeaf child → RunAt f r
      child_run law i =
          record {
            edition = E;
            view = stands_view W;
            steps = D.up;
            top = s.node.slot;
            path = path_of D.up ++ c ∷ [];
            tree = child;
            trees = beside site;
            loose = node_body site;
            work = site_open W site;
            slot_is = site.slot_is;
            short = omega (arith, run_low law f W.bytes (path_of D.up ++ c ∷ []) child child_at i, run_long_lem child);
          }

      child_long : {n : ℕ} → Measured f r n → n ≡ length (bytes_of child)
      child_long M = M E (stands_view W) D.up s.node.slot (path_of D.up ++ c ∷ []) child (beside site) (node_body site) (site_open W site) site.slot_is ∙ run_long_lem child

      -- the Prefix above
      pub above_fits : Above f s.above
      above_fits n =
          let C = D.top.capped (omega arith) in
          let P = (opened_above W s.above C.bytes C.up (subst (λ (xs : List Step). Site E k W.root xs lone child) C.is site)).1 in
          (P.room, omega (arith, P.long, P.most))

      taken : {n : Needs} {takes : List ℕ} → Taking E k (art (plug D.up (pair_of site))) takes → Asks n takes 0 → Erasing E k (art l) n
      unfolding site
      taken {n} T A = subst (λ (z : Lay). Erasing E k (art z) n) (sym whole_is) (record { left = T.left; leaves = ap (λ (x : Change Left). x.now) T.is; asks = rw T.is A })

      module _ {m : ℕ} (H : HasRoom f s.above m) where
        above_long : (d : s.above.slot ≡ 0 → ⊥) → let p = (D.top.capped (omega arith)).bytes in (m ≡ 112 - length p) × (length p ≤ 112)
        above_long d =
            let C = D.top.capped (omega arith) in
            let P = (opened_above W s.above C.bytes C.up (subst (λ (xs : List Step). Site E k W.root xs lone child) C.is site)).1 in
            (H.some d ∙ ap (λ i. 112 - i) P.long, P.most)

        -- it takes the byte, or is freed
        pub end_under : {n : Needs} → (m ≡ 0 → ⊥) → Asks n [] 0 → Erasing E k (art l) n
        end_under z A =
            let d : s.above.slot ≡ 0 → ⊥ = λ e. z (H.none e) in
            let C = D.top.capped (omega arith) in
            leaf_or child (λ i. taken (leaf_taking W D.top child i site) A)
            (λ i. taken (subst (λ (xs : List Step). (P : Site E k W.root xs lone child) → Taking E k (art (plug xs (pair_of P))) []) (sym C.is) (λ P. roomy_taking W s.above C.bytes C.up (omega (arith, (above_long d).0)) child i P) site) A)

        full_above : m ≡ 0 → Full D.up
        full_above z = elim (ℕ_discrete s.above.slot 0) [
          | yes e ↦ none_full D.up (D.top.without e)
          | no d ↦ subst Full (sym (D.top.capped (omega arith)).is) (omega (arith, (above_long d).0, (above_long d).1))
        ]

        pub end_leaf : {n : Needs} → high_of f r ≡ leaf_kind → Asks n [] 0 → Erasing E k (art l) n
        end_leaf g A = taken (leaf_taking W D.top child (child_leaf g) site) A

        -- the byte joins in front of the run, whose last Prefix has room or has none
        module _ (z : m ≡ 0) (other : high_of f r ≡ leaf_kind → ⊥) {i : ℕ} (M : Measured f r i) where
          joins : Taking E k (art (plug D.up (pair_of site))) (prefixes (lacks child))
          joins = full_taking W (full_above z) child (child_other other) site

          pub end_room : {n : Needs} → (i % 112 ≡ 0 → ⊥) → Asks n [] 0 → Erasing E k (art l) n
          end_room d A = taken (subst (λ j. Taking E k (art (plug D.up (pair_of site))) (prefixes j)) (lacks_none (length (bytes_of child)) (λ x. d (ap (λ j. j % 112) (child_long M) ∙ x))) joins) A

          pub end_more : {n : Needs} → i % 112 ≡ 0 → Asks n (prefix_kind ∷ []) 0 → Erasing E k (art l) n
          end_more d A = taken (subst (λ j. Taking E k (art (plug D.up (pair_of site))) (prefixes j)) (lacks_one (length (bytes_of child)) (ap (λ j. j % 112) (sym (child_long M)) ∙ d)) joins) A

-- ---- the code's ends

module _ {E : Edition} {f k : List ℕ} {s : Spot} (P : EraseFrom E f k s) where
  abbrev in_tree : InTree E k P.stands.root s
  in_tree = P.spot.in_tree (λ z. let e = P.found in clash (cc))

  pub node_room : s.node.place + 2 ≤ length f
  node_room = (inner_fits _ (node_of_lem P.stands P.spot P.found P.held in_tree.lay in_tree.is).inner).0

  pub node_inner : (4 ≤ number_of s.node.kind) × (number_of s.node.kind ≤ 7)
  node_inner = (node_of_lem P.stands P.spot P.found P.held in_tree.lay in_tree.is).inner.range

  -- m: the children that are counted
  module _ (m : ℕ) (q : (kind : ℕ) (ks : List (ℕ × ℕ)) → InnerAt f s.node.place kind ks → m ≡ length ks) where
    pub plan_keeps : {n : Needs} → (m ≡ shrink_mark (number_of s.node.kind) + 1 → ⊥) → Asks n [] 0 → ErasePlan E f k s n
    plan_keeps d A =
        record {
          small = asks_small A (omega arith) (omega arith);
          erasing = λ st W S l e. end_keeps W S P.found P.held l e (λ z. d (q (number_of s.node.kind) _ (node_of_lem W S P.found P.held l e).inner ∙ z)) A;
        }

    pub plan_falls : {n : Needs} (g : ℕ) → m ≡ shrink_mark (number_of s.node.kind) + 1 → (number_of s.node.kind ≡ 4 → ⊥) → g ≡ kind_down (number_of s.node.kind) → Asks n (g ∷ []) 0 → ErasePlan E f k s n
    plan_falls g d u e A =
        record {
          small = asks_small A (omega arith) (omega arith);
          erasing = λ st W S l x. end_falls W S P.found P.held l x (sym (q (number_of s.node.kind) _ (node_of_lem W S P.found P.held l x).inner) ∙ d) u (rw (← e) A);
        }

    pub pair_from : m ≡ shrink_mark (number_of s.node.kind) + 1 → number_of s.node.kind ≡ 4 → PairFrom E f k s
    pair_from d e = record { from = P; kind = e; two = λ ks N. sym (q (number_of s.node.kind) ks N) ∙ d ∙ ap (λ i. shrink_mark i + 1) e }

module _ {E : Edition} {f k : List ℕ} {s : Spot} (P : PairFrom E f k s) where
  abbrev from : EraseFrom E f k s
  from = P.from

  module _ {st : State} (W : Stands E f st) (S : SpotAt E k W.root s) (l : Lay) (e : W.root ≡ tree l) where
    abbrev two_kids : List (ℕ × ℕ)
    two_kids = pairs (kids W S from.found from.held l e)

    pair_at : InnerAt f s.node.place (number_of s.node.kind) two_kids
    pair_at = (node_of_lem W S from.found from.held l e).inner

    four_at : InnerAt f s.node.place 4 two_kids
    four_at = subst (λ i. InnerAt f s.node.place i two_kids) P.kind pair_at

    two_there : length two_kids ≡ 2
    two_there = P.two two_kids pair_at

  pub couple : Couple f s.node.place s.byte
  couple =
      let W = from.stands in
      let S = from.spot in
      let I = in_tree from in
      let D = losing W S from.found from.held I.lay I.is in
      record {
        kids = two_kids W S I.lay I.is;
        node = four_at W S I.lay I.is;
        two = two_there W S I.lay I.is;
        child = s.here.slot;
        has = app_look s.byte D.place (leaf s.here.slot s.here.place D.extent k D.value) 0 D.before D.after (inner_asc (two_kids W S I.lay I.is) (pair_at W S I.lay I.is));
      }

  -- the Prefix above
  pub plan_above : Above f s.above
  plan_above =
      let W = from.stands in
      let S = from.spot in
      let I = in_tree from in
      let two = two_there W S I.lay I.is in
      above_fits W S from.found from.held I.lay I.is two P.kind _ _ (own_pair W S from.found from.held I.lay I.is two)

  module _ {m : ℕ} (H : HasRoom f s.above m) where
    pub plan_under : {n : Needs} → (m ≡ 0 → ⊥) → Asks n [] 0 → ErasePlan E f k s n
    plan_under z A =
        record {
          small = asks_small A (omega arith) (omega arith);
          erasing = λ st W S l e.
              let two = two_there W S l e in
              end_under W S from.found from.held l e two P.kind _ _ (own_pair W S from.found from.held l e two) H z A;
        }

  -- the other child: its byte c and slot r
  module _ (c r : ℕ) (q : (ks : List (ℕ × ℕ)) → InnerAt f s.node.place 4 ks → remove_kid s.byte ks ≡ (c, r) ∷ []) where
    left_there : {st : State} (W : Stands E f st) (S : SpotAt E k W.root s) (l : Lay) (e : W.root ≡ tree l) → remove_kid s.byte (two_kids W S l e) ≡ (c, r) ∷ []
    left_there W S l e = q (two_kids W S l e) (four_at W S l e)

    pub other_entry : Entered f r
    other_entry =
        let W = from.stands in
        let S = from.spot in
        let I = in_tree from in
        child_entry W S from.found from.held I.lay I.is (two_there W S I.lay I.is) P.kind c r (left_there W S I.lay I.is)

    module _ {m high : ℕ} (H : HasRoom f s.above m) (h : high ≡ high_of f r) where
      pub plan_leaf : {n : Needs} → high ≡ leaf_kind → Asks n [] 0 → ErasePlan E f k s n
      plan_leaf g A =
          record {
            small = asks_small A (omega arith) (omega arith);
            erasing = λ st W S l e. end_leaf W S from.found from.held l e (two_there W S l e) P.kind c r (left_there W S l e) H (sym h ∙ g) A;
          }

      module _ (z : m ≡ 0) (g : high ≡ leaf_kind → ⊥) where
        pub plan_run : RunAt f r
        plan_run =
            let W = from.stands in
            let S = from.spot in
            let I = in_tree from in
            let two = two_there W S I.lay I.is in
            let is = left_there W S I.lay I.is in
            child_run W S from.found from.held I.lay I.is two P.kind c r is from.lawful (child_other W S from.found from.held I.lay I.is two P.kind c r is (λ x. g (h ∙ x)))

        module _ {i : ℕ} (M : Measured f r i) where
          pub plan_room : {n : Needs} → (i % 112 ≡ 0 → ⊥) → Asks n [] 0 → ErasePlan E f k s n
          plan_room d A =
              record {
                small = asks_small A (omega arith) (omega arith);
                erasing = λ st W S l e. end_room W S from.found from.held l e (two_there W S l e) P.kind c r (left_there W S l e) H z (λ x. g (h ∙ x)) M d A;
              }

          pub plan_more : {n : Needs} → i % 112 ≡ 0 → Asks n (prefix_kind ∷ []) 0 → ErasePlan E f k s n
          plan_more d A =
              record {
                small = asks_small A (omega arith) (omega arith);
                erasing = λ st W S l e. end_more W S from.found from.held l e (two_there W S l e) P.kind c r (left_there W S l e) H z (λ x. g (h ∙ x)) M d A;
              }
