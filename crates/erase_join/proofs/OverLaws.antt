-- The joins where a run of Prefixes stands above the Node4: a Leaf takes its place, or its last Prefix, which has room, takes the byte. Assumes nothing.
use Prim.Native.Nat.{ℕ, suc, ◌+◌, ◌<◌, ◌≤◌}
use mathlib.Core.Path.{◌≡◌, refl, sym, ap, subst, ◌∙◌}
use mathlib.Core.List.{List, [], ◌∷◌, ◌++◌, append_assoc, append-nil, head-eq_of_cons-eq}
use mathlib.Core.Bool.{true}
use native.Mathlib.Omega.{arith}
use lib.ListN.{length, length-append, replicate}
use borrow.Author.Tests.{eq-eqb}
use Rattle.layout.specs.Number.{le}
use Rattle.layout.specs.Place.{prefix_length, prefix_most}
use Rattle.layout.specs.Kind.{leaf_kind, prefix_kind, node4_kind}
use Rattle.model.specs.Strings.{shared}
use Rattle.model.specs.Edition.{Edition, Lawful, Value}
use Rattle.model.specs.Tree.{Art, Change, Left, chain, prefixes, as_prefix, extent_of, under_prefix, erase_tree}
use Rattle.model.specs.Tree.Left.{kept}
use Rattle.model.specs.State.{State, tally, erase_change}
use Rattle.model.specs.Item.{Item, body, cover, leafy, sum}
use Rattle.model.specs.Body.{PrefixAt}
use Rattle.model.specs.Frame.{Lay, slot_of, Below, art, items, root_items, Stands, tree, Tree}
use Rattle.model.specs.Frame.Lay.{leaf, prefix, node}
use Rattle.model.specs.Touch.{among, holder, chain_slots, chain_above, top, touch_lone, Touch, touch, Above}
use Rattle.model.specs.Mark.{mark, marks, count, is, like}
use Rattle.model.proofs.StringLaws.{clash}
use Rattle.model.proofs.ItemLaws.{sum_app, sum_cons}
use Rattle.model.proofs.ChainLaws.{as_some}
use Rattle.model.proofs.MarkLaws.{Stay, leaf_marks, prefix_marks, is_from, stay_more}
use Rattle.moves.specs.Moved.{Only}
use Rattle.room.specs.View.{rooted}
use Rattle.room.specs.Link.{Relinked}
use Rattle.room.proofs.HeapLaws.{cover_body}
use Rattle.between.specs.Hole.{Step, under, plug, path_of, steps_items, holder_of, Link, art_step, art_in}
use Rattle.between.specs.Work.{blank, Suits, root_of, Work}
use Rattle.between.specs.Lead.{Leads, NotUnder, NotLeaf, above_of}
use Rattle.between.specs.Since.{Since, Accounts, holder_items, KindsIn}
use Rattle.between.specs.Edit.{Booked}
use Rattle.between.proofs.TreeLaws.{sum_none}
use Rattle.between.proofs.HoleLaws.{art_plug, path_under, steps_under, suits_any, plug_under}
use Rattle.between.proofs.WorkLaws.{stands_tree, stands_view, work_of, work_open, work_above, work_write, work_path, work_close, forest_first}
use Rattle.between.proofs.LinkLaws.{relinked}
use Rattle.between.proofs.LeadLaws.{HangsIn, hangs_in, hangs_over, hangs_free, leads_of, leads_under}
use Rattle.between.proofs.EraseLaws.{with_now, plug_under_lone}
use Rattle.between.proofs.SinceLaws.{since_start, since_also, since_write, since_link}
use Rattle.between.proofs.BookedLaws.{tally_turn, booked_root}
use Rattle.between.proofs.OutsideLaws.{among_here, among_there, slots_later, slots_app, holder_sum, holder_slots}
use Rattle.between.proofs.StayLaws.{stay_plug}
use Rattle.descent.specs.declared.spot.Body.{Body}
use Rattle.descent.specs.Spot.{Prefixes}
use Rattle.prefix_body.specs.Prefix.{Spare}
use Rattle.chain.specs.Row.{row_items, bodies_of, bytes_of, tip_of}
use Rattle.chain.specs.Shift.{Freed, RunFreed, Frees, Filling, Filled, RunFilled, Fills}
use Rattle.chain.proofs.RowLaws.{row_leafy}
use Rattle.chain.proofs.TakeLaws.{tally_app}
use Rattle.chain.proofs.RunLaws.{below_not_leaf, run_sum, run_art, run_chained, row_app}
use Rattle.chain.proofs.FillLaws.{filled_art, filled_many}
use Rattle.chain.proofs.PushLaws.{link_ok}
use Rattle.chain.proofs.AlongLaws.{Ranged, tree_ranged, along_like}
use Rattle.erase_remove.proofs.RemoveLaws.{booked_none}
use Rattle.erase_join.specs.declared.lone.Lone.{Lone}
use Rattle.erase_join.specs.Lone.{IsLeaf, Site, pair_of}
use Rattle.erase_join.proofs.JoinLaws.{over_leaves}
use Rattle.chain.proofs.LongLaws.{run_few}
use Rattle.erase_join.proofs.RunLaws.{run_slots, among_later, slots_in, tail_is, gone_last, along_gone, rows, plug_app, run_not_leaf, run_tip, run_down, run_many_lem, run_path, run_steps, run_gone, run_above, run_some}
use Rattle.erase_join.proofs.SiteLaws.{leaves, lost, node_body, beside, pair_open, site_change, site_open, site_left, Mid}
use Rattle.erase_join.proofs.UpLaws.{leaf_shorter, child_stood, child_run, child_many, child_ranged, child_few, two_in, suits_free}

-- Prefixes are freed too
tally_more : (n : ℕ) (j : ℕ) → tally (leaf_kind ∷ node4_kind ∷ prefixes n ++ []) j ≡ tally (prefixes n ++ node4_kind ∷ leaf_kind ∷ []) j
tally_more n j =
    omega (arith, tally_app (leaf_kind ∷ node4_kind ∷ []) (prefixes n ++ []) j, tally_app (prefixes n) [] j, tally_app (prefixes n) (node4_kind ∷ leaf_kind ∷ []) j, tally_turn leaf_kind node4_kind [] j, tally_none j)
  where
    tally_none : (j : ℕ) → tally [] j ≡ 0
    tally_none j = refl

-- Prefixes among the kinds that are freed
row_kinds : (rs : List (ℕ × ℕ)) (ks : List ℕ) → KindsIn (prefixes (length rs) ++ ks) (row_items rs [])
row_kinds [] ks = tt
row_kinds (x ∷ rs) ks = kinds_in (x ∷ rs) (prefixes (length (x ∷ rs)) ++ ks) (among_here prefix_kind (prefixes (length rs) ++ ks))
  where
    kinds_in : (rs : List (ℕ × ℕ)) (ks : List ℕ) → among prefix_kind ks ≡ true → KindsIn ks (row_items rs [])
    kinds_in [] ks h = tt
    kinds_in (x ∷ rs) ks h = (h, kinds_in rs ks h)

-- two strings that begin one string have its first byte
first_shared : (p q r r' : List ℕ) → 1 ≤ length p → 1 ≤ length q → q ++ r ≡ p ++ r' → 1 ≤ shared p q
first_shared [] q r r' h g e = absurd (omega arith)
first_shared (x ∷ p) [] r r' h g e = absurd (omega arith)
first_shared (x ∷ p) (y ∷ q) r r' h g e = rw (eq-eqb x y (sym (head-eq_of_cons-eq e))) (omega arith)

-- ---- a Leaf, above which the run ys stands below the steps xs

module _ {E : Edition} {f k : List ℕ} {s : State} (w : Stands E f s) {l : Lone} (ys xs : List Step) (only : Prefixes ys) (free : NotUnder xs) (some : 1 ≤ length (rows ys)) {u : Lay} (P : Site E k w.root (ys ++ xs) l u) where
  abbrev t : Lay
  t = plug ys (pair_of P)

  whole_is : w.root ≡ tree (plug xs t)
  whole_is = P.whole ∙ ap tree (plug_app ys xs (pair_of P))

  run_work : Work E f (stands_view w) xs (slot_of t) ((path_of xs, t) ∷ []) []
  run_work = (work_open xs t [] (work_of w (plug xs t) whole_is) refl).0

  run_tree : Tree E f (path_of xs) t
  run_tree = (forest_first E f (path_of xs) t [] run_work.trees).0

  not_leaf : NotLeaf t
  not_leaf = run_not_leaf ys (pair_of P) only tt

  tip_is : tip_of t ≡ pair_of P
  tip_is = run_tip ys (pair_of P) only

  many_is : length (bodies_of t) ≡ length (rows ys)
  many_is = omega (arith, run_many_lem ys (pair_of P) only)

  bytes_some : 1 ≤ length (bytes_of t)
  bytes_some = omega (arith, many_is, run_chained E f (path_of xs) t run_tree)

  path_is : path_of xs ++ bytes_of t ≡ path_of (ys ++ xs)
  path_is = run_path xs ys (pair_of P) only ∙ append-nil (path_of (ys ++ xs))

  pub run_frees : Lawful E → {first : ℕ} → slot_of t ≡ first → Frees f first 5
  run_frees law e =
      record {
        edition = E;
        view = stands_view w;
        steps = xs;
        top = slot_of t;
        path = path_of xs;
        tree = t;
        trees = [];
        loose = [];
        work = run_work;
        slot_is = e;
        few = run_few law f w.bytes (path_of xs) t run_tree not_leaf;
      }

  -- the run as one Prefix
  one_step : Leads E k (under 0 0 (bytes_of t) ∷ xs) (P.byte ∷ P.rest)
  one_step =
      leads_under 0 0 (bytes_of t) xs (P.byte ∷ P.rest)
      (leads_of f (slot_of t) (bytes_of t ++ P.byte ∷ P.rest) run_work.around
      (P.leads.word ∙ ap (λ z. z ++ P.byte ∷ P.rest) (sym path_is) ∙ append_assoc (path_of xs) (bytes_of t) (P.byte ∷ P.rest)))

  art_is : art t ≡ Art.prefix (bytes_of t) (art (pair_of P))
  art_is = (run_art E f (path_of xs) t run_tree not_leaf).0 ∙ as_some (bytes_of t) (art (tip_of t)) bytes_some ∙ ap (λ (z : Lay). Art.prefix (bytes_of t) (art z)) tip_is

  pub leaf_change : {k' : List ℕ} {v' : Value} → art u ≡ Art.leaf k' v' → erase_change E (art (plug (ys ++ xs) (pair_of P))) k ≡ leaves (art (plug xs u)) [] (prefixes (length (rows ys)) ++ node4_kind ∷ leaf_kind ∷ []) (extent_of k P.value)
  unfolding art_in art_step
  leaf_change {k'} {v'} e =
      let m = extent_of k P.value in
      let p = bytes_of t in
      let c = lost l u m in
      let n : chain (length p) ≡ length (rows ys) = sym (run_chained E f (path_of xs) t run_tree) ∙ many_is in
      let under_is : under_prefix p l.byte (art u) c ≡ leaves (art u) [] (prefixes (length (rows ys)) ++ node4_kind ∷ leaf_kind ∷ []) m
      = ap (λ (a : Art). under_prefix p l.byte a c) e ∙ ap (λ i. leaves (Art.leaf k' v') [] (prefixes i ++ node4_kind ∷ leaf_kind ∷ []) m) n ∙ ap (λ (a : Art). leaves a [] (prefixes (length (rows ys)) ++ node4_kind ∷ leaf_kind ∷ []) m) (sym e) in
      let H = subst (HangsIn xs) art_is (hangs_in E f xs t (stands_tree w (plug xs t) whole_is)) in
      let deep : length (path_of (under 0 0 p ∷ xs)) ≡ length (path_of (ys ++ xs)) = ap length (path_under 0 0 p xs ∙ path_is) in
      ap (λ (z : Lay). erase_change E (art z) k) (plug_app ys xs (pair_of P)) ∙ ap (λ (a : Art). erase_change E a k) (art_plug xs t ∙ ap (art_in xs) art_is ∙ one_art p)
      ∙ plug_under_lone one_step (art (pair_of P)) l.byte (art u) (art u) c refl H (hangs_free xs (Art.prefix p (art (pair_of P))) (art u) free H) (ap (λ i. erase_tree E (art (pair_of P)) i k) deep ∙ site_change P) refl
      (ap (λ (z : Change Left). z.now) under_is)
      ∙ ap (with_now (kept (art_in xs (art u)))) under_is ∙ ap (λ (a : Art). leaves a [] (prefixes (length (rows ys)) ++ node4_kind ∷ leaf_kind ∷ []) m) (sym (art_plug xs u))
    where
      one_art : (p : List ℕ) → art_in xs (Art.prefix p (art (pair_of P))) ≡ art_in (under 0 0 p ∷ xs) (art (pair_of P))
      one_art p = refl

  -- what is touched
  leaf_touch : {n o e : ℕ} {k' : List ℕ} {v' : Value} → u ≡ leaf n o e k' v' → touch_lone (above_of (ys ++ xs)) l.node l.leaf u ≡ touch (holder (holder_of xs)) (l.leaf ∷ l.node ∷ slots_in (rows ys))
  leaf_touch {n} {o} {e} {k'} {v'} eu =
      let A = run_above xs free ys only in
      ap (touch_lone (above_of (ys ++ xs)) l.node l.leaf) eu ∙ chain_touch (above_of (ys ++ xs)) ∙ rw (A.0, A.1) refl
    where
      chain_touch : (a : Above) → touch_lone a l.node l.leaf (leaf n o e k' v') ≡ touch (holder (top a)) (l.leaf ∷ l.node ∷ chain_above a)
      chain_touch (Above.held h) = refl
      chain_touch (Above.under p i a) = refl

  module _ {f1 : List ℕ} {first : ℕ} (et : slot_of t ≡ first) (R : RunFreed f f1 first) where
    X : Freed E f f1 (stands_view w) xs (slot_of t) (path_of xs) t [] []
    X = R E (stands_view w) xs (slot_of t) (path_of xs) t [] [] run_work et

    opened : Work E f1 X.view xs (slot_of t) ((path_of (ys ++ xs) ++ l.byte ∷ [], u) ∷ beside P) (node_body P)
    opened = pair_open P (subst (λ (z : Lay). Work E f1 X.view xs (slot_of t) ((path_of (ys ++ xs), z) ∷ []) []) tip_is (work_path (tip_of t) path_is X.work))

    pub run_links : (at : ℕ) → Link xs at → (64 ≤ length f1) × (at + 4 ≤ length f1)
    run_links at L = link_ok at opened L

  module _ {f1 g : List ℕ} {first at : ℕ} (et : slot_of t ≡ first) (R : RunFreed f f1 first) (L : Link xs at) (G' : Relinked f1 g at l.child) (n o e : ℕ) (k' : List ℕ) (v' : Value) (eu : u ≡ leaf n o e k' v') where
    abbrev F : Freed E f f1 (stands_view w) xs (slot_of t) (path_of xs) t [] []
    F = X et R

    G : Relinked f1 g at n
    G = subst (λ m. Relinked f1 g at m) (sym P.slot_is ∙ ap slot_of eu) G'

    leaf_work : Work E f1 F.view xs (slot_of t) ((path_of xs, leaf n o e k' v') ∷ beside P) (node_body P)
    leaf_work =
        let at_path : path_of (ys ++ xs) ++ l.byte ∷ [] ≡ path_of xs ++ (bytes_of t ++ l.byte ∷ []) = ap (λ z. z ++ l.byte ∷ []) (sym path_is) ∙ append_assoc (path_of xs) (bytes_of t) (l.byte ∷ []) in
        leaf_shorter (path_of xs) (bytes_of t ++ l.byte ∷ []) n o e k' v'
        (work_path (leaf n o e k' v') at_path (subst (λ (z : Lay). Work E f1 F.view xs (slot_of t) ((path_of (ys ++ xs) ++ l.byte ∷ [], z) ∷ beside P) (node_body P)) eu (opened et R)))

    abbrev gone : List Item
    gone = row_items (rows ys) []

    since_freed : Since f (stands_view w) f1 F.view [] [] gone []
    since_freed =
        subst (λ (is : List Item). Since f (stands_view w) f1 F.view [] [] is []) (run_down ys (pair_of P) [] only) (F.since f (stands_view w) [] [] [] [] (since_start w.heap))

    abbrev goes : List ℕ
    goes = l.leaf ∷ l.node ∷ slots_in (rows ys)

    still : Stay goes (marks (path_of xs) t) (marks (path_of xs) u)
    still = stay_more (λ x z.
        omega (
          arith,
          run_gone xs goes x z ys (pair_of P) only (λ j a. among_later j (l.leaf ∷ l.node ∷ []) (slots_in (rows ys)) a),
          site_left P (slots_in (rows ys)) x z,
          ap (λ (y : Lay). count (is x) (marks (path_of (ys ++ xs) ++ l.byte ∷ []) y)) eu,
          ap (λ (y : Lay). count (is x) (marks (path_of xs) y)) eu,
          leaf_marks (is x) (path_of (ys ++ xs) ++ l.byte ∷ []) n o e k' v',
          leaf_marks (is x) (path_of xs) n o e k' v',
        ))

    all_in : (v : Item → ℕ) → v (body l.leaf leaf_kind l.at) + v (body l.node node4_kind P.node_at) + sum v gone + sum v (steps_items xs) ≤ sum v (root_items w.root)
    all_in v = omega (arith, two_in w P v, run_steps xs v ys only)

    leaf_over : Mid f g k w P
    leaf_over =
        let c = length (rows ys) in
        let g1 = body l.leaf leaf_kind l.at in
        let n1 = body l.node node4_kind P.node_at in
        let T = leaf_touch eu in
        let ends = ap (λ (z : Lay). slot_of z) eu in
        record {
          lay = plug xs u;
          kinds = [];
          frees = prefixes c ++ node4_kind ∷ leaf_kind ∷ [];
          freed = prefixes c ++ [];
          change = leaf_change (ap art eu);
          view = rooted F.view (root_of xs n);
          work = subst (λ (z : Lay). Work E g (rooted F.view (root_of xs n)) [] (slot_of (plug xs z)) (([], plug xs z) ∷ beside P) (node_body P)) (sym eu)
              (work_close xs (leaf n o e k' v') (beside P) (relinked n (omega (arith, (child_stood w P).low)) (omega (arith, (child_stood w P).small)) at xs L leaf_work G) refl (suits_free xs (leaf n o e k' v') free));
          booked = booked_root (subst (λ i. Booked (stands_view w) F.view [] (prefixes i ++ []) 0 0 w.nums.R) many_is (F.booked (stands_view w) [] [] 0 0 w.nums.R (booked_none (stands_view w) w.heap.lists.eight))) (root_of xs n);
          tallies = tally_more c;
          took = [];
          wrote = holder_items xs ++ [];
          gave = gone;
          since = since_link n at xs L leaf_work G since_freed;
          no_leaf = (sum_none leafy, row_leafy (rows ys));
          stays = stay_plug xs t u still (ap (λ (z : Touch). z.goes) T) whole_is;
          last = λ q. clash (cc);
          accounts = subst (λ (z : Touch). Accounts w.root z ([] ++ (prefixes c ++ node4_kind ∷ leaf_kind ∷ [])) [] (holder_items xs ++ []) (g1 ∷ n1 ∷ gone)) (sym T) (record {
            takes = tt;
            frees = λ j. refl;
            kinds_in = (among_later leaf_kind (prefixes c) (node4_kind ∷ leaf_kind ∷ []) refl, (among_later node4_kind (prefixes c) (node4_kind ∷ leaf_kind ∷ []) refl, row_kinds (rows ys) (node4_kind ∷ leaf_kind ∷ [])));
            slots_in = slots_app (goes ++ holder (holder_of xs)) (holder_items xs) [] (slots_later goes (holder (holder_of xs)) (holder_items xs) (holder_slots run_work)) tt;
            frees_in = λ z. omega (arith, all_in z, sum_cons z g1 (n1 ∷ gone), sum_cons z n1 gone);
            rewrites_in = λ z. omega (arith, all_in z, holder_sum z xs, sum_app z (holder_items xs) [], sum_none z);
          });
        }

-- of whatever Leaf
pub run_leaf : {E : Edition} {f f1 g k : List ℕ} {s : State} (w : Stands E f s) {l : Lone} (ys xs : List Step) (only : Prefixes ys) (free : NotUnder xs) {first at : ℕ} (top : (t : Lay) → slot_of (plug ys t) ≡ first) → RunFreed f f1 first → Link xs at
    → Relinked f1 g at l.child → (u : Lay) → IsLeaf u → (P : Site E k w.root (ys ++ xs) l u) → Mid f g k w P
run_leaf w ys xs only free {first} top R L G (leaf n o e k' v') i P = leaf_over w ys xs only free (run_some ys first only top) P (top (pair_of P)) R L G n o e k' v' refl
run_leaf w ys xs only free top R L G (prefix n o p t) i P = absurd i
run_leaf w ys xs only free top R L G (node n o kind ks) i P = absurd i

-- ---- a run of Prefixes, or an inner node, under the Prefix a of bytes p, which has room

-- what the writing of the Prefix says
abbrev pub Backed : List ℕ → List ℕ → ℕ → ℕ → ℕ → Type 0
Backed f g o b child = Only f g o (o + 128) × ((p : List ℕ) (c : ℕ) → PrefixAt f o p c → PrefixAt g o (p ++ b ∷ []) child)

-- the steps to the Node4
abbrev ups : Body → List ℕ → List Step → List Step
ups a p xs = under a.slot a.place p ∷ xs

low_is : (a : Body) (p : List ℕ) (xs : List Step) (b : ℕ) → path_of (ups a p xs) ++ b ∷ [] ≡ path_of xs ++ (p ++ b ∷ [])
low_is a p xs b = ap (λ z. z ++ b ∷ []) (path_under a.slot a.place p xs) ∙ append_assoc (path_of xs) p (b ∷ [])

module _ {E : Edition} {f k : List ℕ} {s : State} (w : Stands E f s) {l : Lone} (a : Body) (p : List ℕ) (xs : List Step) {u : Lay} (P : Site E k w.root (ups a p xs) l u) where
  -- the Prefix is loose
  pub opened_above : Work E f (stands_view w) xs a.slot ((path_of (ups a p xs) ++ l.byte ∷ [], u) ∷ beside P) (body a.slot prefix_kind a.place ∷ node_body P)
      × PrefixAt f a.place p l.node × Suits xs (prefix a.slot a.place p (blank l.node))
  opened_above = work_above a.slot a.place p xs ((path_of (ups a p xs) ++ l.byte ∷ [], u) ∷ beside P) (site_open w P)

  -- what the model makes of it
  pub over_change : (t : Lay) → art t ≡ as_prefix ((p ++ l.byte ∷ []) ++ bytes_of u) (art (tip_of u)) → (frees : List ℕ) → under_prefix p l.byte (art u) (lost l u (extent_of k P.value)) ≡ leaves (art t) [] frees (extent_of k P.value)
      → erase_change E (art (plug (ups a p xs) (pair_of P))) k ≡ leaves (art (plug xs t)) [] frees (extent_of k P.value)
  over_change t et frees e =
      let m = extent_of k P.value in
      let above = prefix a.slot a.place p (pair_of P) in
      let q = (p ++ l.byte ∷ []) ++ bytes_of u in
      let el : art t ≡ Art.prefix q (art (tip_of u)) = et ∙ as_some q (art (tip_of u)) (omega (arith, length-append p (l.byte ∷ []), length-append (p ++ l.byte ∷ []) (bytes_of u))) in
      let H = hangs_in E f xs above (stands_tree w (plug xs above) (P.whole ∙ ap tree (plug_under a.slot a.place p xs (pair_of P)))) in
      let H' = subst (HangsIn xs) (sym el) (hangs_over xs (art above) (Art.prefix q (art (tip_of u))) (λ r x. x) H) in
      ap (λ (z : Art). erase_change E z k) (art_plug (ups a p xs) (pair_of P))
      ∙ plug_under_lone P.leads (art (pair_of P)) l.byte (art u) (art t) (lost l u m) refl H H' (site_change P) refl (ap (λ (c : Change Left). c.now) e)
      ∙ ap (with_now (kept (art_in xs (art t)))) e ∙ ap (λ (z : Art). leaves z [] frees m) (sym (art_plug xs t))

module _ {E : Edition} {f k : List ℕ} {s : State} (w : Stands E f s) {l : Lone} (a : Body) (p : List ℕ) (xs : List Step) (u : Lay) (i : NotLeaf u) (P : Site E k w.root (ups a p xs) l u) (room : le 2 f (a.place + prefix_length) < prefix_most) where
  loose : Work E f (stands_view w) xs a.slot ((path_of (ups a p xs) ++ l.byte ∷ [], u) ∷ beside P) (body a.slot prefix_kind a.place ∷ node_body P)
  loose = (opened_above w a p xs P).0

  at : PrefixAt f a.place p l.node
  at = (opened_above w a p xs P).1

  short : length p < prefix_most
  short = omega (arith, at.long)

  pub over_spare : Spare f a.place 1 × (l.child < 4294967296)
  over_spare = (record { bytes = p; below = l.node; at = at; room = omega (arith, short) }, omega (arith, P.slot_is, (child_stood w P).small))

  -- it, what stands above it, and the two bodies that every join frees
  three_in : (v : Item → ℕ) → v (body l.leaf leaf_kind l.at) + v (body l.node node4_kind P.node_at) + v (body a.slot prefix_kind a.place) + sum v (steps_items xs) + sum v (items u) ≤ sum v (root_items w.root)
  three_in v = omega (arith, two_in w P v, steps_under v a.slot a.place p xs)

  module _ {g : List ℕ} (K : Backed f g a.place l.byte l.child) where
    filling : Filling E g (stands_view w) xs a.slot (path_of xs) (p ++ l.byte ∷ []) u (beside P) (node_body P) a.slot a.place
    filling =
        record {
          work = work_path u (low_is a p xs l.byte) (work_write loose (omega arith) (omega arith) K.0 (omega arith) (omega arith));
          at = subst (λ z. PrefixAt g a.place (p ++ l.byte ∷ []) z) (sym P.slot_is) (K.1 p l.node at);
          below = i;
        }

    pub over_fills : Lawful E → Fills g a.place l.child 5
    over_fills law =
        record {
          edition = E;
          view = stands_view w;
          steps = xs;
          top = a.slot;
          path = path_of xs;
          text = p ++ l.byte ∷ [];
          tree = u;
          trees = beside P;
          loose = node_body P;
          number = a.slot;
          filling = filling;
          slot_is = P.slot_is;
          few = child_few w P law i;
        }

    module _ {g' : List ℕ} (R : RunFilled g g' a.place l.child) where
      Y : Filled E g g' (stands_view w) xs a.slot (path_of xs) (p ++ l.byte ∷ []) u (beside P) (node_body P) a.slot a.place
      Y = R E (stands_view w) xs a.slot (path_of xs) (p ++ l.byte ∷ []) u (beside P) (node_body P) a.slot filling P.slot_is

      abbrev wrote : List Item
      wrote = row_items ((a.slot, a.place) ∷ bodies_of u) [] ++ []

      wrote_sum : (v : Item → ℕ) → sum v wrote ≡ v (body a.slot prefix_kind a.place) + sum v (row_items (bodies_of u) [])
      wrote_sum v =
          omega (arith, sum_app v (row_items ((a.slot, a.place) ∷ bodies_of u) []) [], sum_none v, sum_cons v (body a.slot prefix_kind a.place) (row_items (bodies_of u) []))

      gone_sum : (v : Item → ℕ) → sum v (row_items Y.gone []) ≤ v (body a.slot prefix_kind a.place) + sum v (row_items (bodies_of u) [])
      gone_sum v = omega (arith, row_app v (bodies_of Y.lay) Y.gone, ap (λ (z : List (ℕ × ℕ)). sum v (row_items z [])) Y.bodies, sum_cons v (body a.slot prefix_kind a.place) (row_items (bodies_of u) []))

      more : length (p ++ l.byte ∷ []) ≡ length p + 1
      more = length-append p (l.byte ∷ [])

      lay_tree : Tree E g' (path_of xs) Y.lay
      lay_tree = (forest_first E g' (path_of xs) Y.lay (beside P) Y.work.trees).0

      -- how many bodies are left
      many : chain (length p + suc (length (bytes_of u))) + length Y.gone ≡ suc (length (bodies_of u))
      many =
          let n : length ((p ++ l.byte ∷ []) ++ bytes_of u) ≡ length p + suc (length (bytes_of u)) = omega (arith, length-append (p ++ l.byte ∷ []) (bytes_of u), more) in
          ap (λ x. chain x + length Y.gone) (sym n) ∙ filled_many Y

      -- what is touched
      goes_are : (u : Lay) → NotLeaf u → length (bodies_of u) ≡ chain (length (bytes_of u)) → ◌≡◌ {A = List (ℕ × ℕ)} ((a.slot, a.place) ∷ bodies_of u) (bodies_of Y.lay ++ Y.gone)
          → chain (length p + suc (length (bytes_of u))) + length Y.gone ≡ suc (length (bodies_of u))
          → touch_lone (above_of (ups a p xs)) l.node l.leaf u ≡ touch (a.slot ∷ chain_slots u) (l.leaf ∷ l.node ∷ slots_in Y.gone)
      goes_are (leaf n o x k' v) i eb e m = absurd i
      goes_are (prefix n o q t) i eb e m =
          ap (λ z. touch (a.slot ∷ n ∷ chain_slots t) (l.leaf ∷ l.node ∷ z)) (sym (gone_last (a.slot, a.place) (prefix n o q t) (bodies_of Y.lay) Y.gone (length p) (omega arith) eb e m))
      goes_are (node n o kind ks) i eb e m = ap (λ z. touch (a.slot ∷ []) (l.leaf ∷ l.node ∷ z)) (none_in Y.gone (omega (arith, at.some, short)))
        where
          none_in : (rs : List (ℕ × ℕ)) → length rs ≡ 0 → [] ≡ slots_in rs
          none_in [] z = refl
          none_in (x ∷ rs) z = absurd (omega arith)

      abbrev dropped : List ℕ
      dropped = l.leaf ∷ l.node ∷ slots_in Y.gone

      T : touch_lone (above_of (ups a p xs)) l.node l.leaf u ≡ touch (a.slot ∷ chain_slots u) dropped
      T = goes_are u i (child_many w P) Y.bodies many

      -- the run before and after
      still_in : (lay : Lay) → Ranged lay → slot_of lay ≡ a.slot → bytes_of lay ≡ (p ++ l.byte ∷ []) ++ bytes_of u → tip_of lay ≡ tip_of u → ◌≡◌ {A = List (ℕ × ℕ)} ((a.slot, a.place) ∷ bodies_of u) (bodies_of lay ++ Y.gone)
          → Stay dropped (marks (path_of xs) (prefix a.slot a.place p (pair_of P))) (marks (path_of xs) lay)
      still_in (leaf n o x k' v) R es eb et e = absurd R
      still_in (node n o kind ks) R es eb et e = absurd (omega (arith, ap length eb, length-append (p ++ l.byte ∷ []) (bytes_of u), more))
      still_in (prefix n o q t) R es eb et e = record {
        each = λ x z h.
            let low = path_of (ups a p xs) ++ l.byte ∷ [] in
            let le : low ++ bytes_of u ≡ (path_of xs ++ q) ++ bytes_of t
            = ap (λ y. y ++ bytes_of u) (low_is a p xs l.byte) ∙ append_assoc (path_of xs) (p ++ l.byte ∷ []) (bytes_of u) ∙ ap (λ y. path_of xs ++ y) (sym eb) ∙ sym (append_assoc (path_of xs) q (bytes_of t)) in
            let lq = length-append (path_of xs) q in
            let lp : length low ≡ length (path_of xs) + length p + 1 = omega (arith, ap length (low_is a p xs l.byte), length-append (path_of xs) (p ++ l.byte ∷ []), more) in
            let some = at.some in
            let first : 1 ≤ shared p q = shares q t R.0 eb in
            omega (
              arith,
              prefix_marks (is x) (path_of xs) a.slot a.place p (pair_of P),
              ap (λ y. count (is x) (marks y (pair_of P))) (path_under a.slot a.place p xs),
              site_left P (slots_in Y.gone) x z,
              prefix_marks (like x) (path_of xs) n o q t,
              is_from x a.slot prefix_kind (path_of xs) p q first,
              ap (λ y. like x (mark y prefix_kind (path_of xs) (path_of xs ++ q))) es,
              along_like dropped x z low u (path_of xs ++ q) t (child_ranged w P i) R.3 (sym et) le (omega (arith, R.0, short)) (omega (arith, R.1))
                  (along_gone dropped (bodies_of u) (bodies_of t) Y.gone (tail_is (a.slot, a.place) (n, o) (bodies_of u) (bodies_of t ++ Y.gone) e) (λ j b. among_later j (l.leaf ∷ l.node ∷ []) (slots_in Y.gone) b)),
            );
      }
        where
          -- the first byte stays
          shares : (q : List ℕ) (t : Lay) → 1 ≤ length q → q ++ bytes_of t ≡ (p ++ l.byte ∷ []) ++ bytes_of u → 1 ≤ shared p q
          shares q t some e = first_shared p q (bytes_of t) (l.byte ∷ [] ++ bytes_of u) at.some some (e ∙ append_assoc p (l.byte ∷ []) (bytes_of u))

      pub run_over : Mid f g' k w P
      run_over =
          let g1 = body l.leaf leaf_kind l.at in
          let n1 = body l.node node4_kind P.node_at in
          let b1 = body a.slot prefix_kind a.place in
          let n = length Y.gone in
          let gs = row_items Y.gone [] in
          let frees = prefixes n ++ node4_kind ∷ leaf_kind ∷ [] in
          let C = child_run w P i in
          record {
            lay = plug xs Y.lay;
            kinds = [];
            frees = frees;
            freed = prefixes n ++ [];
            change = over_change w a p xs P Y.lay (filled_art Y (omega (arith, more))) frees (over_leaves l u Y.lay (extent_of k P.value) C.0 C.1 p n at.some short (filled_art Y (omega (arith, more))) (child_many w P) (filled_many Y));
            view = Y.view;
            work = work_close xs Y.lay (beside P) Y.work (sym Y.slot) (suits_any xs (prefix a.slot a.place p (blank l.node)) Y.lay Y.hangs (opened_above w a p xs P).2);
            booked = Y.booked (stands_view w) [] [] 0 0 w.nums.R (booked_none (stands_view w) w.heap.lists.eight);
            tallies = tally_more n;
            took = [];
            wrote = wrote;
            gave = gs;
            since = Y.since f (stands_view w) [] wrote [] []
                (since_write K.0 (λ x y z. omega (arith, wrote_sum (cover x), cover_body x a.slot prefix_kind a.place y z)) (since_also (row_items ((a.slot, a.place) ∷ bodies_of u) []) (since_start w.heap)))
                (λ x. omega (arith, wrote_sum (cover x), sum_cons (cover x) b1 (row_items (bodies_of u) [])));
            no_leaf = (sum_none leafy, row_leafy Y.gone);
            stays = stay_plug xs (prefix a.slot a.place p (pair_of P)) Y.lay (still_in Y.lay (tree_ranged E g' (path_of xs) Y.lay lay_tree (lay_not_leaf Y.lay Y.hangs)) Y.slot Y.bytes Y.tip Y.bodies)
                (ap (λ (z : Touch). z.goes) T) (P.whole ∙ ap tree (plug_under a.slot a.place p xs (pair_of P)));
            last = λ c. clash (cc);
            accounts = subst (λ (z : Touch). Accounts w.root z ([] ++ frees) [] wrote (g1 ∷ n1 ∷ gs)) (sym T) (record {
              takes = tt;
              frees = λ j. refl;
              kinds_in = (among_later leaf_kind (prefixes n) (node4_kind ∷ leaf_kind ∷ []) refl, (among_later node4_kind (prefixes n) (node4_kind ∷ leaf_kind ∷ []) refl, row_kinds Y.gone (node4_kind ∷ leaf_kind ∷ [])));
              slots_in = slots_app (dropped ++ a.slot ∷ chain_slots u) (row_items ((a.slot, a.place) ∷ bodies_of u) []) [] (
                among_later a.slot dropped (a.slot ∷ chain_slots u) (among_here a.slot (chain_slots u)),
                run_slots (dropped ++ a.slot ∷ chain_slots u) u (λ j x. among_later j dropped (a.slot ∷ chain_slots u) (among_there j a.slot (chain_slots u) x)),
              ) tt;
              frees_in = λ z. omega (arith, three_in z, sum_cons z g1 (n1 ∷ gs), sum_cons z n1 gs, gone_sum z, run_sum z u);
              rewrites_in = λ z. omega (arith, three_in z, wrote_sum z, run_sum z u);
            });
          }
        where
          lay_not_leaf : (t : Lay) → ((q : List ℕ) → length q ≡ 112 → Below q t) → NotLeaf t
          lay_not_leaf t h = below_not_leaf (replicate 112 0) t (h (replicate 112 0) refl)
