-- A cut: what is touched, and which body is which afterwards. Assumes nothing.
use Prim.Native.Nat.{ℕ, zero, suc, ◌+◌, ◌-◌, ◌<◌, ◌≤◌}
use mathlib.Core.Path.{◌≡◌, refl, sym, ap, subst, ◌∙◌}
use mathlib.Core.List.{List, [], ◌∷◌, ◌++◌, append-nil, append_assoc}
use native.Mathlib.Omega.{arith}
use native.Mathlib.Decide.{dec_le}
use lib.ListN.{length, drop, length-append}
use lib.Dec.{ltb, eqb}
use borrow.Author.Tests.{ne_eqb, lt-ltb, le-ltb}
use Rattle.layout.specs.Kind.{leaf_kind, prefix_kind, node4_kind}
use Rattle.model.specs.Strings.{pick, shared, Parted}
use Rattle.model.specs.Edition.{Edition, Value}
use Rattle.model.specs.Tree.{chain, prefixes}
use Rattle.model.specs.State.{State}
use Rattle.model.specs.Item.{Item, sum}
use Rattle.model.specs.Frame.{Lay, IsNode, Tree, root_items, Stands}
use Rattle.model.specs.Frame.Lay.{leaf, prefix, node}
use Rattle.model.specs.Touch.{Touch, touch, holder, chain_slots, chain_long, touch_put}
use Rattle.model.specs.Mark.{Mark, mark, marks, count, is, like, slot_is, In}
use Rattle.model.proofs.ItemLaws.{sum_app, sum_cons}
use Rattle.model.proofs.MarkLaws.{Stay, is_from, is_gone, is_other, is_same, is_self, like_of, leaf_marks, prefix_marks, find, weight_in}
use Rattle.model.proofs.StringLaws.{shared_whole}
use Rattle.model.proofs.WayLaws.{shared_turn}
use Rattle.model.proofs.ShiftLaws.{slot_weighs}
use Rattle.between.specs.Hole.{path_of, holder_of}
use Rattle.between.specs.Since.{Accounts, Bodies, SlotsIn, holder_items}
use Rattle.between.proofs.TreeLaws.{sum_none, prefix_sum}
use Rattle.between.proofs.WorkLaws.{forest_first}
use Rattle.between.proofs.OutsideLaws.{among_here, slots_later, slots_app, holder_sum, holder_slots}
use Rattle.between.proofs.StayLaws.{LastIn, from_below}
use Rattle.descent.specs.declared.spot.Spot.{Spot}
use Rattle.chain.specs.Row.{row_items, bodies_of, bytes_of, tip_of}
use Rattle.chain.proofs.RunLaws.{below_not_leaf, run_sum}
use Rattle.chain.proofs.LongLaws.{chain_long_lem}
use Rattle.chain.proofs.AlongLaws.{Ranged, tree_ranged, Along, along_more, along_like, along_last}
use Rattle.put_cut.specs.Cut.{AtPart}
use Rattle.put_cut.specs.After.{own_row}
use Rattle.put_split.proofs.ForkLaws.{fork_kids, fork_marks}
use Rattle.put_cut.proofs.RunLists.{no_bytes, tip_not_leaf}
use Rattle.put_cut.proofs.ModelLaws.{shares_is, length_is, path_is}
use Rattle.put_cut.proofs.SpotLaws.{xs, text, below, old, own, w0, opened, parts, old_sum, old_run, cut, left, spelt, shares}

-- ---- a run, as the step's lists name it

chain_in : (l : Lay) (ss : List ℕ) → SlotsIn (chain_slots l ++ ss) (row_items (bodies_of l) [])
chain_in (leaf s o e k v) ss = tt
chain_in (prefix s o p l) ss = (among_here s (chain_slots l ++ ss), slots_later (s ∷ []) (chain_slots l ++ ss) (row_items (bodies_of l) []) (chain_in l ss))
chain_in (node s o kind ks) ss = tt

-- ---- what is touched, by which parts are non-empty

module _ (E : Edition) (k path : List ℕ) {r p : List ℕ} (e : E.walked k ≡ path ++ r) (Q : Parted r p) (v : Value) (n o h : ℕ) (l : Lay) where
  -- the lists of a cut after q bytes
  abbrev cut_lists : Touch → ℕ → Touch
  cut_lists deep q =
      let m = length p + chain_long l in
      let none = pick (ltb (chain (m - 1)) (chain m)) (touch (chain_slots l ++ holder h) (n ∷ [])) (touch (n ∷ chain_slots l ++ holder h) []) in
      pick (eqb q (length p)) deep (pick (eqb q 0) none (touch (n ∷ chain_slots l) []))

  touched : (q : ℕ) → length Q.w ≡ q → touch_put E (prefix n o p l) h (length path) k v ≡ cut_lists (touch_put E l n (length path + length p) k v) q
  touched q eq = ap (cut_lists (touch_put E l n (length path + length p) k v)) (shares_is E k path e Q ∙ eq)

  module _ (ew : length Q.w ≡ 0) where
    all_long : length p + chain_long l ≡ suc (length (Q.t ++ bytes_of l))
    all_long = omega (arith, length_is E k path e Q, chain_long_lem l, length-append Q.t (bytes_of l))

    touch_none : chain (length (Q.t ++ bytes_of l)) + 1 ≡ chain (suc (length (Q.t ++ bytes_of l))) → touch_put E (prefix n o p l) h (length path) k v ≡ touch (chain_slots l ++ holder h) (n ∷ [])
    touch_none fewer =
        let z = length_is E k path e Q in
        let m = length p + chain_long l in
        let a = all_long in
        touched 0 ew ∙ rw (ne_eqb 0 (length p) (λ y. omega arith), lt-ltb (chain (m - 1)) (chain m) (omega arith)) refl

    touch_after : chain (length (Q.t ++ bytes_of l)) + 0 ≡ chain (suc (length (Q.t ++ bytes_of l))) → touch_put E (prefix n o p l) h (length path) k v ≡ touch (n ∷ chain_slots l ++ holder h) []
    touch_after same =
        let z = length_is E k path e Q in
        let m = length p + chain_long l in
        let a = all_long in
        touched 0 ew ∙ rw (ne_eqb 0 (length p) (λ y. omega arith), le-ltb (chain (m - 1)) (chain m) (omega arith)) refl

  touch_within : 1 ≤ length Q.w → touch_put E (prefix n o p l) h (length path) k v ≡ touch (n ∷ chain_slots l) []
  touch_within ew =
      let q = length Q.w in
      let z = length_is E k path e Q in
      touched q refl ∙ rw (ne_eqb q (length p) (λ y. omega arith), ne_eqb q 0 (λ y. omega arith)) refl

-- ---- at the spot

module _ {E : Edition} {f k word : List ℕ} {v : Value} {p : Spot} (A : AtPart E f k word v p) where
  abbrev told : Touch
  told = touch_put E (old A) (holder_of (xs A)) (length (path_of (xs A))) k v

  abbrev low : List ℕ
  low = (path_of (xs A) ++ (cut A).w) ++ (cut A).c ∷ []

  low_is : path_of (xs A) ++ text A ≡ low ++ (cut A).t
  low_is = path_is E k (path_of (xs A)) (spelt A) (cut A)

  low_long : length low ≡ length (path_of (xs A)) + p.shared + 1
  low_long = omega (arith, length-append (path_of (xs A) ++ (cut A).w) ((cut A).c ∷ []), length-append (path_of (xs A)) (cut A).w, shares A)

  -- the whole string, to what stands below
  strings : (lay : Lay) → bytes_of lay ≡ left A → (path_of (xs A) ++ text A) ++ bytes_of (below A) ≡ low ++ bytes_of lay
  strings lay string = ap (λ y. y ++ bytes_of (below A)) low_is ∙ append_assoc low (cut A).t (bytes_of (below A)) ∙ ap (λ y. low ++ y) (sym string)

  old_tree : Tree E f (path_of (xs A)) (old A)
  old_tree = (forest_first E f (path_of (xs A)) (old A) [] (opened A (w0 A)).0.trees).0

  below_tree : Tree E f (path_of (xs A) ++ text A) (below A)
  below_tree = (forest_first E f (path_of (xs A) ++ text A) (below A) [] (parts A (w0 A)).0.trees).0

  -- the bodies of the run, and the one that names it
  module _ {s : State} (w : Stands E f s) where
    run_some : (z : Item → ℕ) → sum z (row_items (bodies_of (old A)) []) + sum z (holder_items (xs A)) ≤ sum z (root_items w.root)
    run_some z = omega (arith, run_sum z (old A), prefix_sum z p.here.slot p.here.place (text A) (below A), holder_sum z (xs A), old_sum A w z)

    holder_some : (z : Item → ℕ) → sum z (holder_items (xs A) ++ row_items (bodies_of (old A)) []) ≤ sum z (root_items w.root)
    holder_some z = omega (arith, sum_app z (holder_items (xs A)) (row_items (bodies_of (old A)) []), run_some z)

    holder_in : SlotsIn (p.here.slot ∷ chain_slots (below A) ++ holder (holder_of (xs A))) (holder_items (xs A) ++ row_items (bodies_of (old A)) [])
    holder_in =
        slots_app (p.here.slot ∷ chain_slots (below A) ++ holder (holder_of (xs A))) (holder_items (xs A)) (row_items (bodies_of (old A)) [])
        (slots_later (p.here.slot ∷ chain_slots (below A)) (holder (holder_of (xs A))) (holder_items (xs A)) (holder_slots (opened A w).0)) (chain_in (old A) (holder (holder_of (xs A))))

  -- ---- what is below the Prefix has a run of the bytes that are left

  module _ (g : List ℕ) (lay : Lay) (more : List (ℕ × ℕ)) (string : bytes_of lay ≡ left A) (tip : tip_of lay ≡ tip_of (below A)) (T : Tree E g low lay) where
    below_run : Ranged (below A)
    below_run = tree_ranged E f (path_of (xs A) ++ text A) (below A) below_tree (below_not_leaf (text A) (below A) (parts A (w0 A)).2)

    left_run : Ranged lay
    left_run = tree_ranged E g low lay T (tip_not_leaf lay (subst IsNode (sym tip) (old_run A).0))

    module _ (run : ◌≡◌ {A = List (ℕ × ℕ)} (bodies_of lay) (bodies_of (below A) ++ more)) where
      below_along : Along [] (bodies_of (below A)) (bodies_of lay)
      below_along = subst (Along [] (bodies_of (below A))) (sym run) (along_more [] (bodies_of (below A)) more)

      below_stays : (x : Mark) → count (is x) (marks (path_of (xs A) ++ text A) (below A)) ≤ count (like x) (marks low lay)
      below_stays x =
          let l = length-append (path_of (xs A)) (text A) in
          let m = low_long in
          let d = A.part.less in
          let t = (parts A (w0 A)).1.most in
          along_like [] x refl (path_of (xs A) ++ text A) (below A) low lay below_run left_run (sym tip) (strings lay string) (omega arith) (omega arith) below_along

  -- ---- no part before: the Prefix has the part after, or is freed

  module _ (none : p.shared ≡ 0) where
    no_front : length (cut A).w ≡ 0
    no_front = sym (shares A) ∙ none

    told_after : chain (length (left A)) + 0 ≡ chain (suc (length (left A))) → told ≡ touch (p.here.slot ∷ chain_slots (below A) ++ holder (holder_of (xs A))) []
    told_after same = touch_after E k (path_of (xs A)) (spelt A) (cut A) v p.here.slot p.here.place (holder_of (xs A)) (below A) no_front same

    told_none : chain (length (left A)) + 1 ≡ chain (suc (length (left A))) → told ≡ touch (chain_slots (below A) ++ holder (holder_of (xs A))) (p.here.slot ∷ [])
    told_none fewer = touch_none E k (path_of (xs A)) (spelt A) (cut A) v p.here.slot p.here.place (holder_of (xs A)) (below A) no_front fewer

    pub first_accounts : (j : ℕ) → j ≤ 1 → chain (length (left A)) + j ≡ chain (suc (length (left A))) → (bs : List Item) → Bodies bs → {s : State} (w : Stands E f s)
        → Accounts w.root told (leaf_kind ∷ node4_kind ∷ prefixes j) bs (holder_items (xs A) ++ row_items (bodies_of (old A)) []) (row_items (own_row p.here.slot p.here.place j) [])
    first_accounts zero most e bs B w =
        subst (λ (t : Touch). Accounts w.root t (leaf_kind ∷ node4_kind ∷ []) bs (holder_items (xs A) ++ row_items (bodies_of (old A)) []) []) (sym (told_after e))
        (record { takes = B; frees = λ s. refl; kinds_in = tt; slots_in = holder_in w; frees_in = λ z. omega (arith, sum_none z); rewrites_in = holder_some w })
    first_accounts (suc zero) most e bs B w =
        subst (λ (t : Touch). Accounts w.root t (leaf_kind ∷ node4_kind ∷ prefix_kind ∷ []) bs (holder_items (xs A) ++ row_items (bodies_of (old A)) []) (own A ∷ [])) (sym (told_none e))
        (record {
          takes = B;
          frees = λ s. refl;
          kinds_in = (refl, tt);
          slots_in = holder_in w;
          frees_in = λ z. omega (arith, sum_cons z (own A) [], sum_none z, old_sum A w z);
          rewrites_in = holder_some w;
        })
    first_accounts (suc (suc j)) most e bs B w = absurd (omega arith)

    -- the Node4 above, whatever its other child
    module _ (g : List ℕ) (lay : Lay) (string : bytes_of lay ≡ left A) (tip : tip_of lay ≡ tip_of (below A)) (T : Tree E g low lay) (m place : ℕ) (new : Lay) where
      abbrev knot : Lay
      knot = node m place node4_kind (fork_kids (cut A).b new (cut A).c lay)

      low_first : path_of (xs A) ++ (cut A).c ∷ [] ≡ low
      low_first = ap (λ y. y ++ (cut A).c ∷ []) (sym (append-nil (path_of (xs A))) ∙ ap (λ y. path_of (xs A) ++ y) (sym (no_bytes (cut A).w no_front)))

      knot_marks : (w : Mark → ℕ) → count w (marks low lay) ≤ count w (marks (path_of (xs A)) knot)
      knot_marks w = omega (arith, fork_marks w (path_of (xs A)) m place (cut A).b new (cut A).c lay, ap (λ y. count w (marks y lay)) low_first)

      pub first_stays : (j : ℕ) → j ≤ 1 → chain (length (left A)) + j ≡ chain (suc (length (left A))) → ◌≡◌ {A = List (ℕ × ℕ)} (own_row p.here.slot p.here.place j ++ bodies_of lay) (bodies_of (old A))
          → Stay told.goes (marks (path_of (xs A)) (old A)) (marks (path_of (xs A)) knot)
      first_stays zero most e run =
          let m = low_long in
          let all : path_of (xs A) ++ bytes_of (old A) ≡ low ++ bytes_of lay = sym (append_assoc (path_of (xs A)) (text A) (bytes_of (below A))) ∙ strings lay string in
          let along : Along [] (bodies_of (old A)) (bodies_of lay) = subst (Along [] (bodies_of (old A))) (append-nil (bodies_of (old A)) ∙ sym run) (along_more [] (bodies_of (old A)) []) in
          record {
            each = λ x z h.
                omega (
                  arith,
                  knot_marks (like x),
                  along_like [] x refl (path_of (xs A)) (old A) low lay (tree_ranged E f (path_of (xs A)) (old A) old_tree tt) (left_run g lay [] string tip T) (sym tip) all (omega arith) (omega arith) along,
                );
          }
      first_stays (suc zero) most e run =
          let path = path_of (xs A) in
          let n = p.here.slot in
          let rest : ◌≡◌ {A = List (ℕ × ℕ)} (bodies_of lay) (bodies_of (below A) ++ []) = ap (λ (y : List (ℕ × ℕ)). drop 1 y) run ∙ sym (append-nil (bodies_of (below A))) in
          record {
            each = λ x z h.
                let goes : told.goes ≡ n ∷ [] = ap (λ (y : Touch). y.goes) (told_none e) in
                omega (
                  arith,
                  prefix_marks (is x) path n p.here.place (text A) (below A),
                  knot_marks (like x),
                  below_stays g lay [] string tip T rest x,
                  is_gone x (n ∷ []) n prefix_kind path (path ++ text A) (rw goes at z) (among_here n []),
                );
          }
      first_stays (suc (suc j)) most e run = absurd (omega arith)

  -- ---- a part before: the Prefix keeps it

  module _ (some : 1 ≤ p.shared) where
    front : 1 ≤ length (cut A).w
    front = omega (arith, shares A)

    pub within_accounts : (kinds : List ℕ) (bs : List Item) → Bodies bs → {s : State} (w : Stands E f s) → Accounts w.root told kinds bs (row_items (bodies_of (old A)) []) []
    within_accounts kinds bs B w =
        subst (λ (t : Touch). Accounts w.root t kinds bs (row_items (bodies_of (old A)) []) [])
        (sym (touch_within E k (path_of (xs A)) (spelt A) (cut A) v p.here.slot p.here.place (holder_of (xs A)) (below A) front))
        (record {
          takes = B;
          frees = λ s. refl;
          kinds_in = tt;
          slots_in = subst (λ (y : List ℕ). SlotsIn y (row_items (bodies_of (old A)) [])) (append-nil (chain_slots (old A))) (chain_in (old A) []);
          frees_in = λ z. omega (arith, sum_none z);
          rewrites_in = λ z. omega (arith, run_some w z);
        })

    -- above a Node4 with the new Leaf and the run of what is left
    module _ (g : List ℕ) (lay : Lay) (more : List (ℕ × ℕ)) (string : bytes_of lay ≡ left A) (tip : tip_of lay ≡ tip_of (below A)) (T : Tree E g low lay)
        (run : ◌≡◌ {A = List (ℕ × ℕ)} (bodies_of lay) (bodies_of (below A) ++ more)) (m place n' o' e' : ℕ) (v' : Value) where
      abbrev new : Lay
      new = leaf n' o' e' k v'

      abbrev kept : Lay
      kept = node m place node4_kind (fork_kids (cut A).b new (cut A).c lay)

      abbrev crown : Lay
      crown = prefix p.here.slot p.here.place (cut A).w kept

      crown_marks : (w : Mark → ℕ) → count w (marks (path_of (xs A)) crown)
          ≡ w (mark p.here.slot prefix_kind (path_of (xs A)) (path_of (xs A) ++ (cut A).w)) + (w (mark m node4_kind (path_of (xs A) ++ (cut A).w) (path_of (xs A) ++ (cut A).w)) + (w (mark n' leaf_kind k k) + count w (marks low lay)))
      crown_marks w =
          omega (
            arith,
            prefix_marks w (path_of (xs A)) p.here.slot p.here.place (cut A).w kept,
            fork_marks w (path_of (xs A) ++ (cut A).w) m place (cut A).b new (cut A).c lay,
            leaf_marks w ((path_of (xs A) ++ (cut A).w) ++ (cut A).b ∷ []) n' o' e' k v',
          )

      pub within_stays : (goes : List ℕ) → Stay goes (marks (path_of (xs A)) (old A)) (marks (path_of (xs A)) crown)
      within_stays goes =
          let path = path_of (xs A) in
          let n = p.here.slot in
          let o = p.here.place in
          record {
            each = λ x z h.
                omega (
                  arith,
                  prefix_marks (is x) path n o (text A) (below A),
                  crown_marks (like x),
                  is_from x n prefix_kind path (text A) (cut A).w (omega (arith, front, shared_turn (text A) (cut A).w, ap (shared (cut A).w) (cut A).right, shared_whole (cut A).w ((cut A).c ∷ (cut A).t))),
                  below_stays g lay more string tip T run x,
                );
          }

      -- a Prefix that was taken stands below those that were there
      pub within_last : LastIn (marks (path_of (xs A)) (old A)) (marks (path_of (xs A)) crown)
      within_last once i x y hi moved hx hy es ek fresh c =
          let path = path_of (xs A) in
          let n = p.here.slot in
          let o = p.here.place in
          let top = mark n prefix_kind path (path ++ (cut A).w) in
          let own = mark n prefix_kind path (path ++ text A) in
          let mi = prefix_marks (is i) path n o (text A) (below A) in
          let live : (s : ℕ) → count (slot_is s) (marks (path ++ text A) (below A)) ≤ count (slot_is s) (marks path (old A)) = λ s. omega (arith, prefix_marks (slot_is s) path n o (text A) (below A)) in
          let self : slot_is n own ≡ 1 = slot_weighs own n refl in
          -- y is one of the run
          let iy : In y (marks low lay) = elim (dec_le 1 (is y top)) [
            | yes q ↦ absurd (fresh (rw (is_same y top q) (omega (arith, prefix_marks (slot_is n) path n o (text A) (below A)))))
            | no q ↦ omega (arith, crown_marks (is y), is_other y m node4_kind (path ++ (cut A).w) (path ++ (cut A).w) (λ z. omega (arith, ek)), is_other y n' leaf_kind k k (λ z. omega (arith, ek)))
          ] in
          let deep : length low ≤ length y.from = from_below y (λ z. omega (arith, ek)) low lay iy in
          let m' = low_long in
          let first : x.slot ≡ n → length x.from < length y.from = λ ex. elim (dec_le 1 (is x top)) [
            | yes q ↦ omega (arith, ap (λ (z : Mark). length z.from) (is_same x top q))
            | no q ↦
                let topped : slot_is n top ≡ 1 = slot_weighs top n refl in
                absurd (omega (
                  arith,
                  once n,
                  prefix_marks (slot_is n) path n o (cut A).w kept,
                  weight_in (slot_is n) (marks (path ++ (cut A).w) kept) x (omega (arith, prefix_marks (is x) path n o (cut A).w kept)) (omega (arith, slot_weighs x n ex)),
                ))
          ] in
          elim (dec_le 1 (is i own)) [
            | yes q ↦ first (sym es ∙ ap (λ (z : Mark). z.slot) (is_same i own q))
            | no q ↦
                let hi' : In i (marks (path ++ text A) (below A)) = omega arith in
                let F = find (like i) (marks low lay) (omega (arith, below_stays g lay more string tip T run i)) in
                let there = weight_in (slot_is x.slot) (marks low lay) F.mark F.there (omega (arith, slot_weighs F.mark x.slot (sym (like_of i F.mark F.weighs).slot ∙ es))) in
                let weigh : (z : Mark) → is x z ≤ slot_is x.slot z = λ z. same_weight x z in
                let ix : In x (marks low lay) = omega (
                  arith,
                  once x.slot,
                  crown_marks (is x),
                  crown_marks (slot_is x.slot),
                  weigh top,
                  weigh (mark m node4_kind (path ++ (cut A).w) (path ++ (cut A).w)),
                  weigh (mark n' leaf_kind k k),
                ) in
                along_last [] i x y es ek (path ++ text A) (below A) low lay (below_run g lay more string tip T) (left_run g lay more string tip T) (sym tip) (strings lay string) (below_along g lay more string tip T run)
                (λ s. omega (arith, once s, crown_marks (slot_is s))) hi' (λ h. moved (omega (arith, crown_marks (is i)))) ix iy (λ z. fresh (omega (arith, live y.slot)))
          ]
        where
          same_weight : (x z : Mark) → is x z ≤ slot_is x.slot z
          same_weight x z = elim (dec_le 1 (is x z)) [
            | yes q ↦ let e = is_same x z q in rw e (omega (arith, is_self z, slot_weighs z z.slot refl))
            | no q ↦ omega arith
          ]
