-- The joins where no Prefix stands above the Node4, or one that is full. Assumes nothing.
use Prim.Native.Nat.{ℕ, suc, ◌+◌, ◌≤◌}
use mathlib.Core.Path.{◌≡◌, refl, sym, ap, subst, ◌∙◌}
use mathlib.Core.List.{List, [], ◌∷◌, ◌++◌, append_assoc, append-nil}
use mathlib.Core.Bool.{true, false}
use native.Mathlib.Omega.{arith}
use native.Mathlib.Decide.{dec_le}
use lib.ListN.{length, length-append}
use lib.Dec.{ltb}
use borrow.Author.Tests.{le-ltb}
use Rattle.layout.specs.Kind.{leaf_kind, prefix_kind, node4_kind}
use Rattle.model.specs.Edition.{Edition, Lawful, Value}
use Rattle.model.specs.Tree.{Art, Change, Left, chain, prefixes, as_prefix, extent_of, lone_child}
use Rattle.model.specs.Tree.Left.{kept}
use Rattle.model.specs.State.{State, room, erase_change}
use Rattle.model.specs.Item.{Item, body, cover, leafy, sum}
use Rattle.model.specs.Frame.{Lay, IsNode, slot_of, atop, art, items, root_items, tree, Tree, View, Stands}
use Rattle.model.specs.Frame.Lay.{leaf, prefix, node}
use Rattle.model.specs.Touch.{among, holder, held, Above, chain_slots, chain_long, touch_lone, Touch, touch}
use Rattle.model.specs.Mark.{Mark, mark, marks, count, is, common, slot_is}
use Rattle.model.proofs.StringLaws.{clash, shared_left}
use Rattle.model.proofs.ItemLaws.{sum_app, sum_cons}
use Rattle.model.proofs.ChainLaws.{inner_atop}
use Rattle.model.proofs.OneBody.{node_inner}
use Rattle.model.proofs.MarkLaws.{Stay, leaf_marks, is_same, common_of, stay_more}
use Rattle.room.specs.View.{Roomy, rooted}
use Rattle.room.specs.Book.{taken_all, RoomFor, Kinds}
use Rattle.room.specs.Link.{Relinked}
use Rattle.room.proofs.BookLaws.{room_first}
use Rattle.between.specs.Hole.{Step, under, plug, path_of, steps_items, holder_of, Link, art_in}
use Rattle.between.specs.Hole as hole
use Rattle.between.specs.Work.{Suits, root_of, Work}
use Rattle.between.specs.Lead.{NotUnder, NotLeaf, above_of}
use Rattle.between.specs.Since.{holder_items, SlotsIn}
use Rattle.between.proofs.TreeLaws.{sum_none, leaf_parts, as_leaf, begins_less}
use Rattle.between.proofs.HoleLaws.{art_plug, plug_under, hole_out}
use Rattle.between.proofs.WorkLaws.{stands_tree, stands_view, work_as, work_close, forest_first, forest_more, forest_sum}
use Rattle.between.proofs.LinkLaws.{relinked}
use Rattle.between.proofs.LeadLaws.{HangsIn, hangs_in, hangs_over, hangs_free}
use Rattle.between.proofs.EraseLaws.{with_now, plug_lone, plug_under_lone}
use Rattle.between.proofs.SinceLaws.{since_start, since_also, since_link}
use Rattle.between.proofs.BookedLaws.{tally_turn, booked_row, booked_root, room_of}
use Rattle.between.proofs.OutsideLaws.{among_here, among_there, slots_later, slots_app, holder_sum, holder_slots}
use Rattle.between.proofs.StayLaws.{LastIn, stay_plug, last_plug}
use Rattle.chain.specs.Row.{row_items, bodies_of, bytes_of, tip_of}
use Rattle.chain.specs.Shift.{lacks, Pushing, Pushed, RunPushed, Pushes}
use Rattle.chain.proofs.RowLaws.{row_leafy, row_bodies}
use Rattle.chain.proofs.TakeLaws.{prefix_kind_lem, kinds_row}
use Rattle.chain.proofs.ReadLaws.{Stood, tree_stood}
use Rattle.chain.proofs.RunLaws.{run_sum, run_art, run_chained, run_not_leaf}
use Rattle.chain.proofs.PushLaws.{pushed_art}
use Rattle.chain.proofs.AlongLaws.{Ranged, tree_ranged, Along, along_more, along_like, along_last}
use Rattle.erase_remove.proofs.RemoveLaws.{booked_none}
use Rattle.erase_join.specs.declared.lone.Lone.{Lone}
use Rattle.erase_join.specs.Lone.{IsLeaf, Full, Site, pair_of}
use Rattle.erase_join.proofs.JoinLaws.{up_leaves, full_leaves}
use Rattle.chain.proofs.LongLaws.{run_few}
use Rattle.erase_join.proofs.RunLaws.{run_slots, among_first, among_later}
use Rattle.erase_join.proofs.SiteLaws.{leaves, lost, node_body, beside, site_change, site_open, site_sum, site_left, site_marks, Mid}

-- ---- what the joins share

-- a Leaf stands under a shorter path too
pub leaf_shorter : {E : Edition} {f : List ℕ} {h : View} {xs : List Step} {s : ℕ} {ts : List (List ℕ × Lay)} {loose : List Item} (p q : List ℕ) (n o e : ℕ) (k : List ℕ) (v : Value)
    → Work E f h xs s ((p ++ q, leaf n o e k v) ∷ ts) loose → Work E f h xs s ((p, leaf n o e k v) ∷ ts) loose
leaf_shorter {E} {f} {ts = ts} p q n o e k v W =
    let F = forest_first E f (p ++ q) (leaf n o e k v) ts W.trees in
    let T = leaf_parts E f (p ++ q) n o e k v F.0 in
    let L = T.1 in
    work_as W (λ w. omega (arith, forest_sum w (p ++ q) (leaf n o e k v) ts, forest_sum w p (leaf n o e k v) ts))
    (forest_more E f p (leaf n o e k v) ts (as_leaf E f p n o e k v T.0 (record { at = L.at; eights = L.eights; legal = L.legal; begins = begins_less (E.walked k) p q L.begins; stamped = L.stamped })) F.1) W.entries

module _ {E : Edition} {f k : List ℕ} {s : State} (w : Stands E f s) {xs : List Step} {l : Lone} {u : Lay} (P : Site E k w.root xs l u) where
  pub child_stood : Stood f u
  child_stood = tree_stood (path_of xs ++ l.byte ∷ []) (beside P) (node_body P) u (site_open w P)

  pub child_tree : Tree E f (path_of xs ++ l.byte ∷ []) u
  child_tree = (forest_first E f (path_of xs ++ l.byte ∷ []) u (beside P) (site_open w P).trees).0

  -- a run above an inner node, if it is no Leaf
  pub child_run : NotLeaf u → (art u ≡ as_prefix (bytes_of u) (art (tip_of u))) × IsNode (tip_of u)
  child_run i = run_art E f (path_of xs ++ l.byte ∷ []) u child_tree i

  pub child_many : length (bodies_of u) ≡ chain (length (bytes_of u))
  child_many = run_chained E f (path_of xs ++ l.byte ∷ []) u child_tree

  pub child_ranged : NotLeaf u → Ranged u
  child_ranged i = tree_ranged E f (path_of xs ++ l.byte ∷ []) u child_tree i

  pub child_few : Lawful E → NotLeaf u → length (bodies_of u) ≤ 5
  child_few law i = run_few law f w.bytes (path_of xs ++ l.byte ∷ []) u child_tree i

  -- the two bodies that every join frees
  pub two_in : (v : Item → ℕ) → v (body l.leaf leaf_kind l.at) + v (body l.node node4_kind P.node_at) + sum v (steps_items xs) + sum v (items u) ≤ sum v (root_items w.root)
  two_in v = omega (arith, site_sum w P v)

-- ---- no Prefix above

above_held : (xs : List Step) → NotUnder xs → above_of xs ≡ held (holder_of xs)
above_held [] n = refl
above_held (under s o p ∷ xs) n = absurd n
above_held (hole.among s o kind ls b j rs ∷ xs) n = refl

pub suits_free : (xs : List Step) (t : Lay) → NotUnder xs → Suits xs t
unfolding Suits
suits_free [] t n = tt
suits_free (under s o p ∷ xs) t n = absurd n
suits_free (hole.among s o kind ls b j rs ∷ xs) t n = tt

module _ {E : Edition} {f k : List ℕ} {s : State} (w : Stands E f s) {xs : List Step} {l : Lone} {u : Lay} (P : Site E k w.root xs l u) where
  pub lone_change : NotUnder xs → (t : Lay) (takes frees : List ℕ) → lone_child l.byte (art u) (lost l u (extent_of k P.value)) ≡ leaves (art t) takes frees (extent_of k P.value)
      → erase_change E (art (plug xs (pair_of P))) k ≡ leaves (art (plug xs t)) takes frees (extent_of k P.value)
  lone_change free t takes frees e =
      let m = extent_of k P.value in
      let H = hangs_in E f xs (pair_of P) (stands_tree w (plug xs (pair_of P)) P.whole) in
      ap (λ (a : Art). erase_change E a k) (art_plug xs (pair_of P))
      ∙ plug_lone P.leads (art (pair_of P)) l.byte (art u) (art t) (lost l u m) free H (hangs_free xs (art (pair_of P)) (art t) free H) (site_change P) refl (ap (λ (c : Change Left). c.now) e)
      ∙ ap (with_now (kept (art_in xs (art t)))) e ∙ ap (λ (a : Art). leaves a takes frees m) (sym (art_plug xs t))

  holder_in : (ss : List ℕ) → SlotsIn (ss ++ holder (holder_of xs)) (holder_items xs)
  holder_in ss = slots_later ss (holder (holder_of xs)) (holder_items xs) (holder_slots (site_open w P))

-- a Leaf
module _ {E : Edition} {f k : List ℕ} {s : State} (w : Stands E f s) {xs : List Step} {l : Lone} (free : NotUnder xs) (at : ℕ) (L : Link xs at) where
  pub leaf_up : {g : List ℕ} (u : Lay) → IsLeaf u → (P : Site E k w.root xs l u) → Relinked f g at l.child → Mid f g k w P
  leaf_up (prefix n o p t) i P G' = absurd i
  leaf_up (node n o kind ks) i P G' = absurd i
  leaf_up {g} (leaf n o e k' v) i P G' =
      let u = leaf n o e k' v in
      let G : Relinked f g at n = subst (λ m. Relinked f g at m) (sym P.slot_is) G' in
      let W = leaf_shorter (path_of xs) (l.byte ∷ []) n o e k' v (site_open w P) in
      let g1 = body l.leaf leaf_kind l.at in
      let n1 = body l.node node4_kind P.node_at in
      record {
        lay = plug xs u;
        kinds = [];
        frees = node4_kind ∷ leaf_kind ∷ [];
        freed = [];
        change = lone_change w P free u [] (node4_kind ∷ leaf_kind ∷ []) refl;
        view = rooted (stands_view w) (root_of xs n);
        work = work_close xs u (beside P) (relinked n (child_stood w P).low (child_stood w P).small at xs L W G) refl (suits_free xs u free);
        booked = booked_root (booked_none (stands_view w) w.heap.lists.eight) (root_of xs n);
        tallies = tally_turn leaf_kind node4_kind [];
        took = [];
        wrote = holder_items xs ++ [];
        gave = [];
        since = since_link n at xs L W G (since_start w.heap);
        no_leaf = (sum_none leafy, sum_none leafy);
        stays = stay_plug xs (pair_of P) u (stay_more (λ x z. omega (arith, site_left P [] x z, leaf_marks (is x) (path_of xs ++ l.byte ∷ []) n o e k' v, leaf_marks (is x) (path_of xs) n o e k' v)))
            (ap (λ (z : Above). (touch_lone z l.node l.leaf (leaf n o e k' v)).goes) (above_held xs free)) P.whole;
        last = λ c. clash (cc);
        accounts = rw (above_held xs free) (record {
          takes = tt;
          frees = λ j. refl;
          kinds_in = (refl, (refl, tt));
          slots_in = slots_app (l.leaf ∷ l.node ∷ holder (holder_of xs)) (holder_items xs) [] (holder_in w P (l.leaf ∷ l.node ∷ [])) tt;
          frees_in = λ z. omega (arith, two_in w P z, sum_cons z g1 (n1 ∷ []), sum_cons z n1 [], sum_none z);
          rewrites_in = λ z. omega (arith, two_in w P z, holder_sum z xs, sum_app z (holder_items xs) [], sum_none z);
        });
      }

-- ---- a run of Prefixes, or an inner node, where no Prefix above has room

suits_full : (xs : List Step) → Full xs → (n o : ℕ) (q : List ℕ) (u : Lay) → Suits xs (prefix n o q u)
unfolding Suits
suits_full [] h n o q u = tt
suits_full (under s o' p ∷ xs) h n o q u = h
suits_full (hole.among s o' kind ls b j rs ∷ xs) h n o q u = tt

-- what is touched
pub record Raised (t : Touch) (s g : ℕ) (is : List Item) : Type 0 where
  pub goes : t.goes ≡ g ∷ s ∷ []
  pub slots : SlotsIn (t.goes ++ t.rewrites) is

-- the run and what names it are among those that are rewritten
raised : (t : Touch) (s g : ℕ) (u : Lay) (is : List Item) → t.goes ≡ g ∷ s ∷ [] → ((j : ℕ) → among j (chain_slots u) ≡ true → among j t.rewrites ≡ true) → SlotsIn t.rewrites is → Raised t s g (is ++ (row_items (bodies_of u) [] ++ []))
raised t s g u is e h I =
    let ss = t.goes ++ t.rewrites in
    record { goes = e; slots = slots_app ss is (row_items (bodies_of u) [] ++ []) (slots_later t.goes t.rewrites is I) (slots_app ss (row_items (bodies_of u) []) [] (run_slots ss u (λ j a. among_later j t.goes t.rewrites (h j a))) tt) }

-- document 02: of a chain that the byte joins behind a full Prefix no body is freed
none_fewer : (n m : ℕ) → n ≡ 112 → ltb (chain (n + suc m)) (suc (chain m)) ≡ false
none_fewer n m e = le-ltb (chain (n + suc m)) (suc (chain m)) (omega arith)

held_raised : (h s g : ℕ) (u : Lay) (is : List Item) → NotLeaf u → SlotsIn (holder h) is → Raised (touch_lone (held h) s g u) s g (is ++ (row_items (bodies_of u) [] ++ []))
held_raised h s g (leaf c o e k v) is n I = absurd n
held_raised h s g (prefix c o q t) is n I =
    raised (touch_lone (held h) s g (prefix c o q t)) s g (prefix c o q t) is refl (λ j a. among_first j (c ∷ chain_slots t) (holder h) a) (slots_later (c ∷ chain_slots t) (holder h) is I)
held_raised h s g (node c o kind ks) is n I = raised (touch_lone (held h) s g (node c o kind ks)) s g (node c o kind ks) is refl (λ j a. clash (cc)) I

full_raised : (p n : ℕ) (a : Above) (s g : ℕ) (u : Lay) (o : ℕ) → n ≡ 112 → NotLeaf u → Raised (touch_lone (Above.under p n a) s g u) s g (body p prefix_kind o ∷ (row_items (bodies_of u) [] ++ []))
full_raised p n a s g (leaf c o' e k v) o full i = absurd i
full_raised p n a s g (prefix c o' q t) o full i =
    let z = none_fewer n (length q + chain_long t) full in
    rw z (raised (touch (p ∷ c ∷ chain_slots t) (g ∷ s ∷ [])) s g (prefix c o' q t) (body p prefix_kind o ∷ []) refl (λ j x. among_there j p (c ∷ chain_slots t) x) (among_here p (c ∷ chain_slots t), tt))
full_raised p n a s g (node c o' kind ks) o full i = raised (touch (p ∷ []) (g ∷ s ∷ [])) s g (node c o' kind ks) (body p prefix_kind o ∷ []) refl (λ j x. clash (cc)) (among_here p [], tt)

up_raised : (xs : List Step) (s g : ℕ) (u : Lay) → Full xs → NotLeaf u → SlotsIn (holder (holder_of xs)) (holder_items xs) → Raised (touch_lone (above_of xs) s g u) s g (holder_items xs ++ (row_items (bodies_of u) [] ++ []))
up_raised [] s g u h n I = held_raised 0 s g u [] n I
up_raised (under s' o p ∷ xs) s g u h n I = full_raised s' (length p) (above_of xs) s g u o h n
up_raised (hole.among s' o kind ls b j rs ∷ xs) s g u h n I = held_raised s' s g u (body s' kind o ∷ []) n I

-- the model's erase
module _ {E : Edition} {f k : List ℕ} {s : State} (w : Stands E f s) {l : Lone} (u lay : Lay) (i : NotLeaf u) (is : art lay ≡ Art.prefix (l.byte ∷ bytes_of u) (art (tip_of u))) where
  pub run_change : (xs : List Step) → Full xs → (P : Site E k w.root xs l u) → erase_change E (art (plug xs (pair_of P))) k ≡ leaves (art (plug xs lay)) (prefixes (lacks u)) (node4_kind ∷ leaf_kind ∷ []) (extent_of k P.value)
  run_change [] h P = let R = child_run w P i in lone_change w P tt lay (prefixes (lacks u)) (node4_kind ∷ leaf_kind ∷ []) (up_leaves l u lay (extent_of k P.value) R.0 R.1 is)
  run_change (hole.among s' o kind ls b j rs ∷ xs) h P = let R = child_run w P i in lone_change w P tt lay (prefixes (lacks u)) (node4_kind ∷ leaf_kind ∷ []) (up_leaves l u lay (extent_of k P.value) R.0 R.1 is)
  run_change (under s' o p ∷ xs) h P =
      let R = child_run w P i in
      let m = extent_of k P.value in
      let a = art (tip_of u) in
      let t = prefix s' o p lay in
      let above = prefix s' o p (pair_of P) in
      let el : art t ≡ Art.prefix (p ++ l.byte ∷ bytes_of u) a = ap (atop p) is in
      let e = full_leaves l u t m R.0 R.1 p h el in
      let H = hangs_in E f xs above (stands_tree w (plug xs above) (P.whole ∙ ap tree (plug_under s' o p xs (pair_of P)))) in
      let H' = subst (HangsIn xs) (sym el) (hangs_over xs (art above) (Art.prefix (p ++ l.byte ∷ bytes_of u) a) (λ q x. x) H) in
      ap (λ (z : Art). erase_change E z k) (art_plug (under s' o p ∷ xs) (pair_of P))
      ∙ plug_under_lone P.leads (art (pair_of P)) l.byte (art u) (art t) (lost l u m) refl H H' (site_change P) refl (ap (λ (c : Change Left). c.now) e)
      ∙ ap (with_now (kept (art_in xs (art t)))) e ∙ ap (λ (z : Art). leaves z (prefixes (lacks u)) (node4_kind ∷ leaf_kind ∷ []) m) (sym (art_plug xs t) ∙ ap art (sym (plug_under s' o p xs lay)))

module _ {E : Edition} {f k : List ℕ} {s : State} (w : Stands E f s) {xs : List Step} {l : Lone} (full : Full xs) (at : ℕ) (L : Link xs at) (u : Lay) (i : NotLeaf u) (P : Site E k w.root xs l u)
    (fits : room s (erase_change E (art (plug xs (pair_of P))) k) ≡ true) where
  prefix_room : 1 ≤ lacks u → Roomy (stands_view w) prefix_kind
  prefix_room some =
      let lay = prefix 0 0 (l.byte ∷ bytes_of u) (tip_of u) in
      let c = leaves (art (plug xs lay)) (prefixes (lacks u)) (node4_kind ∷ leaf_kind ∷ []) (extent_of k P.value) in
      let q : room s c ≡ true = rw (run_change w u lay i (sym (inner_atop (l.byte ∷ bytes_of u) (art (tip_of u)) (node_inner (tip_of u) (child_run w P i).1))) xs full P) at fits in
      let one : lacks u ≡ 1 = omega arith in
      room_first (stands_view w) prefix_kind [] 0 prefix_kind_lem w.heap.lists.eight (subst (λ n. RoomFor (stands_view w) (prefixes n) 0) one (room_of w c q))

  pushing : Pushing E f (stands_view w) xs l.node u (beside P) (node_body P) l.byte at
  pushing = record { work = site_open w P; link_is = L; below = i; suits = suits_full xs full; room = prefix_room }

  pub up_pushes : Lawful E → Pushes f l.child l.byte at 5
  up_pushes law =
      record {
        edition = E;
        view = stands_view w;
        steps = xs;
        top = l.node;
        tree = u;
        trees = beside P;
        loose = node_body P;
        pushing = pushing;
        slot_is = P.slot_is;
        few = child_few w P law i;
      }

  module _ {g : List ℕ} (R : RunPushed f g l.child l.byte at) where
    X : Pushed E f g (stands_view w) xs u (beside P) (node_body P) l.byte
    X = R E (stands_view w) xs l.node u (beside P) (node_body P) pushing P.slot_is

    abbrev wrote : List Item
    wrote = holder_items xs ++ (row_items (bodies_of u) [] ++ [])

    wrote_sum : (v : Item → ℕ) → sum v wrote ≡ sum v (holder_items xs) + sum v (row_items (bodies_of u) [])
    wrote_sum v = omega (arith, sum_app v (holder_items xs) (row_items (bodies_of u) [] ++ []), sum_app v (row_items (bodies_of u) []) [], sum_none v)

    T : Raised (touch_lone (above_of xs) l.node l.leaf u) l.node l.leaf wrote
    T = up_raised xs l.node l.leaf u full i (holder_slots (site_open w P))

    -- the run before and after: one string above one tree, the bodies in one order
    lay_ranged : Ranged X.lay
    lay_ranged =
        tree_ranged E g (path_of xs) X.lay (hole_out E g xs X.lay (forest_first E g [] (plug xs X.lay) (beside P) X.work.trees).0).2 (run_not_leaf X.lay (omega (arith, ap length X.bytes)))

    one_tip : tip_of u ≡ tip_of X.lay
    one_tip = sym X.tip

    one_string : (path_of xs ++ l.byte ∷ []) ++ bytes_of u ≡ path_of xs ++ bytes_of X.lay
    one_string = append_assoc (path_of xs) (l.byte ∷ []) (bytes_of u) ∙ ap (λ z. path_of xs ++ z) (sym X.bytes)

    one_order : (goes : List ℕ) → Along goes (bodies_of u) (bodies_of X.lay)
    one_order goes = subst (λ (z : List (ℕ × ℕ)). Along goes (bodies_of u) z) (sym X.bodies) (along_more goes (bodies_of u) X.new)

    still : Stay (l.leaf ∷ l.node ∷ []) (marks (path_of xs) (pair_of P)) (marks (path_of xs) X.lay)
    still = record {
      each = λ x z h.
          let n = length-append (path_of xs) (l.byte ∷ []) in
          omega (
            arith,
            site_left P [] x z,
            along_like (l.leaf ∷ l.node ∷ []) x z (path_of xs ++ l.byte ∷ []) u (path_of xs) X.lay (child_ranged w P i) lay_ranged one_tip one_string (omega arith) (omega arith) (one_order (l.leaf ∷ l.node ∷ [])),
          );
    }

    -- what is known by a path alone has no byte for a Prefix
    flat : (s kind : ℕ) (q : List ℕ) (m y : Mark) → 1 ≤ is m (mark s kind q q) → common m y ≡ true → ⊥
    flat s kind q m y h c =
        let e = is_same m (mark s kind q q) h in
        omega (arith, (common_of m y c).left, shared_left m.to y.to, ap (λ (z : Mark). length z.from) e, ap (λ (z : Mark). length z.to) e)

    low_last : LastIn (marks (path_of xs) (pair_of P)) (marks (path_of xs) X.lay)
    low_last once m x y hm moved hx hy es ek new c =
        let low = path_of xs ++ l.byte ∷ [] in
        elim (dec_le 1 (count (is m) (marks low u))) [
          | yes a ↦
              along_last [] m x y es ek low u (path_of xs) X.lay (child_ranged w P i) lay_ranged one_tip one_string (one_order []) once a moved hx hy (λ q. new (omega (arith, q, site_marks P (slot_is y.slot))))
          | no a ↦ elim (dec_le 1 (is m (mark l.node node4_kind (path_of xs) (path_of xs)))) [
            | yes b ↦ absurd (flat l.node node4_kind (path_of xs) m y b c)
            | no b ↦ absurd (flat l.leaf leaf_kind k m y (omega (arith, hm, site_marks P (is m))) c)
          ]
        ]

    pub run_up : Mid f g k w P
    run_up =
        let g1 = body l.leaf leaf_kind l.at in
        let n1 = body l.node node4_kind P.node_at in
        record {
          lay = plug xs X.lay;
          kinds = prefixes (lacks u);
          frees = node4_kind ∷ leaf_kind ∷ [];
          freed = [];
          change = run_change w u X.lay i (pushed_art X) xs full P;
          view = rooted (taken_all (stands_view w) (prefixes (lacks u))) (root_of xs (slot_of X.lay));
          work = X.work;
          booked = booked_root (booked_row (stands_view w) (prefixes (lacks u)) (subst (λ ks. Kinds ks) (append-nil (prefixes (lacks u))) (kinds_row (lacks u) Kinds.nil)) w.heap.lists.eight) (root_of xs (slot_of X.lay));
          tallies = tally_turn leaf_kind node4_kind [];
          took = row_items X.new [];
          wrote = wrote;
          gave = [];
          since = X.since f (stands_view w) [] wrote [] (since_also (holder_items xs) (since_also (row_items (bodies_of u) []) (since_start w.heap))) (λ a. omega (arith, wrote_sum (cover a)));
          no_leaf = (row_leafy X.new, sum_none leafy);
          stays = stay_plug xs (pair_of P) X.lay still T.goes P.whole;
          last = λ c. last_plug xs (pair_of P) X.lay w P.whole X.work low_last;
          accounts = record {
            takes = row_bodies X.new [] tt;
            frees = λ j. ap (among j) (sym T.goes);
            kinds_in = (among_later leaf_kind (prefixes (lacks u)) (node4_kind ∷ leaf_kind ∷ []) refl, (among_later node4_kind (prefixes (lacks u)) (node4_kind ∷ leaf_kind ∷ []) refl, tt));
            slots_in = T.slots;
            frees_in = λ z. omega (arith, two_in w P z, sum_cons z g1 (n1 ∷ []), sum_cons z n1 [], sum_none z);
            rewrites_in = λ z. omega (arith, two_in w P z, holder_sum z xs, wrote_sum z, run_sum z u);
          };
        }
