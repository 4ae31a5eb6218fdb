-- A byte joins in front of a run, and each full body gives its last byte to what is below. Assumes nothing.
use Prim.Native.Nat.{ℕ, suc, ◌+◌, ◌-◌, ◌<◌, ◌≤◌}
use mathlib.Core.Path.{◌≡◌, refl, sym, ap, subst, ◌∙◌}
use mathlib.Core.List.{List, [], ◌∷◌, ◌++◌, append_assoc, append-nil}
use native.Mathlib.Omega.{arith}
use native.Mathlib.Decide.{dec_lt}
use lib.ListN.{length, get_or, take, length-append, get_or-append}
use lib.Seq.{length-take-le, get_or-take, get_or-append-add, ext_get_or}
use Rattle.layout.specs.Number.{le}
use Rattle.layout.specs.Place.{entry_at, prefix_length, prefix_child}
use Rattle.layout.specs.Kind.{prefix_kind}
use Rattle.layout.specs.Entry.{place_of, high_of}
use Rattle.model.specs.Edition.{Edition}
use Rattle.model.specs.Tree.{Art, chain, prefixes, as_prefix}
use Rattle.model.specs.Item.{Item, body, cover, sum}
use Rattle.model.specs.Body.{PrefixAt}
use Rattle.model.specs.Frame.{Lay, slot_of, IsNode, Below, art, View, Heap}
use Rattle.model.specs.Frame.Lay.{leaf, prefix, node}
use Rattle.model.proofs.ItemLaws.{sum_cons, sum_app}
use Rattle.model.proofs.OneBody.{node_below}
use Rattle.moves.specs.Moved.{Only}
use Rattle.room.specs.View.{list_of, place_from, taken_from, taken, Roomy, rooted}
use Rattle.room.specs.Step.{Takes, Took}
use Rattle.room.specs.Book.{taken_all}
use Rattle.room.specs.Link.{Relinked}
use Rattle.room.proofs.HeapLaws.{cover_body, took_lies, Lies}
use Rattle.between.specs.Hole.{Step, under, plug, path_of, steps_items, Link}
use Rattle.between.specs.Work.{blank, Suits, root_of, forest_items, Work}
use Rattle.between.specs.Lead.{NotLeaf}
use Rattle.between.specs.Since.{Since, holder_items}
use Rattle.between.proofs.TreeLaws.{sum_none}
use Rattle.between.proofs.HoleLaws.{path_under, plug_under, steps_under, as_under, hole_out, root_step}
use Rattle.between.proofs.WorkLaws.{entries_first, forest_first, work_sum, work_take, work_path, work_write, work_close, open_prefix, make_prefix}
use Rattle.between.proofs.LinkLaws.{relinked, link_room}
use Rattle.between.proofs.SinceLaws.{since_take, since_write, since_link}
use Rattle.prefix_body.specs.Prefix.{Spare, Full}
use Rattle.chain.specs.Row.{Entered, row_items, run_many, bodies_of, bytes_of, tip_of}
use Rattle.chain.specs.Shift.{lacks, Pushing, Pushed, RunPushed, Pushes}
use Rattle.chain.proofs.TakeLaws.{prefix_kind_lem}
use Rattle.chain.proofs.ReadLaws.{Stood, tree_stood, entered_at}
use Rattle.chain.proofs.RunLaws.{below_not_leaf, below_short, node_run, run_not_leaf, run_art}
use Rattle.chain.proofs.FillLaws.{Opens, opens_of}

-- what `take`, `fresh`, `front` and `turn` say
abbrev pub Take : List ℕ → List ℕ → ℕ → Type 0
Take f g m = (h : View) → Heap f h → Roomy h prefix_kind → Took f g h prefix_kind m

abbrev pub Fresh : List ℕ → List ℕ → ℕ → ℕ → ℕ → Type 0
Fresh f g o b child = Only f g o (o + 128) × PrefixAt g o (b ∷ []) child

abbrev pub Front : List ℕ → List ℕ → ℕ → ℕ → Type 0
Front f g o b = Only f g o (o + 128) × ((p : List ℕ) (c : ℕ) → PrefixAt f o p c → PrefixAt g o (b ∷ p) c)

abbrev pub Turn : List ℕ → List ℕ → ℕ → ℕ → ℕ → Type 0
Turn f g o b r = Only f g o (o + 128) × ((p : List ℕ) (c : ℕ) → PrefixAt f o p c → (r ≡ get_or p 111 0) × PrefixAt g o (b ∷ take 111 p) c)

-- ---- numbers and strings

-- at a run of n bytes that ends a body, and at a longer one
pub lacks_node : (t : Lay) → IsNode t → lacks t ≡ 1
lacks_node t i = ap (λ p. chain (suc (length p)) - chain (length p)) (node_run t i).1

pub lacks_short : (n o : ℕ) (p : List ℕ) (t : Lay) → IsNode t → 1 ≤ length p → length p < 112 → lacks (prefix n o p t) ≡ 0
lacks_short n o p t i h g =
    let e : length (bytes_of t) ≡ 0 = ap length (node_run t i).1 in
    let l : length (p ++ bytes_of t) ≡ length p = omega (arith, length-append p (bytes_of t)) in
    ap (λ m. chain (suc m) - chain m) l ∙ omega arith

lacks_full : (n o : ℕ) (p : List ℕ) (t : Lay) → length p ≡ 112 → lacks (prefix n o p t) ≡ lacks t
lacks_full n o p t h =
    let l : length (p ++ bytes_of t) ≡ 112 + length (bytes_of t) = omega (arith, length-append p (bytes_of t)) in
    ap (λ m. chain (suc m) - chain m) l ∙ omega arith

-- the last of 112 bytes
last_is : (p : List ℕ) → length p ≡ 112 → take 111 p ++ get_or p 111 0 ∷ [] ≡ p
last_is p h =
    let l : length (take 111 p) ≡ 111 = length-take-le 111 p (omega arith) in
    ext_get_or 0 (take 111 p ++ get_or p 111 0 ∷ []) p (omega (arith, length-append (take 111 p) (get_or p 111 0 ∷ [])))
    (λ i g. elim (dec_lt i 111) [
      | yes y ↦ get_or-append (take 111 p) (get_or p 111 0 ∷ []) 0 i (omega arith) ∙ get_or-take 111 p i 0 y
      | no y ↦
          let e : i ≡ length (take 111 p) + 0 = omega (arith, length-append (take 111 p) (get_or p 111 0 ∷ [])) in
          let e' : 111 ≡ i = omega (arith, length-append (take 111 p) (get_or p 111 0 ∷ [])) in
          ap (λ j. get_or (take 111 p ++ get_or p 111 0 ∷ []) j 0) e ∙ get_or-append-add (take 111 p) (get_or p 111 0 ∷ []) 0 0 ∙ ap (λ j. get_or p j 0) e'
    ])

-- ---- views

taken_rooted : (h : View) (r k : ℕ) (l : List (ℕ × ℕ)) → taken_from (rooted h r) k l ≡ rooted (taken_from h k l) r
unfolding taken_from
taken_rooted h r k [] = refl
taken_rooted h r k (x ∷ l) = refl

all_rooted : (h : View) (r : ℕ) (ks : List ℕ) → taken_all (rooted h r) ks ≡ rooted (taken_all h ks) r
unfolding taken_all
all_rooted h r [] = refl
all_rooted h r (k ∷ ks) = ap (λ (v : View). taken_all v ks) (taken_rooted h r k (list_of h k)) ∙ all_rooted (taken h k) r ks

taken_none : (h : View) (n : ℕ) → n ≡ 0 → taken_all h (prefixes n) ≡ h
unfolding taken_all
taken_none h n e = ap (λ m. taken_all h (prefixes m)) e

taken_one : (h : View) (n : ℕ) → n ≡ 1 → taken_all h (prefixes n) ≡ taken h prefix_kind
unfolding taken_all
taken_one h n e = ap (λ m. taken_all h (prefixes m)) e

-- ---- work

-- bodies that are named among those that are rewritten need not be named twice
since_cover : {f0 f : List ℕ} {h0 h : View} {bs gs es : List Item} (rs ws : List Item) → ((a : ℕ) → sum (cover a) rs ≤ sum (cover a) ws) → Since f0 h0 f h bs (rs ++ ws) gs es → Since f0 h0 f h bs ws gs es
since_cover rs ws c Z =
    record { changed = record { size = Z.changed.size; bytes = λ a z. Z.changed.bytes a (omega (arith, c a, sum_app (cover a) rs ws)) }; stepped = Z.stepped }

-- the first loose body, a Prefix that names the hole below, stands above the hole
work_under : {E : Edition} {f : List ℕ} {h : View} {loose : List Item} (n o : ℕ) (p : List ℕ) (c : ℕ) (xs : List Step) (ts : List (List ℕ × Lay)) → Work E f h xs n ts (body n prefix_kind o ∷ loose) → PrefixAt f o p c → Suits xs (prefix n o p (blank c))
    → Work E f h (under n o p ∷ xs) c ts loose
work_under {E} {f} {h} {loose} n o p c xs ts W P S =
    let ys = under n o p ∷ xs in
    let N = entries_first f n prefix_kind o loose W.entries in
    record {
      heap = W.heap;
      owns = λ w. omega (arith, work_sum W w, sum_cons w (body n prefix_kind o) loose, sum_app w loose (steps_items ys ++ forest_items ts), sum_app w (steps_items ys) (forest_items ts), steps_under w n o p xs);
      around = as_under E f n o p xs c N.0 P S W.around;
      trees = W.trees;
      entries = N.1;
      root = W.root ∙ sym (root_step (under n o p) xs c);
    }

pub link_ok : {E : Edition} {f : List ℕ} {h : View} {xs : List Step} {s : ℕ} {ts : List (List ℕ × Lay)} {loose : List Item} (at : ℕ) → Work E f h xs s ts loose → Link xs at → (64 ≤ length f) × (at + 4 ≤ length f)
link_ok {E} {f} {h} {xs} {s} at W L =
    let m = W.heap.header.limits in
    let z = W.heap.header.size in
    (omega arith, link_room E f xs at s L W.around (omega arith))

under_link : (n o : ℕ) (p : List ℕ) (xs : List Step) → Link (under n o p ∷ xs) (o + prefix_child)
unfolding Link
under_link n o p xs = refl

under_suits : (n o : ℕ) (p : List ℕ) (xs : List Step) → length p ≡ 112 → (m q : ℕ) (r : List ℕ) (u : Lay) → Suits (under n o p ∷ xs) (prefix m q r u)
unfolding Suits
under_suits n o p xs h m q r u = h

node_of_lem : (t : Lay) → NotLeaf t → run_many t ≡ 0 → IsNode t
node_of_lem (leaf s o e k v) n z = absurd n
node_of_lem (prefix s o p t) n z = absurd (omega arith)
node_of_lem (node s o kind ks) n z = tt

-- ---- the ends, and the step

module _ {E : Edition} {f : List ℕ} {h : View} {xs : List Step} {s : ℕ} {ts : List (List ℕ × Lay)} {loose : List Item} {b at : ℕ} where
  -- an inner node
  module _ (t : Lay) (P : Pushing E f h xs s t ts loose b at) (i : IsNode t) where
    node_roomy : Roomy h prefix_kind
    node_roomy = P.room (omega (arith, lacks_node t i))

    node_takes : Takes f prefix_kind
    node_takes = record { view = h; heap = P.work.heap; kind = prefix_kind_lem; room = node_roomy }

    module _ {f1 : List ℕ} {m : ℕ} (A : Take f f1 m) where
      abbrev o : ℕ
      o = place_from h (list_of h prefix_kind)

      T : Took f f1 h prefix_kind m
      T = A h P.work.heap node_roomy

      L : Lies (taken h prefix_kind) m prefix_kind o
      L = took_lies T prefix_kind_lem

      slot_fits : (1 ≤ m) × (m < 65536)
      slot_fits = let c = T.heap.header.slot_cap in (L.low, omega (arith, L.table))

      node_entry : (1 ≤ m) × (entry_at m + 4 ≤ length f1)
      node_entry = let c = T.heap.header.bump_in in (L.low, omega (arith, L.table, T.heap.header.size))

      node_room : {q : ℕ} → q ≡ place_of f1 m → q + 128 ≤ length f1
      node_room e = omega (arith, T.entry.place_is, L.ends, T.heap.header.size)

      module _ {f2 : List ℕ} {q : ℕ} (eq : q ≡ place_of f1 m) (K : Fresh f1 f2 q b (slot_of t)) where
        same_place : q ≡ o
        same_place = eq ∙ T.entry.place_is

        node_made : Work E f2 (taken h prefix_kind) xs s ((path_of xs, prefix m o (b ∷ []) t) ∷ ts) loose
        node_made =
            let e = same_place in
            let W = work_write (work_take P.work T) (omega arith) (omega arith) K.0 (omega arith) (omega arith) in
            make_prefix (path_of xs) ts loose m o (b ∷ []) t W (subst (λ z. PrefixAt f2 z (b ∷ []) (slot_of t)) e K.1) (node_below (b ∷ []) t i)

        pushed_node : {g : List ℕ} → Relinked f2 g at m → Pushed E f g h xs t ts loose b
        pushed_node {g} G =
            let e = same_place in
            let I = node_run t i in
            let lay = prefix m o (b ∷ []) t in
            let c = body m prefix_kind o in
            let v : rooted (taken h prefix_kind) (root_of xs m) ≡ rooted (taken_all h (prefixes (lacks t))) (root_of xs m) = ap (λ (z : View). rooted z (root_of xs m)) (sym (taken_one h (lacks t) (lacks_node t i))) in
            let W = work_close xs lay ts (relinked m slot_fits.0 slot_fits.1 at xs P.link_is node_made G) refl (P.suits m o (b ∷ []) t) in
            record {
              lay = lay;
              new = (m, o) ∷ [];
              many = sym (lacks_node t i);
              work = subst (λ (z : View). Work E g z [] (slot_of (plug xs lay)) (([], plug xs lay) ∷ ts) loose) v W;
              bodies = ap (λ (l : List (ℕ × ℕ)). (m, o) ∷ l) I.0 ∙ ap (λ (l : List (ℕ × ℕ)). l ++ (m, o) ∷ []) (sym I.0);
              bytes = refl;
              tip = refl;
              since = λ f0 h0 bs ws es Z C. subst (λ (z : View). Since f0 h0 g z (c ∷ bs) ws [] es) v
                  (since_cover (holder_items xs) ws (λ a. omega (arith, C a)) (since_link m at xs P.link_is node_made G
                  (since_write K.0 (λ a l u. omega (arith, sum_cons (cover a) c bs, cover_body a m prefix_kind o (omega arith) (omega arith))) (since_take prefix_kind_lem P.work.heap Z T))));
            }

  -- a Prefix of slot n at o: the link names it first
  module _ (n o : ℕ) (p : List ℕ) (t : Lay) (P : Pushing E f h xs s (prefix n o p t) ts loose b at) {f1 : List ℕ} (G : Relinked f f1 at n) where
    S : Stood f (prefix n o p t)
    S = tree_stood (path_of xs ++ b ∷ []) ts loose (prefix n o p t) P.work

    abbrev view1 : View
    view1 = rooted h (root_of xs n)

    opened : Work E f1 view1 xs n (((path_of xs ++ b ∷ []) ++ p, t) ∷ ts) (body n prefix_kind o ∷ loose) × PrefixAt f1 o p (slot_of t) × Below p t
    opened = open_prefix (path_of xs ++ b ∷ []) ts loose n o p t (relinked n S.low S.small at xs P.link_is P.work G)

    rows : (w : Item → ℕ) → sum w (row_items ((n, o) ∷ bodies_of t) []) ≡ w (body n prefix_kind o) + sum w (row_items (bodies_of t) [])
    rows w = sum_cons w (body n prefix_kind o) (row_items (bodies_of t) [])

    linked : (f0 : List ℕ) (h0 : View) (bs ws es : List Item) → Since f0 h0 f h bs ws [] es → ((a : ℕ) → sum (cover a) (holder_items xs) + sum (cover a) (row_items ((n, o) ∷ bodies_of t) []) ≤ sum (cover a) ws) → Since f0 h0 f1 view1 bs ws [] es
    linked f0 h0 bs ws es Z C = since_cover (holder_items xs) ws (λ a. omega (arith, C a)) (since_link n at xs P.link_is P.work G Z)

    -- a short one
    module _ {g : List ℕ} (short : length p < 112) (K : Front f1 g o b) where
      is_node : IsNode t
      is_node = below_short p t opened.2 short

      none_lacks : lacks (prefix n o p t) ≡ 0
      none_lacks = lacks_short n o p t is_node opened.1.some short

      pushed_short : Pushed E f g h xs (prefix n o p t) ts loose b
      pushed_short =
          let lay = prefix n o (b ∷ p) t in
          let W1 = work_write opened.0 (omega arith) (omega arith) K.0 (omega arith) (omega arith) in
          let W2 = make_prefix (path_of xs) ts loose n o (b ∷ p) t (work_path t (append_assoc (path_of xs) (b ∷ []) p) W1) (K.1 p (slot_of t) opened.1) (node_below (b ∷ p) t is_node) in
          let v : view1 ≡ rooted (taken_all h (prefixes (lacks (prefix n o p t)))) (root_of xs n) = ap (λ (z : View). rooted z (root_of xs n)) (sym (taken_none h (lacks (prefix n o p t)) none_lacks)) in
          record {
            lay = lay;
            new = [];
            many = sym none_lacks;
            work = subst (λ (z : View). Work E g z [] (slot_of (plug xs lay)) (([], plug xs lay) ∷ ts) loose) v (work_close xs lay ts W2 refl (P.suits n o (b ∷ p) t));
            bodies = sym (append-nil ((n, o) ∷ bodies_of t));
            bytes = refl;
            tip = refl;
            since = λ f0 h0 bs ws es Z C. subst (λ (z : View). Since f0 h0 g z bs ws [] es) v (since_write K.0 (λ a l u. omega (arith, C a, rows (cover a), cover_body a n prefix_kind o l u)) (linked f0 h0 bs ws es Z C));
          }

    -- a full one
    module _ {f2 : List ℕ} {y : ℕ} (long : length p ≡ 112) (K : Turn f1 f2 o b y) where
      abbrev full : List ℕ
      full = b ∷ take 111 p

      full_long : length full ≡ 112
      full_long = omega (arith, length-take-le 111 p (omega arith))

      turned : (y ≡ get_or p 111 0) × PrefixAt f2 o full (slot_of t)
      turned = K.1 p (slot_of t) opened.1

      last : take 111 p ++ y ∷ [] ≡ p
      last = ap (λ z. take 111 p ++ z ∷ []) turned.0 ∙ last_is p long

      path_is : (path_of xs ++ b ∷ []) ++ p ≡ path_of (under n o full ∷ xs) ++ y ∷ []
      path_is =
          append_assoc (path_of xs) (b ∷ []) p ∙ ap (λ z. path_of xs ++ b ∷ z) (sym last) ∙ sym (append_assoc (path_of xs) full (y ∷ []))
          ∙ ap (λ z. z ++ y ∷ []) (sym (path_under n o full xs))

      pushed_again : Pushing E f2 view1 (under n o full ∷ xs) (slot_of t) t ts loose y (o + prefix_child)
      pushed_again =
          record {
            work = work_path t path_is (work_under n o full (slot_of t) xs (((path_of xs ++ b ∷ []) ++ p, t) ∷ ts) (work_write opened.0 (omega arith) (omega arith) K.0 (omega arith) (omega arith)) turned.1 (P.suits n o full (blank (slot_of t))));
            link_is = under_link n o full xs;
            below = below_not_leaf p t opened.2;
            suits = under_suits n o full xs full_long;
            room = λ z. P.room (omega (arith, lacks_full n o p t long));
          }

      pushed_full : {g : List ℕ} → Pushed E f2 g view1 (under n o full ∷ xs) t ts loose y → Pushed E f g h xs (prefix n o p t) ts loose b
      pushed_full {g} X =
          let ys = under n o full ∷ xs in
          let lay = prefix n o full X.lay in
          let c = body n prefix_kind o in
          let e = lacks_full n o p t long in
          let v : rooted (taken_all view1 (prefixes (lacks t))) (root_of ys (slot_of X.lay)) ≡ rooted (taken_all h (prefixes (lacks (prefix n o p t)))) (root_of xs n)
          = ap (λ (z : View). rooted z (root_of ys (slot_of X.lay))) (all_rooted h (root_of xs n) (prefixes (lacks t))) ∙ ap (rooted (taken_all h (prefixes (lacks t)))) (root_step (under n o full) xs (slot_of X.lay))
          ∙ ap (λ m. rooted (taken_all h (prefixes m)) (root_of xs n)) (sym e) in
          record {
            lay = lay;
            new = X.new;
            many = X.many ∙ sym e;
            work = subst (λ (z : View). Work E g z [] (slot_of (plug xs lay)) (([], plug xs lay) ∷ ts) loose) v
                (subst (λ (l : Lay). Work E g (rooted (taken_all view1 (prefixes (lacks t))) (root_of ys (slot_of X.lay))) [] (slot_of l) (([], l) ∷ ts) loose) (plug_under n o full xs X.lay) X.work);
            bodies = ap (λ (l : List (ℕ × ℕ)). (n, o) ∷ l) X.bodies;
            bytes = ap (λ z. full ++ z) X.bytes ∙ ap (λ z. b ∷ z) (sym (append_assoc (take 111 p) (y ∷ []) (bytes_of t)) ∙ ap (λ z. z ++ bytes_of t) last);
            tip = X.tip;
            since = λ f0 h0 bs ws es Z C. subst (λ (z : View). Since f0 h0 g z (row_items X.new bs) ws [] es) v
                (X.since f0 h0 bs ws es (since_write K.0 (λ a l u. omega (arith, C a, rows (cover a), cover_body a n prefix_kind o l u)) (linked f0 h0 bs ws es Z C))
                (λ a. omega (arith, C a, rows (cover a), sum_cons (cover a) c [], sum_none (cover a))));
          }

-- ---- the loop

module _ {f : List ℕ} {slot b at : ℕ} where
  is_other : {E : Edition} {h : View} {xs : List Step} {s : ℕ} {t : Lay} {ts : List (List ℕ × Lay)} {loose : List Item} → Pushing E f h xs s t ts loose b at → slot_of t ≡ slot → (high_of f slot ≡ 2 → ⊥) → IsNode t
  is_other {xs = xs} {t = t} {ts} {loose} P e d = node_of_lem t P.below ((tree_stood (path_of xs ++ b ∷ []) ts loose t P.work).other (λ z. d (ap (high_of f) (sym e) ∙ z)))

  pub push_node : {f1 f2 g : List ℕ} {m q : ℕ} → (high_of f slot ≡ 2 → ⊥) → Take f f1 m → q ≡ place_of f1 m → Fresh f1 f2 q b slot → Relinked f2 g at m → RunPushed f g slot b at
  push_node {f1} {f2} {g} {m} {q} d A eq K G E h xs s t ts loose P e = pushed_node t P (is_other P e d) A eq (subst (λ c. Fresh f1 f2 q b c) (sym e) K) G

  module _ {f1 : List ℕ} {low n : ℕ} (kind : high_of f slot ≡ 2) (el : low ≡ place_of f slot) (G : Relinked f f1 at slot) (en : n ≡ le 2 f1 (low + prefix_length)) where
    opens : {E : Edition} {h : View} {xs : List Step} {s : ℕ} {t : Lay} {ts : List (List ℕ × Lay)} {loose : List Item} → Pushing E f h xs s t ts loose b at → slot_of t ≡ slot → Opens t slot low
    opens {xs = xs} {t = t} {ts} {loose} P e = opens_of (path_of xs ++ b ∷ []) t ts loose P.work e kind el

    pub push_short : {g : List ℕ} → n < 112 → Front f1 g low b → RunPushed f g slot b at
    push_short {g} l K E h xs s t ts loose P e =
        let O = opens P e in
        let P' = subst (λ y. Pushing E f h xs s y ts loose b at) O.is P in
        subst (λ y. Pushed E f g h xs y ts loose b) (sym O.is) (pushed_short slot low O.text O.under P' G (omega (arith, (opened slot low O.text O.under P' G).1.long)) K)

    pub push_full : {f2 : List ℕ} {y c : ℕ} → 112 ≤ n → Turn f1 f2 low b y → c ≡ le 4 f2 (low + prefix_child) → (g : List ℕ) → RunPushed f2 g c y (low + prefix_child) → RunPushed f g slot b at
    push_full {f2} {y} {c} l K ec g X E h xs s t ts loose P e =
        let O = opens P e in
        let P' = subst (λ z. Pushing E f h xs s z ts loose b at) O.is P in
        let Q = (opened slot low O.text O.under P' G).1 in
        let m : length O.text ≡ 112 = omega (arith, Q.long, Q.most) in
        let A = pushed_again slot low O.text O.under P' G m K in
        let T = turned slot low O.text O.under P' G m K in
        subst (λ z. Pushed E f g h xs z ts loose b) (sym O.is) (pushed_full slot low O.text O.under P' G m K (X E _ _ _ O.under ts loose A (sym T.1.child ∙ sym ec)))

  -- what the code counts on
  module _ {left : ℕ} (Z : Pushes f slot b at left) where
    stands : Stood f Z.tree
    stands = tree_stood (path_of Z.steps ++ b ∷ []) Z.trees Z.loose Z.tree Z.pushing.work

    pub pushes_slot : Entered f slot
    pushes_slot = entered_at stands Z.slot_is

    pub pushes_link : (64 ≤ length f) × (at + 4 ≤ length f)
    pushes_link = link_ok at Z.pushing.work Z.pushing.link_is

    pub pushes_left : high_of f slot ≡ 2 → 1 ≤ left
    pushes_left kind =
        let O = opens_of (path_of Z.steps ++ b ∷ []) Z.tree Z.trees Z.loose Z.pushing.work Z.slot_is kind refl in
        omega (arith, Z.few, ap (λ y. length (bodies_of y)) O.is)

    module _ (d : high_of f slot ≡ 2 → ⊥) where
      i : IsNode Z.tree
      i = is_other Z.pushing Z.slot_is d

      pub pushes_takes : Takes f prefix_kind
      pushes_takes = node_takes Z.tree Z.pushing i

      module _ {f1 : List ℕ} {m : ℕ} (A : Take f f1 m) where
        pub pushes_entry : (1 ≤ m) × (entry_at m + 4 ≤ length f1)
        pushes_entry = node_entry Z.tree Z.pushing i A

        module _ {q : ℕ} (eq : q ≡ place_of f1 m) where
          pub pushes_fresh : (q + 128 ≤ length f1) × (slot < 4294967296)
          pushes_fresh = let e = Z.slot_is in (node_room Z.tree Z.pushing i A eq, omega (arith, stands.small))

          pub pushes_named : {f2 : List ℕ} → Fresh f1 f2 q b slot → (64 ≤ length f2) × (at + 4 ≤ length f2)
          pushes_named {f2} K = link_ok at (node_made Z.tree Z.pushing i A eq (subst (λ c. Fresh f1 f2 q b c) (sym Z.slot_is) K)) Z.pushing.link_is

    module _ {f1 : List ℕ} {low : ℕ} (kind : high_of f slot ≡ 2) (el : low ≡ place_of f slot) (G : Relinked f f1 at slot) where
      O : Opens Z.tree slot low
      O = opens_of (path_of Z.steps ++ b ∷ []) Z.tree Z.trees Z.loose Z.pushing.work Z.slot_is kind el

      P' : Pushing Z.edition f Z.view Z.steps Z.top (prefix slot low O.text O.under) Z.trees Z.loose b at
      P' = subst (λ y. Pushing Z.edition f Z.view Z.steps Z.top y Z.trees Z.loose b at) O.is Z.pushing

      Q : PrefixAt f1 low O.text (slot_of O.under)
      Q = (opened slot low O.text O.under P' G).1

      pub pushes_low : low + 128 ≤ length f1
      pushes_low = Q.room

      module _ {n : ℕ} (en : n ≡ le 2 f1 (low + prefix_length)) where
        pub pushes_spare : n < 112 → Spare f1 low 1
        pushes_spare l = record { bytes = O.text; below = slot_of O.under; at = Q; room = omega (arith, Q.long) }

        pub pushes_full : 112 ≤ n → Full f1 low
        pushes_full l = record { bytes = O.text; below = slot_of O.under; at = Q; long = omega (arith, Q.long, Q.most) }

        pub pushes_again : {f2 : List ℕ} {y c j : ℕ} → 112 ≤ n → Turn f1 f2 low b y → c ≡ le 4 f2 (low + prefix_child) → j ≡ left - 1 → Pushes f2 c y (low + prefix_child) j
        pushes_again l K ec e =
            let m : length O.text ≡ 112 = omega (arith, Q.long, Q.most) in
            let A = pushed_again slot low O.text O.under P' G m K in
            let T = turned slot low O.text O.under P' G m K in
            record {
              edition = Z.edition;
              view = _;
              steps = _;
              top = _;
              tree = O.under;
              trees = Z.trees;
              loose = Z.loose;
              pushing = A;
              slot_is = sym T.1.child ∙ sym ec;
              few = omega (arith, Z.few, ap (λ y. length (bodies_of y)) O.is);
            }

-- ---- what users ask of it

module _ {E : Edition} {f g : List ℕ} {h : View} {xs : List Step} {t : Lay} {ts : List (List ℕ × Lay)} {loose : List Item} {b : ℕ} (X : Pushed E f g h xs t ts loose b) where
  pub pushed_art : art X.lay ≡ Art.prefix (b ∷ bytes_of t) (art (tip_of t))
  pushed_art =
      let T = (hole_out E g xs X.lay (forest_first E g [] (plug xs X.lay) ts X.work.trees).0).2 in
      (run_art E g (path_of xs) X.lay T (run_not_leaf X.lay (omega (arith, ap length X.bytes)))).0
      ∙ ap (λ q. as_prefix q (art (tip_of X.lay))) X.bytes ∙ ap (λ (u : Lay). as_prefix (b ∷ bytes_of t) (art u)) X.tip
