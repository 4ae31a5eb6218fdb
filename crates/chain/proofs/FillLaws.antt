-- A Prefix is filled up from the run below it, body by body. Assumes nothing.
use Prim.Native.Nat.{ℕ, suc, ◌+◌, ◌-◌, ◌<◌, ◌≤◌}
use mathlib.Core.Path.{◌≡◌, refl, sym, ap, subst, ◌∙◌}
use mathlib.Core.List.{List, [], ◌∷◌, ◌++◌, append_assoc, append-nil}
use native.Mathlib.Omega.{arith}
use lib.ListN.{length, take, drop, length-append, take-append-drop}
use lib.Seq.{length-take-le}
use Rattle.layout.specs.Number.{le}
use Rattle.layout.specs.Place.{prefix_length, prefix_child}
use Rattle.layout.specs.Kind.{prefix_kind}
use Rattle.layout.specs.Entry.{place_of, high_of}
use Rattle.model.specs.Edition.{Edition}
use Rattle.model.specs.Tree.{chain, as_prefix}
use Rattle.model.specs.Item.{Item, body, cover, touch, sum}
use Rattle.model.specs.Body.{PrefixAt}
use Rattle.model.specs.Frame.{Lay, slot_of, IsNode, Below, art, Tree, View, freed}
use Rattle.model.specs.Frame.Lay.{prefix}
use Rattle.model.proofs.ItemLaws.{sum_cons, sum_app}
use Rattle.model.proofs.OneBody.{node_below}
use Rattle.moves.specs.Moved.{Only}
use Rattle.room.specs.View.{released}
use Rattle.room.specs.Step.{Kept, Frees}
use Rattle.room.proofs.HeapLaws.{any_write, kept_then, cover_body, kept_part, two_apart}
use Rattle.between.specs.Hole.{Step, steps_items}
use Rattle.between.specs.Work.{forest_items, Work}
use Rattle.between.proofs.BodyLaws.{prefix_keeps}
use Rattle.between.proofs.TreeLaws.{sum_none, body_kept}
use Rattle.between.proofs.WorkLaws.{entries_first, first_owns, forest_first, forest_sum, work_sum, work_turn, work_path, work_free, work_write, open_prefix, make_prefix}
use Rattle.between.proofs.SinceLaws.{since_write, since_free}
use Rattle.between.proofs.BookedLaws.{booked_free}
use Rattle.prefix_body.specs.Prefix.{Two, Joins, Draws, Drawn}
use Rattle.chain.specs.Row.{Entered, row_items, bodies_of, bytes_of, tip_of}
use Rattle.chain.specs.Shift.{Filling, Filled, RunFilled, Fills}
use Rattle.chain.proofs.TakeLaws.{prefix_kind_lem}
use Rattle.chain.proofs.ReadLaws.{pre_of, tree_stood, entered_at}
use Rattle.chain.proofs.RunLaws.{Release, below_not_leaf, below_full, below_short, below_other, node_run, run_sum, run_not_leaf, run_art, run_chained}

-- what `onto` says
abbrev pub Onto : List ℕ → List ℕ → ℕ → ℕ → Type 0
Onto f g o low = Only f g o (o + 128) × ((p : List ℕ) (c : ℕ) (q : List ℕ) (d : ℕ) → PrefixAt f o p c → PrefixAt f low q d → PrefixAt g o (p ++ q) d)

-- ---- what is kept

wrote_kept : {E : Edition} {f g : List ℕ} {h : View} {xs : List Step} {s : ℕ} {ts : List (List ℕ × Lay)} {loose : List Item} {n o : ℕ} → Work E f h xs s ts (body n prefix_kind o ∷ loose) → Only f g o (o + 128)
    → (js : List Item) → ((w : Item → ℕ) → w (body n prefix_kind o) + sum w js ≤ sum w h.owned) → Kept f g js
wrote_kept {xs = xs} {ts = ts} {loose} {n} {o} W O js c =
    let rest = loose ++ (steps_items xs ++ forest_items ts) in
    let R = any_write (body n prefix_kind o) rest W.heap (first_owns W) O (λ a l u. cover_body a n prefix_kind o l u) in
    kept_part js R.kept (λ a. omega (arith, c (touch a), first_owns W (touch a), sum_cons (touch a) (body n prefix_kind o) rest))

-- ---- the body below

-- a tree whose slot is one of a Prefix at low
pub record Opens (t : Lay) (slot low : ℕ) : Type 0 where
  pub text : List ℕ
  pub under : Lay
  pub is : t ≡ prefix slot low text under

pub opens_of : {E : Edition} {f : List ℕ} {h : View} {xs : List Step} {s slot low : ℕ} (path : List ℕ) (t : Lay) (ts : List (List ℕ × Lay)) (loose : List Item) → Work E f h xs s ((path, t) ∷ ts) loose → slot_of t ≡ slot → high_of f slot ≡ 2
    → low ≡ place_of f slot → Opens t slot low
opens_of {E} {f} {h} {xs} {s} {slot} {low} path t ts loose W e k el =
    let P = pre_of t ((tree_stood path ts loose t W).same (ap (high_of f) e ∙ k)) in
    let is : t ≡ prefix slot P.o P.u P.l = P.is ∙ ap (λ y. prefix y P.o P.u P.l) e in
    let O = open_prefix path ts loose slot P.o P.u P.l (subst (λ y. Work E f h xs s ((path, y) ∷ ts) loose) is W) in
    let ep : P.o ≡ low = sym (entries_first f slot prefix_kind P.o loose O.0.entries).0.place_is ∙ sym el in
    record { text = P.u; under = P.l; is = is ∙ ap (λ y. prefix slot y P.u P.l) ep }

-- ---- the ends, and the step

module _ {E : Edition} {f : List ℕ} {h : View} {xs : List Step} {s : ℕ} {path p : List ℕ} {ts : List (List ℕ × Lay)} {loose : List Item} {n o : ℕ} where
  filled_none : (t : Lay) → Filling E f h xs s path p t ts loose n o → Below p t → Filled E f f h xs s path p t ts loose n o
  filled_none t F b =
      record {
        view = h;
        lay = prefix n o p t;
        gone = [];
        work = make_prefix path ts loose n o p t F.work F.at b;
        slot = refl;
        hangs = λ q l. l;
        bodies = sym (append-nil ((n, o) ∷ bodies_of t));
        bytes = refl;
        tip = refl;
        booked = λ h0 ks fs x d r B. B;
        since = λ f0 h0 bs ws gs es Z c. Z;
        kept = λ js c. record { size = refl; keep = λ a l. refl };
      }

  -- the tree below is a Prefix of slot m at low
  module _ (m low : ℕ) (q : List ℕ) (t : Lay) (F : Filling E f h xs s path p (prefix m low q t) ts loose n o) where
    opened : Work E f h xs s (((path ++ p) ++ q, t) ∷ ts) (body m prefix_kind low ∷ body n prefix_kind o ∷ loose) × PrefixAt f low q (slot_of t) × Below q t
    opened = open_prefix (path ++ p) ts (body n prefix_kind o ∷ loose) m low q t F.work

    turned : Work E f h xs s (((path ++ p) ++ q, t) ∷ ts) (body n prefix_kind o ∷ body m prefix_kind low ∷ loose)
    turned = work_turn opened.0 refl

    -- all that is owned
    owned : (w : Item → ℕ) → w (body n prefix_kind o) + w (body m prefix_kind low) + sum w (row_items (bodies_of t) []) ≤ sum w h.owned
    owned w =
        omega (
          arith,
          work_sum turned w,
          sum_cons w (body n prefix_kind o) (body m prefix_kind low ∷ loose),
          sum_cons w (body m prefix_kind low) loose,
          forest_sum w ((path ++ p) ++ q) t ts,
          run_sum w t,
        )

    both : (w : Item → ℕ) → sum w (row_items ((n, o) ∷ (m, low) ∷ bodies_of t) []) ≡ w (body n prefix_kind o) + (w (body m prefix_kind low) + sum w (row_items (bodies_of t) []))
    both w = omega (arith, sum_cons w (body n prefix_kind o) (row_items ((m, low) ∷ bodies_of t) []), sum_cons w (body m prefix_kind low) (row_items (bodies_of t) []))

    pub two_of : Two f o low
    two_of =
        record {
          bytes = p;
          below = m;
          at = F.at;
          lower = q;
          child = slot_of t;
          lower_at = opened.1;
          apart = two_apart F.work.heap.sound n prefix_kind o m prefix_kind low (λ w. omega (arith, owned w, sum_app w h.owned (freed 1 h.lists))) (omega arith) (omega arith);
        }

    -- all its bytes fit
    module _ {f1 : List ℕ} (few : length p + length q ≤ 112) (K : Onto f f1 o low) where
      is_node : IsNode t
      is_node = below_short q t opened.2 (omega (arith, F.at.some))

      joined : Work E f1 h xs s ((path, prefix n o (p ++ q) t) ∷ ts) (body m prefix_kind low ∷ loose)
      joined =
          let W = work_write turned (omega arith) (omega arith) K.0 (omega arith) (omega arith) in
          make_prefix path ts (body m prefix_kind low ∷ loose) n o (p ++ q) t (work_path t (append_assoc path p q) W) (K.1 p m q (slot_of t) F.at opened.1) (node_below (p ++ q) t is_node)

      abbrev rest : List Item
      rest = loose ++ (steps_items xs ++ forest_items ((path, prefix n o (p ++ q) t) ∷ ts))

      placed : place_of f1 m ≡ low
      placed = (entries_first f1 m prefix_kind low loose joined.entries).0.place_is

      joined_frees : Frees f1 m prefix_kind
      joined_frees = record { view = h; heap = joined.heap; kind = prefix_kind_lem; place = low; rest = rest; owns = first_owns joined; place_is = placed }

      filled_onto : {g : List ℕ} → Release f1 g m prefix_kind → Filled E f g h xs s path p (prefix m low q t) ts loose n o
      filled_onto R =
          let I = node_run t is_node in
          let b = body m prefix_kind low in
          let G = R h low rest joined.heap (first_owns joined) placed in
          record {
            view = released h m prefix_kind low rest;
            lay = prefix n o (p ++ q) t;
            gone = (m, low) ∷ [];
            work = work_free joined G;
            slot = refl;
            hangs = λ r l. l;
            bodies = ap (λ (l : List (ℕ × ℕ)). (n, o) ∷ (m, low) ∷ l) I.0 ∙ ap (λ (l : List (ℕ × ℕ)). ((n, o) ∷ l) ++ (m, low) ∷ []) (sym I.0);
            bytes = append_assoc p q (bytes_of t);
            tip = refl;
            booked = λ h0 ks fs x d r B. booked_free B m prefix_kind low rest prefix_kind_lem;
            since = λ f0 h0 bs ws gs es Z c.
                since_free prefix_kind_lem joined.heap (first_owns joined) (since_write K.0 (λ a l u. omega (arith, c a, both (cover a), cover_body a n prefix_kind o l u)) Z) G;
            kept = λ js c.
                kept_then (wrote_kept turned K.0 js (λ w. omega (arith, c w, both w)))
                (kept_part js G.kept (λ a. omega (arith, c (touch a), both (touch a), first_owns joined (touch a), sum_cons (touch a) b rest)));
          }

    -- they do not: it is filled up
    module _ {f1 : List ℕ} (more : 112 < length p + length q) (D : Drawn f f1 o low) where
      abbrev k : ℕ
      k = 112 - length p

      abbrev full : List ℕ
      full = p ++ take k q

      full_long : length full ≡ 112
      full_long = omega (arith, length-append p (take k q), length-take-le k q (omega arith), F.at.most)

      whole : full ++ drop k q ≡ p ++ q
      whole = append_assoc p (take k q) (drop k q) ∙ ap (λ z. p ++ z) (take-append-drop k q)

      path_is : (path ++ p) ++ q ≡ (path ++ full) ++ drop k q
      path_is = append_assoc path p q ∙ ap (λ z. path ++ z) (sym whole) ∙ sym (append_assoc path full (drop k q))

      half : Work E D.mid h xs s (((path ++ p) ++ q, t) ∷ ts) (body m prefix_kind low ∷ body n prefix_kind o ∷ loose)
      half = work_turn (work_write turned (omega arith) (omega arith) D.upper (omega arith) (omega arith)) refl

      bodies_at : PrefixAt f1 o full m × PrefixAt f1 low (drop k q) (slot_of t)
      bodies_at = D.at p m q (slot_of t) F.at opened.1

      drawn_again : Filling E f1 h xs s (path ++ full) (drop k q) t ts (body n prefix_kind o ∷ loose) m low
      drawn_again = record { work = work_path t path_is (work_write half (omega arith) (omega arith) D.lower (omega arith) (omega arith)); at = bodies_at.1; below = below_not_leaf q t opened.2 }

      filled_draw : {g : List ℕ} → Filled E f1 g h xs s (path ++ full) (drop k q) t ts (body n prefix_kind o ∷ loose) m low → Filled E f g h xs s path p (prefix m low q t) ts loose n o
      filled_draw {g} X =
          let b = body n prefix_kind o in
          let rows : (w : Item → ℕ) → sum w (row_items ((m, low) ∷ bodies_of t) []) ≡ w (body m prefix_kind low) + sum w (row_items (bodies_of t) []) = λ w. sum_cons w (body m prefix_kind low) (row_items (bodies_of t) []) in
          let kept = X.kept (b ∷ []) (λ w. omega (arith, owned w, rows w, sum_cons w b [], sum_none w)) in
          let at : PrefixAt g o full m = prefix_keeps o full m (body_kept n prefix_kind o kept (λ a. omega (arith, sum_cons (touch a) b [], sum_none (touch a)))) bodies_at.0 in
          record {
            view = X.view;
            lay = prefix n o full X.lay;
            gone = X.gone;
            work = make_prefix path ts loose n o full X.lay X.work (subst (λ z. PrefixAt g o full z) (sym X.slot) at) (X.hangs full full_long);
            slot = refl;
            hangs = λ r l. l;
            bodies = ap (λ (l : List (ℕ × ℕ)). (n, o) ∷ l) X.bodies;
            bytes = ap (λ z. full ++ z) X.bytes ∙ sym (append_assoc full (drop k q) (bytes_of t)) ∙ ap (λ z. z ++ bytes_of t) whole ∙ append_assoc p q (bytes_of t);
            tip = X.tip;
            booked = X.booked;
            since = λ f0 h0 bs ws gs es Z c. X.since f0 h0 bs ws gs es
                (since_write D.lower (λ a l u. omega (arith, c a, both (cover a), cover_body a m prefix_kind low l u)) (since_write D.upper (λ a l u. omega (arith, c a, both (cover a), cover_body a n prefix_kind o l u)) Z))
                (λ a. omega (arith, c a, both (cover a), rows (cover a)));
            kept = λ js c.
                kept_then (wrote_kept turned D.upper js (λ w. omega (arith, c w, both w)))
                (kept_then (wrote_kept half D.lower js (λ w. omega (arith, c w, both w))) (X.kept js (λ w. omega (arith, c w, both w, rows w))));
          }

-- ---- the loop

module _ {f : List ℕ} {o slot : ℕ} where
  pub fill_other : (high_of f slot ≡ 2 → ⊥) → RunFilled f f o slot
  fill_other d E h xs s path p t ts loose n F e =
      filled_none t F (below_other p t F.below ((tree_stood (path ++ p) ts (body n prefix_kind o ∷ loose) t F.work).other (λ z. d (ap (high_of f) (sym e) ∙ z))))

  pub fill_full : {n : ℕ} → n ≡ le 2 f (o + prefix_length) → n ≡ 112 → RunFilled f f o slot
  fill_full en l E h xs s path p t ts loose n F e = filled_none t F (below_full p t F.below (sym F.at.long ∙ sym en ∙ l))

  module _ {low i j : ℕ} (kind : high_of f slot ≡ 2) (el : low ≡ place_of f slot) (ei : i ≡ le 2 f (o + prefix_length)) (ej : j ≡ le 2 f (low + prefix_length)) where
    opens : {E : Edition} {h : View} {xs : List Step} {s : ℕ} {path p : List ℕ} {t : Lay} {ts : List (List ℕ × Lay)} {loose : List Item} {n : ℕ} → Filling E f h xs s path p t ts loose n o → slot_of t ≡ slot → Opens t slot low
    opens {path = path} {p} {t} {ts} {loose} {n} F e = opens_of (path ++ p) t ts (body n prefix_kind o ∷ loose) F.work e kind el

    pub fill_onto : {f1 g : List ℕ} → i + j ≤ 112 → Onto f f1 o low → Release f1 g slot prefix_kind → RunFilled f g o slot
    fill_onto {f1} {g} few K R E h xs s path p t ts loose n F e =
        let O = opens F e in
        let F' = subst (λ y. Filling E f h xs s path p y ts loose n o) O.is F in
        let Q = (opened slot low O.text O.under F').1 in
        subst (λ y. Filled E f g h xs s path p y ts loose n o) (sym O.is) (filled_onto slot low O.text O.under F' (omega (arith, F'.at.long, Q.long)) K R)

    pub fill_draw : {f1 : List ℕ} {c : ℕ} → 112 < i + j → Drawn f f1 o low → c ≡ le 4 f1 (low + prefix_child) → (g : List ℕ) → RunFilled f1 g low c → RunFilled f g o slot
    fill_draw {f1} {c} more D ec g X E h xs s path p t ts loose n F e =
        let O = opens F e in
        let F' = subst (λ y. Filling E f h xs s path p y ts loose n o) O.is F in
        let Q = (opened slot low O.text O.under F').1 in
        let m : 112 < length p + length O.text = omega (arith, F'.at.long, Q.long) in
        let A = drawn_again slot low O.text O.under F' m D in
        subst (λ y. Filled E f g h xs s path p y ts loose n o) (sym O.is)
        (filled_draw slot low O.text O.under F' m D (X E h xs s _ _ O.under ts _ slot A (sym A.at.child ∙ sym ec)))

  -- what the code counts on
  module _ {left : ℕ} (Z : Fills f o slot left) where
    pub fills_slot : Entered f slot
    fills_slot = entered_at (tree_stood (Z.path ++ Z.text) Z.trees (body Z.number prefix_kind o ∷ Z.loose) Z.tree Z.filling.work) Z.slot_is

    pub fills_room : o + 128 ≤ length f
    fills_room = Z.filling.at.room

    module _ {low : ℕ} (kind : high_of f slot ≡ 2) (el : low ≡ place_of f slot) where
      O : Opens Z.tree slot low
      O = opens_of (Z.path ++ Z.text) Z.tree Z.trees (body Z.number prefix_kind o ∷ Z.loose) Z.filling.work Z.slot_is kind el

      F' : Filling Z.edition f Z.view Z.steps Z.top Z.path Z.text (prefix slot low O.text O.under) Z.trees Z.loose Z.number o
      F' = subst (λ y. Filling Z.edition f Z.view Z.steps Z.top Z.path Z.text y Z.trees Z.loose Z.number o) O.is Z.filling

      T : Two f o low
      T = two_of slot low O.text O.under F'

      pub fills_low : low + 128 ≤ length f
      fills_low = T.lower_at.room

      pub fills_left : 1 ≤ left
      fills_left = omega (arith, Z.few, ap (λ y. length (bodies_of y)) O.is)

      module _ {i j : ℕ} (ei : i ≡ le 2 f (o + prefix_length)) (ej : j ≡ le 2 f (low + prefix_length)) where
        pub fills_joins : i + j ≤ 112 → Joins f o low
        fills_joins few = record { two = T; room = omega (arith, T.at.long, T.lower_at.long) }

        pub fills_draws : 112 < i + j → Draws f o low
        fills_draws more = record { two = T; more = omega (arith, T.at.long, T.lower_at.long) }

        pub fills_frees : {f1 : List ℕ} → i + j ≤ 112 → Onto f f1 o low → Frees f1 slot prefix_kind
        fills_frees few K = joined_frees slot low O.text O.under F' (omega (arith, F'.at.long, (opened slot low O.text O.under F').1.long)) K

        pub fills_again : {f1 : List ℕ} {c l : ℕ} → 112 < i + j → Drawn f f1 o low → c ≡ le 4 f1 (low + prefix_child) → l ≡ left - 1 → Fills f1 low c l
        fills_again more D ec e =
            let m : 112 < length Z.text + length O.text = omega (arith, F'.at.long, (opened slot low O.text O.under F').1.long) in
            let A = drawn_again slot low O.text O.under F' m D in
            record {
              edition = Z.edition;
              view = Z.view;
              steps = Z.steps;
              top = Z.top;
              path = _;
              text = _;
              tree = O.under;
              trees = Z.trees;
              loose = _;
              number = slot;
              filling = A;
              slot_is = sym A.at.child ∙ sym ec;
              few = omega (arith, Z.few, ap (λ y. length (bodies_of y)) O.is);
            }

-- ---- what users ask of it

module _ {E : Edition} {f g : List ℕ} {h : View} {xs : List Step} {s : ℕ} {path p : List ℕ} {t : Lay} {ts : List (List ℕ × Lay)} {loose : List Item} {n o : ℕ} (X : Filled E f g h xs s path p t ts loose n o) where
  stands : Tree E g path X.lay
  stands = (forest_first E g path X.lay ts X.work.trees).0

  pub filled_art : 1 ≤ length p → art X.lay ≡ as_prefix (p ++ bytes_of t) (art (tip_of t))
  filled_art l =
      (run_art E g path X.lay stands (run_not_leaf X.lay (omega (arith, ap length X.bytes, length-append p (bytes_of t))))).0
      ∙ ap (λ q. as_prefix q (art (tip_of X.lay))) X.bytes ∙ ap (λ (u : Lay). as_prefix (p ++ bytes_of t) (art u)) X.tip

  -- one body more than below, but for those that were freed
  pub filled_many : chain (length (p ++ bytes_of t)) + length X.gone ≡ suc (length (bodies_of t))
  filled_many = omega (arith, ap length X.bodies, length-append (bodies_of X.lay) X.gone, run_chained E g path X.lay stands, ap (λ q. chain (length q)) X.bytes)
