-- The last bytes of a Prefix and those of the chain below it, in the bodies of that chain and one more if these are not enough: `move_down`, call
-- by call. Assumes nothing.
use Prim.Native.Nat.{ℕ, ◌+◌, ◌-◌, ◌≤◌}
use mathlib.Core.Path.{◌≡◌, refl, sym, ap, subst, ◌∙◌}
use mathlib.Core.List.{List, [], ◌∷◌, ◌++◌, append-nil}
use native.Mathlib.Omega.{arith}
use lib.ListN.{length, take, drop, length-append, length-drop}
use Rattle.model.specs.Edition.{Edition}
use Rattle.model.specs.Tree.{chain, prefixes}
use Rattle.model.specs.Item.{Item, cover, sum}
use Rattle.model.specs.Body.{PrefixAt}
use Rattle.model.specs.Frame.{Lay, slot_of, IsNode, View}
use Rattle.model.proofs.OneBody.{node_below}
use Rattle.room.specs.Book.{taken_all, RoomFor}
use Rattle.between.specs.Hole.{Step, under, path_of}
use Rattle.between.specs.Work.{Work}
use Rattle.between.specs.Since.{Since}
use Rattle.between.proofs.TreeLaws.{sum_none}
use Rattle.between.proofs.WorkLaws.{work_path, work_above}
use Rattle.chain.specs.Row as chain_row
use Rattle.chain.specs.Row.{row_items, Named, unwound, bodies_of, bytes_of, tip_of, Grown, Grows, RowTaken, Ready, Raised, RowWritten, Writes}
use Rattle.chain.proofs.RowLaws.{raised_work, raised_since}
use Rattle.chain.proofs.ReadLaws.{tree_stood}
use Rattle.chain.proofs.RunLaws.{node_run, run_many_lem}
use Rattle.put_cut.specs.After.{Gathering, Gathered, Gathers, RunGathered, lacking, Splitting, Split, SplitOff, Splits}
use Rattle.chain.proofs.LongLaws.{run_long_lem}
use Rattle.put_cut.proofs.RunLists.{path_past, items_app, sum_row, unwound_app, unwound_on, unwound_sum, unwound_long, run_below, none_left, tip_tip}

module _ {E : Edition} {f : List ℕ} {h : View} {xs : List Step} {n o : ℕ} {p : List ℕ} {l : Lay} {ts : List (List ℕ × Lay)} {loose : List Item} {q : ℕ} {ks : List ℕ} {x : ℕ} (Z : Splitting E f h xs n o p l ts loose q ks x) where
  -- the body above is known
  pub body_at : PrefixAt f o p (slot_of l)
  body_at = (work_above n o p xs ((path_of xs ++ p, l) ∷ ts) Z.work).1

  pub split_run : IsNode (tip_of l) × (length (bodies_of l) ≡ chain (length (bytes_of l)))
  split_run = run_below (path_of xs ++ p) p l Z.work Z.hangs

  gathering : (row : List ℕ) → Gathering E f h (under n o p ∷ xs) (slot_of l) (path_of xs) p l ts [] loose row o q 0
  gathering row = record { work = Z.work; at = body_at; some = Z.some; named = tt; many = refl }

  module _ {row' bytes : List ℕ} {count long r : ℕ} (G : Gathered E f h (under n o p ∷ xs) (slot_of l) (path_of xs) p l ts [] loose row' bytes q count long r) where
    counts : (count ≤ chain long) × (chain long ≤ count + 1) × (count ≡ length (bodies_of l)) × (count ≡ length G.more)
    counts =
        let most = body_at.most in
        let el = G.long in
        let long_is = length-append (drop q p) (bytes_of l) in
        let d = length-drop q p in
        let c = split_run.1 in
        let m : length G.more ≡ length (bodies_of l) = omega (arith, unwound_long G.more [], ap length G.run) in
        let k = G.many in
        (omega arith, omega arith, omega arith, omega arith)

    tip_node : IsNode G.tip
    tip_node = subst IsNode (sym G.tip_is) split_run.0

    module _ {need : ℕ} (en : need ≡ chain long) where
      lacks : need - count ≡ lacking p l q
      lacks = omega (arith, ap chain G.long, counts.2)

      grows : Grows E f h (under n o p ∷ xs) (slot_of l) (((path_of xs ++ p) ++ bytes_of l, G.tip) ∷ ts) G.more loose row' count (need - count) ks x
      grows =
          record {
            work = G.work;
            named = subst (Named row') (append-nil G.more) G.named;
            many = sym counts.3;
            room = subst (λ y. RoomFor h (prefixes y ++ ks) x) (sym lacks) Z.room;
          }

      module _ {f1 row2 : List ℕ} (T : Grown E f f1 h (under n o p ∷ xs) (slot_of l) (((path_of xs ++ p) ++ bytes_of l, G.tip) ∷ ts) G.more loose row2 (need - count)) where
        abbrev view1 : View
        view1 = taken_all h (prefixes (need - count))

        readied : Ready E f1 view1 (under n o p ∷ xs) (slot_of l) (path_of xs ++ take q p) (take long bytes) G.tip ts (T.new ++ G.more) loose row2 r
        readied =
            record {
              work = work_path G.tip (path_past (path_of xs) p (bytes_of l) q ∙ ap (λ y. (path_of xs ++ take q p) ++ y) (sym G.text))
                  (subst (λ (y : List Item). Work E f1 view1 (under n o p ∷ xs) (slot_of l) (((path_of xs ++ p) ++ bytes_of l, G.tip) ∷ ts) y) (sym (items_app T.new G.more loose)) T.work);
              named = T.named;
              many = omega (arith, length-append T.new G.more, T.many, counts, ap length G.text, G.long);
              slot = G.slot;
              node = λ u. node_below u G.tip tip_node;
            }

        module _ {g : List ℕ} {top : ℕ} (R : Raised E f1 g view1 (under n o p ∷ xs) (slot_of l) (path_of xs ++ take q p) (take long bytes) G.tip ts (T.new ++ G.more) loose row2 0 0 top) where
          ordered : ◌≡◌ {A = List (ℕ × ℕ)} (bodies_of R.lay) (bodies_of l ++ unwound T.new [])
          ordered =
              none_left R.left (bodies_of R.lay) R.many ∙ R.run ∙ ap (λ (y : List (ℕ × ℕ)). unwound (T.new ++ G.more) y) (node_run G.tip tip_node).0 ∙ unwound_app T.new G.more []
              ∙ unwound_on G.more [] (unwound T.new []) ∙ ap (λ (y : List (ℕ × ℕ)). y ++ unwound T.new []) G.run

          pub split_chain : Split E f g h xs n o p l ts loose q top
          split_chain =
              let N = node_run G.tip tip_node in
              record {
                new = T.new;
                lay = R.lay;
                many = T.many ∙ lacks;
                work = subst (λ y. Work E g (taken_all h (prefixes y)) (under n o p ∷ xs) (slot_of l) ((path_of xs ++ take q p, R.lay) ∷ ts) loose) lacks (raised_work R);
                slot = R.slot;
                run = ordered;
                string = R.string ∙ ap (λ y. take long bytes ++ y) N.1 ∙ append-nil (take long bytes) ∙ G.text;
                tip = R.tip ∙ ap tip_of G.tip_is ∙ tip_tip l;
                since = λ f0 h0 bs ws es S c.
                    subst (λ y. Since f0 h0 g (taken_all h (prefixes y)) (row_items T.new bs) ws [] es) lacks
                    (raised_since R (T.since f0 h0 bs ws es S)
                    (λ a. omega (
                      arith,
                      c a,
                      ap (sum (cover a)) (items_app T.new G.more []),
                      sum_row (cover a) T.new (row_items G.more []),
                      sum_row (cover a) T.new bs,
                      unwound_sum (cover a) G.more [],
                      sum_none (cover a),
                      ap (λ (y : List (ℕ × ℕ)). sum (cover a) (row_items y [])) G.run,
                    )));
              }

-- ---- what is asked, and what is told of every work

module _ {f : List ℕ} {o q : ℕ} (A : Splits f o q) where
  pub down_gathers : (row bytes : List ℕ) → length row ≡ 5 → length bytes ≡ 560 → Gathers f row bytes o q 0
  down_gathers row bytes lr lb =
      let Z = A.splitting in
      let most = (body_at Z).most in
      record {
        edition = A.edition;
        view = A.view;
        steps = _;
        top = _;
        path = _;
        string = A.bytes;
        below = A.below;
        trees = A.trees;
        held = [];
        loose = A.loose;
        gathering = gathering Z row;
        row_fits = omega (arith, run_many_lem A.below, A.few);
        bytes_fit = omega (arith, run_long_lem A.below, (split_run Z).1, A.few);
        low = omega arith;
        short = omega arith;
      }

  module _ {row row' bytes : List ℕ} {count long r : ℕ} (G : RunGathered f row row' bytes o q 0 count long r) (lb : length bytes ≡ 560) where
    told : {E : Edition} {h : View} {xs : List Step} {n : ℕ} {p : List ℕ} {l : Lay} {ts : List (List ℕ × Lay)} {loose : List Item} {ks : List ℕ} {x : ℕ} (Z : Splitting E f h xs n o p l ts loose q ks x)
        → Gathered E f h (under n o p ∷ xs) (slot_of l) (path_of xs) p l ts [] loose row' bytes q count long r
    told {E} {h} {xs} {n} {p} {l} {ts} {loose} Z = G E h (under n o p ∷ xs) (slot_of l) (path_of xs) p l ts [] loose (gathering Z row)

    pub down_counts : (long ≤ 560) × (count ≤ chain long) × (chain long ≤ 5)
    down_counts =
        let T = told A.splitting in
        let c = counts A.splitting T in
        let few = A.few in
        (omega (arith, T.in_row), c.0, omega arith)

    module _ {need : ℕ} (en : need ≡ chain long) where
      pub down_takes : length row' ≡ 5 → chain_row.Takes f row' count need
      down_takes lr =
          let u = down_counts in
          record {
            edition = A.edition;
            view = A.view;
            steps = _;
            top = _;
            trees = _;
            held = _;
            loose = A.loose;
            kinds = A.kinds;
            extent = A.extent;
            grows = grows A.splitting (told A.splitting) en;
            long = omega arith;
            short = omega arith;
          }

      module _ {f1 row2 : List ℕ} (T : RowTaken f f1 row' row2 count (need - count) (need - count)) where
        grown : {E : Edition} {h : View} {xs : List Step} {n : ℕ} {p : List ℕ} {l : Lay} {ts : List (List ℕ × Lay)} {loose : List Item} {ks : List ℕ} {x : ℕ} (Z : Splitting E f h xs n o p l ts loose q ks x)
            → Grown E f f1 h (under n o p ∷ xs) (slot_of l) (((path_of xs ++ p) ++ bytes_of l, (told Z).tip) ∷ ts) (told Z).more loose row2 (need - count)
        grown {E} {h} {xs} {n} {p} {l} {ts} {loose} {ks} {x} Z = T E h (under n o p ∷ xs) (slot_of l) (((path_of xs ++ p) ++ bytes_of l, (told Z).tip) ∷ ts) (told Z).more loose ks x (grows Z (told Z) en)

        pub down_writes : length row2 ≡ 5 → Writes f1 row2 (take long bytes) r
        down_writes lr =
            let Z = A.splitting in
            let G' = told Z in
            let T' = grown Z in
            let u = down_counts in
            let lt : length (take long bytes) ≡ long = ap length G'.text ∙ sym G'.long in
            let S = tree_stood ((path_of A.steps ++ A.bytes) ++ bytes_of A.below) A.trees (row_items G'.more A.loose) G'.tip G'.work in
            record {
              edition = A.edition;
              view = _;
              steps = _;
              top = _;
              path = _;
              tree = _;
              trees = _;
              all = _;
              loose = A.loose;
              ready = readied Z G' en T';
              long = omega arith;
              short = omega arith;
              low = omega (arith, S.small, G'.slot);
            }

        pub down_done : {g : List ℕ} {top : ℕ} → RowWritten f1 g row2 (take long bytes) r 0 0 top → SplitOff f g o q top
        down_done Y E h xs n p l ts loose ks x Z =
            let G' = told Z in
            let T' = grown Z in
            split_chain Z G' en T' (Y E _ (under n o p ∷ xs) (slot_of l) (path_of xs ++ take q p) G'.tip ts (T'.new ++ G'.more) loose (readied Z G' en T'))
