-- A chain without its first byte: `move_up`, call by call. Assumes nothing.
use Prim.Native.Nat.{ℕ, zero, suc, ◌+◌, ◌-◌, ◌≤◌}
use mathlib.Core.Path.{◌≡◌, refl, sym, ap, subst, ◌∙◌}
use mathlib.Core.List.{List, [], ◌∷◌, ◌++◌, append-nil}
use mathlib.Core.Bool.{not}
use native.Mathlib.Omega.{arith}
use lib.Dec.{eqb}
use lib.ListN.{length, get_or, take, drop, length-append, length-drop}
use lib.Seq.{take_all}
use Rattle.std.specs.Int.{from_bool}
use Rattle.layout.specs.Kind.{prefix_kind}
use Rattle.model.specs.Edition.{Edition}
use Rattle.model.specs.Tree.{chain}
use Rattle.model.specs.Item.{Item, body, cover, sum}
use Rattle.model.specs.Body.{PrefixAt}
use Rattle.model.specs.Frame.{Lay, slot_of, IsNode, Below, View}
use Rattle.model.specs.Frame.Lay.{prefix}
use Rattle.model.proofs.ItemLaws.{sum_cons}
use Rattle.model.proofs.OneBody.{node_below}
use Rattle.between.specs.Hole.{Step}
use Rattle.between.specs.Work.{Work}
use Rattle.between.proofs.TreeLaws.{sum_none}
use Rattle.between.proofs.WorkLaws.{work_path, open_prefix}
use Rattle.chain.specs.Row.{row_items, unwound, bodies_of, bytes_of, tip_of, Ready, Raised, RowWritten, Writes}
use Rattle.chain.proofs.RowLaws.{raised_work}
use Rattle.chain.proofs.ReadLaws.{tree_stood}
use Rattle.chain.proofs.RunLaws.{node_run, run_many_lem}
use Rattle.put_cut.specs.After.{Gathering, Gathered, Gathers, RunGathered, own_row, Dropped, FirstDropped, Drops}
use Rattle.chain.proofs.LongLaws.{run_long_lem}
use Rattle.put_cut.proofs.RunLists.{path_past, items_app, sum_row, unwound_app, unwound_sum, unwound_long, none_left, named_past, tip_tip, run_below}

-- a Prefix opened: its body is loose
module _ {E : Edition} {f : List ℕ} {h : View} {xs : List Step} {s : ℕ} {path : List ℕ} {n o : ℕ} {p : List ℕ} {l : Lay} {ts : List (List ℕ × Lay)} {loose : List Item} (W : Work E f h xs s ((path, prefix n o p l) ∷ ts) loose) where
  pub opens : Work E f h xs s ((path ++ p, l) ∷ ts) (body n prefix_kind o ∷ loose) × PrefixAt f o p (slot_of l) × Below p l
  opens = open_prefix path ts loose n o p l W

  pub below_run : IsNode (tip_of l) × (length (bodies_of l) ≡ chain (length (bytes_of l)))
  below_run = run_below (path ++ p) p l opens.0 opens.2

  gathering : (row : List ℕ) → get_or row 0 0 ≡ n → Gathering E f h xs s path p l ts ((n, o) ∷ []) loose row o 1 1
  gathering row e = record { work = opens.0; at = opens.1; some = opens.1.some; named = (e, tt); many = refl }

  -- how many bodies the row has more than are needed: none or one
  module _ {row' bytes : List ℕ} {count long r : ℕ} (G : Gathered E f h xs s path p l ts ((n, o) ∷ []) loose row' bytes 1 count long r) where
    counts : (chain long ≤ count) × (count ≤ chain long + 1) × (count ≡ length (bodies_of l) + 1)
    counts =
        let A = opens.1 in
        let most = A.most in
        let some = A.some in
        let el = G.long in
        let long_is = length-append (drop 1 p) (bytes_of l) in
        let d = length-drop 1 p in
        let c = below_run.1 in
        let m : length G.more ≡ length (bodies_of l) = omega (arith, unwound_long G.more [], ap length G.run) in
        let k = G.many in
        (omega arith, omega arith, omega arith)

    tip_node : IsNode G.tip
    tip_node = subst IsNode (sym G.tip_is) below_run.0

    -- the bodies that are used, and the one that is not
    abbrev used : ℕ → List (ℕ × ℕ)
    used zero = G.more ++ (n, o) ∷ []
    used (suc j) = G.more

    readied : (j : ℕ) → j ≤ 1 → count ≡ chain long + j → Ready E f h xs s (path ++ take 1 p) (take long bytes) G.tip ts (used j) (row_items (own_row n o j) loose) (drop j row') r
    readied zero few e =
        record {
          work = work_path G.tip (path_past path p (bytes_of l) 1 ∙ ap (λ y. (path ++ take 1 p) ++ y) (sym G.text)) (subst (λ (y : List Item). Work E f h xs s (((path ++ p) ++ bytes_of l, G.tip) ∷ ts) y) (sym (items_app G.more ((n, o) ∷ []) loose)) G.work);
          named = G.named;
          many = omega (arith, length-append G.more ((n, o) ∷ []), G.many, ap length G.text, G.long);
          slot = G.slot;
          node = λ q. node_below q G.tip tip_node;
        }
    readied (suc zero) few e =
        record {
          work = work_path G.tip (path_past path p (bytes_of l) 1 ∙ ap (λ y. (path ++ take 1 p) ++ y) (sym G.text)) G.work;
          named = named_past row' G.more (n, o) G.named;
          many = omega (arith, G.many, ap length G.text, G.long);
          slot = G.slot;
          node = λ q. node_below q G.tip tip_node;
        }
    readied (suc (suc j)) few e = absurd (omega arith)

    -- the bodies of the run, in the order that they had
    ordered : (j : ℕ) (u : Lay) → j ≤ 1 → ◌≡◌ {A = List (ℕ × ℕ)} (bodies_of u) (unwound (used j) []) → ◌≡◌ {A = List (ℕ × ℕ)} (own_row n o j ++ bodies_of u) ((n, o) ∷ bodies_of l)
    ordered zero u few e = e ∙ unwound_app G.more ((n, o) ∷ []) [] ∙ ap (λ (y : List (ℕ × ℕ)). (n, o) ∷ y) G.run
    ordered (suc zero) u few e = ap (λ (y : List (ℕ × ℕ)). (n, o) ∷ y) (e ∙ G.run)
    ordered (suc (suc j)) u few e = absurd (omega arith)

    used_sum : (j : ℕ) (w : Item → ℕ) → sum w (row_items (used j) []) ≤ sum w (row_items ((n, o) ∷ bodies_of l) [])
    used_sum zero w =
        let i = body n prefix_kind o in
        omega (arith, ap (sum w) (items_app G.more ((n, o) ∷ []) []), sum_row w G.more (i ∷ []), sum_cons w i [], sum_none w, sum_cons w i (row_items (bodies_of l) []), unwound_sum w G.more [], ap (λ (y : List (ℕ × ℕ)). sum w (row_items y [])) G.run)
    used_sum (suc j) w = let i = body n prefix_kind o in omega (arith, sum_none w, sum_cons w i (row_items (bodies_of l) []), unwound_sum w G.more [], ap (λ (y : List (ℕ × ℕ)). sum w (row_items y [])) G.run)

    dropped : {g : List ℕ} {top : ℕ} (j : ℕ) → j ≤ 1 → Raised E f g h xs s (path ++ take 1 p) (take long bytes) G.tip ts (used j) (row_items (own_row n o j) loose) (drop j row') 0 0 top → Dropped E f g h xs s path n o p l ts loose top j
    dropped j few R =
        let N = node_run G.tip tip_node in
        record {
          lay = R.lay;
          work = raised_work R;
          slot = R.slot;
          few = few;
          run = ordered j R.lay few (none_left R.left (bodies_of R.lay) R.many ∙ R.run ∙ ap (λ (y : List (ℕ × ℕ)). unwound (used j) y) N.0);
          string = R.string ∙ ap (λ y. take long bytes ++ y) N.1 ∙ append-nil (take long bytes) ∙ G.text;
          tip = R.tip ∙ ap tip_of G.tip_is ∙ tip_tip l;
          changed = record { size = R.changed.size; bytes = λ a z. R.changed.bytes a (omega (arith, used_sum j (cover a))) };
        }

-- ---- what is asked, and what is told of every work

module _ {f : List ℕ} {n o : ℕ} (A : Drops f n o) where
  witness : Work A.edition f A.view A.steps A.top ((A.path, prefix n o A.bytes A.below) ∷ A.trees) A.loose
  witness = A.work

  pub up_gathers : (row bytes : List ℕ) → get_or row 0 0 ≡ n → length row ≡ 5 → length bytes ≡ 560 → Gathers f row bytes o 1 1
  up_gathers row bytes e lr lb =
      let B = below_run witness in
      let most = (opens witness).1.most in
      record {
        edition = A.edition;
        view = A.view;
        steps = A.steps;
        top = A.top;
        path = A.path;
        string = A.bytes;
        below = A.below;
        trees = A.trees;
        held = (n, o) ∷ [];
        loose = A.loose;
        gathering = gathering witness row e;
        row_fits = omega (arith, run_many_lem A.below, A.few);
        bytes_fit = omega (arith, run_long_lem A.below, B.1, A.few);
        low = omega arith;
        short = omega arith;
      }

  module _ {row row' bytes : List ℕ} {count long r : ℕ} (G : RunGathered f row row' bytes o 1 1 count long r) (e : get_or row 0 0 ≡ n) (lb : length bytes ≡ 560) (lr : length row' ≡ 5) where
    told : {E : Edition} {h : View} {xs : List Step} {s : ℕ} {path p : List ℕ} {l : Lay} {ts : List (List ℕ × Lay)} {loose : List Item} (W : Work E f h xs s ((path, prefix n o p l) ∷ ts) loose)
        → Gathered E f h xs s path p l ts ((n, o) ∷ []) loose row' bytes 1 count long r
    told {E} {h} {xs} {s} {path} {p} {l} {ts} {loose} W = G E h xs s path p l ts ((n, o) ∷ []) loose (gathering W row e)

    pub up_counts : (long ≤ 560) × (chain long ≤ count) × (count ≤ chain long + 1) × (count ≤ 5)
    up_counts =
        let T = told witness in
        let c = counts witness T in
        let few = A.few in
        (omega (arith, T.in_row), c.0, c.1, omega (arith, c.2))

    module _ {need : ℕ} (en : need ≡ chain long) where
      few : count - need ≤ 1
      few = omega (arith, up_counts)

      whole : count ≡ chain long + (count - need)
      whole = omega (arith, up_counts)

      -- the row from the first body that is used on
      abbrev part : List ℕ
      part = take (5 - (count - need)) (drop (count - need) row')

      part_is : drop (count - need) row' ≡ part
      part_is = sym (take_all (5 - (count - need)) (drop (count - need) row') (omega (arith, length-drop (count - need) row')))

      pub up_writes : Writes f part (take long bytes) r
      up_writes =
          let T = told witness in
          let u = up_counts in
          let lt : length (take long bytes) ≡ long = ap length T.text ∙ sym T.long in
          let ld = length-drop (count - need) row' in
          let S = tree_stood ((A.path ++ A.bytes) ++ bytes_of A.below) A.trees (row_items T.more (body n prefix_kind o ∷ A.loose)) T.tip T.work in
          subst (λ y. Writes f y (take long bytes) r) part_is
          (record {
            edition = A.edition;
            view = A.view;
            steps = A.steps;
            top = A.top;
            path = A.path ++ take 1 A.bytes;
            tree = T.tip;
            trees = A.trees;
            all = used witness T (count - need);
            loose = row_items (own_row n o (count - need)) A.loose;
            ready = readied witness T (count - need) few whole;
            long = omega arith;
            short = omega arith;
            low = omega (arith, S.small, T.slot);
          })

      pub up_done : {g : List ℕ} {top : ℕ} → RowWritten f g part (take long bytes) r 0 0 top → FirstDropped f g n o top (count - need)
      up_done {g} {top} Y E h xs s path p l ts loose W =
          let T = told W in
          let j = count - need in
          let Y' = subst (λ y. RowWritten f g y (take long bytes) r 0 0 top) (sym part_is) Y in
          dropped W T j few (Y' E h xs s (path ++ take 1 p) T.tip ts (used W T j) (row_items (own_row n o j) loose) (readied W T j few whole))

-- a number of at most 1, as a flag tells it
pub as_flag : (j : ℕ) → j ≤ 1 → j ≡ from_bool (not (eqb j 0))
as_flag zero l = refl
as_flag (suc zero) l = refl
as_flag (suc (suc j)) l = absurd (omega arith)
