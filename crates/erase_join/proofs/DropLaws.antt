-- The Node4 and the Leaf with its extent are given back. Assumes nothing.
use Prim.Native.Nat.{ℕ, ◌≤◌}
use mathlib.Core.List.{List, [], ◌∷◌, ◌++◌}
use native.Mathlib.Omega.{arith}
use lib.ListN.{length}
use Rattle.layout.specs.Kind.{Kind, node4_kind}
use Rattle.model.specs.Edition.{Edition, Value}
use Rattle.model.specs.Tree.{extent_of}
use Rattle.model.specs.Item.{Item, body}
use Rattle.model.specs.Frame.{Lay, View}
use Rattle.model.specs.Frame.Lay.{leaf}
use Rattle.room.specs.View.{released}
use Rattle.room.specs.Step.{Frees, Freed}
use Rattle.between.specs.Hole.{Step, steps_items}
use Rattle.between.specs.Work.{forest_items, Work}
use Rattle.between.proofs.WorkLaws.{entries_first, work_free, work_swap, first_owns}
use Rattle.between.proofs.SinceLaws.{since_free}
use Rattle.between.proofs.BookedLaws.{booked_free}
use Rattle.chain.proofs.RunLaws.{Release}
use Rattle.erase_remove.specs.Leaf as one
use Rattle.erase_remove.proofs.LeafLaws.{DropLeaf}
use Rattle.erase_join.specs.Drop.{Over, Dropped}

pub kind_four : Kind node4_kind
kind_four = (omega arith, omega arith, λ z. omega arith)

-- ---- the first loose body is freed

-- what is owned besides the first loose item
abbrev pub besides : List Item → List Step → List (List ℕ × Lay) → List Item
besides loose xs ts = loose ++ (steps_items xs ++ forest_items ts)

module _ {E : Edition} {f : List ℕ} {h : View} {xs : List Step} {s : ℕ} {ts : List (List ℕ × Lay)} {loose : List Item} {n k o : ℕ} (W : Work E f h xs s ts (body n k o ∷ loose)) where
  pub frees_first : Kind k → Frees f n k
  frees_first K = record { view = h; heap = W.heap; kind = K; place = o; rest = besides loose xs ts; owns = first_owns W; place_is = (entries_first f n k o loose W.entries).0.place_is }

  pub freed_first : {g : List ℕ} → Release f g n k → Freed f g h n k o (besides loose xs ts)
  freed_first R = R h o (besides loose xs ts) W.heap (first_owns W) (entries_first f n k o loose W.entries).0.place_is

-- ---- the whole

module _ (h : View) (s : ℕ) (t : Lay) (node o : ℕ) (path : List ℕ) (g q e : ℕ) (k : List ℕ) (v : Value) where
  abbrev rest : List Item
  rest = besides [] [] (([], t) ∷ (path, leaf g q e k v) ∷ [])

  abbrev view1 : View
  view1 = released h node node4_kind o rest

  module _ {E : Edition} {f f1 : List ℕ} (W : Over E f h s t node o path g q e k v) (R : Release f f1 node node4_kind) where
    W1 : Work E f1 view1 [] s ((path, leaf g q e k v) ∷ ([], t) ∷ []) []
    W1 = work_swap [] t path (leaf g q e k v) [] (work_free W (freed_first W R))

    pub drops_leaf : 1 ≤ length k → 1 ≤ h.nums.R → one.Drops f1 g q
    drops_leaf some l = record { edition = E; view = view1; steps = []; named = s; path = path; extent = e; key = k; value = v; trees = ([], t) ∷ []; loose = []; work = W1; some = some; records = l }

    pub dropped : {f2 : List ℕ} → DropLeaf f1 f2 g q → Dropped E f f2 h s t node o g q e k v
    dropped D =
        let X = D E view1 [] s path e k v (([], t) ∷ []) [] W1 in
        record {
          view = X.view;
          work = X.work;
          since = λ f0 h0 ts rs gs Z. X.since f0 h0 ts rs (body node node4_kind o ∷ gs) [] (since_free kind_four W.heap (first_owns W) Z (freed_first W R));
          booked = λ h0 ks fs r Z. X.booked h0 ks (node4_kind ∷ fs) 0 0 (extent_of k v) r (omega arith) (booked_free Z node node4_kind o rest kind_four);
        }
