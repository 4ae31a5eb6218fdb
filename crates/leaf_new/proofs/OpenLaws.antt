-- A Leaf of the tree, opened where it stands: its body and its extent are loose, and lie in the frame. Assumes nothing.
use Prim.Native.Nat.{ℕ, ◌+◌, ◌≤◌}
use mathlib.Core.Path.{◌≡◌, refl}
use mathlib.Core.List.{List, [], ◌∷◌, ◌++◌}
use native.Mathlib.Omega.{arith}
use lib.ListN.{length}
use Rattle.layout.specs.Kind.{leaf_kind}
use Rattle.model.specs.Edition.{Edition, Value}
use Rattle.model.specs.Tree.{extent_of}
use Rattle.model.specs.State.{State}
use Rattle.model.specs.Item.{body, extent}
use Rattle.model.specs.Frame.{LeafOf, tree, Stands}
use Rattle.model.specs.Frame.Lay.{leaf}
use Rattle.room.proofs.HeapLaws.{lies, Lies}
use Rattle.between.specs.Hole.{Step, plug, path_of, steps_items}
use Rattle.between.specs.Work.{Suits, forest_items, Work}
use Rattle.between.proofs.WorkLaws.{stands_view, work_of, work_open, first_owns, open_leaf}

module _ {E : Edition} {f : List ℕ} {s : State} (w : Stands E f s) (xs : List Step) (n o e : ℕ) (k : List ℕ) (v : Value) (er : w.root ≡ tree (plug xs (leaf n o e k v))) where
  pub leaf_opened : Work E f (stands_view w) xs n ((path_of xs, leaf n o e k v) ∷ []) [] × Suits xs (leaf n o e k v)
  leaf_opened = work_open xs (leaf n o e k v) [] (work_of w (plug xs (leaf n o e k v)) er) refl

  pub leaf_loose : Work E f (stands_view w) xs n [] (body n leaf_kind o ∷ extent e (extent_of k v) ∷ []) × LeafOf E f (path_of xs) o e k v
  leaf_loose = open_leaf (path_of xs) [] [] n o e k v leaf_opened.0

  pub leaf_lies : Lies (stands_view w) n leaf_kind o
  leaf_lies = lies n leaf_kind o ((extent e (extent_of k v) ∷ []) ++ (steps_items xs ++ forest_items [])) w.heap (first_owns leaf_loose.0) (omega arith) (omega arith)

  pub leaf_room : o + 16 ≤ length f
  leaf_room = omega (arith, leaf_lies.ends, w.heap.header.size)
