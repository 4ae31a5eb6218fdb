-- The lists of a frame, read as far as is asked for.
use Rattle.std.specs.Prelude.{ℕ, ◌-◌, ◌≤◌, ◌≡◌, List, length}
use Rattle.model.specs.Frame.{View, Heap}
use Rattle.room.specs.View.{list_of}

pub record HasHeap (f : List ℕ) : Type 0 where
  pub view : View
  pub heap : Heap f view

-- r of the bodies on kind k's list: no more than `most`, and all if there are not so many
pub record Listed (h : View) (k most r : ℕ) : Type 0 where
  pub at_most : r ≤ most
  pub lacks : most - r ≡ most - length (list_of h k)
