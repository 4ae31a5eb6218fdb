-- The byte and the child of a place are the list's. Assumes nothing.
use native.Mathlib.Omega.{arith}
use mathlib.Core.Path.{◌∙◌}
use Rattle.node.proofs.SortedLaws.{child_of}
use Rattle.node.proofs.sorted.child_at.Goals as goal

pub returns : goal.returns
returns g c =
    let a = c.args in let r = rw c.BYTES.ensures at c.byte.ensures.0 in (
      c.byte.ensures.1,
      λ ks N. (r ∙ N.bytes_are a.i (omega arith), child_of a.i ks N g.K.Ascending.behind (omega arith) (omega arith) c.child.ensures.0),
    )
