-- The outer loop arrives at slots: its invariant is `Coming`. The inner one walks a node's children and goes back to those that wait: `Walking`, with one law
-- for each turn (WayLaws). Every arrival counts a body; of the turns of the inner loop a Leaf counts one, and the way back makes the path shorter. Assumes
-- nothing.
use Prim.Native.Nat.{◌+◌, ◌-◌, ◌*◌, ◌≤◌}
use mathlib.Core.Path.{◌≡◌}
use mathlib.Core.List.{[]}
use lib.ListN.{length}
use Rattle.layout.specs.Kind.{number_of}
use Rattle.audit.specs.Walk.{TreeItems}
use Rattle.audit.proofs.WayLaws.{Walking, Coming}
use Rattle.audit.proofs.walk.along.Given as goal

abbrev pub invariant-arrive : goal.invariant-arrive
invariant-arrive g l =
    (length l.map ≡ length l.initial.map) × (length l.path ≡ length l.initial.path) × (length l.waits ≡ length l.initial.waits)
    × Coming (g.E.Editioned.rules l.fn.edition) (TreeItems (g.E.Editioned.rules l.fn.edition) l.f [] l.s) l.f l.bounds.start l.bounds.given l.bounds.next l.initial.map l.fn.t l.map l.path l.waits l.waiting l.sums l.slot l.entry.place l.entry.high l.depth

abbrev pub decreases-arrive : goal.decreases-arrive
decreases-arrive g l = l.bounds.given - l.sums.slots

abbrev pub invariant-children : goal.invariant-children
invariant-children g l =
    (length l.map ≡ length l.fn.map) × (length l.path ≡ length l.fn.path) × (length l.waits ≡ length l.fn.waits) × (l.initial.sums.slots ≤ l.sums.slots)
    × Walking (g.E.Editioned.rules l.fn.edition) (TreeItems (g.E.Editioned.rules l.fn.edition) l.f [] l.s) l.f l.bounds.start l.bounds.given l.bounds.next l.fn.map l.fn.t l.map l.path l.waits l.waiting l.sums l.slot l.place (number_of l.kind) l.depth l.n l.i l.from

abbrev pub decreases-children : goal.decreases-children
decreases-children g l = 1024 * (l.bounds.given - l.sums.slots) + l.depth
