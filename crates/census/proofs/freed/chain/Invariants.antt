-- The loop's invariant: what is told of the slots from here on tells of all. Assumes nothing.
use Prim.Native.Nat.{◌-◌}
use mathlib.Core.Path.{◌≡◌}
use lib.ListN.{length}
use Rattle.layout.specs.Kind.{number_of}
use Rattle.census.specs.Told.{Tally}
use Rattle.census.specs.Freed.{ChainItems}
use Rattle.census.proofs.ToldLaws.{Leads}
use Rattle.census.proofs.freed.chain.Given as goal

abbrev pub invariant-loop-s : goal.invariant-loop-s
invariant-loop-s l =
    (length l.map ≡ length l.initial.map) × Tally l.bounds.given 0 l.sums
    × Leads (ChainItems l.f (number_of l.kind) l.s) (ChainItems l.f (number_of l.kind) l.s) (ChainItems l.f (number_of l.kind) l.head) (ChainItems l.f (number_of l.kind) l.head) l.f l.bounds.start l.bounds.given l.bounds.next l.map l.sums l.initial.map l.fn.t

abbrev pub decreases-loop-s : goal.decreases-loop-s
decreases-loop-s l = l.bounds.given - l.sums.slots
