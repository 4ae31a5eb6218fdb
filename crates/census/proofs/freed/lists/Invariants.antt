-- The loop's invariant: what is told of the lists from here on tells of all. Assumes nothing.
use mathlib.Core.Path.{◌≡◌}
use lib.ListN.{length}
use Rattle.census.specs.Told.{Tally}
use Rattle.census.specs.Freed.{FreedItems}
use Rattle.census.proofs.ToldLaws.{Leads}
use Rattle.census.proofs.freed.lists.Given as goal

abbrev pub invariant-loop-n : goal.invariant-loop-n
invariant-loop-n l =
    (length l.map ≡ length l.initial.map) × Tally l.bounds.given 0 l.sums
    × Leads (FreedItems l.f l.n) (FreedItems l.f l.n) (FreedItems l.f 1) (FreedItems l.f 1) l.f l.bounds.start l.bounds.given l.bounds.next l.map l.sums l.initial.map l.fn.t
