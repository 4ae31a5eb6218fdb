-- So many entries are written, and the next one that is left is at hand. The measure is the room that is left. Assumes nothing.
use Prim.Native.Nat.{◌-◌}
use lib.ListN.{length}
use Rattle.editions.specs.Rules.{rules_of}
use Rattle.names.specs.Entry.{maybe, started}
use Rattle.names.proofs.PageLaws.{Paging}
use Rattle.names.proofs.page.fill.Given as goal

abbrev pub invariant-loop-next : goal.invariant-loop-next
invariant-loop-next l =
    Paging (rules_of l.edition) l.f l.root l.asked.prefix.now (started l.asked.start) (maybe l.asked.delimiter) l.initial.buffer l.count l.used l.next l.buffer

abbrev pub decreases-loop-next : goal.decreases-loop-next
decreases-loop-next l =
    length l.initial.buffer - l.used
