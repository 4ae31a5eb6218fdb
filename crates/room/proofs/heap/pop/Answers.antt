-- `pop` takes the first slot off its list and writes its kind. Assumes nothing.
use Rattle.room.proofs.CodeLaws.{pop_writes}
use borrow.Author.Rules.{rules}
use Rattle.room.proofs.heap.pop.Goals as goal

pub returns : goal.returns
returns c =
    (search rules, pop_writes _ _ _ c.read-e.ensures.0 c.read-e.ensures.1 c.set_list_head.ensures (rw c.number.ensures.value at c.write.ensures))
