-- `write_fork` zeroes the body and adds two children. Assumes nothing.
use Rattle.put_split.proofs.PartLaws.{open_none, open_one, fork_law}
use borrow.Author.Rules.{rules}
use Rattle.put_split.proofs.parts.write_fork.Goals as goal

pub add-requires : goal.add-requires
add-requires c = (open_none c.empty.ensures, search rules, search rules)

pub add-requires-2 : goal.add-requires-2
add-requires-2 c =
    (open_one c.empty.ensures c.add.ensures, search rules, search rules)

pub returns : goal.returns
returns c =
    fork_law c.empty.ensures c.add.ensures c.requires.1 c.add-2.ensures
