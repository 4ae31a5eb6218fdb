-- What is read at the spot is the site of the join. Assumes nothing.
use Rattle.erase_join.proofs.PairLaws.{pair_couple, pair_read}
use Rattle.erase_join.proofs.join.read.Goals as goal

pub other_child-other-requires : goal.other_child-other-requires
other_child-other-requires c = pair_couple c.requires.holds

pub returns : goal.returns
returns c =
    λ E P. pair_read P c.other_child-other.ensures
