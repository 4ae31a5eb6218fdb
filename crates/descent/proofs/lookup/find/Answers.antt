-- `find` gives what the end of the descent says. Assumes nothing.
use Rattle.descent.proofs.LookLaws.{found_room, looked_none, looked_some}
use Rattle.descent.proofs.lookup.find.Goals as goal

pub extent-requires : goal.extent-requires
extent-requires g c = found_room c.edition.ensures c.requires.0 c.spot_of-s.ensures c.in-Found.is

pub value_length-length-requires : goal.value_length-length-requires
value_length-length-requires g c = found_room c.edition.ensures c.requires.0 c.spot_of-s.ensures c.in-Found.is

pub stamp-stamp-requires : goal.stamp-stamp-requires
stamp-stamp-requires g c = found_room c.edition.ensures c.requires.0 c.spot_of-s.ensures c.in-Found.is

pub returns-in-Found : goal.returns-in-Found
returns-in-Found g c =
    let n = c.value_length-length in let e = c.extent in
    rw c.edition.ensures at (looked_some _ c.spot_of-s.ensures e.result n.result c.stamp-stamp.result c.in-Found.is e.ensures.0 n.ensures.0 c.stamp-stamp.ensures)

pub returns-in_default : goal.returns-in_default
returns-in_default g c = rw c.edition.ensures at (looked_none _ c.spot_of-s.ensures c.in_default.not-Found)
