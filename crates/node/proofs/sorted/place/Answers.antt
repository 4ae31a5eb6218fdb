-- Where they are looked through, the first place of the byte is the list's. Assumes nothing.
use Rattle.node.proofs.SortedLaws.{place_row}
use Rattle.node.proofs.sorted.place.Goals as goal

pub returns : goal.returns
returns c = let s = c.scan.ensures in (s.within, λ ks R e. place_row ks R e s.within s.before s.here)
