-- `make` ends without room, or with what the edit has made. Assumes nothing.
use borrow.Author.Tests.{not-true, not-false}
use Rattle.descent.proofs.EditionLaws.{some_byte}
use Rattle.put_core.proofs.CoreLaws.{plans, spotted, no_room, there_was}
use Rattle.put_core.proofs.make.Goals as goal

pub put_needs-needs-requires : goal.put_needs-needs-requires
put_needs-needs-requires c = record { edition = _; holds = plans c.requires }

pub fits-requires : goal.fits-requires
fits-requires c = c.put_needs-needs.ensures.0

pub returns-then-not-fits-clause-tried : goal.returns-then-not-fits-clause-tried
returns-then-not-fits-clause-tried c =
    no_room c.requires (c.put_needs-needs.ensures.1 _) c.room_for.ensures c.fits.ensures (not-true _ c.if-not-fits.true-raw)

pub apply-requires : goal.apply-requires
apply-requires c =
    spotted c.requires (c.put_needs-needs.ensures.1 _) c.room_for.ensures c.fits.ensures (some_byte _ _ c.requires.asked.legal.passes) (not-false _ c.if-not-fits.false-raw)

pub returns-clause-tried : goal.returns-clause-tried
returns-clause-tried c =
    there_was c.requires (c.put_needs-needs.ensures.1 _) c.room_for.ensures c.fits.ensures (not-false _ c.if-not-fits.false-raw) c.apply.ensures
