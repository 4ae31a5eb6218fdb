-- Each way out is one of the erase's ends. Assumes nothing.
use Rattle.std.proofs.Common.{rules}
use borrow.Author.Tests.{not-true, not-false}
use Rattle.descent.proofs.EditionLaws.{some_byte}
use Rattle.erase_core.proofs.CoreLaws.{absent, only, only_made, from, no_room, at_spot, erased}
use Rattle.erase_core.proofs.erase.Goals as goal

pub spot_of-spot-requires : goal.spot_of-spot-requires
spot_of-spot-requires g c =
    let A = c.requires in rw c.edition.ensures (record { lawful = A.lawful; st = A.st; stands = A.stands }, A.legal)

pub returns-then-ne : goal.returns-then-ne
returns-then-ne g c = absent c.requires (rw c.edition.ensures at c.spot_of-spot.ensures) (search rules)

pub erase_only-requires : goal.erase_only-requires
erase_only-requires g c =
    record { edition = _; key = c.args.key.now; holds = only c.requires (rw c.edition.ensures at c.spot_of-spot.ensures) (search rules) c.if-spot-eq0.true }

pub returns-then-spot-eq0 : goal.returns-then-spot-eq0
returns-then-spot-eq0 g c =
    only_made (c.erase_only.ensures _ c.args.key.now (only c.requires (rw c.edition.ensures at c.spot_of-spot.ensures) (search rules) c.if-spot-eq0.true))

pub erase_needs-needs-requires : goal.erase_needs-needs-requires
erase_needs-needs-requires g c =
    record { edition = _; holds = from c.requires (rw c.edition.ensures at c.spot_of-spot.ensures) (search rules) c.if-spot-eq0.false }

pub fits-requires : goal.fits-requires
fits-requires g c =
    (c.erase_needs-needs.ensures _ (from c.requires (rw c.edition.ensures at c.spot_of-spot.ensures) (search rules) c.if-spot-eq0.false)).small

pub returns-then-not-fits : goal.returns-then-not-fits
returns-then-not-fits g c =
    no_room c.requires (rw c.edition.ensures at c.spot_of-spot.ensures) (search rules) c.if-spot-eq0.false (c.erase_needs-needs.ensures _ (from c.requires (rw c.edition.ensures at c.spot_of-spot.ensures) (search rules) c.if-spot-eq0.false)) c.room_for.ensures c.fits.ensures (not-true _ c.if-not-fits.true-raw)

pub apply-requires : goal.apply-requires
apply-requires g c =
    record { edition = _; holds = at_spot c.requires (rw c.edition.ensures at c.spot_of-spot.ensures) (search rules) c.if-spot-eq0.false (c.erase_needs-needs.ensures _ (from c.requires (rw c.edition.ensures at c.spot_of-spot.ensures) (search rules) c.if-spot-eq0.false)) c.room_for.ensures c.fits.ensures (some_byte c.edition.result _ (rw c.edition.ensures c.requires.legal.passes)) (not-false _ c.if-not-fits.false-raw) }

pub returns : goal.returns
returns g c =
    erased c.requires (rw c.edition.ensures at c.spot_of-spot.ensures) (search rules) c.if-spot-eq0.false (c.erase_needs-needs.ensures _ (from c.requires (rw c.edition.ensures at c.spot_of-spot.ensures) (search rules) c.if-spot-eq0.false)) c.room_for.ensures c.fits.ensures (not-false _ c.if-not-fits.false-raw) (c.apply.ensures _ (at_spot c.requires (rw c.edition.ensures at c.spot_of-spot.ensures) (search rules) c.if-spot-eq0.false (c.erase_needs-needs.ensures _ (from c.requires (rw c.edition.ensures at c.spot_of-spot.ensures) (search rules) c.if-spot-eq0.false)) c.room_for.ensures c.fits.ensures (some_byte c.edition.result _ (rw c.edition.ensures c.requires.legal.passes)) (not-false _ c.if-not-fits.false-raw)))
