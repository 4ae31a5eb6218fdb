-- One law for each step (ImageLaws). Assumes nothing.
use Rattle.pack.proofs.ImageLaws.{known_limits, image_empty}
use Rattle.pack.proofs.image.write.Goals as goal

pub lay_out-requires : goal.lay_out-requires
lay_out-requires c = let P = c.requires in (known_limits P.0.holds P.1, c.edition.ensures.1)

pub returns-then-records-eq0 : goal.returns-then-records-eq0
returns-then-records-eq0 c G K =
    let P = c.requires in image_empty K P.1 c.edition.ensures.0 c.if-records-eq0.true c.lay_out.ensures
