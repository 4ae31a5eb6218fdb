-- The worked listings. Assumes nothing.
use mathlib.Core.Path.{refl}
use Rattle.model.specs.Edition.{edition_of}
use Rattle.listing.specs.Worked.{table, Worked}

pub worked_listings : Worked table
unfolding edition_of
worked_listings = (refl, (refl, (refl, (refl, (refl, (refl, (refl, (refl, (refl, (refl, (refl, (refl, (refl, (refl, (refl, tt)))))))))))))))
