-- A case for each end. Assumes nothing.
use mathlib.Core.Path.{◌≡◌, refl}
use Rattle.descent.specs.declared.spot.End.{End}
use Rattle.descent.specs.declared.spot.End.TheVariants as end

pub by_end : {P : Type 0} (e : End) → (e ≡ end.Going → P) → (e ≡ end.Empty → P) → (e ≡ end.Found → P) → (e ≡ end.Other → P) → (e ≡ end.Missing → P) → (e ≡ end.Parted → P) → P
by_end end.Going a b c d f g = a refl
by_end end.Empty a b c d f g = b refl
by_end end.Found a b c d f g = c refl
by_end end.Other a b c d f g = d refl
by_end end.Missing a b c d f g = f refl
by_end end.Parted a b c d f g = g refl
