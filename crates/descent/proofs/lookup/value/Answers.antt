-- `value` hands back the part that `find` gives. Assumes nothing.
use mathlib.Core.Path.{refl}
use native.Mathlib.Omega.{arith}
use Rattle.descent.proofs.LookLaws.{value_part, value_none, value_fits}
use Rattle.descent.proofs.lookup.value.Goals as goal

pub overflow_add-result : goal.overflow_add-result
overflow_add-result g c = let z = c.requires.0 in omega (arith, value_fits _ (c.find.ensures z.st z.stands) c.args.f.ref_ptr _ c.in-Some.is)

pub slice_bounds-result-end : goal.slice_bounds-result-end
slice_bounds-result-end g c = let z = c.requires.0 in omega (arith, value_fits _ (c.find.ensures z.st z.stands) c.args.f.ref_ptr _ c.in-Some.is)

pub returns-in-Some : goal.returns-in-Some
returns-in-Some g c = λ st W. value_part _ (c.find.ensures st W) _ _ c.in-Some.is

pub returns-in-None : goal.returns-in-None
returns-in-None g c = λ st W. value_none _ (c.find.ensures st W) _ c.in-None.is refl refl
