-- `way`: the invariant is the way so far, the measure what is left of the bytes that a path can have. Assumes nothing.
use mathlib.Core.Path.{◌≡◌, sym, ap, ◌∙◌}
use Rattle.std.proofs.Common.{rules}
use Rattle.layout.specs.Kind.{number_of}
use Rattle.layout.specs.declared.kind.Kind.TheVariants as kinds
use Rattle.descent.proofs.SeatLaws.{not_empty}
use Rattle.descent.proofs.RootLaws.{root_entry, root_kind, start_going, start_empty, ended_spot}
use Rattle.descent.proofs.walk.way.Goals as goal

pub read-e-requires : goal.read-e-requires
read-e-requires c = root_entry _ c.requires.0 c.root-slot.result c.root-slot.ensures.0

pub kind-requires-clause-low : goal.kind-requires-clause-low
kind-requires-clause-low c = (root_kind _ c.requires.0 c.root-slot.ensures.0 c.read-e.ensures.0).0

pub kind-requires-clause-high : goal.kind-requires-clause-high
kind-requires-clause-high c = (root_kind _ c.requires.0 c.root-slot.ensures.0 c.read-e.ensures.0).1

pub returns-then-eq : goal.returns-then-eq
returns-then-eq c =
    let r = c.root-slot in let e = c.read-e in let q : c.kind.result ≡ kinds.EmptyRoot = search rules in rw (c.ended.ensures, c.start-s.ensures) (start_empty _ c.args.key.now c.requires.0 r.result r.ensures.0 e.result.place (sym (ap number_of (sym q) ∙ c.kind.ensures ∙ e.ensures.0)) e.ensures.1)

pub loop-s-init : goal.loop-s-init
loop-s-init c =
    let r = c.root-slot in let e = c.read-e in let n : c.kind.result ≡ kinds.EmptyRoot → ⊥ = search rules in rw c.start-s.ensures (start_going _ c.args.key.now c.requires.0 r.result r.ensures.0 (λ q. not_empty _ n (c.kind.ensures ∙ e.ensures.0 ∙ q)))

pub returns-in_default : goal.returns-in_default
returns-in_default c = ended_spot _ (c.step-s.ensures.ends c.in_default.not-Going)

pub loop-s-preserved : goal.loop-s-preserved
loop-s-preserved c = (c.step-s.ensures.goes c.in-Going.is).0
