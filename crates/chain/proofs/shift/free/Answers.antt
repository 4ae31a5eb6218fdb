-- `free` frees the first body of the run at each turn, until what is left is no Prefix. Assumes nothing.
use mathlib.Core.Path.{refl}
use native.Mathlib.Omega.{arith}
use Rattle.chain.proofs.DownLaws.{frees_slot, frees_room, frees_first, frees_left, frees_again, free_none, free_first}
use Rattle.chain.proofs.shift.free.Goals as goal

pub prefix_at-requires : goal.prefix_at-requires
prefix_at-requires c = frees_slot c.loop.invariant.0

pub returns-in_default : goal.returns-in_default
returns-in_default c =
    c.loop.invariant.1 _ (free_none c.in_default.ensures)

pub child-below-requires : goal.child-below-requires
child-below-requires c =
    let e = c.in-Some.ensures in frees_room c.loop.invariant.0 e.0 e.1

pub release-requires : goal.release-requires
release-requires c =
    let e = c.in-Some.ensures in frees_first c.loop.invariant.0 e.0 e.1

pub loop-preserved : goal.loop-preserved
loop-preserved c =
    let v = c.loop.invariant in let e = c.in-Some.ensures in let below = c.child-below.ensures.0 in let R = c.release.ensures in (frees_again v.0 e.0 e.1 below R (omega arith), λ g X. v.1 g (free_first e.0 e.1 below R g X))

pub returns : goal.returns
returns c =
    let v = c.loop.invariant in v.1 _ (free_none (λ z. omega (arith, frees_left v.0 z refl)))
