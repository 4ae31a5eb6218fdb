-- The lists of the kinds below k are read; then the three numbers are those of the state. Assumes nothing.
use mathlib.Core.Path.{refl, ◌∙◌}
use native.Mathlib.Omega.{arith}
use lib.ListN.{length-set}
use Rattle.room.proofs.LeftLaws.{heap_fits, counted_none, counted_more, room_is}
use Rattle.room.proofs.left.room_for.Goals as goal

pub loop-k-init : goal.loop-k-init
loop-k-init c = (refl, counted_none _ _)

pub loop-k-preserved : goal.loop-k-preserved
loop-k-preserved c =
    let l = c.loop-k in (length-set l.free l.k c.listed.result ∙ l.invariant.0, counted_more l.invariant.1 (omega arith) (omega arith) (rw c.known.ensures at c.listed.ensures))

pub slot_capacity-capacity-requires : goal.slot_capacity-capacity-requires
slot_capacity-capacity-requires c = (heap_fits c.requires).0

pub slots_given-given-requires : goal.slots_given-given-requires
slots_given-given-requires c = (heap_fits c.requires).0

pub overflow_sub-result : goal.overflow_sub-result
overflow_sub-result c = omega (arith, (heap_fits c.requires).1)

pub next_byte-requires : goal.next_byte-requires
next_byte-requires c = (heap_fits c.requires).0

pub overflow_sub-result-2 : goal.overflow_sub-result-2
overflow_sub-result-2 c = omega (arith, (heap_fits c.requires).2)

pub returns : goal.returns
returns c =
    room_is (omega arith) c.loop-k.invariant.1 c.slot_capacity-capacity.ensures.0 c.slots_given-given.ensures.0 c.next_byte.ensures.0 refl refl
