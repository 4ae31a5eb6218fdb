-- Nothing is asked for; or going along the list, for every heap that the frame has. Assumes nothing.
use native.Mathlib.Omega.{arith}
use Rattle.layout.proofs.KindLaws.{number_least, number_most}
use Rattle.room.proofs.LeftLaws.{along_start, along_end, along_most, along_next, along_in, heap_fits}
use Rattle.room.proofs.left.listed.Goals as goal

pub returns-then-most-eq0 : goal.returns-then-most-eq0
returns-then-most-eq0 c h P = record { at_most = omega arith; lacks = omega arith }

pub list_head-s-requires : goal.list_head-s-requires
list_head-s-requires c = (heap_fits c.requires).0

pub loop-n-init : goal.loop-n-init
loop-n-init c = let k = c.args.kind in λ h P. along_start _ P (number_least k) (number_most k) c.list_head-s.ensures.0

pub returns-then-s-eq0 : goal.returns-then-s-eq0
returns-then-s-eq0 c h P =
    let k = c.args.kind in along_end _ P (number_least k) (number_most k) (c.loop-n.invariant h P) _ (omega arith) c.if-s-eq0.true

pub read-s-requires : goal.read-s-requires
read-s-requires c =
    let k = c.args.kind in let P = c.requires.heap in
    along_in _ P (number_least k) (number_most k) (c.loop-n.invariant _ P) c.if-s-eq0.false

pub loop-n-preserved : goal.loop-n-preserved
loop-n-preserved c =
    let k = c.args.kind in λ h P. along_next _ P (number_least k) (number_most k) (c.loop-n.invariant h P) c.if-s-eq0.false c.read-s.ensures.0

pub returns : goal.returns
returns c h P =
    let k = c.args.kind in along_most _ P (number_least k) (number_most k) (c.loop-n.invariant h P) _ (omega arith)
