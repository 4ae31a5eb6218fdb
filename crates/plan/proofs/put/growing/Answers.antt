-- `growing` needs the next kind where the node is full. Assumes nothing.
use mathlib.Core.List.{[]}
use native.Mathlib.Omega.{arith}
use Rattle.layout.specs.Kind.{number_of}
use Rattle.plan.proofs.PutLaws.{grow_stays, grow_up}
use Rattle.plan.proofs.put.growing.Goals as goal

pub returns-then-count-most_children : goal.returns-then-count-most_children
returns-then-count-most_children c =
    let t = c.if-count-most_children.true in let m = c.most_children.ensures.value in grow_stays c.args.count (number_of c.args.kind) (omega arith) c.none-none.ensures

pub returns-in-Some : goal.returns-in-Some
returns-in-Some c =
    let t = c.if-count-most_children.false in let m = c.most_children.ensures.value in
    grow_up c.args.count (number_of c.args.kind) _ (omega arith) c.in-Some.ensures (c.with.ensures [] 0 c.none-none.ensures)

pub returns-in-None : goal.returns-in-None
returns-in-None c =
    let t = c.if-count-most_children.false in let m = c.most_children.ensures.value in
    let up = c.requires (omega arith) in absurd (omega (arith, c.in-None.ensures))
