-- `tail` zeroes the body, then writes child, length and the bytes of the other one. Assumes nothing.
use Prim.Native.Nat.{◌-◌}
use mathlib.Core.Path.{ap}
use Rattle.prefix_body.proofs.CutLaws.{tail_moved}
use Rattle.prefix_body.proofs.tail.Goals as goal

pub returns : goal.returns
returns c =
    let q = c.args.q in tail_moved c.args.o c.args.from q (c.length.result - q) c.child-child.result c.requires (ap (λ n. n - q) c.length.ensures.0) c.child-child.ensures.0 c.child-child.ensures.1 c.clear.ensures c.set_child.ensures c.set_length.ensures c.slide.ensures
