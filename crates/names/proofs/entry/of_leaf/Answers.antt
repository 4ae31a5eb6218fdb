-- The part of the frame that is compared and cut is the Leaf's key. Assumes nothing.
use Prim.Native.Nat.{◌+◌, ◌-◌}
use native.Mathlib.Omega.{arith}
use Rattle.names.specs.Entry.{maybe}
use Rattle.names.proofs.CutLaws.{leaf_none, leaf_some}
use Rattle.names.proofs.entry.of_leaf.Goals as goal

pub returns-then-starts_with : goal.returns-then-starts_with
returns-then-starts_with c = let z = c.args in leaf_some z.f.now z.asked.prefix.now (maybe z.asked.delimiter) c.extent-at.result c.key_length.result (c.extent-at.result + c.key_length.result - c.extent-at.result) z.place
    c.extent-at.ensures.0 c.key_length.ensures.0 (omega arith) c.starts_with.ensures.value c.if-starts_with.true c.ending-c.ensures

pub returns : goal.returns
returns c = let z = c.args in leaf_none z.f.now z.asked.prefix.now (maybe z.asked.delimiter) c.extent-at.result c.key_length.result (c.extent-at.result + c.key_length.result - c.extent-at.result) z.place
    c.extent-at.ensures.0 c.key_length.ensures.0 (omega arith) c.starts_with.ensures.value c.if-starts_with.false
