-- `old_byte` looks at the part of the frame that is the Leaf's key. Assumes nothing.
use Prim.Native.Nat.{◌+◌, ◌-◌}
use native.Mathlib.Omega.{arith}
use Rattle.editions.specs.Rules.{rules_of}
use Rattle.put_split.proofs.PartLaws.{byte_of}
use Rattle.put_split.proofs.parts.old_byte.Goals as goal

pub returns : goal.returns
returns g c =
    rw c.edition-edition.ensures at (byte_of {m = c.extent-from.result + c.key_length.result - c.extent-from.result} c.extent-from.ensures.0 (omega (arith, c.key_length.ensures.0)) (rules_of c.edition-edition.result) c.args.d c.byte_at.ensures)
