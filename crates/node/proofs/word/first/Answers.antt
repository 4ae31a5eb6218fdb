-- The lowest mark is that of the first byte. Assumes nothing.
use native.Mathlib.Omega.{arith}
use lib.Count.{trailing_le}
use Rattle.layout.specs.Number.{Bytes}
use Rattle.node.proofs.WordLaws.{marked_first}
use Rattle.node.proofs.word.first.Goals as goal

pub overflow_cast-result : goal.overflow_cast-result
overflow_cast-result c = record { fits = omega (arith, trailing_le 64 c.marks-below.result) }

pub returns : goal.returns
returns c =
    let a = c.args in let bytes : Bytes a.f.now = λ p. (c.shared_slice_known-1.given p).fits in
    rw (c.marks-below.ensures, c.read.ensures) (marked_first 8 a.f.now a.at a.b bytes)
