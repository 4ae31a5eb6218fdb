-- The half that is compared tells where the byte stands, or that it stands nowhere. Assumes nothing.
use native.Mathlib.Omega.{arith}
use Rattle.node.proofs.SortedLaws.{half_found, half_none}
use Rattle.node.proofs.sorted.halved.Goals as goal

pub overflow_add-at : goal.overflow_add-at
overflow_add-at c = let w = c.half-from.ensures.within in omega arith

pub first-i-requires : goal.first-i-requires
first-i-requires c = let w = c.half-from.ensures.within in omega arith

pub overflow_add-result : goal.overflow_add-result
overflow_add-result c = let w = c.half-from.ensures.within in omega arith

pub returns-then-i-lt-BYTES : goal.returns-then-i-lt-BYTES
returns-then-i-lt-BYTES c =
    let h = c.half-from.ensures in let w = h.within in
    (omega arith, λ ks R e. half_found ks R e (omega arith) h c.first-i.ensures (omega arith))

pub returns : goal.returns
returns c = (omega arith, λ ks R e. half_none ks R e (omega arith) c.half-from.ensures c.first-i.ensures (omega arith))
