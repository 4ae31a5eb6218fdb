-- `take` gives a body as the heap says: from its list, else a fresh one. Assumes nothing.
use native.Mathlib.Omega.{arith}
use Rattle.room.proofs.CodeLaws.{fresh_ok, pop_ok, take_fresh, take_pop}
use Rattle.room.proofs.heap.take.Goals as goal

pub fresh-requires : goal.fresh-requires
fresh-requires c = let T = c.requires in let Z = fresh_ok T (omega arith) in (Z.0, Z.1)

pub returns-then-s-eq0 : goal.returns-then-s-eq0
returns-then-s-eq0 c h P R =
    take_fresh _ P c.requires.kind R (omega arith) c.fresh.ensures.0 c.fresh.ensures.1

pub pop-requires : goal.pop-requires
pop-requires c = let T = c.requires in let Z = pop_ok T c.list_head-s.ensures.0 (λ z. omega arith) in (Z.0, Z.1, Z.2)

pub returns : goal.returns
returns c h P R =
    take_pop _ P c.requires.kind c.list_head-s.ensures.0 (λ z. omega arith) c.pop.ensures.0 c.pop.ensures.1
