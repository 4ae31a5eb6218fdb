-- `retire` writes zero over an extent and adds to X. Assumes nothing.
use native.Mathlib.Omega.{arith}
use Rattle.room.proofs.CodeLaws.{retire_ok, retire_same, retire_law}
use Rattle.room.proofs.heap.retire.Goals as goal

pub clear-requires : goal.clear-requires
clear-requires c = omega (arith, (retire_ok c.requires).0)

pub overflow_add-x : goal.overflow_add-x
overflow_add-x c =
    omega (arith, retire_same c.requires c.clear.ensures, c.dead_bytes-x.ensures)

pub returns : goal.returns
returns c h rest P own =
    retire_law P _ _ rest own c.clear.ensures c.dead_bytes-x.ensures.0 c.set_dead_bytes.ensures
