-- `release` writes zero over a body and puts it on its list. Assumes nothing.
use native.Mathlib.Omega.{arith}
use Rattle.room.proofs.CodeLaws.{release_ok, release_law}
use borrow.Author.Rules.{rules}
use Rattle.room.proofs.heap.release.Goals as goal

pub read-e-requires : goal.read-e-requires
read-e-requires c = let Z = release_ok c.requires in (Z.0, Z.1)

pub clear-requires : goal.clear-requires
clear-requires c =
    let Z = release_ok c.requires in
    omega (arith, Z.3, c.body_size.ensures.value, c.read-e.ensures)

pub write-requires : goal.write-requires
write-requires c =
    let Z = release_ok c.requires in
    (Z.0, omega (arith, Z.1, c.clear.ensures.rest.size), omega (arith, Z.2), search rules)

pub returns : goal.returns
returns c h o rest P own eo =
    release_law _ P c.requires.kind _ o rest own eo c.list_head-next.ensures.0 c.read-e.ensures.1 c.body_size.ensures.value c.clear.ensures c.write.ensures c.set_list_head.ensures
