-- `extend` writes key and value at B and moves B by the rounded size. Assumes nothing.
use Rattle.room.proofs.CodeLaws.{extend_law}
use Rattle.room.proofs.heap.extend.Goals as goal

pub returns : goal.returns
returns c h P R =
    extend_law P _ _ _ R c.next_byte-place.ensures.0 c.paste.ensures c.paste-2.ensures c.rounded-size.ensures c.set_next_byte.ensures
