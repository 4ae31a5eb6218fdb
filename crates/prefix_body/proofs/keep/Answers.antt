-- `keep` clears what goes, and sets length and child. Assumes nothing.
use Rattle.prefix_body.proofs.CutLaws.{front_kept}
use Rattle.prefix_body.proofs.keep.Goals as goal

pub returns : goal.returns
returns c =
    front_kept c.args.o c.args.q c.length-n.result c.args.child c.requires c.length-n.ensures.0 c.clear.ensures c.set_length.ensures c.set_child.ensures
