-- The Node4 is freed, then the Leaf goes. Assumes nothing.
use Rattle.erase_join.proofs.DropLaws.{kind_four, frees_first, drops_leaf, dropped}
use Rattle.erase_join.proofs.finish.drop_both.Goals as goal

pub release-requires : goal.release-requires
release-requires c = frees_first c.requires.work kind_four

pub drop_leaf-requires : goal.drop_leaf-requires
drop_leaf-requires c =
    let D = c.requires in let a = c.args in drops_leaf D.view D.slot D.lay a.node D.node_at D.path a.leaf a.at D.extent D.key D.value D.work c.release.ensures D.some D.records

pub returns : goal.returns
returns c =
    let a = c.args in record { after = λ E h s t o path e k v W l. dropped h s t a.node o path a.leaf a.at e k v W c.release.ensures c.drop_leaf.ensures }
