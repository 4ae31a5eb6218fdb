-- The run is freed, then a Leaf takes its place. Assumes nothing.
use Rattle.erase_join.proofs.SiteLaws.{drops_of, step_of}
use Rattle.erase_join.proofs.RunLaws.{run_some}
use Rattle.erase_join.proofs.OverLaws.{run_frees, run_links, run_leaf}
use Rattle.erase_join.proofs.lone.leaf_over.Goals as goal

pub free-requires : goal.free-requires
free-requires c =
    let R = c.requires.holds in run_frees R.ready.stands R.run R.up R.only R.free (run_some R.run _ R.only R.top) R.ready.site R.ready.lawful (R.top _)

pub relink-requires : goal.relink-requires
relink-requires c =
    let R = c.requires.holds in run_links R.ready.stands R.run R.up R.only R.free (run_some R.run _ R.only R.top) R.ready.site (R.top _) c.free.ensures c.args.link R.link_is

pub drop_both-requires : goal.drop_both-requires
drop_both-requires c =
    let R = c.requires.holds in drops_of R.ready (λ s w P q. run_leaf w R.run R.up R.only R.free R.top c.free.ensures R.link_is c.relink.ensures R.child R.is P)

pub returns : goal.returns
returns c =
    λ E R. step_of R.ready (λ s w P q. run_leaf w R.run R.up R.only R.free R.top c.free.ensures R.link_is c.relink.ensures R.child R.is P) c.drop_both.ensures (λ i. (c.slice_known-4-1.given i).fits)
