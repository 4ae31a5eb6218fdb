-- A Leaf takes the place of the Node4. Assumes nothing.
use Rattle.erase_join.proofs.SiteLaws.{site_open, drops_of, step_of}
use Rattle.chain.proofs.PushLaws.{link_ok}
use Rattle.erase_join.proofs.UpLaws.{leaf_up}
use Rattle.erase_join.proofs.lone.leaf_up.Goals as goal

pub relink-requires : goal.relink-requires
relink-requires c =
    let R = c.requires.holds in link_ok c.args.link (site_open R.ready.stands R.ready.site) R.link_is

pub drop_both-requires : goal.drop_both-requires
drop_both-requires c =
    let R = c.requires.holds in drops_of R.ready (λ s w P q. leaf_up w R.free c.args.link R.link_is R.child R.is P c.relink.ensures)

pub returns : goal.returns
returns c =
    λ E R. step_of R.ready (λ s w P q. leaf_up w R.free c.args.link R.link_is R.child R.is P c.relink.ensures) c.drop_both.ensures (λ i. (c.slice_known-3-1.given i).fits)
