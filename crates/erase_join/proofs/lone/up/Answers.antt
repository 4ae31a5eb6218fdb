-- The byte joins the run that is left in front. Assumes nothing.
use Rattle.erase_join.proofs.SiteLaws.{drops_of, step_of}
use Rattle.erase_join.proofs.UpLaws.{up_pushes, run_up}
use Rattle.erase_join.proofs.lone.up.Goals as goal

pub push-requires : goal.push-requires
push-requires c =
    let R = c.requires.holds in up_pushes R.ready.stands R.free c.args.link R.link_is R.child R.is R.ready.site R.ready.room R.ready.lawful

pub drop_both-requires : goal.drop_both-requires
drop_both-requires c =
    let R = c.requires.holds in drops_of R.ready (λ s w P q. run_up w R.free c.args.link R.link_is R.child R.is P q c.push.ensures)

pub returns : goal.returns
returns c =
    λ E R. step_of R.ready (λ s w P q. run_up w R.free c.args.link R.link_is R.child R.is P q c.push.ensures) c.drop_both.ensures (λ i. (c.slice_known-3-1.given i).fits)
