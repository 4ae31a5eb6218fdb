-- The Prefix above takes the byte, and is filled up from the run that is left. Assumes nothing.
use Rattle.erase_join.proofs.SiteLaws.{drops_of, step_of}
use Rattle.erase_join.proofs.OverLaws.{over_spare, over_fills, run_over}
use Rattle.erase_join.proofs.lone.over.Goals as goal

pub back-requires : goal.back-requires
back-requires c =
    let R = c.requires.holds in let C = R.capped in
    over_spare C.ready.stands c.args.above C.bytes C.up C.child C.is C.ready.site R.room

pub fill-requires : goal.fill-requires
fill-requires c =
    let R = c.requires.holds in let C = R.capped in
    over_fills C.ready.stands c.args.above C.bytes C.up C.child C.is C.ready.site R.room c.back.ensures C.ready.lawful

pub drop_both-requires : goal.drop_both-requires
drop_both-requires c =
    let R = c.requires.holds in let C = R.capped in
    drops_of C.ready (λ s w P q. run_over w c.args.above C.bytes C.up C.child C.is P R.room c.back.ensures c.fill.ensures)

pub returns : goal.returns
returns c =
    λ E R. let C = R.capped in step_of C.ready (λ s w P q. run_over w c.args.above C.bytes C.up C.child C.is P R.room c.back.ensures c.fill.ensures) c.drop_both.ensures (λ i. (c.slice_known-4-1.given i).fits)
