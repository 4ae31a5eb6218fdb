-- The loop's invariant: what is told of the slots from here on tells of all. Assumes nothing.
use native.Mathlib.Omega.{arith}
use Rattle.layout.proofs.KindLaws.{number_least, number_most}
use Rattle.census.proofs.ToldLaws.{tally_body, body_slots}
use Rattle.census.proofs.FreedLaws.{chain_end, chain_past, chain_bad, chain_more}
use Rattle.census.proofs.freed.chain.Goals as goal

pub returns-then-bounds-s : goal.returns-then-bounds-s
returns-then-bounds-s c =
    c.loop-s.invariant.2 _ _ (chain_past c.loop-s-test.true c.if-bounds-s.true)

pub returns-in_err-sums : goal.returns-in_err-sums
returns-in_err-sums c =
    rw c.from_residual.ensures (c.loop-s.invariant.2 _ _ (chain_bad c.loop-s-test.true c.read-e.ensures.1 c.in_err-sums.was c.body.ensures))

pub loop-s-smaller : goal.loop-s-smaller
loop-s-smaller c =
    let T = c.body.ensures.holds _ c.in_ok-sums.was in omega (arith, body_slots T, T.tally.slots)

pub loop-s-preserved : goal.loop-s-preserved
loop-s-preserved c =
    let T = c.body.ensures.holds _ c.in_ok-sums.was in (
      omega (arith, c.loop-s.invariant.0, c.body.auto),
      tally_body T.tally,
      λ m r R. c.loop-s.invariant.2 m r (chain_more c.loop-s-test.true c.read-e.ensures.1 T c.if-bounds-s.false (number_least c.args.kind) (number_most c.args.kind) c.read-e.ensures.0 R),
    )

pub returns : goal.returns
returns c =
    c.loop-s.invariant.2 _ _ (chain_end c.loop-s-test.false c.loop-s.invariant.1)
