-- By where the start key stands to the prefix. Assumes nothing.
use mathlib.Core.Path.{refl, sym, ◌∙◌}
use native.Mathlib.Omega.{arith}
use lib.ListN.{length-take}
use Rattle.names.specs.Entry.{maybe}
use Rattle.names.proofs.EditionLaws.{naming}
use Rattle.names.proofs.PageLaws.{first_free, first_begins, first_above, first_below, start_short, cut_tail}
use Rattle.names.proofs.page.first.Goals as goal

pub returns-in_default : goal.returns-in_default
returns-in_default c = let a = c.args in rw c.in_default.is (first_free (naming a.edition) a.asked.prefix.now (maybe a.asked.delimiter) c.from_bound.ensures)

pub from_bound-requires-then-starts_with : goal.from_bound-requires-then-starts_with
from_bound-requires-then-starts_with c =
    let l = start_short (naming c.args.edition) c.in-Some.start.now (rw c.in-Some.is at c.requires.1) in
    (c.requires.0, cut_tail c.ending-c.ensures, omega (arith, c.ending-c.ensures.high, length-take c.ending-c.result.long c.in-Some.start.now), c.requires.3, c.requires.4)

pub returns-then-starts_with : goal.returns-then-starts_with
returns-then-starts_with c =
    let a = c.args in
    rw c.in-Some.is (first_begins (naming a.edition) a.asked.prefix.now (maybe a.asked.delimiter) c.in-Some.start.now c.requires.0 (sym c.starts_with.ensures.value ∙ c.if-starts_with.true) c.ending-c.ensures c.from_bound-then-starts_with.ensures refl)

pub weigh_bytes-requires : goal.weigh_bytes-requires
weigh_bytes-requires c =
    let l = start_short (naming c.args.edition) c.in-Some.start.now (rw c.in-Some.is at c.requires.1) in
    (omega arith, omega arith, omega arith, omega arith)

pub returns-then-is_gt : goal.returns-then-is_gt
returns-then-is_gt c =
    let a = c.args in
    rw c.in-Some.is (first_above (naming a.edition) a.asked.prefix.now (maybe a.asked.delimiter) c.in-Some.start.now c.requires.0 (sym c.starts_with.ensures.value ∙ c.if-starts_with.false) _ c.weigh_bytes.ensures (sym c.is_gt.ensures ∙ c.if-is_gt.true))

pub returns : goal.returns
returns c =
    let a = c.args in
    rw c.in-Some.is (first_below (naming a.edition) a.asked.prefix.now (maybe a.asked.delimiter) c.in-Some.start.now c.requires.0 (sym c.starts_with.ensures.value ∙ c.if-starts_with.false) _ c.weigh_bytes.ensures (sym c.is_gt.ensures ∙ c.if-is_gt.false) c.from_bound-2.ensures)
