-- `apply`: refused as a whole, stopped in the second frame, or carried out in both. Assumes nothing.
use mathlib.Core.List.{[]}
use mathlib.Core.Path.{sym, ◌∙◌}
use native.Mathlib.Omega.{arith}
use Rattle.editions.proofs.RulesLaws.{lawful}
use Rattle.store.proofs.LookLaws.{standing}
use Rattle.batch.proofs.ApplyLaws.{pasted_all, ready, ready_second, through_as, halted_as, whole_refused, change_refused, bad_frame, other_length, no_batch, halted_at, carried}
use Rattle.batch.proofs.apply.Goals as goal

pub returns-in_err-check : goal.returns-in_err-check
returns-in_err-check g c =
    let q = whole_refused c.in_err-check.field-0.0 _ c.from_residual.ensures.1 in
    rw (q.0, q.1, ← c.edition-edition.ensures) (bad_frame _ _ _ _ _ _ c.in_err-check.ensures)

pub returns-then-second-frame : goal.returns-then-second-frame
returns-then-second-frame g c =
    let S = standing _ _ [] (lawful c.edition-edition.result) c.in_ok-check.ensures in
    rw (c.from.ensures.0, c.from.ensures.1, ← c.edition-edition.ensures) (other_length _ _ _ _ _ S c.if-second-frame.true)

pub returns-then-not-well_laid : goal.returns-then-not-well_laid
returns-then-not-well_laid g c =
    let S = standing _ _ [] (lawful c.edition-edition.result) c.in_ok-check.ensures in
    let m = c.from-then-not-well_laid.ensures in
    rw (m.0, m.1, ← c.edition-edition.ensures) (no_batch _ _ _ _ _ S c.if-second-frame.false (sym c.well_laid.ensures ∙ c.if-not-well_laid.true))

pub paste-requires : goal.paste-requires
paste-requires g c = omega arith

pub trial-requires : goal.trial-requires
trial-requires g c =
    let S = standing _ _ [] (lawful c.edition-edition.result) c.in_ok-check.ensures in
    ready_second _ (pasted_all _ _ _ c.paste.ensures c.if-second-frame.false) S (sym c.well_laid.ensures ∙ c.if-not-well_laid.false)

pub returns-in_err-trial : goal.returns-in_err-trial
returns-in_err-trial g c =
    let S = standing _ _ [] (lawful c.edition-edition.result) c.in_ok-check.ensures in
    let q = change_refused c.in_err-trial.field-0.0 _ c.from_residual-in_err-trial.ensures.1 in
    let copied = pasted_all _ _ _ c.paste.ensures c.if-second-frame.false in
    rw (q.0, q.1, ← c.edition-edition.ensures)
    (halted_at _ _ _ _ _ S c.if-second-frame.false (sym c.well_laid.ensures ∙ c.if-not-well_laid.false) _ _ _ (halted_as copied c.in_err-trial.ensures))

pub carry_out-requires : goal.carry_out-requires
carry_out-requires g c =
    let S = standing _ _ [] (lawful c.edition-edition.result) c.in_ok-check.ensures in
    ready S (sym c.well_laid.ensures ∙ c.if-not-well_laid.false)

pub paste-requires-2 : goal.paste-requires-2
paste-requires-2 g c = omega arith

pub returns : goal.returns
returns g c =
    let S = standing _ _ [] (lawful c.edition-edition.result) c.in_ok-check.ensures in
    let out = c.carry_out.ensures in
    let p = pasted_all _ _ _ c.paste.ensures c.if-second-frame.false in
    let q = pasted_all _ _ _ c.paste-2.ensures (omega arith) in
    rw (← c.edition-edition.ensures)
    (carried _ _ _ _ _ S c.if-second-frame.false (sym c.well_laid.ensures ∙ c.if-not-well_laid.false) _ (through_as p c.in_ok-trial.ensures) out.numbers _ out.all _ _ out.tells q)
