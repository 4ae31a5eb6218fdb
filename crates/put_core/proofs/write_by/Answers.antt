-- `write_by` writes nothing where the way forbids it, and ends as the write does elsewhere. Assumes nothing.
use mathlib.Core.Path.{◌≡◌, refl}
use Rattle.std.proofs.Common.{rules}
use Rattle.answers.specs.Number.{number_of, written_number}
use Rattle.put_core.proofs.CoreLaws.{new_present, replace_absent, fresh_full, fresh_made, there_full, there_made}
use Rattle.put_core.proofs.write_by.Goals as goal

pub returns-in-New : goal.returns-in-New
returns-in-New c =
    rw c.in-New.is (new_present (record { asked = c.requires.0; spells = c.requires.1; spot = c.descend-spot.ensures }) c.in-Found.is)

pub returns-in_err-make-in_default-way : goal.returns-in_err-make-in_default-way
returns-in_err-make-in_default-way c =
    let m = c.in_err-make-in_default-way in
    let e : number_of written_number c.from_residual.result ≡ 6 = search rules in
    rw e (there_full (record { asked = c.requires.0; spells = c.requires.1; spot = c.descend-spot.ensures }) m.ensures.tried c.args.way c.in_default-way.not-New c.in-Found.is refl)

pub returns-in_err-make-in_default-way-2 : goal.returns-in_err-make-in_default-way-2
returns-in_err-make-in_default-way-2 c =
    let m = c.in_err-make-in_default-way-2 in
    let e : number_of written_number c.from_residual-in_err-make-in_default-way-2.result ≡ 6 = search rules in
    rw e (fresh_full (record { asked = c.requires.0; spells = c.requires.1; spot = c.descend-spot.ensures }) m.ensures.tried c.args.way c.in_default-way-2.not-Replacing c.in_default.not-Found refl)

pub returns-in_ok-make-in_default-way : goal.returns-in_ok-make-in_default-way
returns-in_ok-make-in_default-way c =
    there_made (record { asked = c.requires.0; spells = c.requires.1; spot = c.descend-spot.ensures }) c.in_ok-make-in_default-way.ensures.tried c.args.way c.in_default-way.not-New c.in-Found.is refl

pub returns-in-Replacing : goal.returns-in-Replacing
returns-in-Replacing c =
    rw c.in-Replacing.is (replace_absent (record { asked = c.requires.0; spells = c.requires.1; spot = c.descend-spot.ensures }) c.in_default.not-Found)

pub returns-in_ok-make-in_default-way-2 : goal.returns-in_ok-make-in_default-way-2
returns-in_ok-make-in_default-way-2 c =
    fresh_made (record { asked = c.requires.0; spells = c.requires.1; spot = c.descend-spot.ensures }) c.in_ok-make-in_default-way-2.ensures.tried c.args.way c.in_default-way-2.not-Replacing c.in_default.not-Found refl
