-- What is sought is the Leaf whose key gives the entry. Assumes nothing.
use Rattle.names.specs.Entry.{maybe}
use Rattle.names.proofs.EditionLaws.{naming}
use Rattle.names.proofs.SoughtLaws.{guided}
use Rattle.names.proofs.EntryLaws.{entry_gone, sought_leaf, entry_there}
use Rattle.names.proofs.entry.from_bound.Goals as goal

pub returns-in_err-place : goal.returns-in_err-place
returns-in_err-place c =
    let a = c.args in let G = guided a.f.now a.text.now a.tail a.root c.requires.0 c.spelt-n.ensures c.chosen-bound.ensures in
    rw c.from_residual.ensures (entry_gone (naming a.edition) a.text.now a.tail c.requires.0 a.asked.prefix.now (maybe a.asked.delimiter) (c.in_err-place.ensures _ G))

pub of_leaf-requires : goal.of_leaf-requires
of_leaf-requires c =
    let a = c.args in let G = guided a.f.now a.text.now a.tail a.root c.requires.0 c.spelt-n.ensures c.chosen-bound.ensures in
    record { edition = _; holds = sought_leaf (naming a.edition) a.text.now a.tail c.requires.0 (c.in_ok-place.ensures _ G) }

pub returns : goal.returns
returns c =
    let a = c.args in let G = guided a.f.now a.text.now a.tail a.root c.requires.0 c.spelt-n.ensures c.chosen-bound.ensures in
    entry_there (naming a.edition) a.text.now a.tail c.requires.0 (c.in_ok-place.ensures _ G) a.asked.prefix.now (maybe a.asked.delimiter) c.of_leaf.ensures
