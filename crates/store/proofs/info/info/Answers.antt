-- Each way out is one of info's ends. Assumes nothing.
use mathlib.Core.List.{[]}
use Rattle.editions.proofs.RulesLaws.{lawful}
use Rattle.store.proofs.LookLaws.{standing}
use Rattle.store.proofs.InfoLaws.{info_told}
use Rattle.store.proofs.info.info.Goals as goal

pub counts-requires : goal.counts-requires
counts-requires g c = record { edition = _; holds = standing _ _ [] (lawful _) c.in_ok-check.ensures }

pub returns : goal.returns
returns g c = rw (← c.edition-edition.ensures) (info_told _ _ c.in_ok-check.ensures (c.counts.ensures _))
