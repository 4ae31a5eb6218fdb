-- What is asked for is what the caller says. Assumes nothing.
use mathlib.Core.Path.{◌≡◌}
use Rattle.listing.specs.Listing.{start_of, delimiter_of}
use Rattle.names.specs.Entry.{maybe, started}
use Rattle.names.proofs.ListLaws.{start_is, delimiter_is}
use Rattle.names.proofs.list.Goals as goal

pub returns-in-First : goal.returns-in-First
returns-in-First g c =
    let q : started c.then_some.result ≡ start_of c.args.given c.args.start.now = rw c.then_some.ensures (start_is c.args.given c.args.start) in
    let d : maybe c.ok.result ≡ delimiter_of c.args.delimiter = rw c.ok.ensures.value (delimiter_is c.args.delimiter _ c.try_from.ensures) in
    rw (← q, ← d, ← c.edition-edition.ensures) c.list_by.ensures

pub returns-in-Second : goal.returns-in-Second
returns-in-Second g c =
    let q : started c.then_some.result ≡ start_of c.args.given c.args.start.now = rw c.then_some.ensures (start_is c.args.given c.args.start) in
    let d : maybe c.ok.result ≡ delimiter_of c.args.delimiter = rw c.ok.ensures.value (delimiter_is c.args.delimiter _ c.try_from.ensures) in
    rw (← q, ← d, ← c.edition-edition.ensures) c.list_by-in-Second.ensures
