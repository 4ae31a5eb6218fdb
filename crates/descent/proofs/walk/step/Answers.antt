-- `step` makes one step by the kind in the entry. Assumes nothing.
use mathlib.Core.Path.{sym, ap, ◌∙◌}
use Rattle.layout.specs.Kind.{number_of}
use Rattle.editions.proofs.RulesLaws.{lawful}
use Rattle.descent.proofs.SeatLaws.{going_entry, going_kind, leaf_here, prefix_here, node_here, not_leaf, not_prefix}
use Rattle.descent.proofs.walk.step.Goals as goal

pub read-e-requires : goal.read-e-requires
read-e-requires c = going_entry _ c.requires.0.going

pub kind-requires-clause-low : goal.kind-requires-clause-low
kind-requires-clause-low c = (going_kind _ c.requires.0.going c.read-e.ensures.0).0

pub kind-requires-clause-high : goal.kind-requires-clause-high
kind-requires-clause-high c = (going_kind _ c.requires.0.going c.read-e.ensures.0).1

pub at_leaf-requires : goal.at_leaf-requires
at_leaf-requires c =
    let e = c.read-e in let z = c.requires in leaf_here _ z.0.going (lawful _) z.1.legal z.0.count e.result.place (ap number_of (sym c.in-Leaf.is) ∙ c.kind.ensures ∙ e.ensures.0) e.ensures.1

pub at_prefix-requires : goal.at_prefix-requires
at_prefix-requires c =
    let e = c.read-e in let z = c.requires in record { edition = _; key = _; holds = prefix_here _ z.0.going (lawful _) z.1 z.0.count e.result.place (ap number_of (sym c.in-Prefix.is) ∙ c.kind.ensures ∙ e.ensures.0) e.ensures.1 }

pub returns-in-Prefix : goal.returns-in-Prefix
returns-in-Prefix c =
    let e = c.read-e in let z = c.requires in c.at_prefix.ensures _ _ (prefix_here _ z.0.going (lawful _) z.1 z.0.count e.result.place (ap number_of (sym c.in-Prefix.is) ∙ c.kind.ensures ∙ e.ensures.0) e.ensures.1)

pub at_node-requires : goal.at_node-requires
at_node-requires c =
    let e = c.read-e in let z = c.requires in record { edition = _; key = _; holds = node_here _ z.0.going (lawful _) z.1 z.0.count _ e.result.place (c.kind.ensures ∙ e.ensures.0) e.ensures.1 (not_leaf _ c.in_default.not-Leaf) (not_prefix _ c.in_default.not-Prefix) }

pub returns-in_default : goal.returns-in_default
returns-in_default c =
    let e = c.read-e in let z = c.requires in c.at_node.ensures _ _ (node_here _ z.0.going (lawful _) z.1 z.0.count _ e.result.place (c.kind.ensures ∙ e.ensures.0) e.ensures.1 (not_leaf _ c.in_default.not-Leaf) (not_prefix _ c.in_default.not-Prefix))
