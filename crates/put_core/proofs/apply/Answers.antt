-- `apply` calls the edit that the spot asks for. Assumes nothing.
use Rattle.put_core.proofs.CoreLaws.{at_found, at_empty, at_other, at_node, at_part}
use Rattle.put_core.proofs.apply.Goals as goal

pub replace-requires : goal.replace-requires
replace-requires c = record { edition = _; holds = at_found c.requires c.in-Found.is }

pub returns-in-Found : goal.returns-in-Found
returns-in-Found c = c.replace.ensures _ (at_found c.requires c.in-Found.is)

pub first_record-requires : goal.first_record-requires
first_record-requires c = record { edition = _; holds = at_empty c.requires c.in-Empty.is }

pub returns-in-Empty : goal.returns-in-Empty
returns-in-Empty c = c.first_record.ensures _ (at_empty c.requires c.in-Empty.is)

pub split_leaf-requires : goal.split_leaf-requires
split_leaf-requires c = at_other c.requires c.in-Other.is

pub returns-in-Other : goal.returns-in-Other
returns-in-Other c = c.split_leaf.ensures

pub add-requires : goal.add-requires
add-requires c = record { edition = _; holds = at_node c.requires c.in-Missing.is }

pub returns-in-Missing : goal.returns-in-Missing
returns-in-Missing c = c.add.ensures _ (at_node c.requires c.in-Missing.is)

pub cut_prefix-requires : goal.cut_prefix-requires
cut_prefix-requires c =
    record { edition = _; holds = at_part c.requires c.in_default.not-Found c.in_default.not-Empty c.in_default.not-Other c.in_default.not-Missing }

pub returns-in_default : goal.returns-in_default
returns-in_default c =
    c.cut_prefix.ensures _ (at_part c.requires c.in_default.not-Found c.in_default.not-Empty c.in_default.not-Other c.in_default.not-Missing)
