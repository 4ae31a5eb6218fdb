pub mod EditionLaws
pub mod SoughtLaws
pub mod CutLaws
pub mod WriteLaws
pub mod EntryLaws
pub mod PageLaws
pub mod ListLaws
