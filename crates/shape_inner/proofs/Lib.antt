pub mod KidsLaws
pub mod SortedLaws
pub mod IndexedLaws
pub mod InnerLaws
