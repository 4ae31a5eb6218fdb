pub mod ZeroLaws
pub mod BytesLaws
pub mod PrefixLaws
pub mod LeafLaws
