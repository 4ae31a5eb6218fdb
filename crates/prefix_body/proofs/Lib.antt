pub mod PrefixLaws
pub mod FrontLaws
pub mod CutLaws
