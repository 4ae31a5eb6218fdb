pub mod LeafLaws
pub mod DoneLaws
pub mod SpotLaws
pub mod RemoveLaws
pub mod ShrinkLaws
pub mod OnlyLaws
