pub mod LayoutLaws
pub mod RunLaws
pub mod ApplyLaws
pub mod DemandLaws
