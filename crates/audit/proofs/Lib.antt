pub mod TreeLaws
pub mod OpenLaws
pub mod WalkLaws
pub mod WayLaws
pub mod RootLaws
pub mod RuleLaws
pub mod WholeLaws
