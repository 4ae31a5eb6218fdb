pub mod InnerLaws
pub mod DispatchLaws
pub mod CarryLaws
pub mod PlaceLaws
