pub mod ListingLaws
pub mod WorkedLaws
pub mod SeekLaws
pub mod BoundLaws
pub mod PagesLaws
pub mod PageLaws
pub mod DemandLaws
