pub mod TakeLaws
pub mod ToldLaws
pub mod FreedLaws
