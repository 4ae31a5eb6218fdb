pub mod ChangeLaws
pub mod CoreLaws
