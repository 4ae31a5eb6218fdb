pub mod FormatLaws
pub mod LookLaws
pub mod EraseCallLaws
pub mod PutCallLaws
pub mod InfoLaws
