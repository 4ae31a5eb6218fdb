pub mod NoneLaws
pub mod KidLaws
pub mod RunLaws
pub mod PutLaws
pub mod EraseLaws
