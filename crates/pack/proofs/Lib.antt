pub mod LaidLaws
pub mod NodeLaws
pub mod BodiesLaws
pub mod WalkLaws
pub mod RunLaws
pub mod ImageLaws
pub mod PackLaws
