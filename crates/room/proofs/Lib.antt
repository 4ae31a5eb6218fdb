pub mod HeapLaws
pub mod StepLaws
pub mod CodeLaws
pub mod FitLaws
pub mod BookLaws
pub mod LeftLaws
