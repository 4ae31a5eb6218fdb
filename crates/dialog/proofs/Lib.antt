pub mod AnswerLaws
pub mod StepLaws
