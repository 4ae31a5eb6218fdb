pub mod DemandedLaws
pub mod SequenceLaws
