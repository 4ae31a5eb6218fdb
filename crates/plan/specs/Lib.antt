pub mod Run
pub mod Plan
pub mod Erase
