pub mod View
pub mod Step
pub mod Fit
pub mod Left
pub mod Link
pub mod Book
