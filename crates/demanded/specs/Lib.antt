pub mod Orders
pub mod Readings
pub mod Sequences
