pub mod Tells
pub mod LookUp
pub mod Info
pub mod List
pub mod Batch
