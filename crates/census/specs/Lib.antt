pub mod Told
pub mod Freed
