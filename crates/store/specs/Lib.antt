pub mod Found
pub mod Info
pub mod Write
