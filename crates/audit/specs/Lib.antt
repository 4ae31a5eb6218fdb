pub mod Walk
pub mod Audit
