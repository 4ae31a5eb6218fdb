pub mod Listing
pub mod Pages
pub mod Worked
pub mod Seek
pub mod Bound
pub mod Demand
