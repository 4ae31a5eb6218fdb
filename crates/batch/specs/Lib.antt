pub mod Layout
pub mod Layouts
pub mod Stopped
pub mod Batch
pub mod Demand
pub mod Run
