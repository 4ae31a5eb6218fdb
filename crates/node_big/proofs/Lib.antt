pub mod Pigeons
pub mod Laws48
pub mod Laws256
