pub mod Drop
pub mod Erase
pub mod Lone
