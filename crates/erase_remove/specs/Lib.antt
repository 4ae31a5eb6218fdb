pub mod Leaf
pub mod Erase
