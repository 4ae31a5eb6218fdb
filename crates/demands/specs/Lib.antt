pub mod Words
pub mod Demands
pub mod Before
pub mod AnyOrder
pub mod WrongStores
pub mod Slots
pub mod Wiped
