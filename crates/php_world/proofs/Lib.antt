pub mod Slots
pub mod Writes
pub mod Items
pub mod Stores
