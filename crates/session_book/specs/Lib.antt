pub mod Codes
pub mod Kept
pub mod Marks
pub mod Sizes
pub mod Ids
pub mod Steps
pub mod Slots
