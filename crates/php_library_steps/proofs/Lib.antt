pub mod Taken
pub mod Worth
pub mod Done
pub mod Truths
pub mod Defined
pub mod Asked
pub mod Handed
