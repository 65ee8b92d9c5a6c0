pub mod Calls
pub mod Consumed
pub mod FilesOf
pub mod Taken
