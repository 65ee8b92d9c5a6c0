pub mod Entered
pub mod Ended
pub mod Kept
pub mod Openings
