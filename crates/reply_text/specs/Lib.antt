pub mod Headers
pub mod Fixed
pub mod Replies
pub mod Runs
