pub mod Answers
pub mod Steps
pub mod Places
pub mod Stepping
pub mod Variables
pub mod Naming
pub mod View
pub mod Slots
