pub mod Reached
pub mod Variables
