pub mod Runs
pub mod Enters
