pub mod Named
pub mod Functions
pub mod Entered
