pub mod Collected
pub mod Look
pub mod Tables
pub mod Files
pub mod Removed
pub mod Whole
