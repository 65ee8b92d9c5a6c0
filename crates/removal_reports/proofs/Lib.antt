pub mod Clean
pub mod Lines
pub mod Readings
