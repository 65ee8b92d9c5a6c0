pub mod Passing
pub mod Leaving
