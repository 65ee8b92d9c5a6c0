pub mod Names
pub mod Passings
