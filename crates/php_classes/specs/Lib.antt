pub mod Members
pub mod Ancestors
pub mod LookUp
pub mod Entries
pub mod Declaring
pub mod Tables
pub mod BuiltIn
