pub mod Split
pub mod Symbols
pub mod Levels
pub mod Rules
pub mod File
