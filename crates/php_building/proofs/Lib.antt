pub mod Operands
pub mod Joins
pub mod Quotes
