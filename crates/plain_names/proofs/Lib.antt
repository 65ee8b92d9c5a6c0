pub mod Values
pub mod Fronts
pub mod Tokens
pub mod Lexemes
