pub mod Sizes
pub mod Letters
pub mod Parts
pub mod Pieces
pub mod Escapes
pub mod Formats
pub mod TextCalls
