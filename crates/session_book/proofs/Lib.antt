pub mod Seeking
pub mod Lists
pub mod Making
pub mod Writing
pub mod Sizes
pub mod Digits
