pub mod Meanings
pub mod Begun
pub mod Lists
pub mod Rows
