pub mod Meanings
pub mod Evaluations
pub mod Heights
