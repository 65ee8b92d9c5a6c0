pub mod Stack
pub mod Fronts
pub mod Reading
pub mod File
