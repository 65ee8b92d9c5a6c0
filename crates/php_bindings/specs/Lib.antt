pub mod Alike
pub mod Bounds
