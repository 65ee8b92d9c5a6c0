pub mod Ordinals
pub mod Search
pub mod Listed
