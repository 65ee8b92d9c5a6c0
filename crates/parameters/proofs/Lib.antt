pub mod Writes
pub mod Bracketing
pub mod Pairing
pub mod Cutting
