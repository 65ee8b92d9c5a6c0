pub mod Causes
pub mod Decimals
pub mod Forms
pub mod Lines
pub mod Paths
