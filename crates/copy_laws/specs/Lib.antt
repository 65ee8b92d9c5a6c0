pub mod Restored
pub mod Exact
pub mod Originals
