pub mod Twice
pub mod Texts
pub mod Naming
pub mod Numbering
pub mod Goings
pub mod Linking
