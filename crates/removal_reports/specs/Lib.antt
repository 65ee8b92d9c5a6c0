pub mod LogLines
pub mod Fields
