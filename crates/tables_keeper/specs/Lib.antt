pub mod Cells
pub mod Rows
pub mod TableData
pub mod Tables
pub mod Undo
