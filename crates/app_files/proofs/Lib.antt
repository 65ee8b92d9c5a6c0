pub mod Sorting
pub mod Sums
pub mod Whole
