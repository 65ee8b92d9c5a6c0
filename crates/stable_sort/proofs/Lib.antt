pub mod Sorted
pub mod Mapped
