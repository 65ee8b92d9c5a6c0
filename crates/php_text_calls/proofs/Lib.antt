pub mod Sizes
pub mod Listings
pub mod Runs
