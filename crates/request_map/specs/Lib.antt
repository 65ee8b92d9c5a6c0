pub mod Requests
pub mod Heads
pub mod Found
pub mod Scans
pub mod Checks
pub mod Reading
pub mod Routes
