pub mod Lists
pub mod Keys
pub mod Chains
pub mod Entries
pub mod Sound
pub mod Steps
pub mod Places
