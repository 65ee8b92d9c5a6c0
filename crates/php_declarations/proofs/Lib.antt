pub mod Keys
pub mod Files
pub mod Hoists
pub mod Values
pub mod Fitting
pub mod Places
