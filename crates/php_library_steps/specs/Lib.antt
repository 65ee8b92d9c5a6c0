pub mod Alone
pub mod Taking
