pub mod Names
pub mod Held
pub mod Forms
pub mod Files
pub mod Outcomes
