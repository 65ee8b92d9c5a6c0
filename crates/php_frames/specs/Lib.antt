pub mod Course
pub mod Cut
pub mod Events
pub mod Progress
pub mod Run
pub mod RunResult
pub mod Statements
