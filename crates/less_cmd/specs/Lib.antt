pub mod Answers
pub mod Reply
pub mod Status
pub mod Words
